use Rattle.std.proofs.Common.{◌≡◌, take}
use Rattle.xa_server.specs.Overview.{keys_of as keys_of_rows}
use Rattle.xa_server.proofs.overview.keys_of.Given as goal

-- the keys of the rows so far
abbrev pub invariant-loop-row : goal.invariant-loop-row
invariant-loop-row l = l.keys.items ≡ keys_of_rows (take l.row-index l.rows)
