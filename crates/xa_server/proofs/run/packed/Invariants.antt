use Rattle.std.proofs.Common.{◌≡◌, take}
use Rattle.xa_server.proofs.run.packed.Given as goal

-- the rows so far
abbrev pub invariant-loop-key : goal.invariant-loop-key
invariant-loop-key l = l.rows ≡ take l.key-index l.key-items
