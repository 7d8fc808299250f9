use Rattle.std.proofs.Common.{◌≡◌, ◌++◌}
use Rattle.xa_server.specs.Held.{held_recently}
use Rattle.xa_server.proofs.hold.held_in.Given as goal

-- those so far and those in what is left are those in all
abbrev pub invariant-loop-key : goal.invariant-loop-key
invariant-loop-key l = l.rows.items ++ held_recently l.xid l.key-iterator ≡ held_recently l.xid l.recent.entries
