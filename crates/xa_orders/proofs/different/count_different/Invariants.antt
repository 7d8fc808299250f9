use Rattle.std.proofs.Common.{◌≤◌}
use Rattle.xa_orders.proofs.Differing.{Chosen}
use Rattle.xa_orders.proofs.different.count_different.Given as goal

-- as many different ways as were counted, before the place
abbrev pub invariant-loop-way : goal.invariant-loop-way
invariant-loop-way l = record { most : l.count ≤ l.way-index; chosen : Chosen l.known l.keys l.marks l.count }
