use Rattle.std.proofs.Common.{take}
use Rattle.xa_orders.specs.Ends.{text_from, AreOutcomes}
use Rattle.xa_orders.proofs.outcomes.outcomes_of.Given as goal

abbrev pub invariant-loop-way : goal.invariant-loop-way
invariant-loop-way l = AreOutcomes (text_from l.first l.later) (take l.way-index l.ways) l.outcomes.items
