use Rattle.xa_coordinator.proofs.Overtaking.{Walked}
use Rattle.xa_coordinator.proofs.decisions.overtaken.Given as goal

abbrev pub invariant-loop-place : goal.invariant-loop-place
invariant-loop-place l = Walked l.fn.list l.place l.undecided
