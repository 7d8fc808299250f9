use Rattle.std.proofs.Common.{◌≡◌, ◌++◌, map, take, drop}
use Rattle.xa_coordinator.specs.Decisions.{closed_of}
use Rattle.xa_coordinator.proofs.decisions.close_each.Given as goal

abbrev pub invariant-loop-decision : goal.invariant-loop-decision
invariant-loop-decision l =
    l.by_number ≡ map closed_of (take l.decision-index l.fn.by_number) ++ drop l.decision-index l.fn.by_number
