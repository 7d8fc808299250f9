use Rattle.std.{proofs.Common.{ap, ◌∙◌, arith}, specs.Prelude.slice_set}
use Rattle.xa_coordinator.proofs.DecisionsOf.{closed_next, closed_all}
use Rattle.xa_coordinator.proofs.decisions.close_each.Goals as goal

pub loop-decision-preserved : goal.loop-decision-preserved
loop-decision-preserved c =
    ap (slice_set c.loop-decision.by_number c.loop-decision.decision-index) c.closed.ensures
    ∙ closed_next c.args.by_number.now c.loop-decision.by_number c.loop-decision.decision-index _
    c.loop-decision.invariant
    (omega (arith, c.loop-decision.auto.by_number, c.loop-decision-test.true))

pub returns : goal.returns
returns c = closed_all c.args.by_number.now c.loop-decision.by_number c.loop-decision.decision-index
    c.loop-decision.invariant c.loop-decision-test.false
