use Rattle.xa_orders.{specs.Ends.text_from, proofs.Ends.{outcome_step, outcomes_none}}
use Rattle.xa_orders.proofs.outcomes.outcomes_of.Goals as goal

pub loop-way-preserved : goal.loop-way-preserved
loop-way-preserved c =
    outcome_step (text_from c.args.first.now c.args.later.now) c.args.ways.now c.loop-way.outcomes.items
    c.add_outcome.new.outcomes.items c.loop-way.way-index
    c.way-item.result c.in_ok-text.text.items c.loop-way-test.true c.way-item.is c.requires c.in_ok-text.ensures
    c.in_ok-add_outcome.ensures c.loop-way.invariant

pub loop-way-init : goal.loop-way-init
loop-way-init c = outcomes_none (text_from c.args.first.now c.args.later.now) c.new-outcomes.result.items
    c.new-outcomes.ensures.items
