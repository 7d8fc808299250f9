use Rattle.std.proofs.Common.{◌+◌, ◌++◌, ◌∙◌, List, ℕ, refl, sym, ap, append-nil}
use Rattle.xa_orders.{specs.Scripts.outcomes_text, proofs.Scripts.{outcomes_step, outcomes_end}}
use Rattle.xa_orders.proofs.explored_text.push_outcomes.Goals as goal

pub loop-place-preserved : goal.loop-place-preserved
loop-place-preserved c =
    outcomes_step c.args.outcomes.now c.loop-place.place (c.loop-place.place + 1) c.index-outcomes-place.result
    (c.args.text.now.items ++ outcomes_text 1 c.args.outcomes.now) c.loop-place.text.items c.push_outcome.new.text.items
    c.loop-place-test.true
    c.index-outcomes-place.is refl c.in_ok-push_outcome.ensures c.loop-place.invariant

pub returns : goal.returns
returns c =
    sym
    (c.loop-place.invariant
    ∙ ap (λ (t : List ℕ). c.loop-place.text.items ++ t) (outcomes_end c.args.outcomes.now c.loop-place.place
    (c.loop-place.place + 1) c.loop-place-test.false)
    ∙ append-nil c.loop-place.text.items)
