use Rattle.std.{proofs.{Common.{◌≡◌, ◌≢◌, sym, ◌∙◌, subst}, lemmas.List.take_all}, specs.List.All}
use Rattle.xa_orders.{specs.declared.outcome.Outcome.Outcome, proofs.Lists.any_read}
use Rattle.xa_orders.proofs.outcomes.is_listed.Goals as goal

pub returns-then-is_same_text-clause-listed : goal.returns-then-is_same_text-clause-listed
returns-then-is_same_text-clause-listed c = λ found.
    any_read (λ (one : Outcome). one.text.items ≡ c.args.text.now) c.args.outcomes.now c.loop-one.one-index
    c.one-item.result c.loop-one-test.true c.one-item.is
    (sym c.as_slice.ensures.value ∙ c.is_same_text.ensures.same c.if-is_same_text.true)

pub returns-clause-other : goal.returns-clause-other
returns-clause-other c = λ none.
    subst (All (λ (one : Outcome). one.text.items ≢ c.args.text.now))
    (take_all c.loop-one.one-index c.args.outcomes.now c.loop-one-test.false)
    c.loop-one.invariant
