use Rattle.std.{proofs.Common.{◌≡◌, ◌≢◌, ◌∙◌, List, ℕ, refl, inl, inr, subst}, specs.List.All}
use Rattle.xa_orders.specs.{declared.outcome.Outcome.Outcome, Orders.Any}
use Rattle.xa_orders.proofs.outcomes.add_outcome.Goals as goal

pub returns-then-is_listed : goal.returns-then-is_listed
returns-then-is_listed c =
    let Found : List ℕ → List Outcome → Type 0 = λ text list. Any (λ one. one.text.items ≡ text) list in
    inl (
      subst (λ text. Found text c.args.outcomes.now.items) c.as_slice-2.ensures.value
          (subst (Found c.as_slice-2.result.now) c.as_slice.ensures.value
          (c.is_listed.ensures.listed c.if-is_listed.true)),
      refl,
    )

pub returns : goal.returns
returns c =
    let next : Outcome = record { order = c.in_ok-order.order; text = c.args.text } in
    let Other : List ℕ → List Outcome → Type 0 = λ text list. All (λ one. one.text.items ≢ text) list in
    inr (
      next,
      c.in_ok-order.ensures.items ∙ c.as_slice-3.ensures.value,
      refl,
      subst (λ text. Other text c.args.outcomes.now.items) c.as_slice-2.ensures.value
          (subst (Other c.as_slice-2.result.now) c.as_slice.ensures.value
          (c.is_listed.ensures.other c.if-is_listed.false)),
      c.in_ok-push.ensures.items,
    )
