use Rattle.std.proofs.Common.{◌∙◌, ℕ, Vec, Global, ap, inl, inr}
use Rattle.xa_manager.proofs.Printing.{numbers_grown_if}
use Rattle.xa_manager.proofs.print.push_numbers.Goals.{then-stands+in_ok-push_numbered, else-stands}
use Rattle.xa_manager.proofs.print.push_numbers.Goals as goal

pub loop-place-preserved : goal.loop-place-preserved
loop-place-preserved c =
    numbers_grown_if c.args.wanted c.args.decisions.now c.loop-place.place _ c.stands.result c.args.text.now.items
    c.loop-place.text.items
    c.if-stands.text.items
    c.loop-place-test.true c.stands.ensures c.loop-place.invariant
    (elim c.if-stands.branch [
      | then-stands+in_ok-push_numbered w ↦ inl
          (w.if-stands.true, ap (λ (text : Vec ℕ Global). text.items) w.text-is ∙ w.in_ok-push_numbered.ensures)
      | else-stands w ↦ inr (w.if-stands.false, ap (λ (text : Vec ℕ Global). text.items) w.text-is)
    ])
