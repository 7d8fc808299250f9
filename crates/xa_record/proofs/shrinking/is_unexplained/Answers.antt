use Rattle.std.proofs.{Common.{◌≡◌, [], List, map, ap, sym, ◌∙◌, subst, arith}, lemmas.Grind.common_steps}
use Rattle.xa_judge.specs.declared.event.Event.{Event}
use Rattle.xa_record.specs.{Events.AreEvents, Kept.numbered_kept, Reading.{NumberedEvent, Notes, notes_by}}
use Rattle.xa_record.proofs.{Reported.no_fault, Unexplained.text-unexplained}
use Rattle.xa_record.proofs.shrinking.is_unexplained.Goals as goal

pub returns : goal.returns
returns c =
    let notes = c.in_ok-notes.notes in
    let same = c.in_ok-notes.ensures in
    let told = (notes_by c.args.asked.strict_calls c.args.text.now).told in
    let none : notes.faults.items ≡ [] = no_fault notes.faults.items (grind (arith, common_steps)) in
    let read : map numbered_kept c.as_slice.result.now ≡ told =
    ap (map numbered_kept) c.as_slice.ensures.value ∙ ap (λ (n : Notes). n.told) same in
    let are : AreEvents c.args.allowances.now told c.as_slice-2.result.now =
    subst (λ (l : List Event). AreEvents c.args.allowances.now told l) (sym c.as_slice-2.ensures.value)
    (subst (λ (l : List NumberedEvent). AreEvents c.args.allowances.now l c.in_ok-events.events.items) read
    c.in_ok-events.ensures.are) in
    text-unexplained c.is_refuted_at_last.result c.args.base.now c.args.allowances.now c.args.asked c.args.text.now
    c.as_slice-2.result.now (ap (λ (n : Notes). n.faults) (sym same) ∙ none) are c.is_refuted_at_last.ensures
