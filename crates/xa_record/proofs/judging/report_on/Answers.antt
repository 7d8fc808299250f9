use Rattle.std.proofs.Common.{◌≡◌, ◌==◌, false, [], IfOk, List, length, ap, sym, ◌∙◌, subst, arith}
use Rattle.std.proofs.lemmas.Grind.{common_steps}
use Rattle.xa_judge.specs.declared.event.Event.{Event}
use Rattle.xa_lines.specs.Script.{lines_of}
use Rattle.xa_record.specs.{Events.{AreEvents, AreCalls}, Judged.{IsJudgement, IsReportedOf}}
use Rattle.xa_record.specs.{Kept.report_kept, Reading.{Notes, notes_by}}
use Rattle.xa_record.proofs.{BareTexts.notes-bare, Reported.{reported, no_fault}}
use Rattle.xa_record.proofs.judging.report_on.Goals as goal

pub returns : goal.returns
returns g c =
    let notes = c.in_ok-notes.notes in
    let same = c.in_ok-notes.ensures in
    let none : notes.faults.items ≡ [] = no_fault notes.faults.items (grind (arith, common_steps)) in
    let some : (length notes.numbered.items == 0) ≡ false = grind (arith, common_steps) in
    let lines = lines_of c.args.text.now in
    subst (λ (n : Notes). IfOk c.verdict_on.result
    (λ report. IsReportedOf c.args.base.now c.args.allowances.now lines n c.args.asked (report_kept report))) same
    (reported c.verdict_on.result c.args.base.now c.args.allowances.now lines notes.faults.items notes.numbered.items
    c.args.asked none some
    (subst (λ (n : Notes). IfOk c.verdict_on.result
    (λ report. IsJudgement c.args.base.now c.args.allowances.now lines n.told c.args.asked (report_kept report)))
    (sym same) c.verdict_on.ensures))

pub verdict_on-requires-clause-are : goal.verdict_on-requires-clause-are
verdict_on-requires-clause-are g c =
    subst (λ (l : List Event). AreEvents c.args.allowances.now
    (notes_by c.args.asked.strict_calls c.args.text.now).told l) (sym c.as_slice.ensures.value)
    (subst (λ (n : Notes). AreEvents c.args.allowances.now n.told c.in_ok-events.events.items) c.in_ok-notes.ensures
    c.in_ok-events.ensures.are)

pub verdict_on-requires-clause-calls : goal.verdict_on-requires-clause-calls
verdict_on-requires-clause-calls g c =
    subst (λ (l : List Event). AreCalls (notes_by c.args.asked.strict_calls c.args.text.now).told l)
    (sym c.as_slice.ensures.value)
    (subst (λ (n : Notes). AreCalls n.told c.in_ok-events.events.items) c.in_ok-notes.ensures
    c.in_ok-events.ensures.calls)

pub verdict_on-requires-clause-bare : goal.verdict_on-requires-clause-bare
verdict_on-requires-clause-bare g c =
    let notes = c.in_ok-notes.notes in
    let none : notes.faults.items ≡ [] = no_fault notes.faults.items (grind (arith, common_steps)) in
    notes-bare c.args.asked.strict_calls c.args.text.now
    (ap (λ (n : Notes). n.faults) (sym c.in_ok-notes.ensures) ∙ none)
