use Rattle.std.proofs.Common.{◌++◌, ap, sym, ◌∙◌}
use Rattle.xa_record.specs.{declared.line_event.LineEvent.LineEvent, Kept.{told_kept, text_told}, VerdictText.call_text}
use Rattle.xa_record.proofs.CallTexts.{append-call_text-none}
use Rattle.xa_record.proofs.order.push_called.Goals as goal

pub returns-in-Return : goal.returns-in-Return
returns-in-Return c =
    let out = c.args.out.now.items in
    append-call_text-none out ∙ ap (λ (e : LineEvent). out ++ call_text (text_told (told_kept e))) (sym c.in-Return.is)

pub returns-in-Lost : goal.returns-in-Lost
returns-in-Lost c =
    let out = c.args.out.now.items in
    append-call_text-none out ∙ ap (λ (e : LineEvent). out ++ call_text (text_told (told_kept e))) (sym c.in-Lost.is)

pub returns-in-Unknown : goal.returns-in-Unknown
returns-in-Unknown c =
    let out = c.args.out.now.items in
    append-call_text-none out ∙ ap (λ (e : LineEvent). out ++ call_text (text_told (told_kept e))) (sym c.in-Unknown.is)
