use Rattle.std.proofs.Common.{ap, sym, ◌∙◌, arith}
use Rattle.xa_record.specs.declared.line_event.NumberedEvent.{NumberedEvent}
use Rattle.xa_record.proofs.Texts.{number_at-within, number_at-past}
use Rattle.xa_record.proofs.lines_again.number_of.Goals as goal

pub returns-then-place-numbered : goal.returns-then-place-numbered
returns-then-place-numbered c =
    ap (λ (n : NumberedEvent). n.number) (sym c.index-numbered-place.is)
    ∙ number_at-within c.args.numbered.now c.args.place c.index-numbered-place.result
    (omega arith) c.index-numbered-place.is

pub returns-else-place-numbered : goal.returns-else-place-numbered
returns-else-place-numbered c = number_at-past c.args.numbered.now c.args.place (omega arith)
