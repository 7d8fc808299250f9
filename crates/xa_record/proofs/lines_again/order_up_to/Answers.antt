use Rattle.std.proofs.{Common.{◌≡◌, IfOk, List, sym, subst}, lemmas.List.take-map}
use Rattle.xa_record.specs.{Kept.numbered_kept, Reading.NumberedEvent, VerdictText.{order_text, no_calls}}
use Rattle.xa_record.proofs.Reasons.{place_within, events_before}
use Rattle.xa_record.proofs.lines_again.order_up_to.Goals as goal

pub slice_bounds-order_lines-end : goal.slice_bounds-order_lines-end
slice_bounds-order_lines-end c =
    place_within c.args.numbered.now c.args.events.now c.args.place c.requires.are c.requires.within

pub order_lines-requires : goal.order_lines-requires
order_lines-requires c = events_before c.args.numbered.now c.args.events.now c.args.place c.requires.are

pub returns : goal.returns
returns c =
    subst (λ (l : List NumberedEvent). IfOk c.order_lines.result
    (λ text. text.items ≡ order_text no_calls l c.args.moves.now))
    (sym (take-map numbered_kept c.args.place c.args.numbered.now)) c.order_lines.ensures
