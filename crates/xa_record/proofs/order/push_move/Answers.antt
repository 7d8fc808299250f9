use Rattle.std.proofs.Common.{◌∷◌, ◌++◌, map, drop, ap, sym, ◌∙◌, arith}
use Rattle.xa_judge.specs.declared.moves.Move.{Move}
use Rattle.xa_record.specs.declared.line_event.NumberedEvent.{NumberedEvent}
use Rattle.xa_record.specs.{Kept.{told_kept, numbered_kept, calls_kept, with_place}, VerdictText.order_text}
use Rattle.xa_record.proofs.Effects.{moved_effect, moved_over_at, moved_event_at}
use Rattle.xa_record.proofs.order.push_move.Goals as goal

pub returns-in_ok-push_effect-in-Effect : goal.returns-in_ok-push_effect-in-Effect
returns-in_ok-push_effect-in-Effect c = λ moves.
    let out = c.args.out.now.items in
    let all = map numbered_kept c.args.numbered.now in
    let calls = calls_kept all c.args.calls.now in
    let left = drop c.args.place all in
    ap (λ (s : Move). out ++ order_text calls left (s ∷ moves)) c.in-Effect.is
    ∙ moved_effect out c.push_effect.new.out.items calls left c.in-Effect.session c.in-Effect.act moves
    c.in_ok-push_effect-in-Effect.ensures

pub returns-then-place-numbered : goal.returns-then-place-numbered
returns-then-place-numbered c = λ moves.
    let out = c.args.out.now.items in
    let all = map numbered_kept c.args.numbered.now in
    let old = c.args.calls.now in
    let left = drop c.args.place all in
    ap (λ (s : Move). out ++ order_text (calls_kept all old) left (s ∷ moves)) c.in-Event.is
    ∙ moved_event_at out old c.follow.new.self c.args.numbered.now c.args.place c.index-numbered-place.result moves
    (omega arith) c.index-numbered-place.is
    (c.follow.ensures ∙ ap (λ (n : NumberedEvent). with_place c.args.place (told_kept n.line_event) old.places)
    (sym c.index-numbered-place.is))

pub returns-else-place-numbered : goal.returns-else-place-numbered
returns-else-place-numbered c = λ moves.
    let out = c.args.out.now.items in
    let all = map numbered_kept c.args.numbered.now in
    let calls = calls_kept all c.args.calls.now in
    let left = drop c.args.place all in
    ap (λ (s : Move). out ++ order_text calls left (s ∷ moves)) c.in-Event.is
    ∙ moved_over_at out calls c.args.numbered.now c.args.place moves (omega arith)
