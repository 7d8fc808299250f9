use Rattle.std.proofs.Common.{◌≡◌, ℕ, ◌<◌, Option, List, ◌++◌, length, map, OnOk, ap, sym, ◌∙◌, subst, arith}
use Rattle.xa_record.specs.{declared.line_event.NumberedEvent.NumberedEvent, Events.IsCallOf}
use Rattle.xa_record.specs.{Kept.{told_kept, text_told, text_at, numbered_kept}, VerdictText.call_text}
use Rattle.xa_record.proofs.{CallTexts.append-call_text-none, Pairs.{calls-length, IsCallOf-at}}
use Rattle.xa_record.proofs.Places.{text_at-kept, text_at-kept_past}
use Rattle.xa_record.proofs.order.push_called_at.Goals as goal

pub bounds-numbered-place : goal.bounds-numbered-place
bounds-numbered-place c = omega (arith, calls-length c.args.numbered.now c.args.events.now c.requires)

pub push_called-requires : goal.push_called-requires
push_called-requires c =
    let numbered = c.args.numbered.now in
    let events = c.args.events.now in
    let within : c.in-Some.place < length numbered = omega (arith, calls-length numbered events c.requires) in
    let P : NumberedEvent → Type 0 = λ n. IsCallOf (told_kept n.line_event) c.index-events-place.result in
    subst P c.index-numbered-place.is
    (IsCallOf-at numbered events c.in-Some.place c.index-numbered-place.result c.index-events-place.result c.requires
    within c.index-numbered-place.is c.if-place-events.true c.index-events-place.is)

pub returns-in-None : goal.returns-in-None
returns-in-None c =
    let out = c.args.out.now.items in
    let all = map numbered_kept c.args.numbered.now in
    append-call_text-none out ∙ ap (λ (p : Option ℕ). out ++ call_text (text_at all p)) (sym c.in-None.is)

pub returns-then-place-events : goal.returns-then-place-events
returns-then-place-events c =
    let numbered = c.args.numbered.now in
    let within : c.in-Some.place < length numbered = omega
    (arith, calls-length numbered c.args.events.now c.requires) in
    let P : List ℕ → Type 0 = λ t. OnOk c.push_called.result
    (c.push_called.new.out.items ≡ c.args.out.now.items ++ call_text t) in
    subst P
    (ap (λ (n : NumberedEvent). text_told (told_kept n.line_event)) (sym c.index-numbered-place.is)
    ∙ text_at-kept numbered c.in-Some.place c.index-numbered-place.result within c.index-numbered-place.is
    ∙ ap (text_at (map numbered_kept numbered)) (sym c.in-Some.is))
    c.push_called.ensures

pub returns-else-place-events : goal.returns-else-place-events
returns-else-place-events c =
    let out = c.args.out.now.items in
    let numbered = c.args.numbered.now in
    append-call_text-none out
    ∙ ap (λ (t : List ℕ). out ++ call_text t)
    (text_at-kept_past numbered c.in-Some.place (omega (arith, calls-length numbered c.args.events.now c.requires))
    ∙ ap (text_at (map numbered_kept numbered)) (sym c.in-Some.is))
