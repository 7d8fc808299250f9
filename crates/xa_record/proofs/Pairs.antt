-- The calls that the lines of a record say.
use Rattle.std.proofs.Common.{◌≡◌, ℕ, zero, suc, ◌<◌, Some, List, [], ◌∷◌, map, length, get_or, slice_get, refl, ap}
use Rattle.std.proofs.{Common.{sym, ◌∙◌, subst}, lemmas.{List.length-map, Option.slice_get_read}}
use Rattle.xa_judge.specs.declared.event.Event.{Event}
use Rattle.xa_record.specs.{declared.line_event.NumberedEvent.NumberedEvent as NumberedRead, Reading.NumberedEvent}
use Rattle.xa_record.specs.{Events.{IsCallOf, AreCalls}, Kept.{told_kept, numbered_kept}}
use Rattle.xa_record.proofs.Places.{slice_get-kept}

-- there are as many events as things that the lines say
AreCalls-length : (numbered : List NumberedEvent) (events : List Event) → AreCalls numbered events
    → length numbered ≡ length events
AreCalls-length [] [] are = refl
AreCalls-length [] (event ∷ events) are = absurd are
AreCalls-length (one ∷ numbered) [] are = absurd are
AreCalls-length (one ∷ numbered) (event ∷ events) are = ap suc (AreCalls-length numbered events are.1)

-- at each place the event is the call that the line there says, if it says a call
AreCalls-at : (numbered : List NumberedEvent) (events : List Event) (place : ℕ) (one : NumberedEvent) (event : Event)
    → AreCalls numbered events
    → slice_get numbered place ≡ Some one → slice_get events place ≡ Some event → IsCallOf one.told event
AreCalls-at [] events place one event are at is = absurd (cc)
AreCalls-at (first ∷ numbered) [] place one event are at is = absurd are
AreCalls-at (first ∷ numbered) (next ∷ events) zero one event are at is =
    let same : first ≡ one = cc in
    let alike : next ≡ event = cc in
    subst (λ (n : NumberedEvent). IsCallOf n.told event) same (subst (λ (e : Event). IsCallOf first.told e) alike are.0)
AreCalls-at (first ∷ numbered) (next ∷ events) (suc place) one event are at is =
    AreCalls-at numbered events place one event are.1 at is

-- there are as many events as things in the program's list of what the lines say
pub calls-length : (numbered : List NumberedRead) (events : List Event) → AreCalls (map numbered_kept numbered) events
    → length numbered ≡ length events
calls-length numbered events are =
    sym (length-map numbered numbered_kept) ∙ AreCalls-length (map numbered_kept numbered) events are

-- the event at the place of a call in the program's list is that call
pub IsCallOf-at : (numbered : List NumberedRead) (events : List Event) (place : ℕ) (one : NumberedRead) (event : Event)
    → AreCalls (map numbered_kept numbered) events
    → place < length numbered → one ≡ get_or numbered place one → place < length events
    → event ≡ get_or events place event
    → IsCallOf (told_kept one.line_event) event
IsCallOf-at numbered events place one event are within at inside is =
    AreCalls-at (map numbered_kept numbered) events place (numbered_kept one) event are
    (slice_get-kept numbered place one within at)
    (slice_get_read events (length events) place event refl inside is)
