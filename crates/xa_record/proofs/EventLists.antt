-- The events that the lines of a record say, one by one.
use Rattle.std.proofs.Common.{◌≡◌, ℕ, ◌+◌, ◌<◌, ◌≤◌, Option, List, [], ◌∷◌, ◌++◌, map, length, take, get_or, refl, ap}
use Rattle.std.proofs.{Common.{sym, ◌∙◌, subst}, lemmas.List.{take_more, take_all}}
use Rattle.xa_judge.specs.declared.event.Event.{Event}
use Rattle.xa_record.specs.declared.{allowance.Allowance.Allowance, statement_kind.StatementKind.StatementKind}
use Rattle.xa_record.specs.declared.line_event.NumberedEvent.{NumberedEvent as NumberedRead}
use Rattle.xa_record.specs.{Lines.{Told, Calls, Returns, ReturnsUnknown, Leaves}, Reading.NumberedEvent}
use Rattle.xa_record.specs.{Allowances.{no_kinds, kinds_after}, Kept.{told_kept, numbered_kept}}
use Rattle.xa_record.specs.Events.{IsEvent, AreEvents, AreEventsAfter, IsCallOf, AreCalls}

-- the kinds of statements that sessions called for last, once these events are seen; `kinds` are those before
unfoldable pub kinds_through : List Event → List (Option StatementKind) → List (Option StatementKind)
kinds_through [] kinds = kinds
kinds_through (event ∷ events) kinds = kinds_through events (kinds_after event kinds)

-- the last kinds after one event more are those before it, changed by that event
pub kinds_through-more : (events : List Event) (event : Event) (kinds : List (Option StatementKind))
    → kinds_through (events ++ event ∷ []) kinds ≡ kinds_after event (kinds_through events kinds)
unfolding kinds_through
kinds_through-more [] event kinds = refl
kinds_through-more (first ∷ events) event kinds = kinds_through-more events event (kinds_after first kinds)

-- before the loop over lines: an empty list of events is right for an empty list of lines
pub AreEvents-none : (allowances : List Allowance) (numbered : List NumberedRead) (events : List Event) → events ≡ []
    → AreEvents allowances (map numbered_kept (take 0 numbered)) events
unfolding AreEventsAfter
AreEvents-none allowances [] events none = subst (λ (l : List Event). AreEvents allowances [] l) (sym none) tt
AreEvents-none allowances (one ∷ numbered) events none =
    subst (λ (l : List Event). AreEvents allowances [] l) (sym none) tt

-- before the loop over lines: if no session has called, the last kinds are those after an empty list of events
pub kinds_through-none : (events : List Event) (kinds : List (Option StatementKind)) → events ≡ [] → kinds ≡ no_kinds
    → kinds ≡ kinds_through events no_kinds
unfolding kinds_through
kinds_through-none events kinds none is = is ∙ sym (ap (λ (l : List Event). kinds_through l no_kinds) none)

-- if events are right for lines, and an event for one line more, by the kinds that sessions called for last before it,
-- the events with that one are right for the lines with that one
pub AreEventsAfter-more : (allowances : List Allowance) (kinds : List (Option StatementKind))
    (numbered : List NumberedEvent) (events : List Event) (one : NumberedEvent)
    (event : Event) → AreEventsAfter allowances kinds numbered events
    → IsEvent allowances (kinds_through events kinds) one.told event
    → AreEventsAfter allowances kinds (numbered ++ one ∷ []) (events ++ event ∷ [])
unfolding AreEventsAfter kinds_through
AreEventsAfter-more allowances kinds [] [] one event are is = (is, tt)
AreEventsAfter-more allowances kinds [] (first ∷ events) one event are is = absurd are
AreEventsAfter-more allowances kinds (first ∷ numbered) [] one event are is = absurd are
AreEventsAfter-more allowances kinds (first ∷ numbered) (next ∷ events) one event are is =
    (are.0, AreEventsAfter-more allowances (kinds_after next kinds) numbered events one event are.1 is)

-- an event that is right for what is told is that call, if a call is told
pub IsCallOf-event : (allowances : List Allowance) (kinds : List (Option StatementKind)) (told : Told) (event : Event)
    → IsEvent allowances kinds told event → IsCallOf told event
IsCallOf-event allowances kinds (Calls session text) event is = is
IsCallOf-event allowances kinds (Returns session shown) event is = tt
IsCallOf-event allowances kinds (ReturnsUnknown session) event is = tt
IsCallOf-event allowances kinds (Leaves session) event is = tt

-- events that are right for lines, whatever was called for last before, are those calls where the lines say calls
pub AreCalls-events : (allowances : List Allowance) (kinds : List (Option StatementKind))
    (numbered : List NumberedEvent) (events : List Event)
    → AreEventsAfter allowances kinds numbered events → AreCalls numbered events
unfolding AreEventsAfter
AreCalls-events allowances kinds [] [] are = tt
AreCalls-events allowances kinds [] (event ∷ events) are = absurd are
AreCalls-events allowances kinds (one ∷ numbered) [] are = absurd are
AreCalls-events allowances kinds (one ∷ numbered) (event ∷ events) are = (
  IsCallOf-event allowances kinds one.told event are.0,
  AreCalls-events allowances
      (kinds_after event kinds) numbered events are.1,
)

-- the loop over lines ends: events that are right for all lines are those calls where the lines say calls
pub AreCalls-whole : (allowances : List Allowance) (numbered : List NumberedRead) (events : List Event) (index : ℕ)
    → length numbered ≤ index
    → AreEvents allowances (map numbered_kept (take index numbered)) events
    → AreCalls (map numbered_kept numbered) events
AreCalls-whole allowances numbered events index past are =
    AreCalls-events allowances no_kinds (map numbered_kept numbered) events
    (subst (λ (l : List NumberedRead). AreEvents allowances (map numbered_kept l) events)
    (take_all index numbered past) are)

-- the numbered events as definitions see them, with one more, have that one at the end
pub map-push : (list : List NumberedRead) (one : NumberedRead)
    → map numbered_kept (list ++ one ∷ []) ≡ map numbered_kept list ++ numbered_kept one ∷ []
map-push [] one = refl
map-push (first ∷ list) one = ap (λ l. numbered_kept first ∷ l) (map-push list one)

-- the loop over lines: if an event is right for the next line, the events with that one are right for the lines up to
-- it
pub AreEvents-next : (allowances : List Allowance) (numbered : List NumberedRead) (events longer : List Event)
    (index : ℕ) (one : NumberedRead) (event : Event)
    (kinds : List (Option StatementKind)) → index < length numbered → one ≡ get_or numbered index one
    → AreEvents allowances (map numbered_kept (take index numbered)) events → kinds ≡ kinds_through events no_kinds
    → IsEvent allowances kinds (told_kept one.line_event) event → longer ≡ events ++ event ∷ []
    → AreEvents allowances (map numbered_kept (take (index + 1) numbered)) longer
AreEvents-next allowances numbered events longer index one event kinds within at are asked is parts =
    let upto : map numbered_kept (take (index + 1) numbered) ≡ map numbered_kept (take index numbered)
    ++ numbered_kept one ∷ [] =
    ap (map numbered_kept) (take_more numbered index one within ∙ ap (λ x. take index numbered ++ x ∷ []) (sym at))
    ∙ map-push (take index numbered) one in
    let P : List NumberedEvent → Type 0 = λ l. AreEvents allowances l longer in
    let Q : List Event → Type 0 = λ l. AreEvents allowances
    (map numbered_kept (take index numbered) ++ numbered_kept one ∷ []) l in
    let R : List (Option StatementKind) → Type 0 = λ k. IsEvent allowances k (told_kept one.line_event) event in
    subst P (sym upto) (subst Q (sym parts) (AreEventsAfter-more allowances no_kinds
    (map numbered_kept (take index numbered)) events (numbered_kept one) event are (subst R asked is)))

-- the kinds that sessions called for last, changed by one event more, are those that they called for last once it is
-- seen
pub kinds_through-next : (events longer : List Event) (event : Event) (kinds next : List (Option StatementKind))
    → kinds ≡ kinds_through events no_kinds
    → next ≡ kinds_after event kinds → longer ≡ events ++ event ∷ [] → next ≡ kinds_through longer no_kinds
kinds_through-next events longer event kinds next asked after parts =
    after ∙ ap (kinds_after event) asked ∙ sym (kinds_through-more events event no_kinds)
    ∙ ap (λ (l : List Event). kinds_through l no_kinds) (sym parts)
