-- Lists of what is kept where later returns are known.
--     left_past, seen_from, goes_called   past an event
--     unheard_alike, answer_kept          an open call that nobody hears;  a client of which nothing is known
--     hints_set, unknown_at               what is known of open calls, by their places
use Rattle.std.proofs.Common.{◌≡◌, ℕ, false, Option, Some, None, List, [], ◌∷◌, set, map, zero, suc, refl, ap, arith}
use Rattle.std.{proofs.{Common.inl, lemmas.Option.slice_get-map}, specs.Prelude.slice_get}
use Rattle.xa_judge.specs.declared.{client_state.ClientState.ClientState, event.Event.Event, moves.Move.Move}
use Rattle.xa_judge.specs.{declared.open_call.OpenCall.OpenCall, Explained.{Config, LeadsThrough, observed}}
use Rattle.xa_judge.specs.{Late.has_unheard, Foreseen.{Hint, fact_of, hint_of, IsAlikeAt, AreAlike, IsDead, IsFollowed}}
use Rattle.xa_judge.specs.{Foreseen.{IsLeft, GoesOn, HasSeenFor, FitsHints, hint_in, hints_of}, Keys.session_of}
use Rattle.xa_judge.proofs.{Waits.{later, CanWait}, ForeseenEvents.{alike_sees, dead_acts, dead_sees}}

-- an order that can't go on past a return (`IsDead`) still can't after an event that fits what is known (`IsLeft`)
pub left_past : (hints : List Hint) (hint : Hint) (event : Event) (run end : Config) (more : List Event)
    (moves : List Move) → IsDead hints run → FitsHints hints event → LeadsThrough run (event ∷ more) moves end
    → IsLeft (set hints (session_of event) hint) more end
left_past hints hint event run end more (Move.Effect session act ∷ moves) dead fits runs =
    left_past hints hint event runs.0 end more moves (dead_acts hints run runs.0 session act dead runs.2) fits runs.3
left_past hints hint event run end more (Move.Event ∷ moves) dead fits runs = record {
  run = runs.0;
  dead = dead_sees hints hint run runs.0 event dead fits runs.1;
  moves = moves;
  runs = runs.2;
}
left_past hints hint event run end more [] dead fits runs = absurd runs

-- where an order sees the event, so does what is kept in its place, and the order is followed from what that leads to
pub seen_from : (hints : List Hint) (hint : Hint) (event : Event) (old new : Config → Type 0)
    (kept run next end : Config) (more : List Event) (moves : List Move) → old kept → AreAlike hints run kept
    → FitsHints hints event
    → HasSeenFor (set hints (session_of event) hint) event old new
    → observed run event ≡ Some next → LeadsThrough next more moves end
    → IsFollowed (set hints (session_of event) hint) new more end
seen_from hints hint event old new kept run next end more moves there alike fits seen sees runs =
    let both = alike_sees hints hint run kept next event alike fits sees in
    let other = seen kept both.0 there both.1 in
    record {
      kept = other.0;
      there = other.1;
      run = next;
      alike = other.2 next both.2;
      moves = moves;
      runs = runs;
    }

-- if in what is kept the session's client isn't gone with an open call, it isn't so in the order's configuration
-- either
pub unheard_alike : (hint : Hint) (run kept : Config) (session : ℕ)
    → IsAlikeAt hint run.state session (slice_get run.clients session) (slice_get kept.clients session)
    → has_unheard kept session ≡ false → has_unheard run session ≡ false
unheard_alike hint run kept session also is = grind (arith)

-- where acts can wait until the event (`CanWait`), an order of which something is kept in the old list goes on past
-- that event from the new one, which has what the event leads to. The old list needn't be closed
pub goes_called : (hints : List Hint) (hint : Hint) (event : Event) (old new : Config → Type 0)
    (kept run end : Config) (more : List Event) (moves : List Move) → old kept
    → AreAlike hints run kept → FitsHints hints event
    → HasSeenFor (set hints (session_of event) hint) event old new
    → CanWait run event
    → LeadsThrough run (event ∷ more) moves end
    → GoesOn (set hints (session_of event) hint) new more end
goes_called hints hint event old new kept run end more moves there alike fits seen waits runs =
    let first = later run end event more moves waits runs in
    inl (seen_from hints hint event old new kept run first.first end more first.moves there alike fits seen
    first.sees
    first.runs)

-- if nothing is known of how a session's call ends, its client in what is kept is that of the order's configuration
pub answer_kept : (hints : List Hint) (run kept : Config) (session : ℕ) (c : Option ClientState)
    → AreAlike hints run kept → hint_of hints session ≡ None → (fact_of hints session).never ≡ false
    → slice_get run.clients session ≡ c → slice_get kept.clients session ≡ c
answer_kept hints run kept session c alike is heard at = grind (arith)

-- ---- places of returns

-- a list that is written at a place and mapped is the mapped list, written there
set_mapped : {A B : Type 0} (f : A → B) (xs : List A) (i : ℕ) (a : A) → map f (set xs i a) ≡ set (map f xs) i (f a)
set_mapped f [] i a = refl
set_mapped f (x ∷ xs) zero a = refl
set_mapped f (x ∷ xs) (suc i) a = ap (λ l. f x ∷ l) (set_mapped f xs i a)

-- to write a session's places is to write what is known of its call
pub hints_set : (events : List Event) (places : List OpenCall) (session : ℕ) (place : OpenCall)
    → hints_of events (set places session place) ≡ set (hints_of events places) session (hint_in events place)
hints_set events places session place = set_mapped (hint_in events) places session place

-- no return is known of the call of a session that has no place, or one at which no call returns
pub unknown_at : (events : List Event) (places : List OpenCall) (session : ℕ)
    → ((o : OpenCall) → slice_get places session ≡ Some o → (hint_in events o).seen ≡ None)
    → hint_of (hints_of events places) session ≡ None
unknown_at events places session is = grind (arith, slice_get-map)
