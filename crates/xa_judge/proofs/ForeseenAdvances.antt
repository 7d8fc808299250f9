-- One event more, where later returns are known.
--     advance_open, needs_none     past a call or a loss before which no act is needed;  which calls these are
--     answers_end, all_after       each answer that a session can have after all events is kept
--     goes_first, goes_last        before all events;  after all events
use Rattle.std.proofs.Common.{◌≡◌, ℕ, false, Option, Some, None, List, [], ◌∷◌, ◌++◌, ◌+◌, set, length, take, refl, ap}
use Rattle.std.proofs.{Common.{subst, sym, ◌∙◌, inl, inr, arith, append-nil}, lemmas.Bool.false≢true}
use Rattle.std.proofs.lemmas.{Option.{none-some, slice_get-map}, List.{take_all, length-set}}
use Rattle.std.specs.{Prelude.{slice_get, IfSome}, List.Contains, Option.{unwrap_or, option_map}}
use Rattle.xa_server.specs.{State.State, Locks.LockLaw}
use Rattle.xa_judge.specs.declared.{answer.Answer.Answer, client_state.ClientState.TheVariants.Answered}
use Rattle.xa_judge.specs.declared.{moves.Move.Move, configuration.Configuration.Configuration, event.Event.Event}
use Rattle.xa_judge.specs.{declared.{frontier.Frontier.Frontier, open_call.OpenCall.OpenCall}, Persistent.AreClosedFor}
use Rattle.xa_judge.specs.{Explained.{Config, opening_config, LeadsThrough}, Late.has_unheard, Verdicts.IsAnswerAfter}
use Rattle.xa_judge.specs.{Found.{config_of, Has, IsOpening, IsShortened, IsAnsweredIn}, Advances.IsCallOf}
use Rattle.xa_judge.specs.Foreseen.{Hint, no_hint, fact_of, hint_of, hints_of, hint_in, FitsHints, GoesOn, HasSeenFor}
use Rattle.xa_judge.specs.Foreseen.{ExtendsBy, IsAlikeAt, IsDead, seen_by, never_by, IsAdvanceFor, NeedsNone, AreAlike}
use Rattle.xa_judge.{specs.Keys.session_of, proofs.Places.{place_mapped, same_number, get_written, get_apart}}
use Rattle.xa_judge.proofs.{ForeseenSteps.alike_first, Waits.CanWait, ForeseenReturns.{goes_closed, ends_answered}}
use Rattle.xa_judge.proofs.ForeseenLists.{goes_called, left_past, unheard_alike, hints_set}
use Rattle.xa_judge.proofs.ForeseenGrowth.{still_has, closed_all}

-- past an event from a list that acts have closed for its session (`AreClosedFor`): orders go on from the new list,
-- which has what the event leads to from the closed one (`HasSeenFor`), where they did from the old list
-- (`IsAdvanceFor`)
pub advance_closed : (events : List Event) (places later : List OpenCall) (place : OpenCall) (event : Event)
    (old closed new : List Configuration) → later ≡ set places (session_of event) place
    → FitsHints (hints_of events places) event
    → ExtendsBy old closed
    → AreClosedFor (hints_of events places) (session_of event) (length closed) closed
    → HasSeenFor (hints_of events later) event (Has closed) (Has new)
    → IsAdvanceFor (hints_of events places) (hints_of events later) event old new
advance_closed events places later place event old closed new is fits grows are seen = λ more end goes.
    let hints = hints_of events places in
    let e = subst (λ p. hints_of events p ≡ set hints (session_of event) (hint_in events place)) (sym is)
    (hints_set events places (session_of event) place) in
    subst (λ h. GoesOn h (Has new) more end) (sym e) (elim goes [
      | inl from ↦ goes_closed (length from.moves + 1) hints (hint_in events place) event (Has closed) (Has new)
          from.kept from.run end more from.moves (omega arith) (closed_all hints (session_of event) closed are)
          (still_has old closed from.kept grows from.there) from.alike fits
          (subst (λ h. HasSeenFor h event (Has closed) (Has new)) e seen) from.runs
      | inr gone ↦ inr (left_past hints (hint_in events place) event gone.run end more gone.moves gone.dead fits
          gone.runs)
    ])

-- past an event before which no act is needed (`NeedsNone`), as a call or a loss: orders go on from the new list,
-- which has what the event leads to from the old one, where they did from the old one (`IsAdvanceFor`)
pub advance_open : (events : List Event) (places later : List OpenCall) (place : OpenCall) (event : Event)
    (old new : List Configuration) → later ≡ set places (session_of event) place
    → FitsHints (hints_of events places) event
    → NeedsNone old event
    → HasSeenFor (hints_of events later) event (Has old) (Has new)
    → IsAdvanceFor (hints_of events places) (hints_of events later) event old new
advance_open events places later place event old new is fits needs seen = λ more end goes.
    let hints = hints_of events places in
    let e = subst (λ p. hints_of events p ≡ set hints (session_of event) (hint_in events place)) (sym is)
    (hints_set events places (session_of event) place) in
    subst (λ h. GoesOn h (Has new) more end) (sym e) (elim goes [
      | inl from ↦ goes_called hints (hint_in events place) event (Has old) (Has new) from.kept from.run end more
          from.moves from.there from.alike fits
          (subst (λ h. HasSeenFor h event (Has old) (Has new)) e seen)
          (waits event needs from.kept from.there from.run
          (λ session heard. unheard_alike (fact_of hints session) from.run from.kept session
          (from.alike.clients session) heard)) from.runs
      | inr gone ↦ inr (left_past hints (hint_in events place) event gone.run end more gone.moves gone.dead fits
          gone.runs)
    ])
  where
    waits : (one : Event) → NeedsNone old one → (kept : Config) → Has old kept → (run : Config)
        → ((session : ℕ) → has_unheard kept session ≡ false → has_unheard run session ≡ false) → CanWait run one
    waits (Event.Call session request) none kept there run heard = heard session (none kept there)
    waits (Event.Return session shown) none kept there run heard = absurd none
    waits (Event.Lost session) none kept there run heard = tt
    waits (Event.Unknown session) none kept there run heard = absurd none

-- before a call no act is needed (`NeedsNone`), if no kept client of its session is gone with an open call
pub needs_none : (known : List Configuration) (session : ℕ) (event : Event) → IsCallOf session event
    → ((one : Config) → Has known one → has_unheard one session ≡ false) → NeedsNone known event
needs_none known session (Event.Call other request) call none = λ one has.
    subst (λ n. has_unheard one n ≡ false) (sym call) (none one has)
needs_none known session (Event.Return other seen) call none = absurd call
needs_none known session (Event.Lost other) call none = absurd call
needs_none known session (Event.Unknown other) call none = absurd call

-- in a closed list each answer that a session can have at the end is kept, if no return is known of any open call,
-- and the session's own isn't noted as one that isn't heard of any more
pub answers_end : (hints : List Hint) (known closed : List Configuration) (session : ℕ)
    → ExtendsBy known closed → AreClosedFor hints session (length closed) closed
    → ((other : ℕ) → hint_of hints other ≡ None) → (fact_of hints session).never ≡ false
    → (end : Config) (answer : Answer) → GoesOn hints (Has known) [] end
    → slice_get end.clients session ≡ Some (Answered answer) → IsAnsweredIn closed session answer
answers_end hints known closed session grows are none heard end answer (inl from) at =
    let last = ends_answered (length from.moves + 1) hints (Has closed) from.kept from.run end session answer from.moves
    (omega arith) none heard (closed_all hints session closed are)
    (still_has known closed from.kept grows from.there) from.alike from.runs at in
    record { one = last.0; has = last.1; stands = last.2 }
answers_end hints known closed session grows are none heard end answer (inr left) at =
    absurd (none-some left.dead.seen (sym (none left.dead.session) ∙ left.dead.hinted))

-- if all orders through the events go on from the list that is kept, and a closed list is found that has each answer
-- with which orders from there end, it has each answer that the session can have after the events
pub all_after : (base : State) (events : List Event) (session : ℕ) (hints : List Hint) (known : List Configuration)
    (found : Option Frontier)
    → ((moves : List Move) (end : Config) → LeadsThrough (opening_config base) events moves end
    → GoesOn hints (Has known) [] end)
    → IfSome found (λ closed. (end : Config) (answer : Answer) → GoesOn hints (Has known) [] end
    → slice_get end.clients session ≡ Some (Answered answer) → IsAnsweredIn closed.known.items session answer)
    → IfSome found (λ front. (answer : Answer) → IsAnswerAfter base events session answer
    → IsAnsweredIn front.known.items session answer)
all_after base events session hints known None goes all = tt
all_after base events session hints known (Some front) goes all = λ answer after.
    all after.config answer (goes after.reached.moves after.config after.reached.runs) after.answered

-- if nothing was known of how a session's call ends, what is kept of a configuration is still kept of it once that is
-- noted: what the call returns, or that it isn't heard of any more
alike_never : (hints : List Hint) (number : ℕ) (hint : Hint) (run kept : Config) → AreAlike hints run kept
    → (fact_of hints number).seen ≡ None → (fact_of hints number).never ≡ false
    → AreAlike (set hints number hint) run kept
alike_never hints number hint run kept alike unseen heard = record {
  state = alike.state;
  law = alike.law;
  clients = λ session. elim (same_number number session) [
    | inl is ↦ at_it session is (subst (λ n. IsAlikeAt (fact_of hints n) run.state session
        (slice_get run.clients session) (slice_get kept.clients session)) (sym is) (alike.clients session))
    | inr apart ↦ subst (λ (h : Option Hint). IsAlikeAt (unwrap_or h no_hint) run.state session
        (slice_get run.clients session) (slice_get kept.clients session))
        (sym (get_apart hints number session hint apart)) (alike.clients session)
  ];
}
  where
    at_it : (session : ℕ) → number ≡ session
        → IsAlikeAt (fact_of hints number) run.state session (slice_get run.clients session)
        (slice_get kept.clients session)
        → IsAlikeAt (fact_of (set hints number hint) session) run.state session (slice_get run.clients session)
        (slice_get kept.clients session)
    at_it session is (inl same) = inl same
    at_it session is (inr (inl ahead)) = absurd (none-some ahead.seen (sym unseen ∙ ahead.hinted))
    at_it session is (inr (inr behind)) = absurd (false≢true (sym heard ∙ behind.never))

-- an order that can't go on past a return still can't once something is noted of a call of which no return was known
dead_never : (hints : List Hint) (number : ℕ) (hint : Hint) (run : Config) → (fact_of hints number).seen ≡ None
    → IsDead hints run → IsDead (set hints number hint) run
dead_never hints number hint run unseen dead = record {
  session = dead.session;
  seen = dead.seen;
  hinted = elim (same_number number dead.session) [
    | inl is ↦ absurd (none-some dead.seen (sym unseen ∙ ap (hint_of hints) is ∙ dead.hinted))
    | inr apart ↦ ap (λ (h : Option Hint). (unwrap_or h no_hint).seen)
        (get_apart hints number dead.session hint apart) ∙ dead.hinted
  ];
  answer = dead.answer;
  at = dead.at;
  hidden = dead.hidden;
}

-- where orders go on from a list, they still do once it is noted at which place a session's call ends, if no such
-- place was noted before
pub noted_goes_on : (events : List Event) (places : List OpenCall) (number : ℕ) (old entry : OpenCall)
    → slice_get places number ≡ Some old → old.returns ≡ None
    → (known : List Configuration) (more : List Event) (end : Config)
    → GoesOn (hints_of events places) (Has known) more end
    → GoesOn (hints_of events (set places number entry)) (Has known) more end
noted_goes_on events places number old entry at blank known more end goes =
    subst (λ h. GoesOn h (Has known) more end) (sym (hints_set events places number entry)) (elim goes [
      | inl from ↦ inl (record {
        kept = from.kept;
        there = from.there;
        run = from.run;
        alike = alike_never hints number hint from.run from.kept from.alike unseen heard;
        moves = from.moves;
        runs = from.runs;
      })
      | inr left ↦ inr (record {
        run = left.run;
        dead = dead_never hints number hint left.run unseen left.dead;
        moves = left.moves;
        runs = left.runs;
      })
    ])
  where
    hints : List Hint
    hints = hints_of events places

    hint : Hint
    hint = hint_in events entry

    there : slice_get hints number ≡ Some (hint_in events old)
    there = slice_get-map (hint_in events) places number ∙ ap (option_map (hint_in events)) at

    fact : fact_of hints number ≡ hint_in events old
    fact = ap (λ (h : Option Hint). unwrap_or h no_hint) there

    unseen : (fact_of hints number).seen ≡ None
    unseen = ap (λ (h : Hint). h.seen) fact ∙ ap (seen_by events) blank

    heard : (fact_of hints number).never ≡ false
    heard = ap (λ (h : Hint). h.never) fact ∙ ap (never_by events) blank

-- before all events: each order from the base goes on from the list with the opening configuration alone, where the
-- lock law holds
pub goes_first : (base : State) (hints : List Hint) (list : List Configuration) (more : List Event)
    (moves : List Move) (end : Config) → IsOpening base list → LockLaw base
    → LeadsThrough (opening_config base) more moves end → GoesOn hints (Has list) more end
goes_first base hints list more moves end is law runs = inl (record {
  kept = opening_config base;
  there = subst (λ l. Has l (opening_config base)) (sym is.1)
      (subst (λ c. Has (is.0 ∷ []) c) is.2 (place_mapped config_of (is.0 ∷ []) 0 is.0 refl));
  run = opening_config base;
  alike = alike_first base hints law;
  moves = moves;
  runs = runs;
})

-- common first moves may be taken out of all configurations: orders go on alike
pub goes_shortened : (hints : List Hint) (trunk longer : List Move) (old new : List Configuration)
    (more : List Event) (end : Config) → IsShortened trunk longer old new
    → GoesOn hints (Has old) more end → GoesOn hints (Has new) more end
goes_shortened hints trunk longer old new more end is (inl from) = inl (record {
  kept = from.kept;
  there = subst (λ l. Contains l from.kept) (sym is.same) from.there;
  run = from.run;
  alike = from.alike;
  moves = from.moves;
  runs = from.runs;
})
goes_shortened hints trunk longer old new more end is (inr left) = inr left

-- after all events: what goes on from the list once the first `place` events are seen goes on once all are, since
-- these are all
pub goes_last : (base : State) (events : List Event) (hints : List Hint) (place : ℕ) (list : List Configuration)
    (moves : List Move) (end : Config) → place ≡ length events
    → LeadsThrough (opening_config base) events moves end
    → (LeadsThrough (opening_config base) (take place events ++ []) moves end → GoesOn hints (Has list) [] end)
    → GoesOn hints (Has list) [] end
goes_last base events hints place list moves end is runs goes =
    let all : take place events ++ [] ≡ events =
    append-nil (take place events) ∙ take_all place events (omega (arith, is)) in
    goes (subst (λ l. LeadsThrough (opening_config base) l moves end) (sym all) runs)
