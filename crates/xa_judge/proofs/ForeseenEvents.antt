-- What is kept where later returns are known sees what an order sees.
--     dead_acts, dead_sees     an order that can't go on past a return still can't after an act;  after an event
use Rattle.std.proofs.Common.{◌≡◌, ◌≢◌, ℕ, true, false, cond, Option, Some, None, List, set, refl, ap, sym, ◌∙◌, subst}
use Rattle.std.proofs.{Common.{inl, inr, ◌<◌, ◌⊎◌}, lemmas.Option.{none-some, same_Some, cond_some, slice_get_within}}
use Rattle.std.{proofs.lemmas.{Bool.false≢true, List.length-set}, specs.{Prelude.slice_get, Option.unwrap_or}}
use Rattle.xa_judge.specs.declared.{client_state.ClientState.ClientState, request.Request.Request, event.Seen.Seen}
use Rattle.xa_judge.specs.declared.client_state.ClientState.TheVariants.{Idle, Called, Answered, Gone, Left}
use Rattle.xa_judge.specs.declared.{event.Event.{Event, TheVariants.{Call, Return, Lost, Unknown}}, moves.Act.Act}
use Rattle.xa_judge.specs.Explained.{lost, Config, with_client, effect_of, observed, called, returned, answered_unknown}
use Rattle.xa_judge.specs.{Explained.shows_answer, Late.answered_so, Foreseen.{Hint, no_hint, fact_of, hint_of}}
use Rattle.xa_judge.specs.{Foreseen.{IsAheadAt, IsBehindAt, IsAlikeAt, AreAlike, IsDead, FitsHints}, Keys.session_of}
use Rattle.xa_judge.proofs.Places.{same_number, get_written, get_apart, get_within}
use Rattle.xa_judge.proofs.Waits.{acted, Saw, saw_call, saw_return, saw_lost}

-- an unknown answer that is seen changes its session's client alone (`Saw`); `o` is that client before
saw_unknown : (o : Option ClientState) (old new : Config) (session : ℕ) → slice_get old.clients session ≡ o
    → answered_unknown o old session ≡ Some new → Saw old (Unknown session) new
unfolding observed answered_unknown
saw_unknown None old new session found is = absurd (none-some new is)
saw_unknown (Some Idle) old new session found is = absurd (none-some new is)
saw_unknown (Some (Called request)) old new session found is = record {
  before = Called request;
  next = Idle;
  found = found;
  is = sym (same_Some _ new is);
  again = λ other at. ap (λ o. answered_unknown o other session) at;
}
saw_unknown (Some (Answered answer)) old new session found is = record {
  before = Answered answer;
  next = Idle;
  found = found;
  is = sym (same_Some _ new is);
  again = λ other at. ap (λ o. answered_unknown o other session) at;
}
saw_unknown (Some (Gone request)) old new session found is = absurd (none-some new is)
saw_unknown (Some Left) old new session found is = absurd (none-some new is)

-- an event that is seen changes its session's client alone (`Saw`)
pub saw : (old new : Config) (event : Event) → observed old event ≡ Some new → Saw old event new
unfolding observed
saw old new (Call session request) is = saw_call (slice_get old.clients session) old new session request refl is
saw old new (Return session seen) is = (saw_return (slice_get old.clients session) old new session seen refl is).0
saw old new (Lost session) is = saw_lost (slice_get old.clients session) old new session refl is
saw old new (Unknown session) is = saw_unknown (slice_get old.clients session) old new session refl is

-- once one session's hint is set, what is known of the call of another one stays so
fact_apart : (hints : List Hint) (session other : ℕ) (hint : Hint) → session ≢ other
    → fact_of (set hints session hint) other ≡ fact_of hints other
fact_apart hints session other hint apart = ap (λ o. unwrap_or o no_hint) (get_apart hints session other hint apart)

-- once one session's hint is set, what the call of another one is known to return stays so
hint_apart : (hints : List Hint) (session other : ℕ) (hint : Hint) → session ≢ other
    → hint_of (set hints session hint) other ≡ hint_of hints other
hint_apart hints session other hint apart = ap (λ (h : Hint). h.seen) (fact_apart hints session other hint apart)

-- what is kept of a configuration is still kept of it once one session's client is replaced by the same one in both,
-- and its hint by any
pub same_client : (hints : List Hint) (run kept : Config) (session : ℕ) (hint : Hint) (c : ClientState)
    (one other : ClientState) → AreAlike hints run kept → slice_get run.clients session ≡ Some one
    → slice_get kept.clients session ≡ Some other
    → AreAlike (set hints session hint) (with_client run session c) (with_client kept session c)
same_client hints run kept session hint c one other are here there = record {
  state = are.state;
  law = are.law;
  clients = λ at. elim (same_number session at) [
    | inl e ↦ inl (subst (λ n. slice_get (set run.clients session c) n ≡ slice_get (set kept.clients session c) n) e
        (get_written run.clients session one c here ∙ sym (get_written kept.clients session other c there)))
    | inr apart ↦ subst (λ h. IsAlikeAt h run.state at (slice_get (set run.clients session c) at)
        (slice_get (set kept.clients session c) at)) (sym (fact_apart hints session at hint apart))
        (subst (λ o. IsAlikeAt (fact_of hints at) run.state at o (slice_get (set kept.clients session c) at))
        (sym (get_apart run.clients session at c apart))
        (subst (λ o. IsAlikeAt (fact_of hints at) run.state at (slice_get run.clients at) o)
        (sym (get_apart kept.clients session at c apart)) (are.clients at)))
  ];
}

-- what is kept sees the event as well, and what that leads to stands for `next` (`AreAlike`), once the hint of the
-- event's session is replaced
abbrev pub SeesAlike : List Hint → Hint → Config → Event → Config → Type 0
SeesAlike hints hint kept event next = (new : Config) × (observed kept event ≡ Some new)
    × AreAlike (set hints (session_of event) hint) next new

-- where the session of the event is as far in what is kept as in the order, what is kept sees the event as well
equal_sees : (hints : List Hint) (hint : Hint) (run kept next : Config) (event : Event)
    → AreAlike hints run kept → observed run event ≡ Some next
    → slice_get run.clients (session_of event) ≡ slice_get kept.clients (session_of event)
    → SeesAlike hints hint kept event next
equal_sees hints hint run kept next event are sees same =
    let s = saw run next event sees in
    let there : slice_get kept.clients (session_of event) ≡ Some s.before = sym same ∙ s.found in (
      with_client kept (session_of event) s.next,
      s.again kept there,
      subst (λ c. AreAlike (set hints (session_of event) hint) c (with_client kept (session_of event) s.next))
          (sym s.is)
          (same_client hints run kept (session_of event) hint s.next s.before s.before are s.found there),
    )

-- where the session of the event is ahead in what is kept (`IsAheadAt`), what is kept sees the event as well, if the
-- event fits what is known
ahead_sees : (hints : List Hint) (hint : Hint) (run kept next : Config) (event : Event)
    → AreAlike hints run kept → FitsHints hints event → observed run event ≡ Some next
    → IsAheadAt (hint_of hints (session_of event)) run.state (session_of event)
    (slice_get run.clients (session_of event)) (slice_get kept.clients (session_of event))
    → SeesAlike hints hint kept event next
unfolding observed called returned
ahead_sees hints hint run kept next (Call session request) are fits sees ahead = elim ahead.way [
  | inl asked ↦ absurd (none-some next (sym (ap (λ o. called o run session request) asked.1) ∙ sees))
  | inr given ↦ absurd (none-some next (sym (ap (λ o. called o run session request) given.1) ∙ sees))
]
ahead_sees hints hint run kept next (Return session seen) are fits sees ahead = elim fits [
  | inl none ↦ absurd (none-some ahead.seen (sym none.0 ∙ ahead.hinted))
  | inr known ↦
      let s = (saw_return (slice_get run.clients session) run next session seen refl sees).0 in
      let same : ahead.seen ≡ seen = same_Some ahead.seen seen (sym ahead.hinted ∙ known) in
      let idle : next ≡ with_client run session Idle = over s sees in (
        with_client kept session Idle,
        ap (λ o. returned o kept session seen) ahead.kept
            ∙ ap (λ b. cond b (Some (with_client kept session Idle)) None)
            (subst (λ x. shows_answer x ahead.answer ≡ true) same ahead.shown),
        subst (λ c. AreAlike (set hints session hint) c (with_client kept session Idle)) (sym idle)
            (same_client hints run kept session hint Idle s.before (Answered ahead.answer) are s.found ahead.kept),
      )
]
  where
    by : (o : Option ClientState) → returned o run session seen ≡ Some next → next ≡ with_client run session Idle
    by None e = absurd (none-some next e)
    by (Some Idle) e = absurd (none-some next e)
    by (Some (Called request)) e = absurd (none-some next e)
    by (Some (Answered answer)) e =
        sym (cond_some (shows_answer seen answer) (with_client run session Idle) next e).1
    by (Some (Gone request)) e = absurd (none-some next e)
    by (Some Left) e = absurd (none-some next e)

    over : Saw run (Return session seen) next → returned (slice_get run.clients session) run session seen ≡ Some next
        → next ≡ with_client run session Idle
    over s e = by (slice_get run.clients session) e
ahead_sees hints hint run kept next (Lost session) are fits sees ahead =
    absurd (none-some ahead.seen (sym fits.0 ∙ ahead.hinted))
ahead_sees hints hint run kept next (Unknown session) are fits sees ahead =
    absurd (none-some ahead.seen (sym fits ∙ ahead.hinted))

-- where the session of the event is behind in what is kept (`IsBehindAt`), what is kept sees the event as well, if
-- the event fits what is known
behind_sees : (hints : List Hint) (hint : Hint) (run kept next : Config) (event : Event)
    → AreAlike hints run kept → FitsHints hints event → observed run event ≡ Some next
    → IsBehindAt (fact_of hints (session_of event)) (slice_get run.clients (session_of event))
    (slice_get kept.clients (session_of event))
    → SeesAlike hints hint kept event next
unfolding observed called returned answered_unknown
behind_sees hints hint run kept next (Call session request) are fits sees behind =
    absurd (none-some next (sym (ap (λ o. called o run session request) behind.run) ∙ sees))
behind_sees hints hint run kept next (Return session seen) are fits sees behind = elim fits [
  | inl none ↦ absurd (false≢true (sym none.1 ∙ behind.never))
  | inr known ↦ absurd (none-some seen (sym behind.unseen ∙ known))
]
behind_sees hints hint run kept next (Lost session) are fits sees behind =
    absurd (false≢true (sym fits.1 ∙ behind.never))
behind_sees hints hint run kept next (Unknown session) are fits sees behind = (
  with_client kept session Idle,
  ap (λ o. answered_unknown o kept session) behind.kept,
  subst (λ c. AreAlike (set hints session hint) c (with_client kept session Idle))
      (same_Some (with_client run session Idle) next
      (sym (ap (λ o. answered_unknown o run session) behind.run) ∙ sees))
      (same_client hints run kept session hint Idle (Answered behind.answer) (Called behind.request) are behind.run
      behind.kept),
)

-- whatever event an order sees, what is kept of it sees, if the event fits what is known
pub alike_sees : (hints : List Hint) (hint : Hint) (run kept next : Config) (event : Event)
    → AreAlike hints run kept → FitsHints hints event → observed run event ≡ Some next
    → SeesAlike hints hint kept event next
alike_sees hints hint run kept next event are fits sees = by (are.clients (session_of event))
  where
    by : IsAlikeAt (fact_of hints (session_of event)) run.state (session_of event)
        (slice_get run.clients (session_of event)) (slice_get kept.clients (session_of event))
        → SeesAlike hints hint kept event next
    by (inl same) = equal_sees hints hint run kept next event are sees same
    by (inr (inl ahead)) = ahead_sees hints hint run kept next event are fits sees ahead
    by (inr (inr behind)) = behind_sees hints hint run kept next event are fits sees behind

-- ---- an order that can't go on past a return

-- an order that can't go on past a return (`IsDead`) still can't after an act
pub dead_acts : (hints : List Hint) (run next : Config) (session : ℕ) (act : Act) → IsDead hints run
    → effect_of run session act ≡ Some next → IsDead hints next
dead_acts hints run next session act dead leads =
    let a = acted run next session act leads in
    elim (same_number session dead.session) [
      | inl e ↦ absurd (by a.before a.unanswered
          (sym a.found ∙ ap (slice_get run.clients) e ∙ dead.at))
      | inr apart ↦ record {
        session = dead.session;
        seen = dead.seen;
        hinted = dead.hinted;
        answer = dead.answer;
        at = ap (λ (c : Config). slice_get c.clients dead.session) a.is
            ∙ get_apart run.clients session dead.session a.next apart ∙ dead.at;
        hidden = dead.hidden;
      }
    ]
  where
    answered : (c : ClientState) → answered_so (Some c) ≡ false
        → c ≡ Answered dead.answer → ⊥
    answered c un is = false≢true (sym un ∙ ap (λ x. answered_so (Some x)) is)

    by : (c : ClientState) → answered_so (Some c) ≡ false
        → Some c ≡ Some (Answered dead.answer) → ⊥
    by c un is = answered c un (same_Some c (Answered dead.answer) is)

-- an order that can't go on past a return (`IsDead`) still can't after an event that fits what is known
pub dead_sees : (hints : List Hint) (hint : Hint) (run next : Config) (event : Event) → IsDead hints run
    → FitsHints hints event → observed run event ≡ Some next
    → IsDead (set hints (session_of event) hint) next
unfolding observed called returned
dead_sees hints hint run next event dead fits sees =
    let s = saw run next event sees in
    elim (same_number (session_of event) dead.session) [
      | inl e ↦ absurd (over event fits sees e)
      | inr apart ↦ record {
        session = dead.session;
        seen = dead.seen;
        hinted = hint_apart hints (session_of event) dead.session hint apart ∙ dead.hinted;
        answer = dead.answer;
        at = ap (λ (c : Config). slice_get c.clients dead.session) s.is
            ∙ get_apart run.clients (session_of event) dead.session s.next apart ∙ dead.at;
        hidden = dead.hidden;
      }
    ]
  where
    over : (other : Event) → FitsHints hints other → observed run other ≡ Some next → session_of other ≡ dead.session
        → ⊥
    over (Call session request) f e is =
        none-some next (sym (ap (λ o. called o run session request) (ap (slice_get run.clients) is ∙ dead.at)) ∙ e)
    over (Return session seen) f e is = elim f [
      | inl none ↦ none-some dead.seen (sym none.0 ∙ ap (hint_of hints) is ∙ dead.hinted)
      | inr known ↦
          let same : dead.seen ≡ seen =
          same_Some dead.seen seen (sym dead.hinted ∙ sym (ap (hint_of hints) is) ∙ known) in
          none-some next (sym (ap (λ o. returned o run session seen) (ap (slice_get run.clients) is ∙ dead.at)
          ∙ ap (λ b. cond b (Some (with_client run session Idle)) None)
          (subst (λ x. shows_answer x dead.answer ≡ false) same dead.hidden)) ∙ e)
    ]
    over (Lost session) f e is = none-some dead.seen (sym f.0 ∙ ap (hint_of hints) is ∙ dead.hinted)
    over (Unknown session) f e is = none-some dead.seen (sym f ∙ ap (hint_of hints) is ∙ dead.hinted)
