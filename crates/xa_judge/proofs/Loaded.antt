-- A state that events lead to, with all sessions idle: one call more, and what is refuted behind the events.
--     alone_leads, alone_only           a call that returns its answer at once, where all are idle, leads to the
--                                       state after it, and nowhere else
--     refuted_behind, answers_behind    what is refuted from the state is refuted behind the events, with the same
--                                       answers
use Rattle.std.proofs.Common.{◌≡◌, ◌≢◌, ◌==◌, ℕ, ◌+◌, ◌<◌, zero, suc, true, Some, List, [], ◌∷◌, ◌++◌, rules, length}
use Rattle.std.proofs.Common.{set, take, get_or, refl, ap, sym, ◌∙◌, subst, inl, inr, arith, append_assoc}
use Rattle.std.proofs.{Common.length-append, lemmas.{Grind.common_steps, Option.{none-some, same_Some}}}
use Rattle.std.proofs.{lemmas.List.{get_or-replicate, length-replicate}, Math.Seq.take-append-add}
use Rattle.std.specs.Prelude.{slice_get, replicate}
use Rattle.xa_server.specs.State.{State}
use Rattle.xa_judge.specs.declared.{request.Request.Request, answer.Answer.Answer, event.{Seen.Seen, Event.Event}}
use Rattle.xa_judge.specs.declared.{event.Event.TheVariants.{Call, Return}, client_state.ClientState.ClientState}
use Rattle.xa_judge.specs.declared.{client_state.ClientState.TheVariants.{Idle, Called, Answered}, moves.Act.Act}
use Rattle.xa_judge.specs.{declared.moves.Move.{Move, TheVariants.{Event as Seeing, Effect}}, Explained.Config}
use Rattle.xa_judge.specs.Explained.{opening_config, with_client, effect_of, carried_out, disconnected, observed}
use Rattle.xa_judge.specs.Explained.{called, returned, shows_answer, answer_to, next_state, LeadsThrough, Explained}
use Rattle.xa_judge.specs.{Explained.IsSession, Late.called_for, Near.IsLoadedTo}
use Rattle.xa_judge.{specs.Verdicts.{IsRefuted, CouldBe, AreAllAnswers}, proofs.Waits.effect_called}
use Rattle.xa_judge.proofs.{Places.{same_number, stands_at, get_written, get_apart}, Steps.{effect_leads, event_leads}}

-- moves through some events and moves through more are moves through all
pub leads_append : (old mid end : Config) (events more : List Event) (moves later : List Move)
    → LeadsThrough old events moves mid
    → LeadsThrough mid more later end → LeadsThrough old (events ++ more) (moves ++ later) end
leads_append old mid end events more (Effect session act ∷ moves) later runs on =
    (runs.0, runs.1, runs.2, leads_append runs.0 mid end events more moves later runs.3 on)
leads_append old mid end [] more (Seeing ∷ moves) later runs on = absurd runs
leads_append old mid end (event ∷ events) more (Seeing ∷ moves) later runs on =
    (runs.0, runs.1, leads_append runs.0 mid end events more moves later runs.2 on)
leads_append old mid end [] more [] later runs on = subst (λ c. LeadsThrough c more later end) runs on
leads_append old mid end (event ∷ events) more [] later runs on = absurd runs

module _ {A : Type 0} where
  -- to write what stands there changes nothing
  set_same : (xs : List A) (i : ℕ) (x : A) → slice_get xs i ≡ Some x → set xs i x ≡ xs
  set_same [] i x found = absurd (none-some x found)
  set_same (y ∷ ys) zero x found = ap (λ a. a ∷ ys) (sym (same_Some y x found))
  set_same (y ∷ ys) (suc i) x found = ap (λ l. y ∷ l) (set_same ys i x found)

  -- a place behind the first list is one of the second
  get_behind : (xs ys : List A) (i : ℕ) → slice_get (xs ++ ys) (length xs + i) ≡ slice_get ys i
  get_behind [] ys i = let e : 0 + i ≡ i = omega arith in rw e refl
  get_behind (x ∷ xs) ys i = let e : suc (length xs) + i ≡ suc (length xs + i) = omega arith in
      rw e (get_behind xs ys i)

-- the session has this client, and all others are idle
record IsAlone (clients : List ClientState) (session : ℕ) (client : ClientState) : Type 0 where
  here : slice_get clients session ≡ Some client
  others : (other : ℕ) → IsSession other → other ≢ session → slice_get clients other ≡ Some Idle

-- in a list of n idle clients each place below n has one
idle_at : (n session : ℕ) → session < n → slice_get (replicate n Idle) session ≡ Some Idle
idle_at n session within = search (rules, arith, get_or-replicate, length-replicate, stands_at)

-- before all events a session is idle, and all other sessions are idle too
alone_opening : (state : State) (session : ℕ) → IsSession session
    → IsAlone ((opening_config state).clients) session Idle
unfolding opening_config
alone_opening state session is = grind (arith)

-- once a session's client is replaced where all others are idle, it has the new one, and the others are still idle
alone_written : (clients : List ClientState) (session : ℕ) (old new : ClientState) → IsAlone clients session old
    → IsAlone (set clients session new) session new
alone_written clients session old new alone = grind (arith, get_apart, get_written)

-- no act of an idle session can take effect
idle_rests : (config new : Config) (session : ℕ) (act : Act) → slice_get config.clients session ≡ Some Idle
    → effect_of config session act ≡ Some new → ⊥
unfolding effect_of carried_out disconnected
idle_rests config new session act found is = grind (arith)

-- no act of a session that has its answer can take effect
answered_rests : (config new : Config) (session : ℕ) (act : Act) (answer : Answer)
    → slice_get config.clients session ≡ Some (Answered answer)
    → effect_of config session act ≡ Some new → ⊥
unfolding effect_of carried_out disconnected
answered_rests config new session act answer found is = grind (arith)

-- the DISCONNECT of a session that has called and isn't answered can't take effect
called_stays : (config new : Config) (session : ℕ) (request : Request)
    → slice_get config.clients session ≡ Some (Called request)
    → effect_of config session Act.Disconnect ≡ Some new → ⊥
unfolding effect_of disconnected
called_stays config new session request found is = cc

-- the call of a session whose request hasn't taken effect doesn't return
called_open : (config new : Config) (session : ℕ) (request : Request) (seen : Seen)
    → slice_get config.clients session ≡ Some (Called request)
    → observed config (Return session seen) ≡ Some new → ⊥
unfolding observed returned
called_open config new session request seen found is = cc

-- a call of an idle session can be seen
idle_calls : (config : Config) (session : ℕ) (request : Request) → slice_get config.clients session ≡ Some Idle
    → observed config (Call session request) ≡ Some (with_client config session (Called request))
unfolding observed called
idle_calls config session request found = ap (λ o. called o config session request) found

-- a return can be seen that shows the answer which its session has
answered_returns : (config : Config) (session : ℕ) (seen : Seen) (answer : Answer)
    → slice_get config.clients session ≡ Some (Answered answer)
    → shows_answer seen answer ≡ true → observed config (Return session seen) ≡ Some (with_client config session Idle)
unfolding observed returned
answered_returns config session seen answer found shows = cc

-- a return makes its session idle, and changes nothing else
returns_idle : (config new : Config) (session : ℕ) (seen : Seen) (answer : Answer)
    → slice_get config.clients session ≡ Some (Answered answer)
    → observed config (Return session seen) ≡ Some new → with_client config session Idle ≡ new
unfolding observed returned
returns_idle config new session seen answer found is = grind (arith)

-- the configuration after the session's request took effect
abbrev answered_config : Config → ℕ → Request → Config
answered_config config session request =
    record {
      state = next_state config.state session request;
      clients = set config.clients session
          (Answered (answer_to config.state session request));
    }

-- the request of a session that has called can take effect
called_acts : (config : Config) (session : ℕ) (request : Request)
    → slice_get config.clients session ≡ Some (Called request)
    → effect_of config session Act.Statement ≡ Some (answered_config config session request)
called_acts config session request found = effect_called config session request (ap called_for found)

-- if all sessions are idle and the next event is a call, orders go on from the configuration in which it is open
call_first : (old end : Config) (session : ℕ) (request : Request) (rest : List Event) (all : List Move)
    → IsAlone old.clients session Idle
    → LeadsThrough old (Call session request ∷ rest) all end
    → (later : List Move) × LeadsThrough (with_client old session (Called request)) rest later end
call_first old end session request rest (Effect other act ∷ moves) alone runs = elim (same_number other session) [
  | inl e ↦ absurd (idle_rests old runs.0 other act (ap (slice_get old.clients) e ∙ alone.here) runs.2)
  | inr apart ↦ absurd (idle_rests old runs.0 other act (alone.others other runs.1 apart) runs.2)
]
call_first old end session request rest (Seeing ∷ moves) alone runs = (
  moves,
  (event_leads old (with_client old session (Called request)) (Call session request)
      (Call session request ∷ rest) rest moves end refl
      (idle_calls old session request alone.here)).0 runs,
)
call_first old end session request rest [] alone runs = absurd runs

-- if the only open call is to return next, orders go on from the configuration in which its request has taken effect
effect_then : (old end : Config) (session : ℕ) (request : Request) (seen : Seen) (rest : List Event) (all : List Move)
    → IsAlone old.clients session (Called request)
    → LeadsThrough old (Return session seen ∷ rest) all end
    → (later : List Move) × LeadsThrough (answered_config old session request) (Return session seen ∷ rest) later end
effect_then old end session request seen rest (Effect other Act.Statement ∷ moves) alone runs =
    elim (same_number other session) [
      | inl e ↦
          let is : IsSession session = subst IsSession e runs.1 in
          let acts : effect_of old session Act.Statement ≡ Some runs.0 =
          subst (λ n. effect_of old n Act.Statement ≡ Some runs.0) e runs.2 in
          let first : LeadsThrough old (Return session seen ∷ rest) (Effect session Act.Statement ∷ moves) end =
          (runs.0, is, acts, runs.3) in (
            moves,
            (effect_leads old (answered_config old session request) session Act.Statement
                (Return session seen ∷ rest) moves end is
                (called_acts old session request alone.here)).0 first,
          )
      | inr apart ↦ absurd (idle_rests old runs.0 other Act.Statement (alone.others other runs.1 apart) runs.2)
    ]
effect_then old end session request seen rest (Effect other Act.Disconnect ∷ moves) alone runs =
    elim (same_number other session) [
      | inl e ↦ absurd (called_stays old runs.0 other request (ap (slice_get old.clients) e ∙ alone.here) runs.2)
      | inr apart ↦ absurd (idle_rests old runs.0 other Act.Disconnect (alone.others other runs.1 apart) runs.2)
    ]
effect_then old end session request seen rest (Seeing ∷ moves) alone runs =
    absurd (called_open old runs.0 session request seen alone.here runs.1)
effect_then old end session request seen rest [] alone runs = absurd runs

-- if the only open call has its answer, and its return is the next event, orders go on from the configuration in
-- which its session is idle again
return_last : (old end : Config) (session : ℕ) (answer : Answer) (seen : Seen) (rest : List Event) (all : List Move)
    → IsAlone old.clients session (Answered answer)
    → LeadsThrough old (Return session seen ∷ rest) all end
    → (later : List Move) × LeadsThrough (with_client old session Idle) rest later end
return_last old end session answer seen rest (Effect other act ∷ moves) alone runs = elim (same_number other session) [
  | inl e ↦ absurd (answered_rests old runs.0 other act answer (ap (slice_get old.clients) e ∙ alone.here) runs.2)
  | inr apart ↦ absurd (idle_rests old runs.0 other act (alone.others other runs.1 apart) runs.2)
]
return_last old end session answer seen rest (Seeing ∷ moves) alone runs = (
  moves,
  subst (λ c. LeadsThrough c rest moves end) (sym
      (returns_idle old runs.0 session seen answer alone.here runs.1)) runs.2,
)
return_last old end session answer seen rest [] alone runs = absurd runs

-- once one session's client was replaced three times, at last by an idle one, all clients are idle as before all
-- events
idle_again : (state next : State) (session : ℕ) (one two : ClientState) → IsSession session
    → opening_config next
    ≡ record {
      state = next;
      clients = set (set (set ((opening_config state).clients) session one) session two) session
          Idle;
    }
unfolding opening_config
idle_again state next session one two is = grind (arith)

-- a call that returns its answer at once, where all are idle, leads to the state after it
pub alone_leads : (state : State) (session : ℕ) (request : Request) (seen : Seen) → IsSession session
    → shows_answer seen (answer_to state session request) ≡ true
    → LeadsThrough (opening_config state) (Call session request ∷ Return session seen ∷ [])
    (Seeing ∷ Effect session Act.Statement ∷ Seeing ∷ [])
    (opening_config (next_state state session request))
unfolding opening_config
alone_leads state session request seen is shows =
    let idle = alone_opening state session is in
    let first : Config = with_client (opening_config state) session (Called request) in
    let waiting = alone_written ((opening_config state).clients) session Idle (Called request) idle in
    let second : Config = answered_config first session request in
    let answer = answer_to state session request in
    let heard = alone_written first.clients session (Called request) (Answered answer) waiting in
    let last : Config = with_client second session Idle in
    let returns : observed second (Return session seen) ≡ Some last =
    answered_returns second session seen answer heard.here shows in (
      first,
      idle_calls (opening_config state) session request idle.here,
      (
        second,
        is,
        called_acts first session request waiting.here,
        (last, returns, idle_again state second.state session (Called request) (Answered answer) is),
      ),
    )

-- after a call and its return where all are idle, orders go on from the state after the request
pub alone_only : (state : State) (session : ℕ) (request : Request) (seen : Seen) (more : List Event) (all : List Move)
    (end : Config) → IsSession session
    → LeadsThrough (opening_config state) (Call session request ∷ Return session seen ∷ more) all end
    → (later : List Move) × LeadsThrough (opening_config (next_state state session request)) more later end
unfolding opening_config
alone_only state session request seen more all end is runs =
    let idle = alone_opening state session is in
    let first : Config = with_client (opening_config state) session (Called request) in
    let waiting = alone_written ((opening_config state).clients) session Idle (Called request) idle in
    let second : Config = answered_config first session request in
    let answer = answer_to state session request in
    let heard = alone_written first.clients session (Called request) (Answered answer) waiting in
    let after_call = call_first (opening_config state) end session request (Return session seen ∷ more) all idle runs in
    let after_effect = effect_then first end session request seen more after_call.0 waiting after_call.1 in
    let after_return = return_last second end session answer seen more after_effect.0 heard after_effect.1 in (
      after_return.0,
      subst (λ c. LeadsThrough c more after_return.0 end)
          (sym (idle_again state second.state session (Called request) (Answered answer) is)) after_return.1,
    )

-- if events lead to a state with all sessions idle (`IsLoadedTo`), then with one call more that returns its answer at
-- once they lead to the state after its request
pub loaded_more : (base full : State) (events : List Event) (session : ℕ) (request : Request) (seen : Seen)
    → IsSession session → IsLoadedTo base events full
    → shows_answer seen (answer_to full session request) ≡ true
    → IsLoadedTo base (events ++ Call session request ∷ Return session seen ∷ []) (next_state full session request)
loaded_more base full events session request seen is loaded shows = record {
  moves = loaded.moves ++ Seeing ∷ Effect session Act.Statement ∷ Seeing ∷ [];
  leads = leads_append (opening_config base) (opening_config full)
      (opening_config (next_state full session request)) events
      (Call session request ∷ Return session seen ∷ []) loaded.moves
      (Seeing ∷ Effect session Act.Statement ∷ Seeing ∷ []) loaded.leads
      (alone_leads full session request seen is shows);
  only = λ more all end runs.
      let parts : (events ++ Call session request ∷ Return session seen ∷ []) ++ more ≡ events
      ++ Call session request ∷ Return session seen ∷ more =
      append_assoc events (Call session request ∷ Return session seen ∷ []) more in
      let rest = loaded.only (Call session request ∷ Return session seen ∷ more) all end
      (subst (λ l. LeadsThrough (opening_config base) l all end) parts runs) in
      alone_only full session request seen more rest.0 end is rest.1;
}

-- what some order explains from the state to which events lead is explained behind them
explained_behind : (base full : State) (first later : List Event) → IsLoadedTo base first full → Explained full later
    → Explained base (first ++ later)
explained_behind base full first later loaded explained = (
  loaded.moves ++ explained.0,
  explained.1,
  leads_append (opening_config base) (opening_config full) explained.1 first later loaded.moves explained.0 loaded.leads
      explained.2,
)

-- if events and later ones are explained, the later ones are, from the state that the first lead to
explained_from : (base full : State) (first later : List Event) → IsLoadedTo base first full
    → Explained base (first ++ later) → Explained full later
explained_from base full first later loaded explained =
    let rest = loaded.only later explained.0 explained.1 explained.2 in (rest.0, explained.1, rest.1)

-- what is refuted from the state to which first events lead is refuted behind them
pub refuted_behind : (base full : State) (first later : List Event) (place : ℕ) → IsLoadedTo base first full
    → IsRefuted full later place
    → IsRefuted base (first ++ later) (length first + place)
refuted_behind base full first later place loaded refuted = record {
  within = omega (arith, refuted.within, length-append first later);
  before = subst (Explained base) (sym (take-append-add first later place))
      (explained_behind base full first (take place later) loaded refuted.before);
  refuted = λ explained.
      let e : length first + place + 1 ≡ length first + (place + 1) = omega arith in
      let parts : take (length first + place + 1) (first ++ later) ≡ first ++ take (place + 1) later =
      ap (λ n. take n (first ++ later)) e ∙ take-append-add first later (place + 1) in
      refuted.refuted (explained_from base full first (take (place + 1) later) loaded
      (subst (Explained base) parts explained));
  whole = λ explained. refuted.whole (explained_from base full first later loaded explained);
}

-- an answer that a call could have from a state, it could have behind the events that lead to the state
could_behind : (base full : State) (first later : List Event) (place : ℕ) (answer : Answer) → IsLoadedTo base first full
    → CouldBe full later place answer
    → CouldBe base (first ++ later) (length first + place) answer
could_behind base full first later place answer loaded could =
    let it = could.after in record {
      session = could.session;
      seen = could.seen;
      returns = get_behind first later place ∙ could.returns;
      after = record {
        config = it.config;
        reached = record {
          moves = loaded.moves ++ it.reached.moves;
          runs = subst (λ l. LeadsThrough (opening_config base) l (loaded.moves ++ it.reached.moves) it.config)
              (sym (take-append-add first later place))
              (leads_append (opening_config base) (opening_config full) it.config first
              (take place later) loaded.moves it.reached.moves loaded.leads it.reached.runs);
        };
        answered = it.answered;
      };
    }

-- an answer that a call could have behind events, it could have from the state that they lead to
could_from : (base full : State) (first later : List Event) (place : ℕ) (answer : Answer) → IsLoadedTo base first full
    → CouldBe base (first ++ later) (length first + place) answer → CouldBe full later place answer
could_from base full first later place answer loaded could =
    let it = could.after in
    let rest = loaded.only (take place later) it.reached.moves it.config
    (subst (λ l. LeadsThrough (opening_config base) l it.reached.moves it.config)
    (take-append-add first later place) it.reached.runs) in record {
      session = could.session;
      seen = could.seen;
      returns = sym (get_behind first later place) ∙ could.returns;
      after = record { config = it.config; reached = record { moves = rest.0; runs = rest.1 }; answered = it.answered };
    }

-- all the answers that a call could have from a state are all that it could have behind the events that lead there
pub answers_behind : (base full : State) (first later : List Event) (place : ℕ) (answers : List Answer)
    → IsLoadedTo base first full
    → AreAllAnswers full later place answers → AreAllAnswers base (first ++ later) (length first + place) answers
answers_behind base full first later place answers loaded are = record {
  each = λ k d below. could_behind base full first later place (get_or answers k d) loaded (are.each k d below);
  all = λ answer could. are.all answer (could_from base full first later place answer loaded could);
}

-- a list of length 0 is empty
pub none_left : (list : List Event) → (length list == 0) ≡ true → list ≡ []
none_left list empty = grind (arith, common_steps)
