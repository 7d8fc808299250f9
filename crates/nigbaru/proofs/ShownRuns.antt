-- What is linearizable is explained once it is written down as a record.
use Rattle.std.proofs.Common.{◌≡◌, ◌⊎◌, ℕ, true, cond, Option, Some, None, List, [], ◌∷◌, refl, ap, sym, ◌∙◌, subst}
use Rattle.std.{proofs.{Common.{inl, inr, arith}, lemmas.Bool.cases_lt}, specs.Prelude.slice_get}
use Rattle.xa_xid.specs.declared.statement.Statement.{Statement}
use Rattle.xa_server.specs.{State.State, declared.reply.Reply.Reply, Replies.reply_to, Step.after}
use Rattle.xa_session.specs.{Timed.changed, Linear.{Sight, Client, Idle, Called, Answered, Serves, IsLinearized, over}}
use Rattle.xa_session.{specs.Linear.{called, taken, returned, failed}, proofs.Moments.{changed_there, changed_other}}
use Rattle.xa_judge.specs.declared.request.Request.TheVariants.{Statement as Given}
use Rattle.xa_judge.specs.declared.{answer.Answer.TheVariants.Reply as Replied, event.{Seen.Seen, Event.Event}}
use Rattle.xa_judge.specs.declared.{client_state.ClientState.{ClientState, TheVariants.Idle as IsIdle}, moves.Act.Act}
use Rattle.xa_judge.specs.declared.client_state.ClientState.TheVariants.{Called as HasCalled, Answered as HasAnswer}
use Rattle.xa_judge.specs.{declared.moves.Move.{Move, TheVariants.{Event as Seeing, Effect}}, Explained.Config}
use Rattle.xa_judge.specs.Explained.{with_client, opening_config, effect_of, carried_out, observed, called as call_seen}
use Rattle.xa_judge.specs.Explained.{returned as return_seen, answered_unknown, shows_answer, IsSession, LeadsThrough}
use Rattle.xa_judge.{specs.Explained.Explained, proofs.Places.{same_number, get_written, get_apart}}
use Rattle.nigbaru.{specs.Shown.IsRecordOf, proofs.OverlapSteps.get_replicate}

-- how far a client is, in the judge's words
client_state : Client → ClientState
client_state Idle = IsIdle
client_state (Called statement) = HasCalled (Given statement)
client_state (Answered reply) = HasAnswer (Replied reply)

-- the sessions are as far as the clients are, and no other number has a call
record Fits (clients : ℕ → Client) (config : Config) : Type 0 where
  within : (n : ℕ) → IsSession n → slice_get config.clients n ≡ Some (client_state (clients n))
  outside : (n : ℕ) → (IsSession n → ⊥) → clients n ≡ Idle

-- so they are after one of them has changed
fits_changed : (clients : ℕ → Client) (config : Config) (state : State) (n : ℕ) (client : Client) → IsSession n
    → Fits clients config
    → Fits (changed clients n client) (with_client (record config { state = state }) n (client_state client))
fits_changed clients config state n client is fits = record {
  within = λ other its. elim (same_number n other) [
    | inl same ↦ subst (λ k. slice_get (with_client config n (client_state client)).clients k
        ≡ Some (client_state (changed clients n client k))) same
        (get_written config.clients n (client_state (clients n)) (client_state client) (fits.within n is)
        ∙ ap (λ c. Some (client_state c)) (sym (changed_there clients n client)))
    | inr apart ↦ get_apart config.clients n other (client_state client) apart ∙ fits.within other its
        ∙ ap (λ c. Some (client_state c)) (sym (changed_other clients n other client (λ e. apart (sym e))))
  ];
  outside = λ other out. changed_other clients n other client (λ same. out (subst IsSession (sym same) is))
      ∙ fits.outside other out;
}

-- a number is a session's, or it isn't
session_or_not : (n : ℕ) → IsSession n ⊎ (IsSession n → ⊥)
session_or_not n = elim (cases_lt n 1) [
  | inl low ↦ inr (λ is. absurd (omega (arith, is.0)))
  | inr one ↦ elim (cases_lt 16 n) [
    | inl high ↦ inr (λ is. absurd (omega (arith, is.1)))
    | inr few ↦ inl (one, few)
  ]
]

-- a client that isn't idle is a session's
busy : (clients : ℕ → Client) (config : Config) (n : ℕ) (client : Client) → (client ≡ Idle → ⊥) → clients n ≡ client
    → Fits clients config → IsSession n
busy clients config n client apart is fits = elim (session_or_not n) [
  | inl own ↦ own
  | inr out ↦ absurd (apart (sym is ∙ fits.outside n out))
]

-- what isn't idle
not_called : (statement : Statement) → Called statement ≡ Idle → ⊥
not_called statement same = subst IsCalled same tt
  where
    IsCalled : Client → Type 0
    IsCalled Idle = ⊥
    IsCalled (Called statement) = Unit {0}
    IsCalled (Answered reply) = ⊥

not_answered : (reply : Reply) → Answered reply ≡ Idle → ⊥
not_answered reply same = subst IsAnswered same tt
  where
    IsAnswered : Client → Type 0
    IsAnswered Idle = ⊥
    IsAnswered (Called statement) = ⊥
    IsAnswered (Answered reply) = Unit {0}

-- some moves lead from a configuration through the events
abbrev Leads : Config → List Event → Type 0
Leads config events = (moves : List Move) × (new : Config) × LeadsThrough config events moves new

-- what a session's client is, where it fits
found : (clients : ℕ → Client) (config : Config) (n : ℕ) (client : Client) → IsSession n → clients n ≡ client
    → Fits clients config
    → slice_get config.clients n ≡ Some (client_state client)
found clients config n client is same fits = fits.within n is ∙ ap (λ c. Some (client_state c)) same

-- the four steps of the judge's definition
call_step : (config : Config) (n : ℕ) (statement : Statement) → slice_get config.clients n ≡ Some IsIdle
    → observed config (Event.Call n (Given statement)) ≡ Some (with_client config n (HasCalled (Given statement)))
unfolding observed call_seen
call_step config n statement at = ap (λ (o : Option ClientState). call_seen o config n (Given statement)) at

take_step : (config : Config) (n : ℕ) (statement : Statement)
    → slice_get config.clients n ≡ Some (HasCalled (Given statement))
    → effect_of config n Act.Statement
    ≡ Some (with_client (record config { state = after config.state n statement }) n
    (HasAnswer (Replied (reply_to config.state n statement))))
unfolding effect_of carried_out
take_step config n statement at = ap (λ (o : Option ClientState). carried_out o config n) at

return_step : (config : Config) (n : ℕ) (reply : Reply) (seen : Seen)
    → slice_get config.clients n ≡ Some (HasAnswer (Replied reply)) → shows_answer seen (Replied reply) ≡ true
    → observed config (Event.Return n seen) ≡ Some (with_client config n IsIdle)
unfolding observed return_seen
return_step config n reply seen at shows =
    ap (λ (o : Option ClientState). return_seen o config n seen) at
    ∙ ap (λ b. cond b (Some (with_client config n IsIdle)) None) shows

fail_step : (config : Config) (n : ℕ) (statement : Statement)
    → slice_get config.clients n ≡ Some (HasCalled (Given statement))
    → observed config (Event.Unknown n) ≡ Some (with_client config n IsIdle)
unfolding observed answered_unknown
fail_step config n statement at = ap (λ (o : Option ClientState). answered_unknown o config n) at

-- what is served is explained from a configuration with that state, in which the sessions are as far
explains : {state : State} {clients : ℕ → Client} {seen : List Sight} → Serves state clients seen
    → (events : List Event) (config : Config) → config.state ≡ state
    → Fits clients config → IsRecordOf seen events → Leads config events
unfolding client_state
explains over [] config same fits shown = ([], config, refl)
explains over (event ∷ events) config same fits shown = absurd shown
explains (called free inner) [] config same fits shown = absurd shown
explains (called {clients = clients} {session = n} {statement = statement} free inner) (event ∷ events) config same
    fits shown =
    let is = shown.0.0 in
    let next : Config = with_client config n (HasCalled (Given statement)) in
    let then : Leads next events = explains inner events next same
    (fits_changed clients config config.state n (Called statement) is fits) shown.1 in (
      Seeing ∷ then.0,
      then.1,
      (
        next,
        ap (observed config) shown.0.1 ∙ call_step config n statement (found clients config n Idle is free fits),
        then.2,
      ),
    )
explains (taken {clients = clients} n statement has inner) events config same fits shown =
    let is = busy clients config n (Called statement) (not_called statement) has fits in
    let next : Config = with_client (record config { state = after config.state n statement }) n
    (HasAnswer (Replied (reply_to config.state n statement))) in
    let then : Leads next events = explains inner events next (ap (λ s. after s n statement) same)
    (subst (λ s. Fits (changed clients n (Answered (reply_to s n statement))) next) same
    (fits_changed clients config (after config.state n statement) n (Answered (reply_to config.state n statement)) is
    fits)) shown in (
      Effect n Act.Statement ∷ then.0,
      then.1,
      (
        next,
        is,
        take_step config n statement (found clients config n (Called statement) is has fits),
        then.2,
      ),
    )
explains (returned has inner) [] config same fits shown = absurd shown
explains (returned {clients = clients} {session = n} {reply = reply} has inner) (event ∷ events) config same fits
    shown =
    let is = busy clients config n (Answered reply) (not_answered reply) has fits in
    let next : Config = with_client config n IsIdle in
    let then : Leads next events = explains inner events next same
    (fits_changed clients config config.state n Idle is fits) shown.1 in (
      Seeing ∷ then.0,
      then.1,
      (
        next,
        ap (observed config) shown.0.1
            ∙ return_step config n reply shown.0.0 (found clients config n (Answered reply) is has fits) shown.0.2,
        then.2,
      ),
    )
explains (failed has inner) [] config same fits shown = absurd shown
explains (failed {clients = clients} {session = n} {statement = statement} has inner) (event ∷ events) config same fits
    shown =
    let is = busy clients config n (Called statement) (not_called statement) has fits in
    let next : Config = with_client config n IsIdle in
    let then : Leads next events = explains inner events next same
    (fits_changed clients config config.state n Idle is fits) shown.1 in (
      Seeing ∷ then.0,
      then.1,
      (
        next,
        ap (observed config) shown.0
            ∙ fail_step config n statement (found clients config n (Called statement) is has fits),
        then.2,
      ),
    )

-- what is linearizable is explained, once it is written down
pub linearized_explained : (base : State) (seen : List Sight) (events : List Event) → IsLinearized base seen
    → IsRecordOf seen events
    → Explained base events
unfolding opening_config client_state
linearized_explained base seen events is shown =
    explains is events (opening_config base) refl
    (record {
      within = λ n own. get_replicate 17 n IsIdle (omega arith);
      outside = λ n out. refl;
    }) shown
