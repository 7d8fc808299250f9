-- LeadsThrough: one more move at the end, and acts that can wait until an event is seen.
--     runs_effect, runs_event                   one more move at the end
--     Acted, Saw                                an act changes only the state and its client;  an event only its client
--     acted, saw_call, saw_return, saw_lost     each act does so;  a call, a return and a loss do
--     CanWait, First, later                     where acts can wait, the event is seen first
--     answered_apart, return_answered           who has an answer doesn't act;  who returns had one
use Rattle.std.proofs.Common.{◌≡◌, ◌≢◌, ℕ, Bool, true, false, cond, Option, Some, None, List, [], ◌∷◌, ◌++◌, set, refl}
use Rattle.std.proofs.{Common.{ap, sym, ◌∙◌, subst, inl, inr}, lemmas.Option.{none-some, same_Some, cond_some}}
use Rattle.std.{proofs.lemmas.{List.set-set, Bool.false≢true}, specs.Prelude.slice_get}
use Rattle.xa_xid.specs.declared.statement.Statement.TheVariants.{Disconnect as DisconnectGiven}
use Rattle.xa_server.specs.{State.State, Step.after}
use Rattle.xa_judge.specs.declared.{request.Request.Request, event.{Seen.Seen, Event.Event}}
use Rattle.xa_judge.specs.declared.event.Event.TheVariants.{Call, Return, Lost, Unknown}
use Rattle.xa_judge.specs.declared.{client_state.ClientState.ClientState, moves.{Act.Act, Move.Move}}
use Rattle.xa_judge.specs.declared.client_state.ClientState.TheVariants.{Idle, Called, Answered, Gone, Left}
use Rattle.xa_judge.specs.Explained.{Config, with_client, effect_of, carried_out, disconnected, observed, called}
use Rattle.xa_judge.specs.Explained.{returned, lost, shows_answer, answer_to, next_state, LeadsThrough, IsSession}
use Rattle.xa_judge.specs.{Late.{call_is_answered, answered_so, has_unheard, unheard_so, called_for}, Keys.session_of}
use Rattle.xa_judge.proofs.Places.{same_number, get_written, get_apart, set_apart}

-- moves that lead through events still do with one act more at the end, which leads on from there
pub runs_effect : (old mid new : Config) (events : List Event) (moves : List Move) (session : ℕ) (act : Act)
    → LeadsThrough old events moves mid
    → IsSession session
    → effect_of mid session act ≡ Some new
    → LeadsThrough old events (moves ++ Move.Effect session act ∷ []) new
runs_effect old mid new events (Move.Effect other its ∷ moves) session act runs is at =
    (runs.0, runs.1, runs.2, runs_effect runs.0 mid new events moves session act runs.3 is at)
runs_effect old mid new [] (Move.Event ∷ moves) session act runs is at = absurd runs
runs_effect old mid new (event ∷ events) (Move.Event ∷ moves) session act runs is at =
    (runs.0, runs.1, runs_effect runs.0 mid new events moves session act runs.2 is at)
runs_effect old mid new [] [] session act runs is at = let P : Config → Type 0 =
    λ c. effect_of c session act ≡ Some new in (new, is, subst P runs at, refl)
runs_effect old mid new (event ∷ events) [] session act runs is at = absurd runs

-- moves that lead through events lead through one event more, if it can be seen at the end
pub runs_event : (old mid new : Config) (events : List Event) (moves : List Move) (event : Event)
    → LeadsThrough old events moves mid
    → observed mid event ≡ Some new
    → LeadsThrough old (events ++ event ∷ []) (moves ++ Move.Event ∷ []) new
runs_event old mid new events (Move.Effect other its ∷ moves) event runs at =
    (runs.0, runs.1, runs.2, runs_event runs.0 mid new events moves event runs.3 at)
runs_event old mid new [] (Move.Event ∷ moves) event runs at = absurd runs
runs_event old mid new (first ∷ events) (Move.Event ∷ moves) event runs at =
    (runs.0, runs.1, runs_event runs.0 mid new events moves event runs.2 at)
runs_event old mid new [] [] event runs at = let P : Config → Type 0 = λ c. observed c event ≡ Some new in
    (new, subst P runs at, refl)
runs_event old mid new (first ∷ events) [] event runs at = absurd runs

-- the configuration of a state and of how far the clients are, as one that was found (`Some`)
abbrev pub some_config : State → List ClientState → Option Config
some_config state clients = Some (record { state = state; clients = clients })

-- the session's call was or may be answered
abbrev pub may_answer : Option ClientState → Bool
may_answer None = false
may_answer (Some Idle) = false
may_answer (Some (Called request)) = true
may_answer (Some (Answered answer)) = true
may_answer (Some (Gone request)) = false
may_answer (Some Left) = false

-- the session's act leads from `old` to `new`: it changes the state, and of the clients the session's own alone, from
-- `before` to `next`. It does the same in each configuration with the same state and this client (`again`). That
-- client wasn't answered before (`unanswered`), isn't gone with an open call afterwards (`heard`), and can't be
-- answered afterwards if it couldn't before (`dead`)
pub record Acted (old : Config) (session : ℕ) (act : Act) (new : Config) : Type 0 where
  pub before : ClientState
  pub next : ClientState
  pub state : State
  pub found : slice_get old.clients session ≡ Some before
  pub is : new ≡ record { state = state; clients = set old.clients session next }
  pub again : (other : Config) → slice_get other.clients session ≡ Some before → other.state ≡ old.state
      → effect_of other session act ≡ Some (record { state = state; clients = set other.clients session next })
  pub heard : unheard_so (Some next) ≡ false
  pub unanswered : answered_so (Some before) ≡ false
  pub dead : may_answer (Some before) ≡ false → may_answer (Some next) ≡ false

-- if what a session called for takes effect, that changes the state and the session's own client alone (`Acted`); `o`
-- is that client before
acted_statement : (o : Option ClientState) (old new : Config) (session : ℕ) → slice_get old.clients session ≡ o
    → carried_out o old session ≡ Some new
    → Acted old session Act.Statement new
unfolding effect_of carried_out
acted_statement None old new session found is = absurd (none-some new is)
acted_statement (Some Idle) old new session found is = absurd (none-some new is)
acted_statement (Some (Called request)) old new session found is = record {
  before = Called request;
  next = Answered (answer_to old.state session request);
  state = next_state old.state session request;
  found = found;
  is = sym (same_Some _ new is);
  again = λ other at same.
      ap (λ o. carried_out o other session) at
      ∙ ap (λ (s : State). some_config (next_state s session request)
      (set other.clients session (Answered (answer_to s session request)))) same;
  heard = refl;
  unanswered = refl;
  dead = λ e. absurd (false≢true (sym e));
}
acted_statement (Some (Answered answer)) old new session found is = absurd (none-some new is)
acted_statement (Some (Gone None)) old new session found is = absurd (none-some new is)
acted_statement (Some (Gone (Some request))) old new session found is = record {
  before = Gone (Some request);
  next = Gone None;
  state = next_state old.state session request;
  found = found;
  is = sym (same_Some _ new is);
  again = λ other at same.
      ap (λ o. carried_out o other session) at
      ∙ ap (λ (s : State). some_config (next_state s session request) (set other.clients session (Gone None))) same;
  heard = refl;
  unanswered = refl;
  dead = λ e. refl;
}
acted_statement (Some Left) old new session found is = absurd (none-some new is)

-- if the DISCONNECT of a lost client takes effect, that changes the state and that client alone (`Acted`); `o` is that
-- client before
acted_disconnect : (o : Option ClientState) (old new : Config) (session : ℕ) → slice_get old.clients session ≡ o
    → disconnected o old session ≡ Some new
    → Acted old session Act.Disconnect new
unfolding effect_of disconnected
acted_disconnect None old new session found is = absurd (none-some new is)
acted_disconnect (Some Idle) old new session found is = absurd (none-some new is)
acted_disconnect (Some (Called request)) old new session found is = absurd (none-some new is)
acted_disconnect (Some (Answered answer)) old new session found is = absurd (none-some new is)
acted_disconnect (Some (Gone request)) old new session found is = record {
  before = Gone request;
  next = Left;
  state = after old.state session DisconnectGiven;
  found = found;
  is = sym (same_Some _ new is);
  again = λ other at same.
      ap (λ o. disconnected o other session) at
      ∙ ap (λ (s : State). some_config (after s session DisconnectGiven) (set other.clients session Left)) same;
  heard = refl;
  unanswered = refl;
  dead = λ e. refl;
}
acted_disconnect (Some Left) old new session found is = absurd (none-some new is)

-- an act that takes effect changes the state, and the client whose act it is, alone (`Acted`)
pub acted : (old new : Config) (session : ℕ) (act : Act) → effect_of old session act ≡ Some new
    → Acted old session act new
unfolding effect_of
acted old new session Act.Statement is = acted_statement (slice_get old.clients session) old new session refl is
acted old new session Act.Disconnect is = acted_disconnect (slice_get old.clients session) old new session refl is

-- the statement of a session that has called can take effect: that leads to the state after its request, and to its
-- answer
pub effect_called : (config : Config) (session : ℕ) (request : Request)
    → called_for (slice_get config.clients session) ≡ Some request
    → effect_of config session Act.Statement
    ≡ some_config (next_state config.state session request)
    (set config.clients session (Answered (answer_to config.state session request)))
unfolding effect_of carried_out
effect_called config session request = by (slice_get config.clients session)
  where
    by : (o : Option ClientState) → called_for o ≡ Some request
        → carried_out o config session
        ≡ some_config (next_state config.state session request)
        (set config.clients session (Answered (answer_to config.state session request)))
    by None is = absurd (none-some request is)
    by (Some Idle) is = absurd (none-some request is)
    by (Some (Called other)) is =
        ap (λ r. some_config (next_state config.state session r)
        (set config.clients session (Answered (answer_to config.state session r))))
        (same_Some other request is)
    by (Some (Answered answer)) is = absurd (none-some request is)
    by (Some (Gone other)) is = absurd (none-some request is)
    by (Some Left) is = absurd (none-some request is)

-- the event leads from `old` to `new`: it changes its session's client alone, from `before` to `next`. It does the
-- same in each configuration with this client (`again`)
pub record Saw (old : Config) (event : Event) (new : Config) : Type 0 where
  pub before : ClientState
  pub next : ClientState
  pub found : slice_get old.clients (session_of event) ≡ Some before
  pub is : new ≡ with_client old (session_of event) next
  pub again : (other : Config) → slice_get other.clients (session_of event) ≡ Some before
      → observed other event ≡ Some (with_client other (session_of event) next)

-- a call that is seen changes its session's client alone (`Saw`); `o` is that client before
pub saw_call : (o : Option ClientState) (old new : Config) (session : ℕ) (request : Request)
    → slice_get old.clients session ≡ o
    → called o old session request ≡ Some new → Saw old (Call session request) new
unfolding observed called
saw_call None old new session request found is = absurd (none-some new is)
saw_call (Some Idle) old new session request found is =
    record {
      before = Idle;
      next = Called request;
      found = found;
      is = sym (same_Some _ new is);
      again = λ other at. ap (λ o. called o other session request) at;
    }
saw_call (Some (Called other)) old new session request found is = absurd (none-some new is)
saw_call (Some (Answered answer)) old new session request found is = absurd (none-some new is)
saw_call (Some (Gone None)) old new session request found is =
    record {
      before = Gone None;
      next = Gone (Some request);
      found = found;
      is = sym (same_Some _ new is);
      again = λ other at. ap (λ o. called o other session request) at;
    }
saw_call (Some (Gone (Some other))) old new session request found is = absurd (none-some new is)
saw_call (Some Left) old new session request found is =
    record {
      before = Left;
      next = Left;
      found = found;
      is = sym (same_Some _ new is);
      again = λ other at. ap (λ o. called o other session request) at;
    }

-- a return that is seen changes its session's client alone (`Saw`), and `o`, that client before, had an answer
pub saw_return : (o : Option ClientState) (old new : Config) (session : ℕ) (seen : Seen)
    → slice_get old.clients session ≡ o → returned o old session seen ≡ Some new
    → Saw old (Return session seen) new × (answered_so o ≡ true)
unfolding observed returned
saw_return None old new session seen found is = absurd (none-some new is)
saw_return (Some Idle) old new session seen found is = absurd (none-some new is)
saw_return (Some (Called request)) old new session seen found is = absurd (none-some new is)
saw_return (Some (Answered answer)) old new session seen found is =
    let agreed = cond_some (shows_answer seen answer) (with_client old session Idle) new is in (
      record {
        before = Answered answer;
        next = Idle;
        found = found;
        is = sym agreed.1;
        again = λ other at. ap (λ o. returned o other session seen) at
            ∙ ap (λ b. cond b (Some (with_client other session Idle)) None) agreed.0;
      },
      refl,
    )
saw_return (Some (Gone request)) old new session seen found is = absurd (none-some new is)
saw_return (Some Left) old new session seen found is = absurd (none-some new is)

-- a loss that is seen changes the lost client alone (`Saw`); `o` is that client before
pub saw_lost : (o : Option ClientState) (old new : Config) (session : ℕ) → slice_get old.clients session ≡ o
    → lost o old session ≡ Some new
    → Saw old (Lost session) new
unfolding observed lost
saw_lost None old new session found is = absurd (none-some new is)
saw_lost (Some Idle) old new session found is =
    record {
      before = Idle;
      next = Gone None;
      found = found;
      is = sym (same_Some _ new is);
      again = λ other at. ap
          (λ o. lost o other session) at;
    }
saw_lost (Some (Called request)) old new session found is =
    record {
      before = Called request;
      next = Gone (Some request);
      found = found;
      is = sym (same_Some _ new is);
      again = λ other at. ap (λ o. lost o other session) at;
    }
saw_lost (Some (Answered answer)) old new session found is =
    record {
      before = Answered answer;
      next = Gone None;
      found = found;
      is = sym
          (same_Some _ new is);
      again = λ other at. ap (λ o. lost o other session) at;
    }
saw_lost (Some (Gone request)) old new session found is = absurd (none-some new is)
saw_lost (Some Left) old new session found is = absurd (none-some new is)

-- from `old` the event is seen first, and then the act takes effect and leads to `new`
abbrev pub Swapped : Config → Event → ℕ → Act → Config → Type 0
Swapped old event session act new =
    (first : Config) × (observed old event ≡ Some first) × (effect_of first session act ≡ Some new)

-- an act before an event of another session may come after it
pub commute : (old mid new : Config) (session : ℕ) (act : Act) (event : Event) → Acted old session act mid
    → Saw mid event new → session ≢ session_of event
    → Swapped old event session act new
commute old mid new session act event a s apart =
    let other = session_of event in
    let here : slice_get mid.clients other ≡ slice_get old.clients other =
    ap (λ (c : Config). slice_get c.clients other) a.is ∙ get_apart old.clients session other a.next apart in
    let first : Config = with_client old other s.next in
    let there : slice_get first.clients session ≡ Some a.before =
    get_apart old.clients other session s.next (λ e. apart (sym e)) ∙ a.found in
    let end : record { state = a.state; clients = set first.clients session a.next } ≡ new =
    ap (λ l. record { state = a.state; clients = l }) (set_apart old.clients other session s.next a.next
    (λ e. apart (sym e)))
    ∙ sym (s.is ∙ ap (λ (c : Config). with_client c other s.next) a.is) in
    (first, s.again old (sym here ∙ s.found), a.again first there refl ∙ ap Some end)

-- a call that took effect before its client was lost can take effect after the loss instead, to the same end
lost_alone : (o : Option ClientState) (old mid new : Config) (session : ℕ) → slice_get old.clients session ≡ o
    → carried_out o old session ≡ Some mid
    → Saw mid (Lost session) new → lost (slice_get mid.clients session) mid session ≡ Some new
    → Swapped old (Lost session) session Act.Statement new
unfolding effect_of observed carried_out lost
lost_alone None old mid new session found is s at = absurd (none-some mid is)
lost_alone (Some Idle) old mid new session found is s at = absurd (none-some mid is)
lost_alone (Some (Called request)) old mid new session found is s at =
    let answer = Answered (answer_to old.state session request) in
    let first : Config = with_client old session (Gone (Some request)) in
    let mid_is : record { state = next_state old.state session request; clients = set old.clients session answer }
    ≡ mid = same_Some _ mid is in
    let here : slice_get mid.clients session ≡ Some answer =
    ap (λ (c : Config). slice_get c.clients session) (sym mid_is)
    ∙ get_written old.clients session (Called request) answer found in
    let gone : with_client mid session (Gone None) ≡ new =
    same_Some _ new (sym (ap (λ o. lost o mid session) here) ∙ at) in
    let there : slice_get first.clients session ≡ Some (Gone (Some request)) =
    get_written old.clients session (Called request) (Gone (Some request)) found in
    let end : record {
      state = next_state old.state session request;
      clients = set
          (set old.clients session (Gone (Some request))) session (Gone None);
    }
    ≡ new =
    ap (λ l. record { state = next_state old.state session request; clients = l })
    (set-set old.clients session (Gone (Some request)) (Gone None)
    ∙ sym (set-set old.clients session answer (Gone None)))
    ∙ ap (λ (c : Config). with_client c session (Gone None)) mid_is ∙ gone in
    (first, ap (λ o. lost o old session) found, ap (λ o. carried_out o first session) there ∙ ap Some end)
lost_alone (Some (Answered answer)) old mid new session found is s at = absurd (none-some mid is)
lost_alone (Some (Gone None)) old mid new session found is s at = absurd (none-some mid is)
lost_alone (Some (Gone (Some request))) old mid new session found is s at =
    let here : slice_get mid.clients session ≡ Some (Gone None) =
    ap (λ (c : Config). slice_get c.clients session) (sym (same_Some _ mid is))
    ∙ get_written old.clients session (Gone (Some request)) (Gone None) found in
    absurd (none-some new (sym (ap (λ o. lost o mid session) here) ∙ at))
lost_alone (Some Left) old mid new session found is s at = absurd (none-some mid is)

-- a client whose `DISCONNECT` took effect is gone already, so it can't be lost then
left_alone : (o : Option ClientState) (old mid new : Config) (session : ℕ) → slice_get old.clients session ≡ o
    → disconnected o old session ≡ Some mid
    → lost (slice_get mid.clients session) mid session ≡ Some new → ⊥
unfolding disconnected lost
left_alone None old mid new session found is at = none-some mid is
left_alone (Some Idle) old mid new session found is at = none-some mid is
left_alone (Some (Called request)) old mid new session found is at = none-some mid is
left_alone (Some (Answered answer)) old mid new session found is at = none-some mid is
left_alone (Some (Gone request)) old mid new session found is at =
    let here : slice_get mid.clients session ≡ Some Left =
    ap (λ (c : Config). slice_get c.clients session) (sym (same_Some _ mid is))
    ∙ get_written old.clients session (Gone request) Left found in
    none-some new (sym (ap (λ o. lost o mid session) here) ∙ at)
left_alone (Some Left) old mid new session found is at = none-some mid is

-- once what a session called for has taken effect, the session can't call again before it returns, unless its client
-- is gone with an open call
called_alone : (o : Option ClientState) (old mid new : Config) (session : ℕ) (request : Request)
    → slice_get old.clients session ≡ o → unheard_so o ≡ false
    → carried_out o old session ≡ Some mid → called (slice_get mid.clients session) mid session request ≡ Some new → ⊥
unfolding carried_out called
called_alone None old mid new session request found heard is at = none-some mid is
called_alone (Some Idle) old mid new session request found heard is at = none-some mid is
called_alone (Some (Called other)) old mid new session request found heard is at =
    let answer = Answered (answer_to old.state session other) in
    let here : slice_get mid.clients session ≡ Some answer =
    ap (λ (c : Config). slice_get c.clients session) (sym (same_Some _ mid is))
    ∙ get_written old.clients session (Called other) answer found in
    none-some new (sym (ap (λ o. called o mid session request) here) ∙ at)
called_alone (Some (Answered answer)) old mid new session request found heard is at = none-some mid is
called_alone (Some (Gone None)) old mid new session request found heard is at = none-some mid is
called_alone (Some (Gone (Some other))) old mid new session request found heard is at = false≢true (sym heard)
called_alone (Some Left) old mid new session request found heard is at = none-some mid is

-- the DISCONNECT of a session whose client is gone without an open call can wait until the session has called
gone_alone : (o : Option ClientState) (old mid new : Config) (session : ℕ) (request : Request)
    → slice_get old.clients session ≡ o → unheard_so o ≡ false
    → disconnected o old session ≡ Some mid → called (slice_get mid.clients session) mid session request ≡ Some new
    → Swapped old (Call session request) session Act.Disconnect new
unfolding effect_of observed disconnected called
gone_alone None old mid new session request found heard is at = absurd (none-some mid is)
gone_alone (Some Idle) old mid new session request found heard is at = absurd (none-some mid is)
gone_alone (Some (Called other)) old mid new session request found heard is at = absurd (none-some mid is)
gone_alone (Some (Answered answer)) old mid new session request found heard is at = absurd (none-some mid is)
gone_alone (Some (Gone None)) old mid new session request found heard is at =
    let state = after old.state session DisconnectGiven in
    let first : Config = with_client old session (Gone (Some request)) in
    let mid_is : record { state = state; clients = set old.clients session Left } ≡ mid = same_Some _ mid is in
    let here : slice_get mid.clients session ≡ Some Left =
    ap (λ (c : Config). slice_get c.clients session) (sym mid_is)
    ∙ get_written old.clients session (Gone None) Left found in
    let left : with_client mid session Left ≡ new = same_Some _ new
    (sym (ap (λ o. called o mid session request) here) ∙ at) in
    let there : slice_get first.clients session ≡ Some (Gone (Some request)) =
    get_written old.clients session (Gone None) (Gone (Some request)) found in
    let end : record { state = state; clients = set (set old.clients session (Gone (Some request))) session Left }
    ≡ new =
    ap (λ l. record { state = state; clients = l })
    (set-set old.clients session (Gone (Some request)) Left ∙ sym (set-set old.clients session Left Left))
    ∙ ap (λ (c : Config). with_client c session Left) mid_is ∙ left in
    (first, ap (λ o. called o old session request) found, ap (λ o. disconnected o first session) there ∙ ap Some end)
gone_alone (Some (Gone (Some other))) old mid new session request found heard is at = absurd (false≢true (sym heard))
gone_alone (Some Left) old mid new session request found heard is at = absurd (none-some mid is)

-- an act of the calling session before its call may come after it, unless its client is gone with an open call
call_alone : (old mid new : Config) (session : ℕ) (act : Act) (request : Request) → has_unheard old session ≡ false
    → effect_of old session act ≡ Some mid
    → called (slice_get mid.clients session) mid session request ≡ Some new
    → Swapped old (Call session request) session act new
unfolding effect_of
call_alone old mid new session Act.Statement request heard is at =
    absurd (called_alone (slice_get old.clients session) old mid new session request refl heard is at)
call_alone old mid new session Act.Disconnect request heard is at =
    gone_alone (slice_get old.clients session) old mid new session request refl heard is at

-- acts that come before the event can wait until it is seen: before a call, unless its session's client is gone with a
-- call that may still take effect; before a return, once its session was answered; before a lost client, always;
-- before an answer that isn't known, never
abbrev pub CanWait : Config → Event → Type 0
CanWait config (Call session request) = has_unheard config session ≡ false
CanWait config (Return session seen) = call_is_answered config session ≡ true
CanWait config (Lost session) = Unit {0}
CanWait config (Unknown session) = ⊥

-- an act that takes effect is never one of a session that has its answer
pub answered_apart : (old mid : Config) (session other : ℕ) (act : Act) → Acted old session act mid
    → call_is_answered old other ≡ true → session ≢ other
answered_apart old mid session other act a answered = λ e.
    false≢true (sym a.unanswered ∙ ap answered_so (sym a.found ∙ ap (slice_get old.clients) e) ∙ answered)

-- an act before an event may come after it, if the event needs no act before it (`CanWait`)
swap : (old mid new : Config) (session : ℕ) (act : Act) (event : Event) → effect_of old session act ≡ Some mid
    → observed mid event ≡ Some new
    → CanWait old event → Swapped old event session act new
unfolding effect_of observed
swap old mid new session act (Call other request) is at waits = elim (same_number session other) [
  | inl e ↦
      let at' : called (slice_get mid.clients session) mid session request ≡ Some new =
      ap (λ n. called (slice_get mid.clients n) mid n request) e ∙ at in
      let alone : Swapped old (Call session request) session act new =
      call_alone old mid new session act request (ap (has_unheard old) e ∙ waits) is at' in
      subst (λ n. Swapped old (Call n request) session act new) e alone
  | inr apart ↦ commute old mid new session act (Call other request) (acted old mid session act is)
      (saw_call (slice_get mid.clients other) mid new other request refl at) apart
]
swap old mid new session act (Return other seen) is at waits =
    let a = acted old mid session act is in
    commute old mid new session act (Return other seen) a
    (saw_return (slice_get mid.clients other) mid new other seen refl at).0
    (answered_apart old mid session other act a waits)
swap old mid new session Act.Statement (Lost other) is at waits = elim (same_number session other) [
  | inl e ↦
      let at' : lost (slice_get mid.clients session) mid session ≡ Some new =
      ap (λ n. lost (slice_get mid.clients n) mid n) e ∙ at in
      let alone : Swapped old (Lost session) session Act.Statement new =
      lost_alone (slice_get old.clients session) old mid new session refl is
      (saw_lost (slice_get mid.clients session) mid new session refl at') at' in
      subst (λ n. Swapped old (Lost n) session Act.Statement new) e alone
  | inr apart ↦ commute old mid new session Act.Statement (Lost other) (acted old mid session Act.Statement is)
      (saw_lost (slice_get mid.clients other) mid new other refl at) apart
]
swap old mid new session Act.Disconnect (Lost other) is at waits = elim (same_number session other) [
  | inl e ↦
      let at' : lost (slice_get mid.clients session) mid session ≡ Some new =
      ap (λ n. lost (slice_get mid.clients n) mid n) e ∙ at in
      absurd (left_alone (slice_get old.clients session) old mid new session refl is at')
  | inr apart ↦ commute old mid new session Act.Disconnect (Lost other) (acted old mid session Act.Disconnect is)
      (saw_lost (slice_get mid.clients other) mid new other refl at) apart
]
swap old mid new session act (Unknown other) is at waits = absurd waits

-- an event that needs no act before it (`CanWait`) needs none after an act has taken effect
still_waits : (old mid : Config) (session : ℕ) (act : Act) (event : Event) → effect_of old session act ≡ Some mid
    → CanWait old event → CanWait mid event
still_waits old mid session act (Call other request) is waits =
    let a = acted old mid session act is in
    elim (same_number session other) [
      | inl e ↦
          ap unheard_so (ap (λ (c : Config). slice_get c.clients other) a.is
          ∙ ap (slice_get (set old.clients session a.next)) (sym e)
          ∙ get_written old.clients session a.before a.next a.found)
          ∙ a.heard
      | inr apart ↦ ap unheard_so (ap (λ (c : Config). slice_get c.clients other) a.is
          ∙ get_apart old.clients session other a.next apart) ∙ waits
    ]
still_waits old mid session act (Return other seen) is waits =
    let a = acted old mid session act is in
    ap answered_so (ap (λ (c : Config). slice_get c.clients other) a.is
    ∙ get_apart old.clients session other a.next (answered_apart old mid session other act a waits)) ∙ waits
still_waits old mid session act (Lost other) is waits = tt
still_waits old mid session act (Unknown other) is waits = absurd waits

-- from `old` the event is seen first, and then moves lead through the events `more` to `new`
pub record First (old : Config) (event : Event) (more : List Event) (new : Config) : Type 0 where
  pub first : Config
  pub sees : observed old event ≡ Some first
  pub moves : List Move
  pub runs : LeadsThrough first more moves new

-- an event that needs no act before it (`CanWait`) may be seen first, and the acts before it come later
pub later : (old new : Config) (event : Event) (more : List Event) (moves : List Move) → CanWait old event
    → LeadsThrough old (event ∷ more) moves new
    → First old event more new
later old new event more (Move.Event ∷ moves) waits runs =
    record { first = runs.0; sees = runs.1; moves = moves; runs = runs.2 }
later old new event more (Move.Effect session act ∷ moves) waits runs =
    let rest = later runs.0 new event more moves (still_waits old runs.0 session act event runs.2 waits) runs.3 in
    let s = swap old runs.0 rest.first session act event runs.2 rest.sees waits in
    record {
      first = s.0;
      sees = s.1;
      moves = Move.Effect session act
          ∷ rest.moves;
      runs = (rest.first, runs.1, s.2, rest.runs);
    }
later old new event more [] waits runs = absurd runs

-- if a return was seen, its session had an answer
pub return_answered : (old new : Config) (session : ℕ) (seen : Seen) → observed old (Return session seen) ≡ Some new
    → call_is_answered old session ≡ true
unfolding observed
return_answered old new session seen at = (saw_return (slice_get old.clients session) old new session seen refl at).1
