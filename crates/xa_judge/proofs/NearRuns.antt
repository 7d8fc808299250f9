-- Moves that lead on from a configuration lead on from one on a near state, and to near ones.
--     near_effect, near_event     where an effect, an event can be in one it can be in the other
use Rattle.std.proofs.Common.{◌≡◌, ℕ, Bool, cond, Option, Some, None, List, [], ◌∷◌, replicate, set, zero, suc, refl}
use Rattle.std.proofs.{Common.{ap, sym, ◌∙◌, subst, arith}, lemmas.Option.{none-some, same_Some, cond_some}}
use Rattle.std.{proofs.lemmas.List.Elements.recursion_from_All, specs.{Prelude.slice_get, List.{All, AllByRecursion}}}
use Rattle.xa_xid.specs.declared.statement.Statement.TheVariants.{Disconnect as DisconnectGiven}
use Rattle.xa_server.specs.{State.State, Step.after}
use Rattle.xa_judge.specs.declared.{request.Request.Request, event.{Seen.Seen, Event.Event}}
use Rattle.xa_judge.specs.declared.event.Event.TheVariants.{Call, Return, Lost, Unknown}
use Rattle.xa_judge.specs.declared.{client_state.ClientState.ClientState, moves.{Act.Act, Move.Move}}
use Rattle.xa_judge.specs.declared.client_state.ClientState.TheVariants.{Idle, Called, Answered, Gone, Left}
use Rattle.xa_judge.specs.Explained.{Config, opening_config, with_client, effect_of, carried_out, disconnected}
use Rattle.xa_judge.specs.Explained.{observed, called, returned, lost, answered_unknown, shows_answer, answer_to}
use Rattle.xa_judge.specs.{Explained.{next_state, LeadsThrough}, Near.{AreNear, ReadsNamed, CallsNamed}}
use Rattle.xa_judge.{specs.Keys.session_of, proofs.NearStates.{near_answer, near_next, near_after}}
use Rattle.xa_judge.proofs.Places.{get_written, get_apart}

-- the session's open request reads only named rows, if it has one; its client may be gone
abbrev pub WaitsNamed : (List ℕ → Bool) → ClientState → Type 0
WaitsNamed named (Called request) = ReadsNamed named request
WaitsNamed named (Gone (Some request)) = ReadsNamed named request
WaitsNamed named client = Unit {0}

-- configurations on near states whose sessions have the same clients, and in which each open request reads only
-- named rows (`WaitsNamed`)
pub record AreNearConfigs (named : List ℕ → Bool) (left right : Config) : Type 0 where
  pub clients : left.clients ≡ right.clients
  pub states : AreNear named left.state right.state
  pub waits : (session : ℕ) (client : ClientState) → slice_get left.clients session ≡ Some client
      → WaitsNamed named client

-- the effect can be from the right configuration, too, and leads there to one near `mid`
abbrev EffectToo : (List ℕ → Bool) → Config → Config → ℕ → Act → Type 0
EffectToo named right mid session act =
    (other : Config) × (effect_of right session act ≡ Some other) × AreNearConfigs named mid other

-- the event can be seen from the right configuration, too, and leads there to one near `mid`
abbrev SeenToo : (List ℕ → Bool) → Config → Config → Event → Type 0
SeenToo named right mid event = (other : Config) × (observed right event ≡ Some other) × AreNearConfigs named mid other

-- in near configurations a session has the same client
same_client : (named : List ℕ → Bool) (left right : Config) (session : ℕ) (o : Option ClientState)
    → AreNearConfigs named left right
    → slice_get left.clients session ≡ o → slice_get right.clients session ≡ o
same_client named left right session o near found = ap (λ l. slice_get l session) (sym near.clients) ∙ found

-- once one client is replaced by one whose open request reads only named rows, every open request still does
waits_set : (named : List ℕ → Bool) (clients : List ClientState) (session : ℕ) (before next : ClientState)
    → slice_get clients session ≡ Some before
    → WaitsNamed named next
    → ((session : ℕ) (client : ClientState) → slice_get clients session ≡ Some client → WaitsNamed named client)
    → (other : ℕ) (client : ClientState) → slice_get (set clients session next) other ≡ Some client
    → WaitsNamed named client
waits_set named clients session before next found reads waits other client at = grind (arith, get_apart, get_written)

-- two near configurations stay near once one session's client is replaced by the same one in both, whose open request
-- reads only named rows, and the states by near ones
changed : (named : List ℕ → Bool) (left right : Config) (session : ℕ) (before next same : ClientState)
    (state beside : State)
    → AreNearConfigs named left right
    → slice_get left.clients session ≡ Some before
    → next ≡ same
    → AreNear named state beside
    → WaitsNamed named next
    → AreNearConfigs named (record { state = state; clients = set left.clients session next })
    (record { state = beside; clients = set right.clients session same })
changed named left right session before next same state beside near found e states reads = grind (arith, waits_set)

-- what a session called for can take effect from a near configuration, too; `o` is the session's client
near_statement : (named : List ℕ → Bool) (o : Option ClientState) (left right mid : Config) (session : ℕ)
    → AreNearConfigs named left right
    → slice_get left.clients session ≡ o
    → carried_out o left session ≡ Some mid
    → EffectToo named right mid session Act.Statement
unfolding effect_of carried_out
near_statement named None left right mid session near found is = absurd (none-some mid is)
near_statement named (Some Idle) left right mid session near found is = absurd (none-some mid is)
near_statement named (Some (Called request)) left right mid session near found is =
    let answer = Answered (answer_to left.state session request) in
    let same = Answered (answer_to right.state session request) in
    let e : answer ≡ same = ap Answered (near_answer named left.state right.state session request near.states
    (near.waits session (Called request) found)) in
    let next = changed named left right session (Called request) answer same (next_state left.state session request)
    (next_state right.state session request)
    near found e (near_next named left.state right.state session request near.states) tt in (
      record { state = next_state right.state session request; clients = set right.clients session same },
      ap (λ o. carried_out o right session) (same_client named left right session (Some (Called request)) near found),
      subst (λ c. AreNearConfigs named c
          (record { state = next_state right.state session request; clients = set right.clients session same }))
          (same_Some _ mid is) next,
    )
near_statement named (Some (Answered answer)) left right mid session near found is = absurd (none-some mid is)
near_statement named (Some (Gone None)) left right mid session near found is = absurd (none-some mid is)
near_statement named (Some (Gone (Some request))) left right mid session near found is =
    let next = changed named left right session (Gone (Some request)) (Gone None) (Gone None)
    (next_state left.state session request)
    (next_state right.state session request) near found refl
    (near_next named left.state right.state session request near.states) tt in (
      record { state = next_state right.state session request; clients = set right.clients session (Gone None) },
      ap (λ o. carried_out o right session) (same_client named left right session
          (Some (Gone (Some request))) near found),
      subst (λ c. AreNearConfigs named c
          (record { state = next_state right.state session request; clients = set right.clients session (Gone None) }))
          (same_Some _ mid is) next,
    )
near_statement named (Some Left) left right mid session near found is = absurd (none-some mid is)

-- from a near configuration the DISCONNECT of a lost client can take effect, too; `o` is the session's client
near_disconnect : (named : List ℕ → Bool) (o : Option ClientState) (left right mid : Config) (session : ℕ)
    → AreNearConfigs named left right
    → slice_get left.clients session ≡ o
    → disconnected o left session ≡ Some mid
    → EffectToo named right mid session Act.Disconnect
unfolding effect_of disconnected
near_disconnect named None left right mid session near found is = absurd (none-some mid is)
near_disconnect named (Some Idle) left right mid session near found is = absurd (none-some mid is)
near_disconnect named (Some (Called request)) left right mid session near found is = absurd (none-some mid is)
near_disconnect named (Some (Answered answer)) left right mid session near found is = absurd (none-some mid is)
near_disconnect named (Some (Gone request)) left right mid session near found is =
    let next = changed named left right session (Gone request) Left Left (after left.state session DisconnectGiven)
    (after right.state session DisconnectGiven)
    near found refl (near_after named left.state right.state session DisconnectGiven near.states) tt in (
      record { state = after right.state session DisconnectGiven; clients = set right.clients session Left },
      ap (λ o. disconnected o right session) (same_client named left right session (Some (Gone request)) near found),
      subst (λ c. AreNearConfigs named c
          (record { state = after right.state session DisconnectGiven; clients = set right.clients session Left }))
          (same_Some _ mid is) next,
    )
near_disconnect named (Some Left) left right mid session near found is = absurd (none-some mid is)

-- an effect that can be from one of two near configurations can be from the other, and leads to near ones
pub near_effect : (named : List ℕ → Bool) (left right mid : Config) (session : ℕ) (act : Act)
    → AreNearConfigs named left right
    → effect_of left session act ≡ Some mid
    → (other : Config) × (effect_of right session act ≡ Some other) × AreNearConfigs named mid other
unfolding effect_of
near_effect named left right mid session Act.Statement near is =
    near_statement named (slice_get left.clients session) left right mid session near refl is
near_effect named left right mid session Act.Disconnect near is =
    near_disconnect named (slice_get left.clients session) left right mid session near refl is

-- an event that makes the same of its session's client in two near configurations leads to near ones, if that
-- client's open request reads only named rows
seen_too : (named : List ℕ → Bool) (left right mid : Config) (event : Event) (before next : ClientState)
    → AreNearConfigs named left right
    → slice_get left.clients (session_of event) ≡ Some before
    → with_client left (session_of event) next ≡ mid
    → WaitsNamed named next
    → observed right event ≡ Some (with_client right (session_of event) next)
    → SeenToo named right mid event
seen_too named left right mid event before next near found is reads at = (
  with_client right (session_of event) next,
  at,
  subst (λ c. AreNearConfigs named c (with_client right (session_of event) next)) is
      (changed named left right (session_of event) before next next left.state right.state near found refl near.states
      reads),
)

-- a call for what reads only named rows can be seen from a near configuration, too; `o` is the session's client
near_call : (named : List ℕ → Bool) (o : Option ClientState) (left right mid : Config) (session : ℕ) (request : Request)
    → AreNearConfigs named left right
    → ReadsNamed named request
    → slice_get left.clients session ≡ o
    → called o left session request ≡ Some mid
    → SeenToo named right mid (Call session request)
unfolding observed called
near_call named None left right mid session request near reads found is = absurd (none-some mid is)
near_call named (Some Idle) left right mid session request near reads found is =
    seen_too named left right mid (Call session request) Idle (Called request) near found (same_Some _ mid is) reads
    (ap (λ o. called o right session request) (same_client named left right session (Some Idle) near found))
near_call named (Some (Called other)) left right mid session request near reads found is = absurd (none-some mid is)
near_call named (Some (Answered answer)) left right mid session request near reads found is = absurd (none-some mid is)
near_call named (Some (Gone None)) left right mid session request near reads found is =
    seen_too named left right mid (Call session request) (Gone None) (Gone (Some request)) near found
    (same_Some _ mid is) reads
    (ap (λ o. called o right session request) (same_client named left right session (Some (Gone None)) near found))
near_call named (Some (Gone (Some other))) left right mid session request near reads found is =
    absurd (none-some mid is)
near_call named (Some Left) left right mid session request near reads found is =
    seen_too named left right mid (Call session request) Left Left near found (same_Some _ mid is) tt
    (ap (λ o. called o right session request) (same_client named left right session (Some Left) near found))

-- a return can be seen from a near configuration, too; `o` is the session's client
near_return : (named : List ℕ → Bool) (o : Option ClientState) (left right mid : Config) (session : ℕ) (seen : Seen)
    → AreNearConfigs named left right
    → slice_get left.clients session ≡ o
    → returned o left session seen ≡ Some mid
    → SeenToo named right mid (Return session seen)
unfolding observed returned
near_return named None left right mid session seen near found is = absurd (none-some mid is)
near_return named (Some Idle) left right mid session seen near found is = absurd (none-some mid is)
near_return named (Some (Called request)) left right mid session seen near found is = absurd (none-some mid is)
near_return named (Some (Answered answer)) left right mid session seen near found is =
    let agreed = cond_some (shows_answer seen answer) (with_client left session Idle) mid is in
    seen_too named left right mid (Return session seen) (Answered answer) Idle near found agreed.1 tt
    (ap (λ o. returned o right session seen) (same_client named left right session (Some (Answered answer)) near found)
    ∙ ap (λ b. cond b (Some (with_client right session Idle)) None) agreed.0)
near_return named (Some (Gone request)) left right mid session seen near found is = absurd (none-some mid is)
near_return named (Some Left) left right mid session seen near found is = absurd (none-some mid is)

-- the loss of a client can be seen from a near configuration, too; `o` is the session's client
near_lost : (named : List ℕ → Bool) (o : Option ClientState) (left right mid : Config) (session : ℕ)
    → AreNearConfigs named left right
    → slice_get left.clients session ≡ o
    → lost o left session ≡ Some mid
    → SeenToo named right mid (Lost session)
unfolding observed lost
near_lost named None left right mid session near found is = absurd (none-some mid is)
near_lost named (Some Idle) left right mid session near found is =
    seen_too named left right mid (Lost session) Idle (Gone None) near found (same_Some _ mid is) tt
    (ap (λ o. lost o right session) (same_client named left right session (Some Idle) near found))
near_lost named (Some (Called request)) left right mid session near found is =
    seen_too named left right mid (Lost session) (Called request) (Gone (Some request)) near found (same_Some _ mid is)
    (near.waits session (Called request) found)
    (ap (λ o. lost o right session) (same_client named left right session (Some (Called request)) near found))
near_lost named (Some (Answered answer)) left right mid session near found is =
    seen_too named left right mid (Lost session) (Answered answer) (Gone None) near found (same_Some _ mid is) tt
    (ap (λ o. lost o right session) (same_client named left right session (Some (Answered answer)) near found))
near_lost named (Some (Gone request)) left right mid session near found is = absurd (none-some mid is)
near_lost named (Some Left) left right mid session near found is = absurd (none-some mid is)

-- an unknown answer can be seen from a near configuration, too; `o` is the session's client
near_unknown : (named : List ℕ → Bool) (o : Option ClientState) (left right mid : Config) (session : ℕ)
    → AreNearConfigs named left right
    → slice_get left.clients session ≡ o
    → answered_unknown o left session ≡ Some mid
    → SeenToo named right mid (Unknown session)
unfolding observed answered_unknown
near_unknown named None left right mid session near found is = absurd (none-some mid is)
near_unknown named (Some Idle) left right mid session near found is = absurd (none-some mid is)
near_unknown named (Some (Called request)) left right mid session near found is =
    seen_too named left right mid (Unknown session) (Called request) Idle near found (same_Some _ mid is) tt
    (ap (λ o. answered_unknown o right session) (same_client named left right session
    (Some (Called request)) near found))
near_unknown named (Some (Answered answer)) left right mid session near found is =
    seen_too named left right mid (Unknown session) (Answered answer) Idle near found (same_Some _ mid is) tt
    (ap (λ o. answered_unknown o right session) (same_client named left right session
    (Some (Answered answer)) near found))
near_unknown named (Some (Gone request)) left right mid session near found is = absurd (none-some mid is)
near_unknown named (Some Left) left right mid session near found is = absurd (none-some mid is)

-- an event that calls for nothing but what reads only named rows can be seen from a near configuration, too, and leads
-- to a near one
pub near_event : (named : List ℕ → Bool) (left right mid : Config) (event : Event) → AreNearConfigs named left right
    → CallsNamed named event
    → observed left event ≡ Some mid
    → (other : Config) × (observed right event ≡ Some other) × AreNearConfigs named mid other
unfolding observed
near_event named left right mid (Call session request) near reads is =
    near_call named (slice_get left.clients session) left right mid session request near reads refl is
near_event named left right mid (Return session seen) near reads is =
    near_return named (slice_get left.clients session) left right mid session seen near refl is
near_event named left right mid (Lost session) near reads is =
    near_lost named (slice_get left.clients session) left right mid session near refl is
near_event named left right mid (Unknown session) near reads is =
    near_unknown named (slice_get left.clients session) left right mid session near refl is

-- whatever moves lead to, from a near configuration they lead to a near one, if all calls read only named rows
run_too : (named : List ℕ → Bool) (events : List Event) (moves : List Move) (left right end : Config)
    → AreNearConfigs named left right
    → AllByRecursion (CallsNamed named) events
    → LeadsThrough left events moves end
    → (other : Config) × LeadsThrough right events moves other × AreNearConfigs named end other
run_too named events (Move.Effect session act ∷ moves) left right end near all runs =
    let one = near_effect named left right runs.0 session act near runs.2 in
    let rest = run_too named events moves runs.0 one.0 end one.2 all runs.3 in
    (rest.0, (one.0, runs.1, one.1, rest.1), rest.2)
run_too named [] (Move.Event ∷ moves) left right end near all runs = absurd runs
run_too named (event ∷ events) (Move.Event ∷ moves) left right end near all runs =
    let one = near_event named left right runs.0 event near all.0 runs.1 in
    let rest = run_too named events moves runs.0 one.0 end one.2 all.1 runs.2 in
    (rest.0, (one.0, one.1, rest.1), rest.2)
run_too named [] [] left right end near all runs =
    (right, refl, subst (λ c. AreNearConfigs named c right) (sym runs) near)
run_too named (event ∷ events) [] left right end near all runs = absurd runs

-- moves that lead on from one of two near configurations lead on from the other, to near ones, if all calls read only
-- named rows
pub near_run : (named : List ℕ → Bool) (events : List Event) (moves : List Move) (left right end : Config)
    → AreNearConfigs named left right
    → All (CallsNamed named) events
    → LeadsThrough left events moves end
    → (other : Config) × LeadsThrough right events moves other × AreNearConfigs named end other
near_run named events moves left right end near all runs =
    run_too named events moves left right end near (recursion_from_All (CallsNamed named) events all) runs

-- in a list that repeats one client, each place has that client
of_one : (n place : ℕ) (one client : ClientState) → slice_get (replicate n one) place ≡ Some client → one ≡ client
of_one zero place one client at = absurd (none-some client at)
of_one (suc n) zero one client at = same_Some one client at
of_one (suc n) (suc place) one client at = of_one n place one client at

-- before all events, configurations on near states are near
pub near_opening : (named : List ℕ → Bool) (left right : State) → AreNear named left right
    → AreNearConfigs named (opening_config left) (opening_config right)
unfolding opening_config
near_opening named left right near = grind (arith)
