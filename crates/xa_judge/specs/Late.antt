-- The configurations that a judge has to keep, if acts take effect as late as they can.
-- Every rule here is the project's own: docs/HISTORIES.md#verdicts.
--     IsReady, IsKeptAfter     what stands directly before an event, and after it
use Rattle.std.specs.Prelude.{◌≡◌, ◌≢◌, ◌⊎◌, ℕ, zero, suc, Bool, true, false, Option, Some, None, List, slice_get}
use Rattle.std.specs.Prelude.{slice_set}
use Rattle.xa_server.specs.State.{State}
use Rattle.xa_judge.specs.declared.{request.Request.Request, event.Event.Event, client_state.ClientState.ClientState}
use Rattle.xa_judge.specs.declared.{client_state.ClientState.TheVariants.{Called, Answered, Gone}, moves.Act.Act}
use Rattle.xa_judge.specs.Explained.{Config, opening_config, effect_of, observed, IsSession, answer_to, next_state}

-- what a session whose client isn't gone has called for, if that has taken no effect yet
abbrev pub called_for : Option ClientState → Option Request
called_for (Some (Called request)) = Some request
called_for other = None

-- the configuration after the session's request: with the state after it, and its answer at the client. The same
-- configuration if there is no request
abbrev pub settled_by : Option Request → Config → ℕ → Config
settled_by None config session = config
settled_by (Some request) config session =
    record {
      state = next_state config.state session request;
      clients = slice_set config.clients session (Answered (answer_to config.state session request));
    }

-- the configuration after what the session has called for (`called_for`) takes effect; the same one if that is None
unfoldable pub after_settling : Config → ℕ → Config
-- the configuration after that takes effect
after_settling config session = settled_by (called_for (slice_get config.clients session)) config session

-- the session has an answer, and its call hasn't returned yet
abbrev pub answered_so : Option ClientState → Bool
answered_so (Some (Answered answer)) = true
answered_so other = false

-- the session's call was answered, and hasn't returned yet
abbrev pub call_is_answered : Config → ℕ → Bool
call_is_answered config session = answered_so (slice_get config.clients session)

-- an open call of a session whose client is gone may still take effect
abbrev pub unheard_so : Option ClientState → Bool
unheard_so (Some (Gone (Some request))) = true
unheard_so other = false

-- the session's client is gone, and its open call may still take effect
abbrev pub has_unheard : Config → ℕ → Bool
has_unheard config session = unheard_so (slice_get config.clients session)

-- there is a session that is to return, and it was answered
abbrev pub is_over : Option ℕ → Config → Bool
is_over None config = false
is_over (Some returning) config = call_is_answered config returning

-- an act leads from the first configuration to the other. It is of another session than the one that is to return,
-- which wasn't answered yet
pub record IsNextTo (returning : Option ℕ) (one config : Config) : Type 0 where
  pub session : ℕ
  pub act : Act
  pub is : IsSession session
  pub other : returning ≢ Some session
  pub unanswered : is_over returning one ≡ false
  pub leads : effect_of one session act ≡ Some config

-- any number of acts that count (`IsNextTo`) lead to the configuration from one that is kept
pub data IsReachedFrom (kept : Config → Type 0) (returning : Option ℕ) : Config → Type 0 where
  at_once : (config : Config) → kept config → IsReachedFrom kept returning config
  by_act : (one config : Config) → IsReachedFrom kept returning one → IsNextTo returning one config
      → IsReachedFrom kept returning config

-- in one that is kept the session's client is gone with an open call that may still take effect
abbrev pub IsAnyUnheard : (Config → Type 0) → ℕ → Type 0
IsAnyUnheard kept session = (one : Config) × kept one × (has_unheard one session ≡ true)

-- acts may have to take effect before the event: the call of a return or of an unknown answer, after calls of others;
-- and the earlier call of a session whose client is gone, before it calls again
abbrev pub Widens : (Config → Type 0) → Event → Type 0
Widens kept (Event.Call session request) = IsAnyUnheard kept session
Widens kept (Event.Return session seen) = Unit {0}
Widens kept (Event.Lost session) = ⊥
Widens kept (Event.Unknown session) = Unit {0}

-- the session that is to return; None at an event that is no return
abbrev pub returning_at : Event → Option ℕ
returning_at (Event.Call session request) = None
returning_at (Event.Return session seen) = Some session
returning_at (Event.Lost session) = None
returning_at (Event.Unknown session) = None

-- acts may have to take effect before the event, and those that count lead to this from what is kept
pub record IsCounted (kept : Config → Type 0) (event : Event) (config : Config) : Type 0 where
  pub widens : Widens kept event
  pub reached : IsReachedFrom kept (returning_at event) config

-- the configuration stands directly before the event: one that is kept, before a call or a lost client; what acts
-- that count lead to (`IsCounted`), before a call or an unknown answer. Before a return acts come first, and what its
-- session called for takes effect last
abbrev pub IsReady : (Config → Type 0) → Event → Config → Type 0
IsReady kept (Event.Call session request) config = kept config ⊎ IsCounted kept (Event.Call session request) config
IsReady kept (Event.Return session seen) config =
    (one : Config) × IsCounted kept (Event.Return session seen) one × (config ≡ after_settling one session)
IsReady kept (Event.Lost session) config = kept config
IsReady kept (Event.Unknown session) config = IsCounted kept (Event.Unknown session) config

-- the configuration is kept after the event, which leads to it from one that stands directly before (`IsReady`)
abbrev pub IsKeptAfter : (Config → Type 0) → Event → Config → Type 0
IsKeptAfter kept event config = (one : Config) × IsReady kept event one × (observed one event ≡ Some config)

-- the configuration is kept before the event at the place: the opening one before the first event, else what is kept
-- after the event before (`IsKeptAfter`)
abbrev pub IsKept : State → List Event → ℕ → Config → Type 0
IsKept base events zero config = config ≡ opening_config base
IsKept base events (suc place) config =
    (event : Event) × (slice_get events place ≡ Some event) × IsKeptAfter (IsKept base events place) event config
