-- A transaction manager: how it begins, and what a call does to it.
use Rattle.std.specs.{Prelude.{◌≡◌, ◌⊎◌, Some, []}, List.AllZip}
use Rattle.decision_log.specs.Known.{newcomer}
use Rattle.xa_server.specs.State.{no_state}
use Rattle.xa_session.specs.View.{SessionView}
use Rattle.xa_coordinator.specs.{Fusing.limited, declared.fused.Fused.Fused}
use Rattle.xa_manager.specs.{declared.{call.Call.Call, response.Response.Response}, Carried.{WholeManager, Carries}}
use Rattle.xa_manager.specs.{Limits.StartsAnew, Refusals.refusal_of}

-- sessions 1 and 2 of one store, which held nothing at first; neither has seen anything yet
pub record IsPair (first second : SessionView) : Type 0 where
  pub log : second.identity ≡ first.identity
  pub first_base : first.base ≡ no_state
  pub second_base : second.base ≡ no_state
  pub first_known : first.known ≡ newcomer 1
  pub second_known : second.known ≡ newcomer 2

-- no transaction was begun, nothing is open, each of the coordinator's sessions passes on 2^64 - 1 calls, and its
-- session in each store and the other client's are a pair
pub record ManagerBegins {S T : Type 0} (view : S → SessionView) (view' : T → SessionView)
    (manager : WholeManager (Fused S) T) : Type 0 where
  pub decisions : manager.decisions ≡ []
  pub stages : manager.stages ≡ []
  pub anew : StartsAnew manager.branches manager.sessions
  pub pairs : AllZip (λ session other. IsPair (view session.inner) (view' other)) manager.sessions manager.other_clients

-- a call was refused by the table (`refusal_of`); no session got a statement, and nothing changed
pub record IsRefused {C T : Type 0} (old : WholeManager C T) (call : Call) (response : Response)
    (new : WholeManager C T) : Type 0 where
  pub told : refusal_of old.stores old.stages call ≡ Some response
  pub stands : new ≡ old

-- a call was refused as the table says, or was carried out; sessions are seen with their limits
abbrev pub Performs : {S T : Type 0} → (S → SessionView) → (T → SessionView) → WholeManager (Fused S) T → Call
    → Response → WholeManager (Fused S) T → Type 0
Performs view view' old call response new =
    IsRefused old call response new ⊎ Carries (limited view) view' old call response new
