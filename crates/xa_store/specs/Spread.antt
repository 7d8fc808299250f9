-- Runs, sessions and answers, place by place.
use Rattle.std.specs.Prelude.{◌≡◌, ◌⊎◌, ℕ, Bool, List, length, slice_get, Some}
use Rattle.xa_xid.specs.declared.statement.Statement.{Statement}
use Rattle.xa_server.specs.State.{State}
use Rattle.decision_log.specs.{Known.LogIdentity, declared.known.Known.Known}
use Rattle.xa_session.specs.declared.answer.Answer.{Answer}
use Rattle.xa_store.specs.{Legal.{IsLegal, LetsIn}, declared.race_fault.RaceFault.RaceFault}
use Rattle.xa_store.specs.declared.race_fault.RaceFault.TheVariants.{NoMemory, ThreadRefused}

-- a session's answers are legal in what it has seen in the end, and the gate can have let it in at each statement
pub record HasAnswered (gate : ℕ → ℕ → Bool → Type 0) (base : State) (old new : Known) (statements : List Statement)
    (answers : List Answer) : Type 0 where
  pub number : new.number ≡ old.number
  pub legal : IsLegal base new.seen old statements answers
  pub opened : LetsIn gate old.number (length statements)

-- a session has run: base' and pass' are its base and pass afterwards, and its statements got these answers
pub record HasRun {Pass : Type 0} (belongs_to : Pass → LogIdentity) (known : Pass → Known)
    (gate : ℕ → ℕ → Bool → Type 0) (base : State) (pass : Pass)
    (statements : List Statement) (base' : State) (pass' : Pass) (answers : List Answer) : Type 0 where
  pub same_base : base' ≡ base
  pub same_log : belongs_to pass' ≡ belongs_to pass
  pub answered : HasAnswered gate base (known pass) (known pass') statements answers

-- some run stops with this fault
pub record HasStopped {Run : Type 0} (stops : Run → RaceFault → Type 0) (runs : List Run)
    (fault : RaceFault) : Type 0 where
  pub index : ℕ
  pub run : Run
  pub found : slice_get runs index ≡ Some run
  pub cause : stops run fault

-- the fault is NoMemory or ThreadRefused, or one of the runs stops with it
abbrev pub StopsSome : {Run : Type 0} → (Run → RaceFault → Type 0) → List Run → RaceFault → Type 0
StopsSome stops runs fault = (fault ≡ NoMemory) ⊎ (fault ≡ ThreadRefused) ⊎ HasStopped stops runs fault
