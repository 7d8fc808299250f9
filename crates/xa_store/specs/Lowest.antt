-- Which fault of a race is returned: that of the lowest session that has one.
use Rattle.std.specs.Prelude.{◌≡◌, ◌<◌, ◌≤◌, ◌==◌, ◌⊎◌, ℕ, Bool, not, List, length, slice_get, Some, Result, Ok, Err}
use Rattle.std.specs.Prelude.{vec_len}
use Rattle.xa_server.specs.State.{State}
use Rattle.decision_log.specs.declared.known.Known.{Known}
use Rattle.xa_session.specs.declared.answer.Answer.{Answer}
use Rattle.xa_store.specs.{Passes.known_of, Spread.HasAnswered, declared.first_fault.FirstFault.FirstFault}
use Rattle.xa_store.specs.declared.{race_fault.RaceFault.RaceFault, run.Run.Run}

-- whether the run has a statement
abbrev pub speaks : Run → Bool
speaks run = not (vec_len run.lines == 0)

-- the fault that is told is this one, of the session of this number
pub record IsOwn (number : ℕ) (fault : RaceFault) (told : FirstFault) : Type 0 where
  pub session : told.session ≡ number
  pub same : told.fault ≡ fault

-- memory ran out outside the tasks; the number is above those of all sessions
pub record IsOutside (told : FirstFault) : Type 0 where
  pub above : 16 < told.session
  pub memory : told.fault ≡ RaceFault.NoMemory

-- of two faults that of the lower session is returned
pub record IsLower (other : FirstFault) (number : ℕ) (fault : RaceFault) (told : FirstFault) : Type 0 where
  pub either : (told ≡ other) ⊎ IsOwn number fault told
  pub below_other : told.session ≤ other.session
  pub below_own : told.session ≤ number

-- the fault that is told when one more task, of this number, has ended after the others: that of the lowest session
-- that has one; if no task has one, NoMemory of outside the tasks. The others had told `other`, or no fault
abbrev pub Joins : {A B : Type 0} → Result A FirstFault → ℕ → Result B RaceFault → FirstFault → Type 0
Joins (Ok all) number (Ok gain) told = IsOutside told
Joins (Ok all) number (Err fault) told = IsOwn number fault told
Joins (Err other) number (Ok gain) told = told ≡ other
Joins (Err other) number (Err fault) told = IsLower other number fault told

-- the task of the told session stops with the told fault, or it got no thread; and the tasks of all lower sessions have
-- done their part
pub record IsOfLowest {Task Gain : Type 0} (number : Task → ℕ) (gains : Task → Gain → Type 0)
    (stops : Task → RaceFault → Type 0) (tasks : List Task)
    (told : FirstFault) : Type 0 where
  pub index : ℕ
  pub task : Task
  pub found : slice_get tasks index ≡ Some task
  pub number_is : told.session ≡ number task
  pub cause : (told.fault ≡ RaceFault.ThreadRefused) ⊎ stops task told.fault
  pub lower : (place : ℕ) (other : Task) → slice_get tasks place ≡ Some other → number other < told.session
      → (gain : Gain) × gains other gain

-- memory ran out outside the tasks, and all tasks have done their part
pub record IsOfNone {Task Gain : Type 0} (gains : Task → Gain → Type 0) (tasks : List Task)
    (told : FirstFault) : Type 0 where
  pub outside : IsOutside told
  pub all : (place : ℕ) (other : Task) → slice_get tasks place ≡ Some other → (gain : Gain) × gains other gain

-- the fault is that of the lowest session that has one; want of memory outside the tasks is told only if none has a
-- fault
abbrev pub IsTold : {Task Gain : Type 0} → (Task → ℕ) → (Task → Gain → Type 0) → (Task → RaceFault → Type 0) → List Task
    → FirstFault → Type 0
IsTold number gains stops tasks told = IsOfLowest number gains stops tasks told ⊎ IsOfNone gains tasks told

-- all statements of the run were answered
pub record IsRunThrough (gate : ℕ → ℕ → Bool → Type 0) (base : State) (run : Run) : Type 0 where
  pub known : Known
  pub answers : List Answer
  pub answered : HasAnswered gate base (known_of run.pass) known run.lines.items answers

-- all statements of the runs of sessions below this number were answered
abbrev pub AreRunThrough : (ℕ → ℕ → Bool → Type 0) → State → List Run → ℕ → Type 0
AreRunThrough gate base runs session =
    (place : ℕ) (run : Run) → slice_get runs place ≡ Some run → (known_of run.pass).number < session
    → IsRunThrough gate base run

-- GateShut and Full name the lowest session that has a fault: the runs of all lower ones were answered to their ends;
-- NoMemory says nothing; ThreadRefused comes only if there is a run
abbrev pub TellsLowest : (ℕ → ℕ → Bool → Type 0) → State → List Run → RaceFault → Type 0
TellsLowest gate base runs (RaceFault.GateShut session line) = AreRunThrough gate base runs session
TellsLowest gate base runs (RaceFault.Full session line) = AreRunThrough gate base runs session
TellsLowest gate base runs RaceFault.NoMemory = Unit {0}
TellsLowest gate base runs RaceFault.ThreadRefused = 0 < length runs
