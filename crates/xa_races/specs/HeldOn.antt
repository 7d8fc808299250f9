-- In which log or store, and with which gate, a race of a script is held.
--     EndsInLog, EndsEndless     a race was held, and ended with a fault
use Rattle.std.specs.{Prelude.{◌≡◌, ◌⊎◌, ℕ, Bool, Option, List, length, map}, List.All, Io.KnownBytes.Appends}
use Rattle.xa_xid.specs.declared.statement.Statement.{Statement}
use Rattle.xa_server.specs.State.{no_state}
use Rattle.xa_store.specs.{Passes.{log_of, known_of}, Legal.{LetsIn, Blames}, declared.run.Run.Run}
use Rattle.xa_store.specs.declared.{outcome.Outcome.Outcome, race_fault.RaceFault.RaceFault}
use Rattle.xa_lines.specs.{Script.lines_of, declared.script_fault.ScriptFault.ScriptFault}
use Rattle.xa_races.specs.{Race.{AreRuns, IsReadable}, Outcome.{IsHeld, AreLists, outcome_text, script_fault_of}}
use Rattle.xa_races.specs.{LongRace.{IsLongRace, BlamesRace}, declared.long_outcome.LongOutcome.LongOutcome}

-- the log to which the runs belong has room for this number of entries
abbrev pub HaveRoom : ℕ → List Run → Type 0
HaveRoom capacity runs = All (λ run. (log_of run.pass).capacity ≡ capacity) runs

-- the text of an outcome of a race of the script's runs, in a log with that room, with a gate that can let in
-- each of their statements
pub record IsHeldInLog (gate : ℕ → ℕ → Bool → Type 0) (capacity : ℕ) (lines : List (List ℕ))
    (text : List ℕ) : Type 0 where
  pub runs : List Run
  pub outcome : Outcome
  pub are_runs : AreRuns lines runs
  pub room : HaveRoom capacity runs
  pub opened : All (λ run. LetsIn gate (known_of run.pass).number (length run.lines.items)) runs
  pub held : IsHeld capacity runs outcome
  pub text_is : text ≡ outcome_text lines outcome.history.items (map (λ answers. answers.items) outcome.answers.items)

-- the text of the outcome of a race that was held at the gate, over a store without an end whose ring has so many slots
pub record IsHeldEndless (gate : ℕ → ℕ → Bool → Type 0) (rows : ℕ) (lines : List (List ℕ))
    (text : List ℕ) : Type 0 where
  pub lists : List (List Statement)
  pub are_lists : AreLists lines lists
  pub outcome : LongOutcome
  pub held : IsLongRace gate rows lists outcome
  pub text_is : text ≡ outcome_text lines outcome.history.items (map (λ answers. answers.items) outcome.answers.items)

-- a race of the script's runs, in a log with that room and at the gate, ended with this fault, which has its cause
pub record EndsInLog (gate : ℕ → ℕ → Bool → Type 0) (capacity : ℕ) (lines : List (List ℕ))
    (fault : ScriptFault) : Type 0 where
  pub runs : List Run
  pub raced : RaceFault
  pub are_runs : AreRuns lines runs
  pub room : HaveRoom capacity runs
  pub told : fault ≡ script_fault_of raced
  pub blamed : Blames gate no_state runs raced

-- a race of what the script's sessions give, over a store without an end and at the gate, ended with this fault, which
-- has its cause
pub record EndsEndless (gate : ℕ → ℕ → Bool → Type 0) (lines : List (List ℕ)) (fault : ScriptFault) : Type 0 where
  pub lists : List (List Statement)
  pub are_lists : AreLists lines lists
  pub raced : RaceFault
  pub told : fault ≡ script_fault_of raced
  pub blamed : BlamesRace gate lists raced

-- why holding a race failed: `NoMemory` may come from anywhere, each other fault comes from the race
abbrev pub IsCaused : (ScriptFault → Type 0) → ScriptFault → Type 0
IsCaused Ends fault = (fault ≡ ScriptFault.NoMemory) ⊎ Ends fault

-- if no line is faulty, the writer got a text of a race that was held as `IsHeldText` says
abbrev pub AppendsHeld : (List (List ℕ) → List ℕ → Type 0) → List ℕ → Option (List ℕ) → Option (List ℕ) → Type 0
AppendsHeld IsHeldText script old new = IsReadable script
    → (text : List ℕ) × IsHeldText (lines_of script) text × Appends old new text

-- why a script's race failed: a race ended with `Full`, `GateShut` or `ThreadRefused` as `Ends` says. Nothing is said
-- of the other faults: those of a stream aren't a race's, and memory may be missing anywhere
abbrev pub IsCausedIn : (List (List ℕ) → ScriptFault → Type 0) → List ℕ → ScriptFault → Type 0
IsCausedIn Ends script ScriptFault.Read = Unit {0}
IsCausedIn Ends script ScriptFault.TooLong = Unit {0}
IsCausedIn Ends script ScriptFault.Write = Unit {0}
IsCausedIn Ends script ScriptFault.NoMemory = Unit {0}
IsCausedIn Ends script ScriptFault.Full = Ends (lines_of script) ScriptFault.Full
IsCausedIn Ends script ScriptFault.GateShut = Ends (lines_of script) ScriptFault.GateShut
IsCausedIn Ends script ScriptFault.ThreadRefused = Ends (lines_of script) ScriptFault.ThreadRefused
