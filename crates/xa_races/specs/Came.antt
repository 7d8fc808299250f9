-- What is written for several races of a script, which are counted.
-- Every rule here is the project's own: docs/COMMANDS.md#race-statistics.
use Rattle.std.specs.Prelude.{◌≡◌, ℕ, Bool, false, Option, List, [], ◌∷◌, IfSome}
use Rattle.std.specs.Io.KnownBytes.{Keeps, Appends}
use Rattle.xa_lines.specs.{Transcript.AppendsPrefix, declared.script_fault.ScriptFault.ScriptFault}
use Rattle.xa_lines.specs.declared.script_fault.ScriptFault.TheVariants.{Write, NoMemory, Full, GateShut, ThreadRefused}
use Rattle.xa_orders.specs.{declared.ended.Ended.Ended, Scripts.script_read}

-- if lines are faulty, the text is that of the faulty lines, and races end with `Faulty`; if none is, they end with
-- `Done`, and of the text nothing is said
abbrev pub IsRunsTold : List ℕ → Ended → List ℕ → Type 0
IsRunsTold [] ended text = ended ≡ Ended.Done
IsRunsTold (byte ∷ faults) ended text = (ended ≡ Ended.Faulty) × (text ≡ byte ∷ faults)

-- what is written for races of a script, and how they end
abbrev pub IsRunsText : List ℕ → Ended → List ℕ → Type 0
IsRunsText script ended text = IsRunsTold (script_read script).faults ended text

-- the text is what is written for races of a script, however they end
abbrev pub IsSomeRunsText : List ℕ → List ℕ → Type 0
IsSomeRunsText script text = (ended : Ended) × IsRunsText script ended text

-- the writer got what is written for the script
abbrev pub AppendsRuns : Ended → List ℕ → Option (List ℕ) → Option (List ℕ) → Type 0
AppendsRuns ended script old new = (text : List ℕ) × IsRunsText script ended text × Appends old new text

-- the writer got a prefix of what is written for the script, however its runs end
abbrev pub AppendsRunsPrefix : List ℕ → Option (List ℕ) → Option (List ℕ) → Type 0
AppendsRunsPrefix script old new =
    (ended : Ended) × (text : List ℕ) × IsRunsText script ended text × AppendsPrefix old new text

-- no line of the script is faulty
abbrev pub IsWellRead : List ℕ → Type 0
IsWellRead script = (script_read script).faults ≡ []

-- a fault with which a race ends: no memory, a shut gate, no thread, or `Full` if races don't renew their stores
abbrev pub IsOfRace : Bool → ScriptFault → Type 0
IsOfRace renews NoMemory = Unit {0}
IsOfRace renews GateShut = Unit {0}
IsOfRace renews ThreadRefused = Unit {0}
IsOfRace renews Full = renews ≡ false
IsOfRace renews fault = ⊥

-- a fault before anything is written: no memory; or, only if no line is faulty, a fault with which a race ends
abbrev pub IsOfRuns : Bool → List ℕ → ScriptFault → Type 0
IsOfRuns renews script NoMemory = Unit {0}
IsOfRuns renews script fault = IsOfRace renews fault × IsWellRead script

-- what a fault leaves in the writer: a prefix of the text if a write failed, else nothing. After `GateShut`,
-- `ThreadRefused` and `Full` no line is faulty, and after `Full` races don't renew their stores
abbrev pub AfterRunsFault : Bool → ScriptFault → Option (List ℕ) → Option (List ℕ) → Option (List ℕ) → Type 0
AfterRunsFault renews Write input old new = IfSome input (λ script. AppendsRunsPrefix script old new)
AfterRunsFault renews GateShut input old new = Keeps old new × IfSome input IsWellRead
AfterRunsFault renews ThreadRefused input old new = Keeps old new × IfSome input IsWellRead
AfterRunsFault renews Full input old new = Keeps old new × (renews ≡ false) × IfSome input IsWellRead
AfterRunsFault renews fault input old new = Keeps old new
