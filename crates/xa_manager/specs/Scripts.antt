-- The lines that a script of `stops` may have, and what its text leaves in a writer. All of it is an own rule:
-- docs/COORDINATOR.md#stops.
use Rattle.std.specs.{Prelude.{◌≡◌, ℕ, Option, List}, Io.KnownBytes.{Keeps, Appends}}
use Rattle.xa_lines.specs.{Transcript.AppendsPrefix, declared.script_fault.ScriptFault.ScriptFault}
use Rattle.xa_lines.specs.declared.script_fault.ScriptFault.TheVariants.{Write, NoMemory, Full, GateShut, ThreadRefused}
use Rattle.xa_manager.specs.declared.call.Call.{Call}

-- in a script whose stops are shown, FAIL, STOP, RECOVER and SHOW aren't read; every other call is taken as it is
abbrev pub taken : Call → Call
taken (Call.Fail store calls) = Call.Unread 0
taken Call.Stop = Call.Unread 0
taken Call.Recover = Call.Unread 0
taken Call.Show = Call.Unread 0
taken call = call

-- any text: what it says of the script isn't proved (docs/PROOF.md#known-gaps)
abbrev pub IsAnyText : List ℕ → List ℕ → Type 0
IsAnyText script text = Unit {0}

-- the writer got a whole text
abbrev pub AppendsText : Option (List ℕ) → Option (List ℕ) → Type 0
AppendsText old new = (text : List ℕ) × Appends old new text

-- once a script is read, making its text fails only for want of memory
abbrev pub IsFaultOfStops : List ℕ → ScriptFault → Type 0
IsFaultOfStops script fault = fault ≡ NoMemory

-- what the writer got before a fault: a prefix of a text if a write failed, else nothing. No fault of a race comes:
-- `Full`, `GateShut` or `ThreadRefused`
abbrev pub AfterStopsFault : ScriptFault → Option (List ℕ) → Option (List ℕ) → Type 0
AfterStopsFault Write old new = (text : List ℕ) × AppendsPrefix old new text
AfterStopsFault Full old new = ⊥
AfterStopsFault GateShut old new = ⊥
AfterStopsFault ThreadRefused old new = ⊥
AfterStopsFault fault old new = Keeps old new
