-- What a job writes with `--json`: the objects of the lines that it writes without. All of it is an own rule.
--     AppendsObjects, AppendsObjectsPrefix    the writer got these objects;  or a prefix of them
use Rattle.std.specs.{Prelude.{ℕ, Option, Some, List, []}, Io.KnownBytes.{Keeps, Appends}}
use Rattle.xa_lines.specs.{Script.lines_of, Transcript.AppendsPrefix, declared.script_fault.ScriptFault.ScriptFault}
use Rattle.xa_lines.specs.{declared.script_fault.ScriptFault.TheVariants.Write, Objects.objects_of}

-- what a fault of writing a text leaves: a prefix of the text if a write failed, else nothing
abbrev pub AfterWriting : List ℕ → ScriptFault → Option (List ℕ) → Option (List ℕ) → Type 0
AfterWriting text Write old new = AppendsPrefix old new text
AfterWriting text fault old new = Keeps old new

-- the writer got the objects of the lines that a job writes to an empty output
abbrev pub AppendsObjects : (Option (List ℕ) → Option (List ℕ) → Type 0) → Option (List ℕ) → Option (List ℕ) → Type 0
AppendsObjects Writes old new = (text : List ℕ) × Writes (Some []) (Some text)
    × Appends old new (objects_of (lines_of text))

-- the writer got a prefix of the objects of the lines that a job writes to an empty output
abbrev pub AppendsObjectsPrefix : (Option (List ℕ) → Option (List ℕ) → Type 0) → Option (List ℕ) → Option (List ℕ)
    → Type 0
AppendsObjectsPrefix Writes old new = (text : List ℕ) × Writes (Some []) (Some text)
    × AppendsPrefix old new (objects_of (lines_of text))

-- what a fault of a job with `--json` leaves: a prefix of the objects if a write failed, else nothing
abbrev pub AfterObjects : (Option (List ℕ) → Option (List ℕ) → Type 0) → ScriptFault → Option (List ℕ)
    → Option (List ℕ) → Type 0
AfterObjects Writes Write old new = AppendsObjectsPrefix Writes old new
AfterObjects Writes fault old new = Keeps old new
