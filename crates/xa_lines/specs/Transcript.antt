-- What a script's run writes.
--     answer_to, state_then    what is written for a session's statement, read or not;  the state after it
--     AppendsPrefix, AfterFault      what a fault leaves in the writer
--     StopsAnswering, StopsRun       why the writing of answers, and a run, ended early
use Rattle.std.specs.Prelude.{◌≡◌, ◌⊎◌, ℕ, ◌<◌, Option, List, [], ◌∷◌, ◌++◌, length, take, codes, decimal, IfSome}
use Rattle.std.specs.{Prelude.{Result, Ok, Err}, Io.KnownBytes.{Keeps, Appends, Consumes}}
use Rattle.xa_xid.specs.declared.statement.Statement.{Statement}
use Rattle.xa_server.specs.{State.{State, no_state}, Replies.reply_to, Step.after}
use Rattle.xa_lines.specs.declared.script_fault.ScriptFault.{ScriptFault, TheVariants.{Read, TooLong, Write, NoMemory}}
use Rattle.xa_lines.specs.declared.script_fault.ScriptFault.TheVariants.{Full, GateShut, ThreadRefused}
use Rattle.xa_lines.specs.Calls.{HasReadAll, StopsReading, IsWrittenBut, StopsWriting}
use Rattle.xa_lines.specs.{Limits.{script_bytes, script_reads}, Script.{Line, Blank, Bad, Given, line_of, lines_of}}
use Rattle.xa_lines.specs.Printed.{reply_text, syntax_text, converts, answer_text}
use Rattle.xa_statement.specs.Reading.{read_of}

-- what is written for a session's statement, read or not; that `read_of` reads by the grammar is
-- `xa_statement::laws::reading_is_the_grammar`
abbrev pub answer_to : State → ℕ → Result Statement ℕ → List ℕ
answer_to state session (Ok statement) =
    answer_text (decimal session) (reply_text (converts statement) (reply_to state session statement))
answer_to state session (Err place) = answer_text (decimal session) (syntax_text place)

-- the state after a session's statement; one that isn't read changes nothing
abbrev pub state_then : State → ℕ → Result Statement ℕ → State
state_then state session (Ok statement) = after state session statement
state_then state session (Err place) = state

-- what is written for a line; a bad one names no session
unfoldable pub answer_of : State → Line → List ℕ
-- what is written for a line
answer_of state Blank = []
answer_of state Bad = answer_text (codes "-") (syntax_text 0)
answer_of state (Given session text) = answer_to state session (read_of text)

-- the state after a line
unfoldable pub state_after_line : State → Line → State
state_after_line state Blank = state
state_after_line state Bad = state
state_after_line state (Given session text) = state_then state session (read_of text)

-- what is written for these lines, one after another
unfoldable pub run_text : State → List (List ℕ) → List ℕ
-- what is written for all lines
run_text state [] = []
run_text state (line ∷ lines) = answer_of state (line_of line) ++ run_text (state_after_line state (line_of line)) lines

-- what is written for a script, by a server that holds nothing at first
abbrev pub transcript : List ℕ → List ℕ
transcript script = run_text no_state (lines_of script)

-- the writer got the first n of these bytes, for some n
abbrev pub AppendsPrefix : Option (List ℕ) → Option (List ℕ) → List ℕ → Type 0
AppendsPrefix old new bytes = (n : ℕ) × Appends old new (take n bytes)

-- the reader gave more bytes than this
abbrev pub ConsumesMoreThan : ℕ → Option (List ℕ) → Option (List ℕ) → Type 0
ConsumesMoreThan limit old new = (bytes : List ℕ) × Consumes old new bytes × (limit < length bytes)

-- a fault by which a script isn't read
abbrev pub IsOfReading : ScriptFault → Type 0
IsOfReading fault = (fault ≡ Read) ⊎ (fault ≡ TooLong) ⊎ (fault ≡ NoMemory)

-- a fault by which a script's run ends
abbrev pub IsOfRun : ScriptFault → Type 0
IsOfRun fault = (fault ≡ Write) ⊎ (fault ≡ NoMemory)

-- what a fault leaves in the writer: nothing after a read fault or a script that is too long; after a write fault, or
-- where memory gave out, a prefix of the script's transcript; a run has no fault of a race
abbrev pub AfterFault : ScriptFault → Option (List ℕ) → Option (List ℕ) → Option (List ℕ) → Type 0
AfterFault Read input old new = Keeps old new
AfterFault TooLong input old new = Keeps old new
AfterFault Write input old new = IfSome input (λ script. AppendsPrefix old new (transcript script))
AfterFault NoMemory input old new = IfSome input (λ script. AppendsPrefix old new (transcript script))
AfterFault Full input old new = ⊥
AfterFault GateShut input old new = ⊥
AfterFault ThreadRefused input old new = ⊥

-- why not all answers were written: a write failed; or memory was refused, and no write had failed
abbrev pub StopsAnswering : {W : Type 0} → (W → List ℕ → W → Type 0) → (W → W → Type 0) → ScriptFault → W → List ℕ → W
    → Type 0
StopsAnswering takes refuses Read old whole new = ⊥
StopsAnswering takes refuses TooLong old whole new = ⊥
StopsAnswering takes refuses Write old whole new = StopsWriting takes refuses old whole new
StopsAnswering takes refuses NoMemory old whole new = (left : List ℕ) × IsWrittenBut takes old whole left new
StopsAnswering takes refuses Full old whole new = ⊥
StopsAnswering takes refuses GateShut old whole new = ⊥
StopsAnswering takes refuses ThreadRefused old whole new = ⊥

-- why a run ended early: the script wasn't read, and the writer not called; or it was, and not all answers were written
abbrev pub StopsRun : {R W : Type 0} → (R → List ℕ → R → Type 0) → (R → R → Type 0) → (W → List ℕ → W → Type 0)
    → (W → W → Type 0) → ScriptFault → (old new : R)
    → (before after : W) → Type 0
StopsRun gives fails takes refuses fault old new before after =
    (StopsReading gives fails script_reads script_bytes fault old new × (after ≡ before))
    ⊎ ((script : List ℕ) × HasReadAll gives script_reads old script new
    × StopsAnswering takes refuses fault before (transcript script) after)

-- the writer got all of the whole but for what is left
pub record IsWrittenUpTo (old new : Option (List ℕ)) (whole left : List ℕ) : Type 0 where
  pub written : List ℕ
  pub appended : Appends old new written
  pub parts : whole ≡ written ++ left
