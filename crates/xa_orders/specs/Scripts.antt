-- How a script to be explored is read, and what is written for it.
-- Every rule here is the project's own: docs/COMMANDS.md#explore.
--     Reading, script_read       what was read so far;  what is read of a script
use Rattle.std.specs.Prelude.{◌≡◌, ℕ, ◌+◌, Bool, ◌&&◌, if◌then◌else◌, Option, nat_eq, Result, Ok, Err, List, [], ◌∷◌}
use Rattle.std.specs.{Prelude.{◌++◌, length, codes, decimal, IfSome}, Cmp.Lexicographic.pointwise}
use Rattle.std.specs.Io.KnownBytes.{Keeps, Appends}
use Rattle.xa_xid.specs.{Bytes.unblank, declared.statement.Statement.Statement}
use Rattle.xa_statement.specs.Reading.{read_of}
use Rattle.xa_lines.specs.Script.{Line, Blank, Bad, Given, line_of, lines_of, first_word, behind_word, is_empty_line}
use Rattle.xa_lines.specs.{Script.is_comment_line, Printed.syntax_text, Transcript.AppendsPrefix}
use Rattle.xa_lines.specs.declared.script_fault.ScriptFault.{ScriptFault}
use Rattle.xa_lines.specs.declared.script_fault.ScriptFault.TheVariants.{Write, NoMemory, Full, GateShut, ThreadRefused}
use Rattle.xa_orders.specs.declared.{stage.Stage.Stage, ended.Ended.{Ended, TheVariants.{Done, Undecided, Faulty}}}
use Rattle.xa_orders.specs.{declared.outcome.Outcome.Outcome, Orders.{Told, Parts, base_of, IsExplored}, Found.IsWide}

-- what was read so far: the part that is being read, the lines of each, and what is written for the faulty ones
pub record Reading : Type 0 where
  pub stage : Stage
  pub before : List Told
  pub beside : List Told
  pub later : List Told
  pub faults : List ℕ

-- what is read before the first line: nothing. Until a line BESIDE or AFTER comes, lines are taken as side by side
abbrev pub nothing_read : Reading
nothing_read = record { stage = Stage.First; before = []; beside = []; later = []; faults = [] }

-- what is written for the faulty line of this number; the place is the byte of its statement at which reading fails,
-- and 0 if the line isn't a session's
abbrev pub fault_text : ℕ → ℕ → List ℕ
fault_text number place = codes "LINE " ++ decimal number ++ codes " " ++ syntax_text place ++ codes "\n"

-- what was read, with the text of one more faulty line: that of this number, at this place (`fault_text`)
abbrev pub blamed : Reading → ℕ → ℕ → Reading
blamed read number place = record read { faults = read.faults ++ fault_text number place }

-- a line BESIDE: the lines so far are carried out before those side by side. A second one, or one after AFTER, is
-- faulty
abbrev pub with_beside : Stage → Reading → ℕ → Reading
with_beside Stage.First read number = record read { stage = Stage.Beside; before = read.beside; beside = [] }
with_beside Stage.Beside read number = blamed read number 0
with_beside Stage.After read number = blamed read number 0

-- a line AFTER: the lines after it are carried out last. A second one is faulty
abbrev pub with_after : Stage → Reading → ℕ → Reading
with_after Stage.First read number = record read { stage = Stage.After }
with_after Stage.Beside read number = record read { stage = Stage.After }
with_after Stage.After read number = blamed read number 0

-- what was read, with a session's line added to the part of this stage: after AFTER the last one, else that side by
-- side
abbrev pub with_told : Stage → Reading → Told → Reading
with_told Stage.First read told = record read { beside = read.beside ++ told ∷ [] }
with_told Stage.Beside read told = record read { beside = read.beside ++ told ∷ [] }
with_told Stage.After read told = record read { later = read.later ++ told ∷ [] }

-- what was read, with this line, if its text is a statement; else with its fault
abbrev pub with_statement : Reading → ℕ → Told → Result Statement ℕ → Reading
with_statement read number told (Ok statement) = with_told read.stage read told
with_statement read number told (Err place) = blamed read number place

-- a line that is no comment and neither BESIDE nor AFTER: a blank one changes nothing, a bad one is faulty at byte 0
abbrev pub with_line : Reading → ℕ → Line → Reading
with_line read number Blank = read
with_line read number Bad = blamed read number 0
with_line read number (Given session text) =
    with_statement read number (record { session = session; text = text }) (read_of text)

-- the line has only this word
abbrev pub is_word : List ℕ → List ℕ → Bool
is_word word line = pointwise nat_eq (first_word (unblank line)) word && is_empty_line (behind_word (unblank line))

-- what was read after the line of this number
unfoldable pub read_more : Reading → ℕ → List ℕ → Reading
-- what was read after one more line
read_more read number line =
    if is_comment_line line
    then read
    else (if is_word (codes "BESIDE") line
    then with_beside read.stage read number
    else (if is_word (codes "AFTER") line then with_after read.stage read number else with_line read number
    (line_of line)))

-- what was read after these lines, of which the first has this number
unfoldable pub read_lines : Reading → ℕ → List (List ℕ) → Reading
read_lines read number [] = read
read_lines read number (line ∷ lines) = read_lines (read_more read number line) (number + 1) lines

-- what is read of a script
unfoldable pub script_read : List ℕ → Reading
script_read script = read_lines nothing_read 1 (lines_of script)

-- the three parts of a script that was read
abbrev pub parts_of : Reading → Parts
parts_of read = record { before = read.before; beside = read.beside; later = read.later }

-- the numbers of sessions, in the order of their turns
unfoldable pub sessions_text : List ℕ → List ℕ
sessions_text [] = []
sessions_text (session ∷ order) = codes " " ++ decimal session ++ sessions_text order

-- the outcome of this number: its answers, and its order
abbrev pub outcome_lines : ℕ → Outcome → List ℕ
outcome_lines number one =
    codes "OUTCOME " ++ decimal number ++ codes "\n" ++ one.text.items ++ codes "ORDER" ++ sessions_text one.order.items
    ++ codes "\n"

-- the outcomes, numbered from this number on
unfoldable pub outcomes_text : ℕ → List Outcome → List ℕ
outcomes_text number [] = []
outcomes_text number (one ∷ outcomes) = outcome_lines number one ++ outcomes_text (number + 1) outcomes

-- the number of outcomes, and each of them (own rule)
abbrev pub explored_text : List Outcome → List ℕ
explored_text outcomes = codes "OUTCOMES " ++ decimal (length outcomes) ++ codes "\n" ++ outcomes_text 1 outcomes

-- Done: all outcomes are written. Undecided: UNDECIDED is written, and orders of one length lead to more ways than
-- `limit`, no two of which have come to the same. Faulty doesn't come
abbrev pub IsPartsText : Parts → ℕ → Ended → List ℕ → Type 0
IsPartsText parts limit Done text =
    (outcomes : List Outcome) × IsExplored parts outcomes × (text ≡ explored_text outcomes)
IsPartsText parts limit Undecided text = IsWide parts.beside (base_of parts) limit × (text ≡ codes "UNDECIDED\n")
IsPartsText parts limit Faulty text = ⊥

-- if no line is faulty, the parts are explored; else only the faulty lines are written, and the end is Faulty
abbrev pub IsReadText : List ℕ → Parts → ℕ → Ended → List ℕ → Type 0
IsReadText [] parts limit ended text = IsPartsText parts limit ended text
IsReadText (byte ∷ faults) parts limit ended text = (ended ≡ Faulty) × (text ≡ byte ∷ faults)

-- what is written for a script, and how exploring it ends
abbrev pub IsExploredText : List ℕ → ℕ → Ended → List ℕ → Type 0
IsExploredText script limit ended text =
    IsReadText (script_read script).faults (parts_of (script_read script)) limit ended text

-- what may be written for a script, however exploring it ends
abbrev pub IsSomeText : ℕ → List ℕ → List ℕ → Type 0
IsSomeText limit script text = (ended : Ended) × IsExploredText script limit ended text

-- the writer got what is written for the script
abbrev pub AppendsExplored : ℕ → Ended → List ℕ → Option (List ℕ) → Option (List ℕ) → Type 0
AppendsExplored limit ended script old new =
    (text : List ℕ) × IsExploredText script limit ended text × Appends old new text

-- the writer got a prefix of what is written for the script, however exploring it ends
abbrev pub AppendsExploredPrefix : ℕ → List ℕ → Option (List ℕ) → Option (List ℕ) → Type 0
AppendsExploredPrefix limit script old new =
    (ended : Ended) × (text : List ℕ) × IsExploredText script limit ended text × AppendsPrefix old new text

-- once a script is read, making its text fails only for want of memory
abbrev pub IsFaultOfExploring : List ℕ → ScriptFault → Type 0
IsFaultOfExploring script fault = fault ≡ NoMemory

-- what a fault leaves in the writer: a prefix of the text if a write failed, else nothing. Exploring has no fault of a
-- race, so `Full`, `GateShut` and `ThreadRefused` don't come
abbrev pub AfterExploreFault : ℕ → ScriptFault → Option (List ℕ) → Option (List ℕ) → Option (List ℕ) → Type 0
AfterExploreFault limit Write input old new = IfSome input (λ script. AppendsExploredPrefix limit script old new)
AfterExploreFault limit Full input old new = ⊥
AfterExploreFault limit GateShut input old new = ⊥
AfterExploreFault limit ThreadRefused input old new = ⊥
AfterExploreFault limit fault input old new = Keeps old new
