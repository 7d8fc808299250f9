-- What a race of a script writes.
-- Every rule here is the project's own: docs/COMMANDS.md#race and docs/COMMANDS.md#race-without-an-end.
-- `room` is `Some` number of entries for a race in one log, and `None` for a race over a store without an end, whose
-- history has any length.
--     history_text, answers_text   how a history and the answers are printed
--     IsRacedInLog, IsRacedOn      a text is what is written for a race in one log;  over a store without an end
--     AppendsRace, AppendsRacePrefix      the writer got that text, or a prefix of it
--     IsOfText, IsOfRace           a fault before anything is written;  a fault with which a race ends
use Rattle.std.specs.Prelude.{◌≡◌, ◌≤◌, ◌⊎◌, ℕ, Bool, ◌+◌, Option, Some, None, List, [], ◌∷◌, ◌++◌, length, map, codes}
use Rattle.std.specs.{Prelude.{decimal, IfSome}, Io.KnownBytes.{Keeps, Appends}}
use Rattle.xa_statement.specs.Canonical.{statement_text}
use Rattle.xa_words.specs.Entry.{Entry}
use Rattle.xa_server.specs.State.{no_state}
use Rattle.decision_log.specs.Known.{AllOf}
use Rattle.xa_session.specs.declared.answer.Answer.{Answer}
use Rattle.xa_xid.specs.declared.statement.Statement.{Statement}
use Rattle.xa_store.specs.{Legal.IsOutcome, declared.{run.Run.Run, outcome.Outcome.Outcome}}
use Rattle.xa_store.specs.declared.race_fault.RaceFault.{RaceFault}
use Rattle.xa_lines.specs.{declared.script_fault.ScriptFault.ScriptFault, Script.lines_of}
use Rattle.xa_lines.specs.declared.script_fault.ScriptFault.TheVariants.{Write, NoMemory, Full, GateShut, ThreadRefused}
use Rattle.xa_lines.specs.{Printed.{reply_text, converts}, Transcript.AppendsPrefix}
use Rattle.xa_races.specs.LongRace.{AllAnswered}
use Rattle.xa_races.specs.Race.{AreRuns, IsReadable, last_session, faults_text, part_at, statements_of}
use Rattle.xa_store.specs.declared.race_fault.RaceFault.TheVariants as race

-- place, session and canonical text of an entry
abbrev pub entry_text : ℕ → Entry → List ℕ
entry_text place entry =
    decimal place ++ codes " " ++ decimal entry.session ++ codes " " ++ statement_text entry.statement ++ codes "\n"

-- entries, the first of which has this place
unfoldable pub entries_text : ℕ → List Entry → List ℕ
entries_text place [] = []
entries_text place (entry ∷ entries) = entry_text place entry ++ entries_text (place + 1) entries

-- the number of entries, and then each of them (own rule)
abbrev pub history_text : List Entry → List ℕ
history_text history = codes "HISTORY " ++ decimal (length history) ++ codes "\n" ++ entries_text 0 history

-- session, place and reply of an answer; recovered identifiers are in hexadecimal if the statement asks for that
abbrev pub placed_text : ℕ → Bool → Answer → List ℕ
placed_text session convert answer =
    decimal session ++ codes " " ++ decimal answer.place ++ codes " " ++ reply_text convert answer.reply ++ codes "\n"

-- the lines of a session's answers, as far as both lists go; the first list says of the statement of each whether it
-- asks for hexadecimal
unfoldable pub session_text : ℕ → List Bool → List Answer → List ℕ
session_text session (convert ∷ asked) (answer ∷ answers) =
    placed_text session convert answer ++ session_text session asked answers
session_text session asked answers = []

-- whether each statement of each session asks for identifiers in hexadecimal, session 1 first
abbrev pub AreAsked : List (List ℕ) → List (List Bool) → Type 0
AreAsked lines asked = (index : ℕ) → part_at asked index ≡ map converts (statements_of (index + 1) lines)

-- the answers of consecutive sessions, this one first (own rule)
unfoldable pub answers_text : ℕ → List (List ℕ) → List (List Answer) → List ℕ
answers_text session lines [] = []
answers_text session lines (answers ∷ others) =
    session_text session (map converts (statements_of session lines)) answers ++ answers_text (session + 1) lines others

-- the history, and then all answers
abbrev pub outcome_text : List (List ℕ) → List Entry → List (List Answer) → List ℕ
outcome_text lines history answers = history_text history ++ answers_text 1 lines answers

-- what a race of runs in one log gives: a history that begins with an empty store, has no more entries than there is
-- room for, only entries of the sessions 1 to the number of runs, and explains all answers
pub record IsHeld (capacity : ℕ) (runs : List Run) (outcome : Outcome) : Type 0 where
  pub explained : IsOutcome no_state runs outcome
  pub within : length outcome.history.items ≤ capacity
  pub own : AllOf (length runs) outcome.history.items

-- the text of an outcome of a race of the script's runs in one log with room for so many entries
pub record IsRacedInLog (capacity : ℕ) (lines : List (List ℕ)) (text : List ℕ) : Type 0 where
  pub runs : List Run
  pub outcome : Outcome
  pub are_runs : AreRuns lines runs
  pub held : IsHeld capacity runs outcome
  pub text_is : text ≡ outcome_text lines outcome.history.items (map (λ answers. answers.items) outcome.answers.items)

-- what consecutive sessions give, this one first
abbrev pub AreListsFrom : ℕ → List (List ℕ) → List (List Statement) → Type 0
AreListsFrom session lines [] = Unit {0}
AreListsFrom session lines (statements ∷ lists) =
    (statements ≡ statements_of session lines) × AreListsFrom (session + 1) lines lists

-- what the sessions 1 to the greatest give that a line names (own rule)
pub record AreLists (lines : List (List ℕ)) (lists : List (List Statement)) : Type 0 where
  pub count : length lists ≡ last_session lines
  pub each : AreListsFrom 1 lines lists

-- one history of any length, of a store that begins empty, explains all answers, and has only entries of the script's
-- sessions
pub record IsRacedOn (lines : List (List ℕ)) (text : List ℕ) : Type 0 where
  pub lists : List (List Statement)
  pub are_lists : AreLists lines lists
  pub history : List Entry
  pub answers : List (List Answer)
  pub legal : AllAnswered no_state history 1 lists answers
  pub own : AllOf (length lists) history
  pub text_is : text ≡ outcome_text lines history answers

-- the text is one of a race of these lines, over a log of this capacity or a store without an end
abbrev pub IsRaced : Option ℕ → List (List ℕ) → List ℕ → Type 0
IsRaced (Some capacity) lines text = IsRacedInLog capacity lines text
IsRaced None lines text = IsRacedOn lines text

-- if no line is faulty, a race is held; else only the faulty lines are written
abbrev pub IsRaceTold : List ℕ → Option ℕ → List (List ℕ) → List ℕ → Type 0
IsRaceTold [] room lines text = IsRaced room lines text
IsRaceTold (byte ∷ faults) room lines text = text ≡ byte ∷ faults

-- what a race of a script writes (own rule)
abbrev pub IsRaceText : Option ℕ → List ℕ → List ℕ → Type 0
IsRaceText room script text = IsRaceTold (faults_text 1 (lines_of script)) room (lines_of script) text

-- the writer got what a race of the script writes
abbrev pub AppendsRace : Option ℕ → List ℕ → Option (List ℕ) → Option (List ℕ) → Type 0
AppendsRace room script old new = (text : List ℕ) × IsRaceText room script text × Appends old new text

-- the writer got a prefix of what a race of the script writes
abbrev pub AppendsRacePrefix : Option ℕ → List ℕ → Option (List ℕ) → Option (List ℕ) → Type 0
AppendsRacePrefix room script old new = (text : List ℕ) × IsRaceText room script text × AppendsPrefix old new text

-- the fault that is returned for a race's fault (own rule)
abbrev pub script_fault_of : RaceFault → ScriptFault
script_fault_of (race.GateShut session line) = GateShut
script_fault_of (race.Full session line) = Full
script_fault_of race.NoMemory = NoMemory
script_fault_of race.ThreadRefused = ThreadRefused

-- a fault before anything is written. All but NoMemory come from a race, so no line is faulty then; Full
-- comes only from one log
abbrev pub IsOfText : Option ℕ → List ℕ → ScriptFault → Type 0
IsOfText room script NoMemory = Unit {0}
IsOfText room script GateShut = IsReadable script
IsOfText room script ThreadRefused = IsReadable script
IsOfText (Some capacity) script Full = IsReadable script
IsOfText room script fault = ⊥

-- what a fault leaves in the writer: a prefix of the text if a write failed, else nothing. After `GateShut`,
-- `ThreadRefused` and `Full` no line is faulty; only a race in one log returns `Full`
abbrev pub AfterRaceFault : Option ℕ → ScriptFault → Option (List ℕ) → Option (List ℕ) → Option (List ℕ) → Type 0
AfterRaceFault room Write input old new = IfSome input (λ script. AppendsRacePrefix room script old new)
AfterRaceFault room GateShut input old new = Keeps old new × IfSome input IsReadable
AfterRaceFault room ThreadRefused input old new = Keeps old new × IfSome input IsReadable
AfterRaceFault (Some capacity) Full input old new = Keeps old new × IfSome input IsReadable
AfterRaceFault None Full input old new = ⊥
AfterRaceFault room fault input old new = Keeps old new

-- a fault with which a race ends; `Full` only in one log
abbrev pub IsOfRace : Option ℕ → ScriptFault → Type 0
IsOfRace (Some capacity) fault = (fault ≡ NoMemory) ⊎ (fault ≡ Full) ⊎ (fault ≡ GateShut) ⊎ (fault ≡ ThreadRefused)
IsOfRace None fault = (fault ≡ NoMemory) ⊎ (fault ≡ GateShut) ⊎ (fault ≡ ThreadRefused)
