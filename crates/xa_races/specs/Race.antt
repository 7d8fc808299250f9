-- What a script gives to a race. Every rule here is the project's own: docs/COMMANDS.md#race.
--     fault_place, faults_text     where a line is faulty;  what is written for all faulty lines
--     part_at, Gains               the list at a place;  lists of which each gets one item more, or none
--     IsGiven, TakesLine, HasRead  lists are what the sessions give;  what reading a line adds;  a script is read
--     IsRun, AreRuns               a session's run;  the runs of the sessions 1 to the last
use Rattle.std.specs.Prelude.{◌≡◌, ℕ, zero, suc, map, ◌+◌, max, ◌==◌, cond, Option, Some, None, Result, Ok, Err, List}
use Rattle.std.specs.{Prelude.{[], ◌∷◌, ◌++◌, length, codes, decimal}, List.filter_map, Option.option_to_list}
use Rattle.xa_xid.specs.declared.statement.Statement.{Statement}
use Rattle.xa_statement.specs.Reading.{read_of}
use Rattle.decision_log.specs.Known.{newcomer}
use Rattle.xa_store.specs.{Passes.known_of, declared.run.Run.Run}
use Rattle.xa_lines.specs.{Script.{Line, Blank, Bad, Given, line_of, lines_of}, Printed.syntax_text}
use Rattle.xa_races.specs.declared.given.RaceScript.{RaceScript}

-- the place of the fault, if a text isn't read as a statement
abbrev pub place_of_fault : Result Statement ℕ → Option ℕ
place_of_fault (Ok statement) = None
place_of_fault (Err place) = Some place

-- where a line is faulty: at this byte of its statement, from 0; a line of no known form at 0 (own rule)
abbrev pub fault_place : Line → Option ℕ
fault_place Blank = None
fault_place Bad = Some 0
fault_place (Given session text) = place_of_fault (read_of text)

-- what is written for the line of this number, which is faulty at this place; nothing if it isn't faulty (own rule)
abbrev pub fault_text : ℕ → Option ℕ → List ℕ
fault_text number None = []
fault_text number (Some place) = codes "LINE " ++ decimal number ++ codes " " ++ syntax_text place ++ codes "\n"

-- what is written for the faulty ones of these lines, the first of which has this number
unfoldable pub faults_text : ℕ → List (List ℕ) → List ℕ
faults_text number [] = []
faults_text number (line ∷ lines) = fault_text number (fault_place (line_of line)) ++ faults_text (number + 1) lines

-- no line is faulty, so a race is held
abbrev pub IsReadable : List ℕ → Type 0
IsReadable script = faults_text 1 (lines_of script) ≡ []

-- the session that a line names, or 0
abbrev pub session_in : Line → ℕ
session_in (Given session text) = session
session_in line = 0

-- the greatest session that a line names, or 0 if no line names one
unfoldable pub last_session : List (List ℕ) → ℕ
-- the greatest session that a line names
last_session [] = 0
last_session (line ∷ lines) = max (session_in (line_of line)) (last_session lines)

-- the statement, if one is read
abbrev pub statement_read : Result Statement ℕ → Option Statement
statement_read (Ok statement) = Some statement
statement_read (Err place) = None

-- the statement that the session gives on a line, if there is one
abbrev pub statement_by : ℕ → Line → Option Statement
statement_by session (Given other text) = cond (other == session) (statement_read (read_of text)) None
statement_by session line = None

-- the statements that a session gives, in order
unfoldable pub statements_of : ℕ → List (List ℕ) → List Statement
-- the statements that a session gives
statements_of session lines = filter_map (λ line. statement_by session (line_of line)) lines

-- the list at a place, or an empty list past the end
abbrev pub part_at : {A : Type 0} → List (List A) → ℕ → List A
part_at [] index = []
part_at (list ∷ lists) zero = list
part_at (list ∷ lists) (suc index) = part_at lists index

-- each session's list, session 1 first, gets at its end the statement that this session gives, if there is one
abbrev pub Gains : (ℕ → Option Statement) → List (List Statement) → List (List Statement) → Type 0
Gains given old new = (index : ℕ) → part_at new index ≡ part_at old index ++ option_to_list (given (index + 1))

-- the lists are what the sessions give, session 1 first
abbrev pub IsGiven : List (List ℕ) → List (List Statement) → Type 0
IsGiven lines lists = (index : ℕ) → part_at lists index ≡ statements_of (index + 1) lines

-- what reading the line of this number adds: the text of its fault, its session to the greatest, and its statement to
-- its session's list
pub record TakesLine (number : ℕ) (line : Line) (old new : RaceScript) : Type 0 where
  pub faults : new.faults.items ≡ old.faults.items ++ fault_text number (fault_place line)
  pub greatest : new.greatest ≡ max old.greatest (session_in line)
  pub lists : Gains (λ session. statement_by session line) (map (λ list. list.items) old.lists.items)
      (map (λ list. list.items) new.lists.items)

-- what was read of a script: its faults, its greatest session's number, and each session's statements
pub record HasRead (lines : List (List ℕ)) (given : RaceScript) : Type 0 where
  pub faults : given.faults.items ≡ faults_text 1 lines
  pub greatest : given.greatest ≡ last_session lines
  pub lists : IsGiven lines (map (λ list. list.items) given.lists.items)

-- the run of a session: a pass that knows nothing, and the statements that the session gives
pub record IsRun (session : ℕ) (lines : List (List ℕ)) (run : Run) : Type 0 where
  pub pass : known_of run.pass ≡ newcomer session
  pub statements : run.lines.items ≡ statements_of session lines

-- the runs of consecutive sessions, of which the first has this number
abbrev pub AreRunsFrom : ℕ → List (List ℕ) → List Run → Type 0
AreRunsFrom session lines [] = Unit {0}
AreRunsFrom session lines (run ∷ runs) = IsRun session lines run × AreRunsFrom (session + 1) lines runs

-- the runs of the sessions 1 to the greatest that a line names (own rule)
pub record AreRuns (lines : List (List ℕ)) (runs : List Run) : Type 0 where
  pub count : length runs ≡ last_session lines
  pub each : AreRunsFrom 1 lines runs
