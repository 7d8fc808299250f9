-- How a history is read: a script, as `run` reads it, in which comments too say nothing.
-- Every rule here is the project's own: docs/HISTORIES.md#audits.
use Rattle.std.specs.Prelude.{ℕ, ◌+◌, if◌then◌else◌, Result, Ok, Err, List, [], ◌∷◌, ◌++◌, codes, decimal}
use Rattle.xa_xid.specs.declared.statement.Statement.{Statement}
use Rattle.xa_statement.specs.Reading.{read_of}
use Rattle.xa_lines.specs.{Script.{Line, Blank, Bad, Given, line_of, lines_of, is_comment_line}, Printed.syntax_text}
use Rattle.xa_audit.specs.declared.said.Said.{Said, TheVariants.{Nothing, Given as Gives, Unread}}

-- what a line says, by how its text was read
abbrev pub said_by : ℕ → Result Statement ℕ → Said
said_by session (Ok statement) = Gives session statement
said_by session (Err place) = Unread place

-- what a line says that isn't a comment; one that isn't written as a line is goes wrong at byte 0
abbrev pub said_in : Line → Said
said_in Blank = Nothing
said_in Bad = Unread 0
said_in (Given session text) = said_by session (read_of text)

-- what a line says: a comment says nothing
unfoldable pub said_on : List ℕ → Said
-- what a line says
said_on line = if is_comment_line line then Nothing else said_in (line_of line)

-- the statement that a line gives, if it gives one
abbrev pub statement_said : Said → List (ℕ × Statement)
statement_said Nothing = []
statement_said (Gives session statement) = (session, statement) ∷ []
statement_said (Unread place) = []

-- the statements of a history that has these lines, each with its session, in order
unfoldable pub statements_in : List (List ℕ) → List (ℕ × Statement)
-- the statements of a history, each with its session
statements_in [] = []
statements_in (line ∷ lines) = statement_said (said_on line) ++ statements_in lines

-- what is written for the line of this number of a store's history, by what it says: nothing, unless it isn't read
abbrev pub fault_said : ℕ → ℕ → Said → List ℕ
fault_said store number Nothing = []
fault_said store number (Gives session statement) = []
fault_said store number (Unread place) =
    codes "STORE " ++ decimal store ++ codes " LINE " ++ decimal number ++ codes " " ++ syntax_text place ++ codes "\n"

-- what is written for the faulty ones of these lines of a store's history, the first of which has this number
unfoldable pub faults_in : ℕ → ℕ → List (List ℕ) → List ℕ
-- what is written for the lines of one history that aren't read
faults_in store number [] = []
faults_in store number (line ∷ lines) = fault_said store number (said_on line) ++ faults_in store (number + 1) lines

-- what is written for the faulty lines of these histories, the first of which is of the store of this number
unfoldable pub faults_from : ℕ → List (List ℕ) → List ℕ
faults_from store [] = []
faults_from store (history ∷ histories) = faults_in store 1 (lines_of history) ++ faults_from (store + 1) histories

-- what is written for the lines of the histories that aren't read
abbrev pub faults_of : List (List ℕ) → List ℕ
faults_of histories = faults_from 1 histories
