-- Races of lines that several sessions give.
-- Every rule here is the project's own: docs/COMMANDS.md#race-statistics.
use Rattle.std.specs.Prelude.{◌≡◌, ℕ, cond, ◌==◌, Option, Some, None, Result, Ok, Err, List, [], ◌∷◌, ◌++◌, length}
use Rattle.std.specs.{Prelude.decimal, List.{All, concat, filter_map}}
use Rattle.xa_xid.specs.declared.statement.Statement.{Statement}
use Rattle.xa_statement.specs.Reading.{read_of}
use Rattle.xa_words.specs.Entry.{Entry}
use Rattle.xa_server.specs.State.{State, no_state}
use Rattle.decision_log.specs.Known.{AllOf, newcomer}
use Rattle.xa_session.specs.{Replay.state_after, declared.answer.Answer.Answer}
use Rattle.xa_store.specs.Legal.{IsLegal}
use Rattle.xa_lines.specs.Printed.{reply_text, converts, answer_text}
use Rattle.xa_orders.specs.Orders.{Told, Parts, IsSession, told_text, told_state}

-- the statement that was read, if one was
abbrev pub statement_in : Result Statement ℕ → Option Statement
statement_in (Ok statement) = Some statement
statement_in (Err place) = None

-- the statement of a line, if the session gives it
abbrev pub statement_by : ℕ → Told → Option Statement
statement_by session told = cond (told.session == session) (statement_in (read_of told.text)) None

-- the statements that the session gives, in order
unfoldable pub statements_of : ℕ → List Told → List Statement
-- the statements that a session gives
statements_of session lines = filter_map (statement_by session) lines

-- what is written for a session's statements, each with its answer, as a run of a script writes it
abbrev pub printed : ℕ → List Statement → List Answer → List (List ℕ)
printed session (statement ∷ statements) (answer ∷ answers) =
    answer_text (decimal session) (reply_text (converts statement) answer.reply) ∷ printed session statements answers
printed session statements answers = []

-- the texts of the session's lines, in order: each line has the text at its place
abbrev pub texts_of : ℕ → List Told → List (List ℕ) → List (List ℕ)
texts_of session (told ∷ lines) (text ∷ texts) =
    cond (told.session == session) (text ∷ texts_of session lines texts) (texts_of session lines texts)
texts_of session lines texts = []

-- the statement of the line is read
abbrev pub IsReadLine : Told → Type 0
IsReadLine told = (statement : Statement) × (read_of told.text ≡ Ok statement)

-- lines of sessions 1 to 16, each of which can be read, raced, beginning in the state `base`, and `new` is the state
-- after them. One history, of these sessions alone, explains what each session was answered to its statements, and
-- leads to that state. For each line one text was written, for those of a session its answers in order
pub record IsRaced (base : State) (lines : List Told) (texts : List (List ℕ)) (new : State) : Type 0 where
  pub history : List Entry
  pub answers : ℕ → List Answer
  pub sessions : All (λ told. IsSession told.session) lines
  pub read : All IsReadLine lines
  pub own : AllOf 16 history
  pub legal : (session : ℕ) → IsSession session → IsLegal base history (newcomer session) (statements_of session lines)
      (answers session)
  pub long : length texts ≡ length lines
  pub texts_are : (session : ℕ) → IsSession session → texts_of session lines texts
      ≡ printed session (statements_of session lines) (answers session)
  pub new_is : new ≡ state_after base history

-- the parts were raced, and this is what all lines were answered: first those before, one after another, then
-- those side by side in a race, then the later ones, one after another
pub record HasCome (parts : Parts) (text : List ℕ) : Type 0 where
  pub texts : List (List ℕ)
  pub state : State
  pub raced : IsRaced (told_state no_state parts.before) parts.beside texts state
  pub text_is : text ≡ told_text no_state parts.before ++ concat texts ++ told_text state parts.later
