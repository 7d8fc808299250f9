-- What a line of a record says. Every rule here is the project's own: docs/HISTORIES.md#records.
use Rattle.std.specs.Prelude.{ℕ, nat_lt, Bool, true, false, not, ◌||◌, bytes_eq, if◌then◌else◌, Option, Some, None}
use Rattle.std.specs.Prelude.{is_some, Ok, Err, List, [], ◌∷◌, codes, reverse}
use Rattle.xa_xid.specs.{Bytes.unblank, Literal.{Reading, literal_ahead}, Xid.Text, declared.xid.Xid.Xid}
use Rattle.xa_lines.specs.Script.{Line, Blank, Bad as BadLine, Given, line_of, first_word, behind_word, is_empty_line}
use Rattle.xa_lines.specs.Script.{is_comment_line, number_of_word}
use Rattle.xa_record.specs.Rows.{leading_number, row_said}

-- what the line of a return shows
pub data Shown : Type 0 where
  -- the statement was carried out
  ShowsOk : Shown
  -- the value of a row, or none
  ShowsValue : Option Text → Shown
  -- identifiers of prepared branches, in the order of their lines
  ShowsRows : List Xid → Shown
  -- a refusal of this number
  ShowsError : ℕ → Shown

-- an event of a session, as a line tells it
pub data Told : Type 0 where
  -- it calls for what this text asks for
  Calls : ℕ → List ℕ → Told
  -- its call returns so
  Returns : ℕ → Shown → Told
  -- its call returns, and what it returned isn't known
  ReturnsUnknown : ℕ → Told
  -- its client is gone
  Leaves : ℕ → Told

-- what a line of a record says
pub data LineSaid : Type 0 where
  -- nothing
  Nothing : LineSaid
  -- it isn't written as a line of a record is
  Bad : LineSaid
  -- this event
  Says : Told → LineSaid
  -- a session's call returns so many rows, which stand on the next lines
  Awaits : ℕ → ℕ → LineSaid
  -- the client of a session found that the server had closed its connection
  Closed : ℕ → LineSaid

-- the line is blank, or a comment
abbrev pub is_silent : List ℕ → Bool
is_silent line = is_empty_line (unblank line) || is_comment_line line

-- a text without the blanks at its end
unfoldable pub trimmed : List ℕ → List ℕ
trimmed text = reverse (unblank (reverse text))

-- what is said, if no text follows; else the line is bad
abbrev pub alone : LineSaid → List ℕ → LineSaid
alone said [] = said
alone said (byte ∷ rest) = Bad

-- what a line says whose return shows a value, by how the literal after VALUE is read
abbrev pub value_said : ℕ → Reading Text → LineSaid
value_said session (Ok (value, rest)) = alone (Says (Returns session (ShowsValue (Some value)))) (unblank rest)
value_said session (Err fault) = Bad

-- what a line says whose return shows rows, by their number after ROWS and the text behind that
abbrev pub rows_said : ℕ → Option ℕ → List ℕ → LineSaid
rows_said session None rest = Bad
rows_said session (Some count) rest = alone (Awaits session count) rest

-- what a line says whose return is a refusal, by its number, 0 to 65,535; what follows it says nothing
abbrev pub error_said : ℕ → Option ℕ → LineSaid
error_said session None = Bad
error_said session (Some number) = if nat_lt number 65536 then Says (Returns session (ShowsError number)) else Bad

-- what a word after `<` and the text after it say
unfoldable pub return_said : ℕ → List ℕ → List ℕ → LineSaid
return_said session word text =
    if bytes_eq word (codes "OK") then alone (Says (Returns session ShowsOk)) text else
    if bytes_eq word (codes "NONE") then alone (Says (Returns session (ShowsValue None))) text else
    if bytes_eq word (codes "VALUE") then value_said session (literal_ahead text) else
    if bytes_eq word (codes "ROWS") then rows_said session (number_of_word (first_word text)) (behind_word text) else
    if bytes_eq word (codes "ERROR") then error_said session (leading_number text) else Bad

-- what a word after `?` says; what follows it says nothing
abbrev pub unknown_said : ℕ → List ℕ → LineSaid
unknown_said session word = if bytes_eq word (codes "ERROR") then Says (ReturnsUnknown session) else Bad

-- what a word after `!` and the text after it say
unfoldable pub loss_said : ℕ → List ℕ → List ℕ → LineSaid
loss_said session word text =
    if bytes_eq word (codes "LOST") then alone (Says (Leaves session)) text else
    if bytes_eq word (codes "GONE") then alone (Closed session) text else Bad

-- what a session's line says, by its sign and the text after it
unfoldable pub session_said : ℕ → List ℕ → List ℕ → LineSaid
session_said session sign text =
    if bytes_eq sign (codes ">") then Says (Calls session (trimmed text)) else
    if bytes_eq sign (codes "<") then return_said session (first_word text) (behind_word text) else
    if bytes_eq sign (codes "?") then unknown_said session (first_word text) else
    if bytes_eq sign (codes "!") then loss_said session (first_word text) (behind_word text) else Bad

-- what a line says that isn't silent, by its session and the text after that
abbrev pub filled_said : Line → LineSaid
filled_said Blank = Nothing
filled_said BadLine = Bad
filled_said (Given session text) = session_said session (first_word text) (behind_word text)

-- what a line of a record says
unfoldable pub reading_of_line : List ℕ → LineSaid
-- what a line says
reading_of_line line = if is_silent line then Nothing else filled_said (line_of line)

-- whether a line isn't written as a line of a record is, by what it says
abbrev pub is_bad : LineSaid → Bool
is_bad Bad = true
is_bad said = false

-- whether a line in the place of a row isn't one, and isn't silent
abbrev pub is_no_row : List ℕ → Bool
is_no_row line = not (is_silent line || is_some (row_said (unblank line)))
