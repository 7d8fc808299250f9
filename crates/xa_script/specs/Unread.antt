-- Which lines aren't read, as `--strict` counts them.
use Rattle.std.specs.Prelude.{ℕ, Bool, true, false, not, ◌&&◌, ◌||◌, if◌then◌else◌, nat_lt, nat_eq, Result, Ok, Err}
use Rattle.std.specs.{Prelude.{List, [], length, codes}, Cmp.Lexicographic.pointwise}
use Rattle.xa_xid.specs.{Bytes.unblank, declared.statement.Statement.Statement}
use Rattle.xa_statement.specs.Reading.{read_of}
use Rattle.xa_lines.specs.Script.{Line, Blank, Bad, Given, line_of, first_word, behind_word, is_empty_line}
use Rattle.xa_lines.specs.Script.{is_comment_line}
use Rattle.xa_orders.specs.Scripts.{is_word}
use Rattle.xa_manager.specs.{Calls.call_of, Scripts.taken, declared.call.Call.{Call, TheVariants.Unread}}
use Rattle.xa_record.specs.Lines.{reading_of_line, is_bad, is_no_row}
use Rattle.xa_script.specs.declared.line_kind.LineKind.{LineKind}

-- a text was read as no statement
abbrev pub goes_wrong : Result Statement ℕ → Bool
goes_wrong (Ok statement) = false
goes_wrong (Err place) = true

-- a line of a script is bad, or its text is no statement
abbrev pub is_faulty : Line → Bool
is_faulty Blank = false
is_faulty Bad = true
is_faulty (Given session text) = goes_wrong (read_of text)

-- a line of blanks, or a comment
abbrev pub is_silent : List ℕ → Bool
is_silent line = is_empty_line (unblank line) || is_comment_line line

-- whether the line is a word that divides a script for exploring: BESIDE or AFTER
abbrev pub divides_script : List ℕ → Bool
divides_script line = is_word (codes "BESIDE") line || is_word (codes "AFTER") line

-- a line that isn't silent was read as no call
abbrev pub is_no_call : Call → Bool
is_no_call (Unread place) = true
is_no_call call = false

-- what comes after the session of a line, or nothing if it names none
abbrev pub given_by : Line → List ℕ
given_by Blank = []
given_by Bad = []
given_by (Given session text) = text

-- the first word is this one
abbrev pub has_sign : (sign text : List ℕ) → Bool
has_sign sign text = pointwise nat_eq (first_word text) sign

-- what comes after a line's session is a call for a text that isn't a statement
abbrev pub is_no_call_of_record : List ℕ → Bool
is_no_call_of_record text = has_sign (codes ">") text && goes_wrong (read_of (behind_word text))

-- a line isn't written as a line of a record is, or the text of its call isn't a statement
abbrev pub is_no_record : List ℕ → Bool
is_no_record line = is_bad (reading_of_line line) || is_no_call_of_record (given_by (line_of line))

-- whether a line, wherever it stands and however long it is, isn't one for a job that reads lines of this kind
abbrev pub is_unread_by : LineKind → List ℕ → Bool
is_unread_by LineKind.Statement line = is_faulty (line_of line)
is_unread_by LineKind.Raced line = is_faulty (line_of line)
is_unread_by LineKind.Shown line = not (is_silent line) && is_faulty (line_of line)
is_unread_by LineKind.Explored line = not (is_silent line || divides_script line) && is_faulty (line_of line)
is_unread_by LineKind.Call line = is_no_call (call_of line)
is_unread_by LineKind.Stopped line = is_no_call (taken (call_of line))
is_unread_by LineKind.Record line = not (is_silent line) && is_no_record line

-- the kind of the lines of a script that is raced, by a line before which only blank ones came: with comments if the
-- line is one, without if it isn't, and not settled yet if it is blank
abbrev pub kind_of_first : List ℕ → LineKind
kind_of_first line =
    if is_empty_line (unblank line) then LineKind.Raced else (if is_comment_line line then LineKind.Shown else
    LineKind.Statement)

-- the kind that a line is of, and those after it until one of them changes it: only `Raced` is ever changed
abbrev pub kind_after : LineKind → List ℕ → LineKind
kind_after LineKind.Statement line = LineKind.Statement
kind_after LineKind.Raced line = kind_of_first line
kind_after LineKind.Shown line = LineKind.Shown
kind_after LineKind.Explored line = LineKind.Explored
kind_after LineKind.Call line = LineKind.Call
kind_after LineKind.Stopped line = LineKind.Stopped
kind_after LineKind.Record line = LineKind.Record

-- whether a line isn't read: it has more than `most` bytes, or it isn't what has to come. While `rows` have to come,
-- that is a row or a silent line, else a line for a job that reads lines of this kind
abbrev pub is_unread : LineKind → (most rows : ℕ) → List ℕ → Bool
is_unread kind most rows line =
    if nat_lt most (length line) then true else (if nat_lt 0 rows then is_no_row line else is_unread_by kind line)
