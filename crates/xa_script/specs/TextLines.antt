-- Which lines `--text` changes, and which are rows.
use Rattle.std.specs.Prelude.{◌≡◌, ℕ, ◌+◌, ◌-◌, Bool, true, false, not, ◌&&◌, ◌||◌, ◌==◌, if◌then◌else◌, nat_le, nat_eq}
use Rattle.std.specs.Prelude.{List, [], ◌∷◌, length, take, drop, Option, Some, None, Result, Ok, Err, codes, is_some}
use Rattle.std.specs.List.{starts_with, ends_with}
use Rattle.xa_xid.specs.declared.statement.Statement.{Statement, TheVariants.Unsupported}
use Rattle.xa_statement.specs.Reading.{read_of}
use Rattle.xa_lines.specs.Script.{is_comment_line, first_word, after_word, number_of_word, line_of, Line, Blank, Bad}
use Rattle.xa_lines.specs.Script.{Given}
use Rattle.xa_script.specs.{declared.line_form.LineForm.LineForm, Texts.IsWithTexts}

-- the last byte is a line feed
abbrev pub is_fed : List ℕ → Bool
is_fed line = ends_with nat_eq line (10 ∷ [])

-- the line without its line feed
abbrev pub unfed : List ℕ → List ℕ
unfed line = if is_fed line then take (length line - 1) line else line

-- the number, or 0 if there is none
abbrev pub or_zero : Option ℕ → ℕ
or_zero None = 0
or_zero (Some number) = number

-- how many rows a reply says that it has: `ROWS` and their number; 0 for any other reply
abbrev pub rows_of : List ℕ → ℕ
rows_of reply = if starts_with nat_eq reply (codes "ROWS ") then or_zero (number_of_word (drop 5 reply)) else 0

-- what comes after the first word and one more byte
abbrev pub behind_first : List ℕ → List ℕ
behind_first text = drop 1 (after_word text)

-- the number that the first word is
abbrev pub first_number : List ℕ → Option ℕ
first_number text = number_of_word (first_word text)

-- what comes after the first word and one more byte if that word is a number, else the text
abbrev pub past_number : List ℕ → List ℕ
past_number text = if is_some (first_number text) then behind_first text else text

-- whether the line is one that names an answer that could have been
abbrev pub could_be : List ℕ → Bool
could_be line = starts_with nat_eq line (codes "COULD BE ")

-- whether the line is one that says what was seen: a line of a record, in canonical form
abbrev pub was_seen : List ℕ → Bool
was_seen line = starts_with nat_eq line (codes "SEEN ")

-- the reply in a line that says what was seen, behind `SEEN `, the session and the sign
abbrev pub seen_reply : List ℕ → List ℕ
seen_reply line = behind_first (past_number (drop 5 line))

-- the text of the call of what was seen, in its line `CALL line ..`: behind the line's number, the session and the
-- sign
abbrev pub called_text : List ℕ → List ℕ
called_text line = behind_first (past_number (past_number (drop 10 line)))

-- how many rows a line of a verdict says that it has: the reply of an answer that could have been, or of what was seen;
-- any other line has none
abbrev pub rows_in_verdict : List ℕ → ℕ
rows_in_verdict line =
    if could_be line then rows_of (drop 9 line) else (if was_seen line then rows_of (seen_reply line) else 0)

-- how many rows a line says that the next lines are. An answer's reply comes after its session and its place; the lines
-- of TAP have no rows
abbrev pub rows_after : LineForm → (line : List ℕ) → ℕ
rows_after LineForm.Answers line = rows_of (past_number (past_number line))
rows_after LineForm.Shown line = rows_of (past_number (past_number line))
rows_after LineForm.Verdict line = rows_in_verdict line
rows_after LineForm.Noted line = 0

-- whether the bytes of a row have room for a gtrid and bqual of these lengths; true if one of these can't be read
abbrev pub holds_texts : Option ℕ → Option ℕ → (bytes : List ℕ) → Bool
holds_texts (Some gtrid) (Some bqual) bytes = nat_le (gtrid + bqual) (length bytes)
holds_texts gtrid bqual bytes = true

-- a row has all the bytes of its two texts, whose lengths are its second and third word; other bytes are no row, and
-- are whole at any line feed
abbrev pub is_whole_row : (row : List ℕ) → Bool
is_whole_row row =
    let lengths = behind_first row in
    let second = behind_first lengths in
    holds_texts (first_number lengths) (first_number second) (behind_first second)

-- whether a text was read as a statement that has a canonical form
abbrev pub has_form : Result Statement ℕ → Bool
has_form (Ok Unsupported) = false
has_form (Ok statement) = true
has_form (Err place) = false

-- whether the line gives a session a statement that has a canonical form
abbrev pub is_given : Line → Bool
is_given Blank = false
is_given Bad = false
is_given (Given session text) = has_form (read_of text)

-- whether the line has the call of what was seen, of a statement that has a canonical form
abbrev pub is_called : List ℕ → Bool
is_called line = starts_with nat_eq line (codes "CALL line ") && has_form (read_of (called_text line))

-- whether the line has an answer that could have been, what was seen, or a branch or row of the store
abbrev pub is_of_job : List ℕ → Bool
is_of_job line = could_be line || (was_seen line || starts_with nat_eq line (codes "  "))

-- a line of a verdict is a client's own if the job writes no part of it in literals, so `--text` leaves it as it is.
-- Not own are an answer that could have been (COULD BE), what was seen (SEEN), a branch or row of the store, and a
-- call or a session's statement that has a canonical form
abbrev pub is_own : (line : List ℕ) → Bool
is_own line = not (is_of_job line) && (not (is_called line) && not (is_given (line_of line)))

-- with TAP: whether the line is no comment, as a test point, or its comment is a line of a verdict that is a client's
-- own
abbrev pub is_point_or_own : (line : List ℕ) → Bool
is_point_or_own line = if starts_with nat_eq line (codes "# ") then is_own (drop 2 line) else true

-- whether a line is written as it is: a comment where stores are shown, a client's own line of a verdict (with TAP
-- behind `# `), and each line of TAP that is no comment, but no answer
abbrev pub keeps_line : LineForm → (line : List ℕ) → Bool
keeps_line LineForm.Answers line = false
keeps_line LineForm.Shown line = is_comment_line line
keeps_line LineForm.Verdict line = is_own line
keeps_line LineForm.Noted line = is_point_or_own line

-- what is written for a line that isn't a row
abbrev pub IsWrittenAs : LineForm → (line text : List ℕ) → Type 0
IsWrittenAs form line text =
    (keeps_line form (unfed line) ≡ true → text ≡ line) × (keeps_line form (unfed line) ≡ false → IsWithTexts line text)

-- the bytes that have come are a whole line, if so many rows are still to come; a row may have line feeds in it
abbrev pub ends_line : (rows : ℕ) (bytes : List ℕ) → Bool
ends_line rows bytes = is_fed bytes && (rows == 0 || is_whole_row (unfed bytes))
