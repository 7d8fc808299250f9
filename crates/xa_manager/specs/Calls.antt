-- How a line is read as a call of a transaction manager. All of it is an own rule: docs/COORDINATOR.md#calls.
use Rattle.std.specs.Prelude.{◌≡◌, ℕ, Bool, true, false, bytes_eq, if◌then◌else◌, Option, Some, None, Result, Ok, Err}
use Rattle.std.specs.Prelude.{List, [], ◌∷◌, codes}
use Rattle.xa_xid.specs.{Bytes.unblank, declared.statement.Statement.{Statement, TheVariants.{Get, Put, Del}}}
use Rattle.xa_statement.specs.Reading.{read_of}
use Rattle.xa_lines.specs.Script.{is_comment_line, is_empty_line, first_word, behind_word, number_of_word}
use Rattle.xa_manager.specs.declared.call.Call.{Call}

-- GET, PUT and DEL, the statements that WORK takes
abbrev pub takes_rows : Statement → Bool
takes_rows (Get key) = true
takes_rows (Put key value) = true
takes_rows (Del key) = true
takes_rows statement = false

-- the number that is all of a text, except for blanks after it
unfoldable pub lone_number : List ℕ → Option ℕ
lone_number text = if is_empty_line (behind_word text) then number_of_word (first_word text) else None

-- the call, if no text is left after its word; else unread
abbrev pub alone : Call → List ℕ → Call
alone call [] = call
alone call (byte ∷ rest) = Call.Unread 0

-- the call with the number, if one was read; else unread
abbrev pub numbered : (ℕ → Call) → Option ℕ → Call
numbered call None = Call.Unread 0
numbered call (Some number) = call number

-- work, if its statement is read and is GET, PUT or DEL; else unread: at byte 0 if it is of another kind, at the place
-- of its fault if it can't be read
abbrev pub work_call : ℕ → ℕ → Result Statement ℕ → Call
work_call number store (Err place) = Call.Unread place
work_call number store (Ok statement) = if takes_rows statement then Call.Work number store statement else Call.Unread 0

-- the other client's statement, if it is read; else unread at the place of its fault
abbrev pub at_call : ℕ → Result Statement ℕ → Call
at_call store (Err place) = Call.Unread place
at_call store (Ok statement) = Call.At store statement

-- the call that is made with the number, if one was read; else unread
abbrev pub with_number : Option ℕ → (ℕ → Call) → Call
with_number None call = Call.Unread 0
with_number (Some number) call = call number

-- the call of the text behind WORK: a transaction's number, a store's number, and a statement about a row
unfoldable pub work_of : List ℕ → Call
work_of text =
    with_number (number_of_word (first_word text)) (λ number.
    with_number (number_of_word (first_word (behind_word text)))
    (λ store. work_call number store (read_of (behind_word (behind_word text)))))

-- the call of the text behind AT: a store's number and a statement of its other client
unfoldable pub at_of : List ℕ → Call
at_of text = with_number (number_of_word (first_word text)) (λ store. at_call store (read_of (behind_word text)))

-- the call of the text behind FAIL: a store's number, the word AFTER, and after how many more calls its session fails
unfoldable pub fail_of : List ℕ → Call
fail_of text =
    with_number (number_of_word (first_word text)) (λ store.
    if bytes_eq (first_word (behind_word text)) (codes "AFTER") then numbered (λ calls. Call.Fail store calls)
    (lone_number (behind_word (behind_word text)))
    else Call.Unread 0)

-- the calls that name no transaction, by their first word and the text after it; any other word is unread
unfoldable pub plain_call : List ℕ → List ℕ → Call
plain_call word text =
    if bytes_eq word (codes "BEGIN") then alone Call.Begin text else
    if bytes_eq word (codes "AT") then at_of text else
    if bytes_eq word (codes "FAIL") then fail_of text else
    if bytes_eq word (codes "STOP") then alone Call.Stop text else
    if bytes_eq word (codes "RECOVER") then alone Call.Recover text else
    if bytes_eq word (codes "SHOW") then alone Call.Show text else Call.Unread 0

-- a call by its first word and the text after it
unfoldable pub call_named : List ℕ → List ℕ → Call
call_named word text =
    if bytes_eq word (codes "WORK") then work_of text else
    if bytes_eq word (codes "PREPARE") then numbered (λ number. Call.Prepare number) (lone_number text) else
    if bytes_eq word (codes "DECIDE") then numbered (λ number. Call.Decide number) (lone_number text) else
    if bytes_eq word (codes "FINISH") then numbered (λ number. Call.Finish number) (lone_number text) else
    if bytes_eq word (codes "ABANDON") then numbered (λ number. Call.Abandon number)
    (lone_number text) else plain_call word text

-- the call of what is left of a line after its first blanks; no call if nothing is left
abbrev pub filled_call : List ℕ → Call
filled_call [] = Call.Silent
filled_call (first ∷ rest) = call_named (first_word (first ∷ rest)) (behind_word (first ∷ rest))

-- the call that a line is read as: its words are separated by blanks; a comment is no call
unfoldable pub call_of : List ℕ → Call
-- the call that a line is read as
call_of line = if is_comment_line line then Call.Silent else filled_call (unblank line)

-- work gives GET, PUT or DEL, as in each call that a line spells
abbrev pub IsWritten : Call → Type 0
IsWritten (Call.Work number store statement) = takes_rows statement ≡ true
IsWritten call = Unit {0}
