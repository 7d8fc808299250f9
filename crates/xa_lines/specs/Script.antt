-- What a script is made of.
--     Line, line_of   what a line says;  what this line says
--     first_word, after_word, behind_word     a text up to its first blank;  from there on;  and from the first byte
--                                             after that which isn't a blank
--     is_comment_line a line is a comment
use Rattle.std.specs.Prelude.{ℕ, ◌+◌, ◌-◌, nat_le, ◌==◌, Bool, true, false, not, ◌&&◌, cond, if◌then◌else◌, Option}
use Rattle.std.specs.{Prelude.{Some, None, Ok, Err, List, [], ◌∷◌, take, drop}, List.prefix_len}
use Rattle.xa_xid.specs.{Bytes.{belongs, unblank}, Literal.Reading, Number.number_ahead}
use Rattle.xa_xid.specs.declared.byte_class.ByteClass.TheVariants.{Blank as BlankByte}
use Rattle.xa_lines.specs.declared.lines.ScriptLine.{ScriptLine}

-- whether a text has no byte, or any list no element
abbrev pub is_empty_line : {A : Type 0} → List A → Bool
is_empty_line [] = true
is_empty_line (x ∷ xs) = false

-- the lines with the byte put before the first of them
abbrev pub with_first : ℕ → List (List ℕ) → List (List ℕ)
with_first byte [] = (byte ∷ []) ∷ []
with_first byte (line ∷ lines) = (byte ∷ line) ∷ lines

-- a script is cut at each line feed; an empty piece after the last one is no line (own rule)
unfoldable pub lines_of : List ℕ → List (List ℕ)
-- the lines of a script
lines_of [] = []
lines_of (byte ∷ bytes) = cond (byte == 10) ([] ∷ lines_of bytes) (with_first byte (lines_of bytes))

-- the byte isn't a blank
abbrev pub is_no_blank : ℕ → Bool
is_no_blank byte = not (belongs BlankByte byte)

-- the bytes before the first blank
abbrev pub first_word : List ℕ → List ℕ
first_word text = take (prefix_len is_no_blank text) text

-- what stands behind the first word, with the blanks before it
abbrev pub after_word : List ℕ → List ℕ
after_word text = drop (prefix_len is_no_blank text) text

-- what stands behind the first word and the blanks after it
abbrev pub behind_word : List ℕ → List ℕ
behind_word text = unblank (after_word text)

-- a decimal number from 1 to 16 without leading zeros: a digit from 1 to 9, or a 1 and a digit from 0 to 6
abbrev pub session_named : List ℕ → Option ℕ
session_named [] = None
session_named (one ∷ []) = cond (nat_le 49 one && nat_le one 57) (Some (one - 48)) None
session_named (ten ∷ one ∷ []) = cond ((ten == 49) && (nat_le 48 one && nat_le one 54)) (Some (10 + (one - 48))) None
session_named (ten ∷ one ∷ more ∷ rest) = None

-- the number that was read, if it is the whole of the text
abbrev pub whole_number : Reading ℕ → Option ℕ
whole_number (Err fault) = None
whole_number (Ok (number, [])) = Some number
whole_number (Ok (number, byte ∷ rest)) = None

-- the number that a word is: decimal digits of a value below 2^64, without leading zeros (own rule)
unfoldable pub number_of_word : List ℕ → Option ℕ
-- the number that a word is
number_of_word [] = None
number_of_word (first ∷ []) = whole_number (number_ahead (first ∷ []))
number_of_word (first ∷ second ∷ rest) =
    if first == 48 then None else whole_number (number_ahead (first ∷ second ∷ rest))

-- whether a text begins with `#`, the byte 35
abbrev pub begins_comment : List ℕ → Bool
begins_comment [] = false
begins_comment (byte ∷ bytes) = byte == 35

-- the first byte of the line that isn't a blank is `#` (own rule)
abbrev pub is_comment_line : List ℕ → Bool
is_comment_line line = begins_comment (unblank line)

-- what a line of a script says
pub data Line : Type 0 where
  -- nothing: it has no answer
  Blank : Line
  -- it isn't written as a line is
  Bad : Line
  -- the session of this number gives the statement of this text
  Given : ℕ → List ℕ → Line

-- the line of a session, where the word before its statement names one
abbrev pub line_given : Option ℕ → List ℕ → Line
line_given None statement = Bad
line_given (Some session) statement = Given session statement

-- a line that isn't blank
abbrev pub filled_line : List ℕ → Line
filled_line text = line_given (session_named (first_word text)) (behind_word text)

-- a line is blank, or a session's number, and after blanks the text of its statement (own rule)
unfoldable pub line_of : List ℕ → Line
line_of line = cond (is_empty_line (unblank line)) Blank (filled_line (unblank line))

-- what a line that was read says
abbrev pub line_seen : ScriptLine → Line
line_seen ScriptLine.Blank = Blank
line_seen ScriptLine.Bad = Bad
line_seen (ScriptLine.Given session statement) = Given session statement.now
