-- What the lines of a text are as objects of JSON.
-- Every rule here is the project's own: docs/COMMANDS.md#output-as-json.
-- A form is a text with one part on each of its lines. The first byte of a part may be a mark; a part without one
-- stands for itself.
use Rattle.std.specs.Prelude.{ℕ, Bool, true, false, ◌==◌, ◌||◌, if◌then◌else◌, nat_eq, Option, Some, None, Ok, Err}
use Rattle.std.specs.{Prelude.{List, [], ◌∷◌, ◌++◌, codes, decimal, drop, encode_utf8_all}, Option.is_some}
use Rattle.std.specs.Cmp.Lexicographic.{pointwise}
use Rattle.json.specs.{Token.{Token, begin_object, end_object, key, string, number}, Print.print}
use Rattle.xa_xid.specs.{Literal.Reading, Number.number_ahead}
use Rattle.xa_lines.specs.{Script.{lines_of, first_word, after_word, is_empty_line}, declared.json_mark.Mark.Mark}
use Rattle.xa_lines.specs.declared.json_mark.Mark.TheVariants.{Word, Number, Any, Rest, Statement, Undecided}

-- the text behind its first word and the blank after that
abbrev pub behind_first : List ℕ → List ℕ
behind_first text = drop 1 (after_word text)

-- the number that was read, if nothing comes behind it, or a colon alone
abbrev pub number_alone : Reading ℕ → Option ℕ
number_alone (Err fault) = None
number_alone (Ok (found, [])) = Some found
number_alone (Ok (found, byte ∷ [])) = if byte == 58 then Some found else None
number_alone (Ok (found, byte ∷ other ∷ rest)) = None

-- the number that a word is, in decimal digits, or in hexadecimal ones after `0x`; a colon may stand behind it
unfoldable pub number_said : List ℕ → Option ℕ
-- the number that a word is
number_said word = number_alone (number_ahead word)

-- a text begins as a statement does: with X, G, P or D, as no reply does
abbrev pub begins_statement : List ℕ → Bool
begins_statement [] = false
begins_statement (first ∷ rest) = first == 88 || first == 71 || first == 80 || first == 68

-- what a part stands for whose first byte is this; the marks are #, $, =, ~ and !
abbrev pub mark_by : ℕ → Mark
mark_by byte =
    if byte == 35
    then Number
    else (if byte == 36 then Any else (if byte == 61 then Rest else (if byte == 126 then Statement else (if byte == 33
    then Undecided else Word))))

-- what a part stands for; one without a mark stands for itself
abbrev pub mark_of : List ℕ → Mark
mark_of [] = Word
mark_of (byte ∷ rest) = mark_by byte

-- whether a part with this mark fits what a text begins with; `Undecided` fits only a text that is just the word
-- UNDECIDED
abbrev pub part_fits_as : Mark → (part text : List ℕ) → Bool
part_fits_as Word part text = pointwise nat_eq (first_word text) part
part_fits_as Number part text = is_some (number_said (first_word text))
part_fits_as Any part text = true
part_fits_as Rest part text = true
part_fits_as Statement part text = begins_statement text
part_fits_as Undecided part text = pointwise nat_eq text (codes "UNDECIDED")

-- what is left of a text behind a part with this mark
abbrev pub left_as : Mark → List ℕ → List ℕ
left_as Word text = behind_first text
left_as Number text = behind_first text
left_as Any text = behind_first text
left_as Rest text = []
left_as Statement text = []
left_as Undecided text = []

-- each part fits what the line goes on with, and nothing is left behind the last one
unfoldable pub parts_fit : List (List ℕ) → List ℕ → Bool
parts_fit [] text = is_empty_line text
parts_fit (part ∷ parts) text = if part_fits_as (mark_of part) part text then parts_fit parts (left_as (mark_of part)
    text) else false

-- whether a line has the form: the form's lines are its parts, in order
abbrev pub fits : (form line : List ℕ) → Bool
fits form line = parts_fit (lines_of form) line

-- the tokens of a member of a JSON object whose value is a number; none without a number
abbrev pub number_tokens : List ℕ → Option ℕ → List Token
number_tokens name None = []
number_tokens name (Some found) = key (encode_utf8_all name) ∷ number (decimal found) ∷ []

-- a key with a text; each byte becomes the character with its number
abbrev pub text_tokens : (name text : List ℕ) → List Token
text_tokens name text = key (encode_utf8_all name) ∷ string (encode_utf8_all text) ∷ []

-- the member of a part with this mark, whose key stands behind the mark; a word of the form's own has none
abbrev pub part_tokens_as : Mark → (part text : List ℕ) → List Token
part_tokens_as Word part text = []
part_tokens_as Number part text = number_tokens (drop 1 part) (number_said (first_word text))
part_tokens_as Any part text = text_tokens (drop 1 part) (first_word text)
part_tokens_as Rest part text = text_tokens (drop 1 part) text
part_tokens_as Statement part text = text_tokens (drop 1 part) text
part_tokens_as Undecided part text = text_tokens (drop 1 part) text

-- the members of a line, by the parts of its form
unfoldable pub parts_tokens : List (List ℕ) → List ℕ → List Token
parts_tokens [] text = []
parts_tokens (part ∷ parts) text = part_tokens_as (mark_of part) part text ++ parts_tokens parts (left_as (mark_of
    part) text)

-- the first of the forms that fits a line; else the whole line is one text
unfoldable pub first_fit : List (List ℕ) → List ℕ → List ℕ
first_fit [] line = codes "=text"
first_fit (form ∷ forms) line = if fits form line then form else first_fit forms line

-- the forms of lines with their members' names; a line takes the first form that fits it (own rule)
abbrev pub all_forms : List (List ℕ)
all_forms =
    codes "!verdict"
    ∷ codes "OUTCOMES\n#outcomes"
    ∷ codes "OUTCOME\n#outcome"
    ∷ codes "OUTCOME\n#outcome\nCAME\n#came"
    ∷ codes "ORDER\n=order"
    ∷ codes "SEEN\n#seen"
    ∷ codes "SEEN\n#seen\nOF\n#of\nOUTCOMES"
    ∷ codes "HISTORY\n#history"
    ∷ codes "STOPS\n#stops"
    ∷ codes "STOP\n#stop\n#calls"
    ∷ codes "STOP\n=stop"
    ∷ codes "RECOVERED\ncommitted\n#committed\nrolled\nback\n#rolled_back\nmissing\n#missing"
    ∷ codes "ROW\n#store\n$key\n=value"
    ∷ codes "LINE\n#line\n=fault"
    ∷ codes "#format\n#gtrid_length\n#bqual_length\n=data"
    ∷ codes "#place\n#session\n~statement"
    ∷ codes "#session\n#place\n=reply"
    ∷ codes "#session\n=reply"
    ∷ []

-- the form of a line
abbrev pub form_for : List ℕ → List ℕ
form_for line = first_fit all_forms line

-- the object of a line, without blanks between its parts, and a line feed
abbrev pub object_line : List ℕ → List ℕ
object_line line = print (begin_object ∷ (parts_tokens (lines_of (form_for line)) line ++ end_object ∷ [])) ++ codes
    "\n"

-- the objects of lines, in their order
unfoldable pub objects_of : List (List ℕ) → List ℕ
-- the objects of lines
objects_of [] = []
objects_of (line ∷ lines) = object_line line ++ objects_of lines
