-- Literals: a text literal, hexadecimal digits in quotes, and a run of hexadecimal digits.
--     LiteralAt text bytes rest      the text begins with a literal of the bytes, and `rest` comes after it
--     TextAt text found rest         the same of a literal of at most `text_bytes` bytes
--     Between Spelled text at value next     the text spells the value from `at` up to `next`
--     literal_ahead text             the literal that a text begins with, and the text after it, or its fault
--     literal_from text at           the same at a place, and the place after the literal
--     evened digits                  an odd number of digits with a 0 in front
--     text_literal_of, hex_in_quotes_of, hex_run_of     the reading of each of the three forms
--     kept bytes, sized              the bytes, if they aren't too many;  that as a reading
use Rattle.std.specs.Prelude.{◌≡◌, ℕ, ◌-◌, ◌≤◌, ◌%◌, Bool, false, ◌==◌, ◌||◌, ◌&&◌, not, nat_le, nat_lt, if◌then◌else◌}
use Rattle.std.specs.Prelude.{IsTrue, List, [], ◌∷◌, ◌++◌, length, drop, slice_index, Option, Some, None, Result, Ok}
use Rattle.std.specs.Prelude.{Err}
use Rattle.hex.specs.Hex.{decode_of}
use Rattle.xa_xid.specs.Bytes.{belongs, front, behind, only, run, after_run, StartsNo}
use Rattle.xa_xid.specs.{Limits.{text_bytes, text_digits}, Quoted.{QuotedAt, read_in_quotes}, Xid.Text}
use Rattle.xa_xid.specs.declared.{byte_class.ByteClass.TheVariants.{Word, Hexadecimal}, quoted.Mode.TheVariants.Plain}
use Rattle.xa_xid.specs.declared.literal_fault.LiteralFault.{LiteralFault}
use Rattle.xa_xid.specs.declared.literal_fault.LiteralFault.TheVariants.{NotALiteral, Unclosed, OddHex, TooLong}

-- what was read and the text after it, or the fault
abbrev pub Reading : Type 0 → Type 0
Reading Value = Result (Value × List ℕ) LiteralFault

-- whether the byte opens a text in quotes: ' or "
abbrev pub is_quote : ℕ → Bool
is_quote byte = byte == 39 || byte == 34

-- whether the byte opens hexadecimal digits in quotes: X or x
abbrev pub is_x : ℕ → Bool
is_x byte = byte == 88 || byte == 120

-- the text begins with a quote, ' or "
abbrev pub opens_text : List ℕ → Bool
opens_text [] = false
opens_text (first ∷ _) = is_quote first

-- the text begins with an X or x and a '
abbrev pub opens_hex : List ℕ → Bool
opens_hex (first ∷ second ∷ _) = is_x first && second == 39
opens_hex _ = false

-- an odd number of digits is read as if a 0 came first (manual, 'Hexadecimal Literals')
abbrev pub evened : List ℕ → List ℕ
evened digits = if length digits % 2 == 1 then 48 ∷ digits else digits

-- which literal a text begins with, and which bytes it stands for (manual, 'String Literals' and 'Hexadecimal
-- Literals')
pub data LiteralAt : List ℕ → List ℕ → List ℕ → Type 0 where
  text_literal : (quote : ℕ) {text bytes rest : List ℕ} → IsTrue (is_quote quote) → QuotedAt quote text bytes rest
      → LiteralAt (quote ∷ text) bytes rest
  hex_in_quotes : (letter : ℕ) (digits : List ℕ) {bytes rest : List ℕ} → IsTrue (is_x letter)
      → decode_of digits ≡ Ok bytes
      → IsTrue (only (belongs Hexadecimal) digits) → LiteralAt (letter ∷ 39 ∷ digits ++ 39 ∷ rest) bytes rest
  hex_run : (digit : ℕ) (digits : List ℕ) {bytes rest : List ℕ} → decode_of (evened (digit ∷ digits)) ≡ Ok bytes
      → IsTrue (only (belongs Hexadecimal) (digit ∷ digits)) → StartsNo (belongs Word) rest
      → LiteralAt (48 ∷ 120 ∷ digit ∷ digits ++ rest) bytes rest

-- the text begins with a literal of at most `text_bytes` bytes, and `rest` comes after it
pub record TextAt (text : List ℕ) (found : Text) (rest : List ℕ) : Type 0 where
  pub literal : LiteralAt text found.items rest
  pub fits : length found.items ≤ text_bytes

-- the text from `at` on spells the value, as `Spelled` has it, and the rest after that is the text from `next` on
pub record Between {Value : Type 0} (Spelled : List ℕ → Value → List ℕ → Type 0) (text : List ℕ) (at : ℕ)
    (value : Value) (next : ℕ) : Type 0 where
  pub within : next ≤ length text
  pub spelled : Spelled (drop at text) value (drop next text)

-- the text of these bytes; none if they are more than `text_bytes`
unfoldable pub kept : List ℕ → Option Text
kept bytes = if nat_le (length bytes) text_bytes then Some (record { items = bytes }) else None

-- the reading of a literal whose bytes were kept, with the text after it; too long if they weren't
abbrev pub sized : Option Text → List ℕ → Reading Text
sized None rest = Err TooLong
sized (Some text) rest = Ok (text, rest)

-- the reading of a text literal, by what stands behind its opening quote: unclosed, its bytes, or too long
abbrev pub text_literal_of : Option (List ℕ × List ℕ) → Reading Text
text_literal_of None = Err Unclosed
text_literal_of (Some (bytes, rest)) = sized (kept bytes) rest

-- the bytes of an even number of hexadecimal digits, which always decode
abbrev pub decoded : List ℕ → List ℕ → Reading Text
decoded digits rest =
    elim (decode_of digits) [ Ok bytes ↦ Ok (record { items = bytes }, rest) | Err _ ↦ Err NotALiteral ]

-- the reading of hexadecimal digits after `X'`, by the digits and the text after them: their bytes, or the first fault
abbrev pub hex_in_quotes_of : List ℕ → List ℕ → Reading Text
hex_in_quotes_of digits [] = Err Unclosed
hex_in_quotes_of digits (byte ∷ rest) =
    if not (byte == 39) then Err NotALiteral else
    if length digits % 2 == 1 then Err OddHex else
    if nat_lt text_digits (length digits) then Err TooLong else
    decoded digits rest

-- the digits of a run that is `0x` and one or more hexadecimal digits; none of any other run
abbrev pub hex_digits_of : List ℕ → Option (List ℕ)
hex_digits_of (zero_digit ∷ letter ∷ digit ∷ digits) =
    if zero_digit == 48 && letter == 120 && only (belongs Hexadecimal) (digit ∷ digits) then Some
    (digit ∷ digits) else None
hex_digits_of _ = None

-- the reading of a run, by its hexadecimal digits behind `0x`, if it has this form, and the text after the run
abbrev pub hex_run_of : Option (List ℕ) → List ℕ → Reading Text
hex_run_of None rest = Err NotALiteral
hex_run_of (Some digits) rest = if nat_lt text_digits (length digits) then Err TooLong else decoded (evened digits) rest

-- the literal that a text begins with, and the text after it, or the first fault that holds
unfoldable pub literal_ahead : List ℕ → Reading Text
literal_ahead text =
    if opens_text text then text_literal_of (read_in_quotes (slice_index text 0) Plain (drop 1 text)) else
    if opens_hex text then hex_in_quotes_of (front (belongs Hexadecimal) (drop 2 text))
    (behind (belongs Hexadecimal) (drop 2 text)) else
    hex_run_of (hex_digits_of (run text)) (after_run text)

-- a reading with the place of the rest in the text, instead of the rest; a fault stays
abbrev pub placed : {Value : Type 0} → List ℕ → Reading Value → Result (Value × ℕ) LiteralFault
placed text (Ok (value, rest)) = Ok (value, length text - length rest)
placed text (Err fault) = Err fault

-- the literal at a place, and the place after it, or its fault
abbrev pub literal_from : List ℕ → ℕ → Result (Text × ℕ) LiteralFault
literal_from text at = placed text (literal_ahead (drop at text))
