-- Numbers: decimal digits, or `0x` and hexadecimal digits.
--     NumberAt text value rest     the text begins with a number of the value, and `rest` comes after it
--     number_in run        the value of a run that is a number, or its fault
--     number_ahead text    the number that a text begins with, and the text after it, or its fault
--     number_from text at  the same at a place, and the place after it
use Rattle.std.specs.Prelude.{◌≡◌, ℕ, ◌^◌, ◌<◌, ◌==◌, ◌&&◌, nat_lt, not, if◌then◌else◌, IsTrue, List, ◌∷◌, ◌++◌, length}
use Rattle.std.specs.{Prelude.{drop, Option, Some, None, Result, Ok, Err}, Str.Parse.digits_value}
use Rattle.xa_xid.specs.{Bytes.{belongs, only, run, after_run, StartsNo}, Literal.{Reading, placed, hex_digits_of}}
use Rattle.xa_xid.specs.declared.byte_class.ByteClass.TheVariants.{Word, Decimal, Hexadecimal}
use Rattle.xa_xid.specs.declared.literal_fault.LiteralFault.{LiteralFault, TheVariants.{NotALiteral, NumberTooLarge}}

-- which number a text begins with: digits of a value below 2^64, no word byte after them (own rule)
pub data NumberAt : List ℕ → ℕ → List ℕ → Type 0 where
  decimal_digits : (digit : ℕ) (digits : List ℕ) {value : ℕ} {rest : List ℕ}
      → IsTrue (only (belongs Decimal) (digit ∷ digits))
      → digits_value 10 (digit ∷ digits) ≡ value → value < 2 ^ 64 → StartsNo (belongs Word) rest
      → NumberAt (digit ∷ digits ++ rest) value rest
  hexadecimal_digits : (digit : ℕ) (digits : List ℕ) {value : ℕ} {rest : List ℕ}
      → IsTrue (only (belongs Hexadecimal) (digit ∷ digits))
      → digits_value 16 (digit ∷ digits) ≡ value → value < 2 ^ 64 → StartsNo (belongs Word) rest
      → NumberAt (48 ∷ 120 ∷ digit ∷ digits ++ rest) value rest

-- the number, if it is at most 2^64-1, else too large (own rule)
unfoldable pub fitting : ℕ → Result ℕ LiteralFault
fitting value = if nat_lt value (2 ^ 64) then Ok value else Err NumberTooLarge

-- the number of the hexadecimal digits behind `0x`; None, of a run of another form, is no number
abbrev pub hex_number_of : Option (List ℕ) → Result ℕ LiteralFault
hex_number_of None = Err NotALiteral
hex_number_of (Some digits) = fitting (digits_value 16 digits)

-- the value of a run of one or more decimal digits, or of `0x` and one or more hexadecimal digits, with any count of
-- leading zeros; a run of another form, or a value from 2^64 on, is a fault (own rule)
abbrev pub number_in : List ℕ → Result ℕ LiteralFault
number_in run =
    if not (length run == 0) && only (belongs Decimal) run then fitting (digits_value 10 run) else hex_number_of
    (hex_digits_of run)

-- the number that a text begins with, and the text after it, or its fault
unfoldable pub number_ahead : List ℕ → Reading ℕ
number_ahead text = elim (number_in (run text)) [ Ok value ↦ Ok (value, after_run text) | Err fault ↦ Err fault ]

-- the number at a place, and the place after it, or its fault
abbrev pub number_from : List ℕ → ℕ → Result (ℕ × ℕ) LiteralFault
number_from text at = placed text (number_ahead (drop at text))
