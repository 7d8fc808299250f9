-- Why a text begins with no literal, no number or no identifier: the table of faults, a constructor for each row.
--     AreHex digits                 there are only hexadecimal digits
--     HexRunAt text digits rest     the text begins with `0x` and these digits, and `rest` comes after them
--     FaultyLiteral text fault      the text begins with no literal of at most `text_bytes` bytes, and this is the
--                                   first fault that holds
--     NumeralAt text value rest     the text begins with the digits of a number, of any size, and `rest` comes after
--                                   them
--     FaultyNumber text fault       the text begins with no number below 2^64, for this reason
--     FaultyXid text fault rest     the text begins with no identifier, for this reason; `rest` is the text from the
--                                   faulty token on
use Rattle.std.specs.Prelude.{◌≡◌, ◌≢◌, ℕ, ◌<◌, ◌≤◌, ◌%◌, ◌^◌, false, IsTrue, List, ◌∷◌, ◌++◌, length}
use Rattle.std.specs.Str.Parse.{digits_value}
use Rattle.xa_xid.specs.{Bytes.{belongs, only, unblank, StartsNo}, Limits.{text_bytes, text_digits}, XidText.CommaAt}
use Rattle.xa_xid.specs.{Literal.{TextAt, is_quote, is_x, opens_text, opens_hex}, Quoted.QuotedAt, Xid.Text}
use Rattle.xa_xid.specs.declared.byte_class.ByteClass.TheVariants.{Word, Decimal, Hexadecimal}
use Rattle.xa_xid.specs.declared.literal_fault.LiteralFault.{LiteralFault, TheVariants.{NotALiteral, Unclosed, OddHex}}
use Rattle.xa_xid.specs.declared.literal_fault.LiteralFault.TheVariants.{TooLong, NumberTooLarge}

-- the numbers by which faults are reported (own rule)
abbrev pub number_of_literal_fault : LiteralFault → ℕ
number_of_literal_fault NotALiteral = 1
number_of_literal_fault Unclosed = 2
number_of_literal_fault OddHex = 3
number_of_literal_fault TooLong = 4
number_of_literal_fault NumberTooLarge = 5

-- the text has only hexadecimal digits, maybe none
abbrev pub AreHex : List ℕ → Type 0
AreHex digits = IsTrue (only (belongs Hexadecimal) digits)

-- the text is `0x`, one or more hexadecimal digits, `digits`, and `rest`, which doesn't begin with a word byte
pub data HexRunAt : List ℕ → List ℕ → List ℕ → Type 0 where
  hex_run_at : (digit : ℕ) (digits rest : List ℕ) → AreHex (digit ∷ digits) → StartsNo (belongs Word) rest
      → HexRunAt (48 ∷ 120 ∷ digit ∷ digits ++ rest) (digit ∷ digits) rest

-- the text begins with no literal of at most `text_bytes` bytes, for this reason: the rows of the table, each with what
-- keeps those before it from holding (own rule)
pub data FaultyLiteral : List ℕ → LiteralFault → Type 0 where
  no_closing_quote : (quote : ℕ) (text : List ℕ) → IsTrue (is_quote quote)
      → ((bytes rest : List ℕ) → QuotedAt quote text bytes rest → ⊥)
      → FaultyLiteral (quote ∷ text) Unclosed
  too_many_bytes : (quote : ℕ) (text bytes rest : List ℕ) → IsTrue (is_quote quote) → QuotedAt quote text bytes rest
      → text_bytes < length bytes
      → FaultyLiteral (quote ∷ text) TooLong
  digits_without_end : (letter : ℕ) (digits : List ℕ) → IsTrue (is_x letter) → AreHex digits
      → FaultyLiteral (letter ∷ 39 ∷ digits) Unclosed
  digits_and_another_byte : (letter byte : ℕ) (digits rest : List ℕ) → IsTrue (is_x letter) → AreHex digits
      → belongs Hexadecimal byte ≡ false → byte ≢ 39 → FaultyLiteral (letter ∷ 39 ∷ digits ++ byte ∷ rest) NotALiteral
  odd_digits : (letter : ℕ) (digits rest : List ℕ) → IsTrue (is_x letter) → AreHex digits
      → length digits % 2 ≡ 1 → FaultyLiteral (letter ∷ 39 ∷ digits ++ 39 ∷ rest) OddHex
  too_many_digits : (letter : ℕ) (digits rest : List ℕ) → IsTrue (is_x letter) → AreHex digits
      → length digits % 2 ≡ 0 → text_digits < length digits → FaultyLiteral (letter ∷ 39 ∷ digits ++ 39 ∷ rest) TooLong
  too_long_run : (text digits rest : List ℕ) → HexRunAt text digits rest → text_digits < length digits
      → FaultyLiteral text TooLong
  no_form : (text : List ℕ) → opens_text text ≡ false → opens_hex text ≡ false
      → ((digits rest : List ℕ) → HexRunAt text digits rest → ⊥) → FaultyLiteral text NotALiteral

-- the text begins with one or more decimal digits, or `0x` and one or more hexadecimal digits, of this value, which has
-- no limit. `rest` comes after them, and doesn't begin with a word byte
pub data NumeralAt : List ℕ → ℕ → List ℕ → Type 0 where
  decimal_numeral : (digit : ℕ) (digits rest : List ℕ) → IsTrue (only (belongs Decimal) (digit ∷ digits))
      → StartsNo (belongs Word) rest
      → NumeralAt (digit ∷ digits ++ rest) (digits_value 10 (digit ∷ digits)) rest
  hexadecimal_numeral : (text digits rest : List ℕ) → HexRunAt text digits rest
      → NumeralAt text (digits_value 16 digits) rest

-- the text begins with no number at all, or with one above 2^64-1 (own rule)
pub data FaultyNumber : List ℕ → LiteralFault → Type 0 where
  no_number : (text : List ℕ) → ((value : ℕ) (rest : List ℕ) → NumeralAt text value rest → ⊥)
      → FaultyNumber text NotALiteral
  too_large : (text : List ℕ) (value : ℕ) (rest : List ℕ) → NumeralAt text value rest → 2 ^ 64 ≤ value
      → FaultyNumber text NumberTooLarge

-- the gtrid, the bqual or the formatID is faulty, and no token before it is; the last list is the text from the faulty
-- one on (own rule)
pub data FaultyXid : List ℕ → LiteralFault → List ℕ → Type 0 where
  faulty_gtrid : (text : List ℕ) (fault : LiteralFault) → FaultyLiteral (unblank text) fault
      → FaultyXid text fault (unblank text)
  faulty_bqual : (text second third : List ℕ) (gtrid : Text) (fault : LiteralFault) → TextAt (unblank text) gtrid second
      → CommaAt (unblank second) third → FaultyLiteral (unblank third) fault → FaultyXid text fault (unblank third)
  faulty_format_id : (text second third fourth fifth : List ℕ) (gtrid bqual : Text) (fault : LiteralFault)
      → TextAt (unblank text) gtrid second
      → CommaAt (unblank second) third → TextAt (unblank third) bqual fourth → CommaAt (unblank fourth) fifth
      → FaultyNumber (unblank fifth) fault → FaultyXid text fault (unblank fifth)
