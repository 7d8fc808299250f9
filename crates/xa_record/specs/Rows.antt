-- The rows of a return, as XA RECOVER CONVERT XID prints them: formatID, the lengths of gtrid and bqual, and
-- the bytes of both together.
use Rattle.std.specs.Prelude.{ℕ, ◌+◌, ◌==◌, ◌&&◌, nat_le, if◌then◌else◌, Option, Some, None, Result, Ok, Err, List, ◌∷◌}
use Rattle.std.specs.Prelude.{take, drop}
use Rattle.hex.specs.{Hex.decode_sized, declared.error.FromHexError.FromHexError}
use Rattle.xa_xid.specs.{Bytes.{belongs, front}, Limits.text_bytes, declared.byte_class.ByteClass.TheVariants.Decimal}
use Rattle.xa_xid.specs.declared.xid.Xid.{Xid}
use Rattle.xa_lines.specs.Script.{is_empty_line, first_word, behind_word, number_of_word}

-- the number of a text's first digits; None if there are none, if a zero stands before others, and for 2^64 or more
unfoldable pub leading_number : List ℕ → Option ℕ
-- the number of a text's first digits
leading_number text = number_of_word (front (belongs Decimal) text)

-- what a word has after its `0x`, where digits belong; None if it doesn't begin so
abbrev pub digits_named : List ℕ → Option (List ℕ)
digits_named (zero_digit ∷ letter ∷ digits) = if zero_digit == 48 && letter == 120 then Some digits else None
digits_named word = None

-- the identifier with these bytes, first those of its gtrid; None if its digits weren't read as bytes
abbrev pub xid_of : ℕ → ℕ → Result (List ℕ) FromHexError → Option Xid
xid_of format_id gtrid (Ok bytes) =
    Some (record {
      format_id = format_id;
      gtrid = record { items = take gtrid bytes };
      bqual = record
          { items = drop gtrid bytes };
    })
xid_of format_id gtrid (Err fault) = None

-- the identifier with this formatID, these lengths of gtrid and bqual, and these digits for both; None if a length is
-- over 64, or the digits aren't two hexadecimal ones for each byte
unfoldable pub xid_written : ℕ → ℕ → ℕ → List ℕ → Option Xid
xid_written format_id gtrid bqual digits =
    if nat_le gtrid text_bytes && nat_le bqual text_bytes then xid_of format_id gtrid
    (decode_sized digits (gtrid + bqual)) else None

-- the identifier of three numbers and digits, if each of the four words could be read
abbrev pub xid_with : Option ℕ → Option ℕ → Option ℕ → Option (List ℕ) → Option Xid
xid_with (Some format_id) (Some gtrid) (Some bqual) (Some digits) = xid_written format_id gtrid bqual digits
xid_with format_id gtrid bqual digits = None

-- the identifier of four words, if no text follows them; each argument is the text from one of the words on
unfoldable pub row_of : List ℕ → List ℕ → List ℕ → List ℕ → Option Xid
row_of first second third fourth =
    if is_empty_line (behind_word fourth) then xid_with (number_of_word (first_word first))
    (number_of_word (first_word second)) (number_of_word (first_word third))
    (digits_named (first_word fourth)) else None

-- the identifier that a row is, from its first byte on that isn't a blank; None if it isn't a row
unfoldable pub row_said : List ℕ → Option Xid
-- the identifier that a line is
row_said text =
    row_of text (behind_word text) (behind_word (behind_word text)) (behind_word (behind_word (behind_word text)))
