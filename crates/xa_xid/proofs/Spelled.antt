-- What is read as a literal is spelled as one, and each fault is a row of the table.
use Rattle.std.proofs.Common.{◌≡◌, ℕ, ◌+◌, ◌*◌, ◌%◌, ◌<◌, ◌≤◌, Bool, true, false, ◌==◌, ◌&&◌, not, nat_lt}
use Rattle.std.proofs.Common.{if◌then◌else◌, IsTrue, List, [], ◌∷◌, ◌++◌, length, drop, slice_index, Option, Some, None}
use Rattle.std.proofs.{Common.{Result, Ok, Err, refl, sym, ◌∙◌, subst, arith, inl, inr}, lemmas.Bool.cond_both}
use Rattle.std.proofs.lemmas.Bool.{eqb-true, eqb-false, ne_eqb, and_parts, cases_lt, lt-ltb, ltb-true, ltb-false}
use Rattle.std.proofs.lemmas.{Bool.{not-false, true≢false, Decides.nat_tests}, List.append-nil}
use Rattle.std.{proofs.lemmas.List.Elements.{All-nil, All-cons}, specs.List.AllPass}
use Rattle.hex.specs.{Hex.{decode_of, is_hex_digit}, declared.error.FromHexError.FromHexError}
use Rattle.hex.proofs.HexLemmas.{decode_of-digits}
use Rattle.xa_xid.specs.{Bytes.{belongs, front, behind, only, run, after_run, StartsNo}, Literal.{Reading, LiteralAt}}
use Rattle.xa_xid.specs.Literal.{text_literal, hex_in_quotes, hex_run, literal_ahead, opens_text, opens_hex, is_quote}
use Rattle.xa_xid.specs.Literal.{is_x, text_literal_of, sized, kept, decoded, evened, hex_in_quotes_of, hex_run_of}
use Rattle.xa_xid.specs.{Literal.hex_digits_of, Faults.{AreHex, HexRunAt, hex_run_at, FaultyLiteral, no_closing_quote}}
use Rattle.xa_xid.specs.Faults.{too_many_bytes, digits_without_end, digits_and_another_byte, odd_digits}
use Rattle.xa_xid.specs.{Faults.{too_many_digits, too_long_run, no_form}, Quoted.{QuotedAt, read_in_quotes}, Xid.Text}
use Rattle.xa_xid.specs.declared.byte_class.ByteClass.TheVariants.{Word, Hexadecimal}
use Rattle.xa_xid.specs.declared.{literal_fault.LiteralFault.LiteralFault, quoted.Mode.TheVariants.Plain}
use Rattle.xa_xid.proofs.{Texts.{kept-fits, kept-past}, Written.{Passes, decoded_found}, Spelling.Spelled}
use Rattle.xa_xid.proofs.Spelling.{read_quoted, quoted_found, opened_at, text_read, hex_quoted_at, quote_no_hex}
use Rattle.xa_xid.proofs.Spelling.{hex_run_cut, literal_at-run, front_passes, front-behind, passes_only, only_passes}
use Rattle.xa_xid.proofs.Spelling.{behind_starts, long_digits, evened_length}

-- the text begins with the literal that was read, of at most 64 bytes; or the fault is a row of the table
abbrev SpelledAs : List ℕ → Reading Text → Type 0
SpelledAs text (Ok found) = LiteralAt text found.0.items found.1 × (length found.0.items ≤ 64)
SpelledAs text (Err fault) = FaultyLiteral text fault

-- None is never Some
none_is_some : {A : Type 0} (value : A) → None ≡ Some value → ⊥
none_is_some value e = cc

-- an Err isn't an Ok
err_is_ok : (fault : FromHexError) (bytes : List ℕ) (found : Result (List ℕ) FromHexError) → found ≡ Err fault
    → found ≡ Ok bytes → ⊥
err_is_ok fault bytes found e f = cc

-- a test whose negation holds fails
not_true : (b : Bool) → not b ≡ true → b ≡ false
not_true true e = sym e
not_true false e = refl

-- a literal in quotes that is read is spelled so; if it is too long, that is its fault
quoted_spelled : (quote : ℕ) (text bytes rest : List ℕ) → IsTrue (is_quote quote) → QuotedAt quote text bytes rest
    → SpelledAs (quote ∷ text) (sized (kept bytes) rest)
quoted_spelled quote text bytes rest is q =
    elim (cases_lt 64 (length bytes)) as (λ _. SpelledAs (quote ∷ text) (sized (kept bytes) rest)) [
      | inl past ↦ rw (kept-past bytes past) (too_many_bytes quote text bytes rest is q past)
      | inr fits ↦ rw (kept-fits bytes fits) (text_literal quote is q, fits)
    ]

-- what is read as a literal in quotes is spelled so; unclosed quotes and too many bytes are its faults
text_spelled : (quote : ℕ) (text : List ℕ) (found : Option (List ℕ × List ℕ)) → IsTrue (is_quote quote)
    → read_in_quotes quote Plain text ≡ found
    → Spelled quote text found → SpelledAs (quote ∷ text) (text_literal_of found)
text_spelled quote text None is e s =
    no_closing_quote quote text is (λ bytes rest q. none_is_some (bytes, rest)
    (sym e ∙ quoted_found quote text bytes rest is q))
text_spelled quote text (Some (bytes, rest)) is e s = quoted_spelled quote text bytes rest is s

-- a reading is spelled if, where a test refuses it, the fault is one of the table's, and, where the test doesn't, the
-- reading is spelled
unless_fault : (text : List ℕ) (test : Bool) (fault : LiteralFault) (other : Reading Text)
    → (test ≡ true → FaultyLiteral text fault)
    → (test ≡ false → SpelledAs text other) → SpelledAs text (if test then Err fault else other)
unless_fault text true fault other row each = row refl
unless_fault text false fault other row each = each refl

-- if digits are decoded to the bytes of a literal that stands there, what is made of decoding is spelled
decoded_spelled : (text digits rest : List ℕ) (found : Result (List ℕ) FromHexError) → decode_of digits ≡ found
    → (bytes : List ℕ) × (decode_of digits ≡ Ok bytes)
    → ((bytes : List ℕ) → decode_of digits ≡ Ok bytes → LiteralAt text bytes rest × (length bytes ≤ 64))
    → SpelledAs text (decoded_found rest found)
decoded_spelled text digits rest (Ok bytes) e decodes each = each bytes e
decoded_spelled text digits rest (Err fault) e decodes each =
    absurd (err_is_ok fault decodes.0 (decode_of digits) e decodes.1)

-- a hexadecimal digit by its kind of byte is one for the decoder
hex_is_hex : (byte : ℕ) → belongs Hexadecimal byte ≡ true → is_hex_digit byte ≡ true
unfolding belongs
hex_is_hex byte is = grind (arith, nat_tests)

-- digits by the byte's kind are digits for the decoder
all_hex : (digits : List ℕ) → Passes (belongs Hexadecimal) digits → AllPass is_hex_digit digits
all_hex [] all = All-nil (λ digit. is_hex_digit digit ≡ true)
all_hex (digit ∷ digits) all =
    All-cons (λ digit. is_hex_digit digit ≡ true) digit digits (hex_is_hex digit all.0) (all_hex digits all.1)

-- an even number of hexadecimal digits can be decoded
digits_decode : (digits : List ℕ) → length digits % 2 ≡ 0 → Passes (belongs Hexadecimal) digits
    → (bytes : List ℕ) × (decode_of digits ≡ Ok bytes)
digits_decode digits even all = decode_of-digits digits even (all_hex digits all)

-- the digit 0 (48) is a hexadecimal digit
zero_is_hex : belongs Hexadecimal 48 ≡ true
unfolding belongs
zero_is_hex = refl

-- an odd number of digits is decoded with a 0 in front, and an even one as it is
evened_decode : (digits : List ℕ) (odd : Bool) → (length digits % 2 == 1) ≡ odd → Passes (belongs Hexadecimal) digits
    → (bytes : List ℕ) × (decode_of (if odd then 48 ∷ digits else digits) ≡ Ok bytes)
evened_decode digits true e all =
    digits_decode (48 ∷ digits) (omega (arith, eqb-true (length digits % 2) 1 e)) (zero_is_hex, all)
evened_decode digits false e all = digits_decode digits (omega (arith, eqb-false (length digits % 2) 1 e)) all

-- what is read as hexadecimal digits in quotes is spelled so
hex_quoted_spelled : (letter : ℕ) (digits rest : List ℕ) → IsTrue (is_x letter) → Passes (belongs Hexadecimal) digits
    → StartsNo (belongs Hexadecimal) rest
    → SpelledAs (letter ∷ 39 ∷ digits ++ rest) (hex_in_quotes_of digits rest)
hex_quoted_spelled letter digits [] is all stops =
    rw (append-nil digits) (digits_without_end letter digits is (passes_only (belongs Hexadecimal) digits all))
hex_quoted_spelled letter digits (byte ∷ rest) is all stops =
    let hex : AreHex digits = passes_only (belongs Hexadecimal) digits all in
    let text = letter ∷ 39 ∷ digits ++ byte ∷ rest in
    let read : Reading Text = decoded digits rest in
    let long : Reading Text = if nat_lt 128 (length digits) then Err LiteralFault.TooLong else read in
    let odd : Reading Text = if length digits % 2 == 1 then Err LiteralFault.OddHex else long in
    unless_fault text (not (byte == 39)) LiteralFault.NotALiteral odd
    (λ other. digits_and_another_byte letter byte digits rest is hex stops
    (eqb-false byte 39 (not_true (byte == 39) other)))
    (λ closes. let same : byte ≡ 39 = eqb-true byte 39 (not-false (byte == 39) closes) in
    unless_fault text (length digits % 2 == 1) LiteralFault.OddHex long
    (λ is_odd. rw same (odd_digits letter digits rest is hex (eqb-true (length digits % 2) 1 is_odd)))
    (λ is_even. let even : length digits % 2 ≡ 0 = omega (arith, eqb-false (length digits % 2) 1 is_even) in
    unless_fault text (nat_lt 128 (length digits)) LiteralFault.TooLong read
    (λ past. rw same (too_many_digits letter digits rest is hex even (ltb-true 128 (length digits) past)))
    (λ short. decoded_spelled text digits rest (decode_of digits) refl (digits_decode digits even all)
    (λ bytes e.
    let twice : length digits ≡ 2 * length bytes = (long_digits digits bytes e).1 in
    let form : LiteralAt (letter ∷ 39 ∷ digits ++ 39 ∷ rest) bytes rest = hex_in_quotes letter digits is e hex in
    (rw same form, omega (arith, ltb-false 128 (length digits) short, twice))))))

-- what opens hexadecimal digits in quotes is an `X` or `x` and a quote (39)
opens_parts : (letter second : ℕ) → (is_x letter && second == 39) ≡ true → IsTrue (is_x letter) × (second ≡ 39)
opens_parts letter second e = let parts = and_parts (is_x letter) (second == 39) e in
    (parts.0, eqb-true second 39 parts.1)

-- what is read of hexadecimal digits in quotes is spelled by the grammar
hex_opened_spelled : (text : List ℕ) → opens_hex text ≡ true
    → SpelledAs text (hex_in_quotes_of (front (belongs Hexadecimal) (drop 2 text))
    (behind (belongs Hexadecimal) (drop 2 text)))
hex_opened_spelled [] e = absurd (true≢false (sym e))
hex_opened_spelled (letter ∷ []) e = absurd (true≢false (sym e))
hex_opened_spelled (letter ∷ second ∷ text) e =
    let hex = belongs Hexadecimal in
    let parts = opens_parts letter second e in
    let spelled = hex_quoted_spelled letter (front hex text) (behind hex text) parts.0 (front_passes hex text)
    (behind_starts hex text) in
    rw parts.1 (rw (front-behind hex text) at spelled)

-- what is read as `0x` and digits is spelled so, for a run that stands in front
run_spelled : (written rest : List ℕ) → StartsNo (belongs Word) rest
    → (hex_digits_of written ≡ None → FaultyLiteral (written ++ rest) LiteralFault.NotALiteral)
    → SpelledAs (written ++ rest) (hex_run_of (hex_digits_of written) rest)
run_spelled [] rest s none = none refl
run_spelled (a ∷ []) rest s none = none refl
run_spelled (a ∷ b ∷ []) rest s none = none refl
run_spelled (a ∷ b ∷ digit ∷ digits) rest s none =
    let hex = belongs Hexadecimal in
    let all = digit ∷ digits in
    let text = a ∷ b ∷ digit ∷ digits ++ rest in
    elim (a == 48 && b == 120 && only hex all) as (λ t. (a == 48 && b == 120 && only hex all) ≡ t
    → SpelledAs text (hex_run_of (if t then Some all else None) rest)) [
      | true ↦ λ e.
          let outer = and_parts (a == 48 && b == 120) (only hex all) e in
          let inner = and_parts (a == 48) (b == 120) outer.0 in
          let at : HexRunAt text all rest = rw (eqb-true a 48 inner.0, eqb-true b 120 inner.1)
          (hex_run_at digit digits rest outer.1 s) in
          unless_fault text (nat_lt 128 (length all)) LiteralFault.TooLong (decoded (evened all) rest)
          (λ past. too_long_run text all rest at (ltb-true 128 (length all) past))
          (λ short. decoded_spelled text (evened all) rest (decode_of (evened all)) refl
          (evened_decode all (length all % 2 == 1) refl (only_passes hex all outer.1))
          (λ bytes d.
          let twice : length (evened all) ≡ 2 * length bytes = (long_digits (evened all) bytes d).1 in
          let near = evened_length all (length all % 2 == 1) refl in
          let high : length (evened all) ≤ length all + 1 = near.1 in
          let form : LiteralAt (48 ∷ 120 ∷ digit ∷ digits ++ rest) bytes rest = hex_run digit digits d outer.1 s in (
            rw (eqb-true a 48 inner.0, eqb-true b 120 inner.1) form,
            omega
                (arith, ltb-false 128 (length all) short, twice, high),
          )))
      | false ↦ λ e. none (rw e refl)
    ] refl

-- where `0x` and digits stand, these digits are found in the run of word bytes in front
run_found : (text digits rest : List ℕ) → HexRunAt text digits rest → hex_digits_of (run text) ≡ Some digits
run_found _ _ _ (hex_run_at digit digits rest hex s) =
    (hex_run_cut digit digits rest (only_passes (belongs Hexadecimal) (digit ∷ digits) hex) s).0

-- a text that opens no quotes, and whose run of word bytes in front isn't `0x` with digits, begins with no literal
no_run : (text : List ℕ) → opens_text text ≡ false → opens_hex text ≡ false → hex_digits_of (run text) ≡ None
    → FaultyLiteral text LiteralFault.NotALiteral
no_run text no_text no_hex e =
    no_form text no_text no_hex (λ digits rest form. none_is_some digits (sym e ∙ run_found text digits rest form))

-- what is read as `0x` and digits is spelled so
run_read_spelled : (text : List ℕ) → opens_text text ≡ false → opens_hex text ≡ false
    → SpelledAs text (hex_run_of (hex_digits_of (run text)) (after_run text))
run_read_spelled text no_text no_hex =
    let whole : run text ++ after_run text ≡ text = front-behind (belongs Word) text in
    let none : hex_digits_of (run text) ≡ None → FaultyLiteral (run text ++ after_run text) LiteralFault.NotALiteral =
    λ e. rw whole (no_run text no_text no_hex e) in
    let read : Reading Text = hex_run_of (hex_digits_of (run text)) (after_run text) in
    subst (λ t. SpelledAs t read) whole (run_spelled (run text) (after_run text)
    (behind_starts (belongs Word) text) none)

-- what is read behind an opening quote is spelled so
text_opened_spelled : (text : List ℕ) (quote : ℕ) → opens_text text ≡ true → quote ≡ slice_index text 0
    → SpelledAs text (text_literal_of (read_in_quotes (slice_index text 0) Plain (drop 1 text)))
text_opened_spelled [] quote e is = absurd (true≢false (sym e))
text_opened_spelled (first ∷ text) quote e is =
    text_spelled first text (read_in_quotes first Plain text) e refl (read_quoted first Plain text)

-- what is read as a literal is spelled as one, and each fault is told rightly
literal_spelled : (text : List ℕ) → SpelledAs text (literal_ahead text)
unfolding literal_ahead
literal_spelled text =
    let hex = belongs Hexadecimal in
    let as_run : Reading Text = hex_run_of (hex_digits_of (run text)) (after_run text) in
    let as_hex : Reading Text = hex_in_quotes_of (front hex (drop 2 text)) (behind hex (drop 2 text)) in
    let as_text : Reading Text = text_literal_of (read_in_quotes (slice_index text 0) Plain (drop 1 text)) in
    cond_both (opens_text text) as_text (if opens_hex text then as_hex else as_run) (SpelledAs text)
    (λ e. text_opened_spelled text (slice_index text 0) e refl)
    (λ no_text. cond_both (opens_hex text) as_hex as_run (SpelledAs text) (λ e. hex_opened_spelled text e)
    (λ no_hex. run_read_spelled text no_text no_hex))

-- a literal that is read is spelled so, and has at most 64 bytes
pub read_spelled : (text : List ℕ) (found : Text) (rest : List ℕ) → literal_ahead text ≡ Ok (found, rest)
    → LiteralAt text found.items rest × (length found.items ≤ 64)
read_spelled text found rest e = rw e at (literal_spelled text)

-- each fault of reading a literal is a row of the table of faults
pub read_faulty : (text : List ℕ) (fault : LiteralFault) → literal_ahead text ≡ Err fault → FaultyLiteral text fault
read_faulty text fault e = rw e at (literal_spelled text)

-- if no `0x` with digits stands at the front of a text, none is found in the run of word bytes there
run_none : (written rest : List ℕ) → StartsNo (belongs Word) rest
    → ((digits behind : List ℕ) → HexRunAt (written ++ rest) digits behind → ⊥)
    → hex_digits_of written ≡ None
run_none [] rest s refused = refl
run_none (a ∷ []) rest s refused = refl
run_none (a ∷ b ∷ []) rest s refused = refl
run_none (a ∷ b ∷ digit ∷ digits) rest s refused =
    let all = digit ∷ digits in
    let test = a == 48 && b == 120 && only (belongs Hexadecimal) all in
    elim test as (λ t. test ≡ t → (if t then Some all else None) ≡ None) [
      | true ↦ λ e.
          let outer = and_parts (a == 48 && b == 120) (only (belongs Hexadecimal) all) e in
          let inner = and_parts (a == 48) (b == 120) outer.0 in
          absurd (refused all rest (rw (eqb-true a 48 inner.0, eqb-true b 120 inner.1)
          (hex_run_at digit digits rest outer.1 s)))
      | false ↦ λ e. refl
    ] refl

-- a text that opens no quotes, and whose run of word bytes in front isn't `0x` with digits, is told as no literal
no_run_read : (text : List ℕ) → opens_text text ≡ false → opens_hex text ≡ false → hex_digits_of (run text) ≡ None
    → literal_ahead text ≡ Err LiteralFault.NotALiteral
unfolding literal_ahead
no_run_read text no_text no_hex e = rw (no_text, no_hex, e) refl

-- quotes that aren't closed are told as that fault
unclosed_read : (quote : ℕ) (text : List ℕ) (found : Option (List ℕ × List ℕ))
    → ((bytes rest : List ℕ) → QuotedAt quote text bytes rest → ⊥)
    → Spelled quote text found → text_literal_of found ≡ Err LiteralFault.Unclosed
unclosed_read quote text None refused s = refl
unclosed_read quote text (Some (bytes, rest)) refused s = absurd (refused bytes rest s)

-- `0x` and more than 128 digits, which are more than 64 bytes, are told as too long
long_run_read : (text digits rest : List ℕ) → HexRunAt text digits rest → 128 < length digits
    → literal_ahead text ≡ Err LiteralFault.TooLong
long_run_read _ _ _ (hex_run_at digit digits rest hex s) long =
    literal_at-run digit digits rest (only_passes (belongs Hexadecimal) (digit ∷ digits) hex) s
    ∙ rw (lt-ltb 128 (length (digit ∷ digits)) long) refl

-- a row of the table is told as its fault
pub faulty_read : (text : List ℕ) (fault : LiteralFault) → FaultyLiteral text fault → literal_ahead text ≡ Err fault
faulty_read _ _ (no_closing_quote quote text is refused) =
    opened_at quote text is ∙ unclosed_read quote text (read_in_quotes quote Plain text) refused
    (read_quoted quote Plain text)
faulty_read _ _ (too_many_bytes quote text bytes rest is q past) =
    text_read quote text bytes rest is q ∙ rw (kept-past bytes past) refl
faulty_read _ _ (digits_without_end letter digits is hex) =
    rw (append-nil digits) at (hex_quoted_at letter digits [] is (only_passes (belongs Hexadecimal) digits hex) tt)
faulty_read _ _ (digits_and_another_byte letter byte digits rest is hex stops other) =
    hex_quoted_at letter digits (byte ∷ rest) is (only_passes (belongs Hexadecimal) digits hex) stops
    ∙ rw (ne_eqb byte 39 other) refl
faulty_read _ _ (odd_digits letter digits rest is hex odd) =
    hex_quoted_at letter digits (39 ∷ rest) is (only_passes (belongs Hexadecimal) digits hex) (quote_no_hex rest)
    ∙ rw odd refl
faulty_read _ _ (too_many_digits letter digits rest is hex even long) =
    hex_quoted_at letter digits (39 ∷ rest) is (only_passes (belongs Hexadecimal) digits hex) (quote_no_hex rest)
    ∙ rw (even, lt-ltb 128 (length digits) long) refl
faulty_read _ _ (too_long_run text digits rest form long) = long_run_read text digits rest form long
faulty_read _ _ (no_form text no_text no_hex refused) =
    let whole : run text ++ after_run text ≡ text = front-behind (belongs Word) text in
    no_run_read text no_text no_hex
    (run_none (run text) (after_run text) (behind_starts (belongs Word) text)
    (λ digits rest form. refused digits rest (rw whole at form)))
