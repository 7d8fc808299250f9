-- What is spelled as a literal is read as one; and what is read between quotes is spelled there.
use Rattle.std.proofs.Common.{◌≡◌, ℕ, ◌+◌, ◌*◌, ◌%◌, ◌<◌, ◌≤◌, Bool, true, false, ◌==◌, nat_lt, if◌then◌else◌, IsTrue}
use Rattle.std.proofs.Common.{List, [], ◌∷◌, ◌++◌, length, Option, Some, None, Ok, Err, refl, sym, ◌∙◌, ap, arith, ◌⊎◌}
use Rattle.std.proofs.{Common.{inl, inr}, lemmas.Bool.{cond_both, eqb-true, eqb-false, or_cases, ltb-true, ltb-false}}
use Rattle.std.proofs.lemmas.Bool.Decides.{nat_tests}
use Rattle.hex.{specs.Hex.decode_of, proofs.HexLemmas.decode_of-ok}
use Rattle.xa_xid.specs.{Bytes.{belongs, front, behind, only, run, after_run, StartsNo}, Literal.LiteralAt}
use Rattle.xa_xid.specs.Literal.{text_literal, hex_in_quotes, hex_run, literal_ahead, is_quote, is_x, text_literal_of}
use Rattle.xa_xid.specs.Literal.{sized, kept, decoded, evened, hex_in_quotes_of, hex_run_of, hex_digits_of}
use Rattle.xa_xid.specs.Quoted.{Quoted, close, doubled, escape, plain, QuotedAt, read_in_quotes, onto, escaped}
use Rattle.xa_xid.specs.declared.byte_class.ByteClass.TheVariants.{Word, Hexadecimal}
use Rattle.xa_xid.specs.declared.{literal_fault.LiteralFault.TheVariants.TooLong, quoted.Mode.Mode}
use Rattle.xa_xid.specs.declared.quoted.Mode.TheVariants.{Plain, Escape, Quote}
use Rattle.xa_xid.proofs.Cuts.{front-passes, front-stops, front-nil, behind-passes, behind-stops, behind-nil}
use Rattle.xa_xid.proofs.Reading.{plain_quote, plain_backslash, plain_byte, escape_letter, quote_again, quote_closes}
use Rattle.xa_xid.proofs.{Reading.quoted-nil-quote, Texts.{kept-fits, kept-past}}
use Rattle.xa_xid.proofs.Written.{Passes, front-append, behind-append, decoded_found}

-- a quote that no other quote follows ends the text
ends_read : (quote : ℕ) (rest : List ℕ) → StartsNo (λ byte. byte == quote) rest
    → read_in_quotes quote Quote rest ≡ Some ([], rest)
ends_read quote [] last = quoted-nil-quote quote
ends_read quote (byte ∷ rest) last = quote_closes quote byte rest (eqb-false byte quote last)

-- what is spelled between quotes is read so, up to a byte that isn't the quote
spelled_quoted : (quote : ℕ) (written bytes rest : List ℕ) → (quote ≡ 92 → ⊥) → StartsNo (λ byte. byte == quote) rest
    → Quoted quote written bytes
    → read_in_quotes quote Plain (written ++ rest) ≡ Some (bytes, rest)
spelled_quoted quote _ _ rest other last close = plain_quote quote quote rest refl ∙ ends_read quote rest last
spelled_quoted quote _ _ rest other last (doubled {written} {bytes} form) =
    plain_quote quote quote (quote ∷ written ++ rest) refl
    ∙ quote_again quote quote (written ++ rest) refl
    ∙ ap (onto (quote ∷ [])) (spelled_quoted quote written bytes rest other last form)
spelled_quoted quote _ _ rest other last (escape letter {written} {bytes} form) =
    plain_backslash quote 92 (letter ∷ written ++ rest) (λ e. other (sym e)) refl
    ∙ escape_letter quote letter (written ++ rest)
    ∙ ap (onto (escaped letter)) (spelled_quoted quote written bytes rest other last form)
spelled_quoted quote _ _ rest other last (plain byte {written} {bytes} differs unescaped form) =
    plain_byte quote byte (written ++ rest) differs unescaped
    ∙ ap (onto (byte ∷ [])) (spelled_quoted quote written bytes rest other last form)

-- in each mode of the machine, the text with what was read before it put back
abbrev pub before : ℕ → Mode → List ℕ → List ℕ
before quote Plain text = text
before quote Escape text = 92 ∷ text
before quote Quote text = quote ∷ text

-- what was read between quotes is spelled there, or the quotes aren't closed
abbrev pub Spelled : ℕ → List ℕ → Option (List ℕ × List ℕ) → Type 0
Spelled quote text None = Unit {0}
Spelled quote text (Some found) = QuotedAt quote text found.0 found.1

-- with a plain byte more in front, what was read between quotes is still spelled there, with that byte
more_plain : (quote byte : ℕ) (text : List ℕ) (found : Option (List ℕ × List ℕ)) → (byte ≡ quote → ⊥) → (byte ≡ 92 → ⊥)
    → Spelled quote text found
    → Spelled quote (byte ∷ text) (onto (byte ∷ []) found)
more_plain quote byte text None differs unescaped s = tt
more_plain quote byte text (Some (bytes, rest)) differs unescaped s = record {
  written = byte ∷ s.written;
  form = plain byte differs unescaped s.form;
  cut = ap (λ t. byte ∷ t) s.cut;
  last = s.last;
}

-- with an escaped byte more in front, what was read between quotes is still spelled there, with what the escape
-- stands for
more_escaped : (quote letter : ℕ) (text : List ℕ) (found : Option (List ℕ × List ℕ)) → Spelled quote text found
    → Spelled quote (92 ∷ letter ∷ text) (onto (escaped letter) found)
more_escaped quote letter text None s = tt
more_escaped quote letter text (Some (bytes, rest)) s = record {
  written = 92 ∷ letter ∷ s.written;
  form = escape letter s.form;
  cut = ap (λ t. 92 ∷ letter ∷ t) s.cut;
  last = s.last;
}

-- with a doubled quote more in front, what was read between quotes is still spelled there, with one quote
more_doubled : (quote : ℕ) (text : List ℕ) (found : Option (List ℕ × List ℕ)) → Spelled quote text found
    → Spelled quote (quote ∷ quote ∷ text) (onto (quote ∷ []) found)
more_doubled quote text None s = tt
more_doubled quote text (Some (bytes, rest)) s = record {
  written = quote ∷ quote ∷ s.written;
  form = doubled s.form;
  cut = ap (λ t. quote ∷ quote ∷ t) s.cut;
  last = s.last;
}

-- what the machine reads between quotes, from any mode on, is spelled there
pub read_quoted : (quote : ℕ) (mode : Mode) (text : List ℕ)
    → Spelled quote (before quote mode text) (read_in_quotes quote mode text)
unfolding read_in_quotes
read_quoted quote Plain [] = tt
read_quoted quote Plain (byte ∷ text) =
    cond_both (byte == quote) (read_in_quotes quote Quote text)
    (if byte == 92 then read_in_quotes quote Escape text else onto (byte ∷ []) (read_in_quotes quote Plain text))
    (Spelled quote (byte ∷ text))
    (λ e. rw (eqb-true byte quote e) (read_quoted quote Quote text))
    (λ differs. cond_both (byte == 92) (read_in_quotes quote Escape text)
    (onto (byte ∷ []) (read_in_quotes quote Plain text)) (Spelled quote (byte ∷ text))
    (λ e. rw (eqb-true byte 92 e) (read_quoted quote Escape text))
    (λ unescaped. more_plain quote byte text (read_in_quotes quote Plain text) (eqb-false byte quote differs)
    (eqb-false byte 92 unescaped)
    (read_quoted quote Plain text)))
read_quoted quote Escape [] = tt
read_quoted quote Escape (letter ∷ text) =
    more_escaped quote letter text (read_in_quotes quote Plain text) (read_quoted quote Plain text)
read_quoted quote Quote [] = record { written = quote ∷ []; form = close; cut = refl; last = tt }
read_quoted quote Quote (byte ∷ text) =
    cond_both (byte == quote) (onto (quote ∷ []) (read_in_quotes quote Plain text)) (Some ([], byte ∷ text))
    (Spelled quote (quote ∷ byte ∷ text))
    (λ e. rw (eqb-true byte quote e) (more_doubled quote text (read_in_quotes quote Plain text)
    (read_quoted quote Plain text)))
    (λ differs. record { written = quote ∷ []; form = close; cut = refl; last = differs })

-- the bytes in front all pass
pub front_passes : (p : ℕ → Bool) (text : List ℕ) → Passes p (front p text)
unfolding front
front_passes p [] = tt
front_passes p (byte ∷ text) =
    cond_both (p byte) (byte ∷ front p text) [] (Passes p) (λ e. (e, front_passes p text)) (λ _. tt)

-- front and rest make the text
pub front-behind : (p : ℕ → Bool) (text : List ℕ) → front p text ++ behind p text ≡ text
front-behind p [] = rw (front-nil p, behind-nil p) refl
front-behind p (byte ∷ text) =
    elim (p byte) as (λ b. p byte ≡ b → front p (byte ∷ text) ++ behind p (byte ∷ text) ≡ byte ∷ text) [
      | true ↦ λ e. rw (front-passes p byte text e, behind-passes p byte text e)
          (ap (λ t. byte ∷ t) (front-behind p text))
      | false ↦ λ e. rw (front-stops p byte text e, behind-stops p byte text e) refl
    ] refl

-- bytes that all pass pass the test for all
pub passes_only : (p : ℕ → Bool) (text : List ℕ) → Passes p text → IsTrue (only p text)
passes_only p [] all = rw (behind-nil p) refl
passes_only p (byte ∷ text) all = rw (behind-passes p byte text all.0) (passes_only p text all.1)

-- bytes that pass the test for all, all pass
pub only_passes : (p : ℕ → Bool) (text : List ℕ) → IsTrue (only p text) → Passes p text
only_passes p [] e = tt
only_passes p (byte ∷ text) e =
    elim (p byte) as (λ b. p byte ≡ b → Passes p (byte ∷ text)) [
      | true ↦ λ is. (is, only_passes p text (rw (behind-passes p byte text is) at e))
      | false ↦ λ is. absurd (omega (arith, eqb-true _ _ (rw (behind-stops p byte text is) at e)))
    ] refl

-- the rest begins with no byte that passes
pub behind_starts : (p : ℕ → Bool) (text : List ℕ) → StartsNo p (behind p text)
unfolding behind
behind_starts p [] = tt
behind_starts p (byte ∷ text) =
    cond_both (p byte) (behind p text) (byte ∷ text) (StartsNo p) (λ _. behind_starts p text) (λ e. e)

-- digits that are decoded are twice as many as their bytes, and so an even number
pub long_digits : (digits bytes : List ℕ) → decode_of digits ≡ Ok bytes
    → (length digits % 2 ≡ 0) × (length digits ≡ 2 * length bytes)
long_digits digits bytes e = let ok = decode_of-ok digits bytes e in (ok.0, ok.2)

-- a quote is no backslash
quote_other : (quote : ℕ) → IsTrue (is_quote quote) → quote ≡ 92 → ⊥
quote_other quote is e =
    elim (or_cases (quote == 39) (quote == 34) is) as (λ _. ⊥) [
      | inl a ↦ omega (arith, eqb-true quote 39 a, e)
      | inr b ↦ omega (arith, eqb-true quote 34 b, e)
    ]

-- the letter is `X` (88) or `x` (120)
x_cases : (letter : ℕ) → IsTrue (is_x letter) → letter ≡ 88 ⊎ letter ≡ 120
x_cases letter is =
    elim (or_cases (letter == 88) (letter == 120) is) as (λ _. letter ≡ 88 ⊎ letter ≡ 120) [
      | inl a ↦ inl (eqb-true letter 88 a)
      | inr b ↦ inr (eqb-true letter 120 b)
    ]

-- digits of at most 64 bytes are read as these bytes, and digits of more are too long
digits_sized : (digits bytes rest : List ℕ) → decode_of digits ≡ Ok bytes → (long : Bool)
    → (long ≡ true → 64 < length bytes)
    → (long ≡ false → length bytes ≤ 64)
    → (if long then Err TooLong else decoded digits rest) ≡ sized (kept bytes) rest
digits_sized digits bytes rest e true past fits = ap (λ k. sized k rest) (sym (kept-past bytes (past refl)))
digits_sized digits bytes rest e false past fits =
    ap (decoded_found rest) e ∙ ap (λ k. sized k rest) (sym (kept-fits bytes (fits refl)))

-- hexadecimal digits closed by a quote (39) are the decoded bytes
quoted_sized : (digits bytes rest : List ℕ) → decode_of digits ≡ Ok bytes
    → hex_in_quotes_of digits (39 ∷ rest) ≡ sized (kept bytes) rest
quoted_sized digits bytes rest e =
    let facts = long_digits digits bytes e in
    let odd : (length digits % 2 == 1) ≡ false = ap (λ n. n == 1) facts.0 in
    let twice : length digits ≡ 2 * length bytes = facts.1 in
    rw odd (digits_sized digits bytes rest e (nat_lt 128 (length digits))
    (λ long. omega (arith, ltb-true 128 (length digits) long))
    (λ short. omega (arith, ltb-false 128 (length digits) short)))

-- digits that were made even are as many as before, or one more
pub evened_length : (digits : List ℕ) → (odd : Bool) → (length digits % 2 == 1) ≡ odd
    → (length digits ≤ length (evened digits)) × (length (evened digits) ≤ length digits + 1)
evened_length digits true e = rw e (omega arith, omega arith)
evened_length digits false e = rw e (omega arith, omega arith)

-- the digits of `0x..`, with a 0 in front if their number is odd, are read as the decoded bytes; more than 64 bytes
-- are too long
run_sized : (digits bytes rest : List ℕ) → decode_of (evened digits) ≡ Ok bytes
    → hex_run_of (Some digits) rest ≡ sized (kept bytes) rest
run_sized digits bytes rest e =
    let facts = long_digits (evened digits) bytes e in
    let twice : length (evened digits) ≡ 2 * length bytes = facts.1 in
    let near = evened_length digits (length digits % 2 == 1) refl in
    let low : length digits ≤ length (evened digits) = near.0 in
    let high : length (evened digits) ≤ length digits + 1 = near.1 in
    digits_sized (evened digits) bytes rest e (nat_lt 128 (length digits))
    (λ long. omega (arith, ltb-true 128 (length digits) long, twice, low))
    (λ short. omega (arith, ltb-false 128 (length digits) short, twice, high))

-- a text that begins with a quote is read as a literal in quotes
pub opened_at : (quote : ℕ) (text : List ℕ) → IsTrue (is_quote quote)
    → literal_ahead (quote ∷ text) ≡ text_literal_of (read_in_quotes quote Plain text)
unfolding literal_ahead
opened_at quote text is = rw is refl

-- what is spelled between quotes at a place is found there
pub quoted_found : (quote : ℕ) (text bytes rest : List ℕ) → IsTrue (is_quote quote) → QuotedAt quote text bytes rest
    → read_in_quotes quote Plain text ≡ Some (bytes, rest)
quoted_found quote text bytes rest is q =
    ap (read_in_quotes quote Plain) q.cut ∙ spelled_quoted quote q.written bytes rest
    (quote_other quote is) q.last q.form

-- a literal that is spelled in quotes is read
pub text_read : (quote : ℕ) (text bytes rest : List ℕ) → IsTrue (is_quote quote) → QuotedAt quote text bytes rest
    → literal_ahead (quote ∷ text) ≡ sized (kept bytes) rest
text_read quote text bytes rest is q =
    opened_at quote text is ∙ ap text_literal_of (quoted_found quote text bytes rest is q)

-- a text that begins with X or x and a quote is read as hexadecimal digits in quotes
hex_opened_at : (letter : ℕ) (text : List ℕ) → letter ≡ 88 ⊎ letter ≡ 120
    → literal_ahead (letter ∷ 39 ∷ text) ≡ hex_in_quotes_of (front (belongs Hexadecimal) text)
    (behind (belongs Hexadecimal) text)
unfolding literal_ahead
hex_opened_at letter text which =
    let read = hex_in_quotes_of (front (belongs Hexadecimal) text) (behind (belongs Hexadecimal) text) in
    elim which as (λ _. literal_ahead (letter ∷ 39 ∷ text) ≡ read) [
      | inl capital ↦ rw capital refl
      | inr small ↦ rw small refl
    ]

-- an `x`, a quote and digits are read as hexadecimal in quotes
pub hex_quoted_at : (letter : ℕ) (digits rest : List ℕ) → IsTrue (is_x letter) → Passes (belongs Hexadecimal) digits
    → StartsNo (belongs Hexadecimal) rest
    → literal_ahead (letter ∷ 39 ∷ digits ++ rest) ≡ hex_in_quotes_of digits rest
hex_quoted_at letter digits rest is all stops =
    let hex = belongs Hexadecimal in
    let cut : front hex (digits ++ rest) ≡ digits = front-append hex digits rest all stops in
    let left : behind hex (digits ++ rest) ≡ rest = behind-append hex digits rest all stops in
    hex_opened_at letter (digits ++ rest) (x_cases letter is)
    ∙ ap (λ d. hex_in_quotes_of d (behind hex (digits ++ rest))) cut
    ∙ ap (hex_in_quotes_of digits) left

-- a quote (39) is no hexadecimal digit
pub quote_no_hex : (rest : List ℕ) → StartsNo (belongs Hexadecimal) (39 ∷ rest)
unfolding belongs
quote_no_hex rest = refl

-- hexadecimal digits in quotes are read as the decoded bytes
hex_quoted_read : (letter : ℕ) (digits bytes rest : List ℕ) → IsTrue (is_x letter) → decode_of digits ≡ Ok bytes
    → Passes (belongs Hexadecimal) digits
    → literal_ahead (letter ∷ 39 ∷ digits ++ 39 ∷ rest) ≡ sized (kept bytes) rest
hex_quoted_read letter digits bytes rest is e all =
    hex_quoted_at letter digits (39 ∷ rest) is all (quote_no_hex rest) ∙ quoted_sized digits bytes rest e

-- a hexadecimal digit is a byte of a word
word_hex : (byte : ℕ) → belongs Hexadecimal byte ≡ true → belongs Word byte ≡ true
unfolding belongs
word_hex byte is = grind (arith, nat_tests)

-- hexadecimal digits are bytes of a word
pub words_hex : (digits : List ℕ) → Passes (belongs Hexadecimal) digits → Passes (belongs Word) digits
words_hex [] all = tt
words_hex (digit ∷ digits) all = (word_hex digit all.0, words_hex digits all.1)

-- `0x` and digits that no byte of a word follows are cut off as one run with these digits
pub hex_run_cut : (digit : ℕ) (digits rest : List ℕ) → Passes (belongs Hexadecimal) (digit ∷ digits)
    → StartsNo (belongs Word) rest
    → (hex_digits_of (run (48 ∷ 120 ∷ digit ∷ digits ++ rest)) ≡ Some (digit ∷ digits))
    × (after_run (48 ∷ 120 ∷ digit ∷ digits ++ rest) ≡ rest)
unfolding belongs
hex_run_cut digit digits rest all s =
    let written = 48 ∷ 120 ∷ digit ∷ digits in
    let word : Passes (belongs Word) written = (refl, (refl, words_hex (digit ∷ digits) all)) in
    let hex : hex_digits_of written ≡ Some (digit ∷ digits) =
    rw (passes_only (belongs Hexadecimal) (digit ∷ digits) all) refl in (
      ap hex_digits_of (front-append (belongs Word) written rest word s)
          ∙ hex,
      behind-append (belongs Word) written rest word s,
    )

-- `0x` and digits (the bytes 48 and 120) are read as such, if no byte of a word follows
pub literal_at-run : (digit : ℕ) (digits rest : List ℕ) → Passes (belongs Hexadecimal) (digit ∷ digits)
    → StartsNo (belongs Word) rest
    → literal_ahead (48 ∷ 120 ∷ digit ∷ digits ++ rest) ≡ hex_run_of (Some (digit ∷ digits)) rest
unfolding literal_ahead
literal_at-run digit digits rest all s =
    let text = 48 ∷ 120 ∷ digit ∷ digits ++ rest in
    let cut = hex_run_cut digit digits rest all s in
    ap (λ d. hex_run_of d (after_run text)) cut.0 ∙ ap (hex_run_of (Some (digit ∷ digits))) cut.1

-- `0x` and digits are read as the decoded bytes
hex_run_read : (digit : ℕ) (digits bytes rest : List ℕ) → decode_of (evened (digit ∷ digits)) ≡ Ok bytes
    → Passes (belongs Hexadecimal) (digit ∷ digits)
    → StartsNo (belongs Word) rest → literal_ahead (48 ∷ 120 ∷ digit ∷ digits ++ rest) ≡ sized (kept bytes) rest
hex_run_read digit digits bytes rest e all s =
    literal_at-run digit digits rest all s ∙ run_sized (digit ∷ digits) bytes rest e

-- what begins with a literal is read as its bytes, or is too long
pub spelled_read : (text bytes rest : List ℕ) → LiteralAt text bytes rest → literal_ahead text ≡ sized (kept bytes) rest
spelled_read _ _ _ (text_literal quote {text} {bytes} {rest} is q) = text_read quote text bytes rest is q
spelled_read _ _ _ (hex_in_quotes letter digits {bytes} {rest} is e all) =
    hex_quoted_read letter digits bytes rest is e (only_passes (belongs Hexadecimal) digits all)
spelled_read _ _ _ (hex_run digit digits {bytes} {rest} e all s) =
    hex_run_read digit digits bytes rest e (only_passes (belongs Hexadecimal) (digit ∷ digits) all) s
