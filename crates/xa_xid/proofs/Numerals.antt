-- What is read as a number is spelled as one, and the other way round; and each fault is a row of the table.
use Rattle.std.proofs.Common.{◌≡◌, ℕ, ◌^◌, ◌<◌, ◌≤◌, true, false, ◌==◌, ◌&&◌, not, nat_lt, if◌then◌else◌, IsTrue, List}
use Rattle.std.proofs.Common.{[], ◌∷◌, ◌++◌, length, Some, None, Result, Ok, Err, refl, sym, ◌∙◌, ap, subst, arith}
use Rattle.std.proofs.lemmas.Bool.{cond_both, eqb-true, ne_eqb, and_parts, ltb-true, ltb-false, Decides.nat_tests}
use Rattle.std.specs.Str.Parse.{digits_value}
use Rattle.xa_xid.specs.{Bytes.{belongs, behind, only, run, after_run, StartsNo}, Literal.{Reading, hex_digits_of}}
use Rattle.xa_xid.specs.Faults.{AreHex, HexRunAt, hex_run_at, NumeralAt, decimal_numeral, hexadecimal_numeral}
use Rattle.xa_xid.specs.{Faults.{FaultyNumber, no_number, too_large}, Number.{NumberAt, decimal_digits}}
use Rattle.xa_xid.specs.Number.{hexadecimal_digits, fitting, hex_number_of, number_ahead, number_in}
use Rattle.xa_xid.specs.declared.{byte_class.ByteClass.ByteClass, literal_fault.LiteralFault.LiteralFault}
use Rattle.xa_xid.proofs.Numbers.{fitting_small, fitting_large}
use Rattle.xa_xid.proofs.Spelling.{front-behind, only_passes, behind_starts, words_hex}
use Rattle.xa_xid.proofs.Written.{Passes, front-append, behind-append, number_found, number_at-found}

-- the text begins with the number that was read; or with a numeral of 2^64 or more, if the fault is that it is too
-- large; nothing is said if the fault is NotALiteral, and no other fault is told
abbrev pub NumberSpelled : List ℕ → Reading ℕ → Type 0
NumberSpelled text (Ok found) = NumberAt text found.0 found.1
NumberSpelled text (Err LiteralFault.NotALiteral) = Unit {0}
NumberSpelled text (Err LiteralFault.Unclosed) = ⊥
NumberSpelled text (Err LiteralFault.OddHex) = ⊥
NumberSpelled text (Err LiteralFault.TooLong) = ⊥
NumberSpelled text (Err LiteralFault.NumberTooLarge) = (value : ℕ) × (rest : List ℕ) × NumeralAt text value rest ×
    (2 ^ 64 ≤ value)

-- a numeral whose value is below 2^64 is read as that number; a greater one is too large
value_spelled : (text rest : List ℕ) (value : ℕ) → NumeralAt text value rest
    → (value < 2 ^ 64 → NumberAt text value rest)
    → NumberSpelled text (number_found rest (fitting value))
unfolding fitting
value_spelled text rest value numeral form =
    cond_both (nat_lt value (2 ^ 64)) (Ok value) (Err LiteralFault.NumberTooLarge)
    (λ found. NumberSpelled text (number_found rest found))
    (λ small. form (ltb-true value (2 ^ 64) small))
    (λ large. (value, rest, numeral, omega (arith, ltb-false value (2 ^ 64) large)))

-- digits behind `0x` that are read as hexadecimal are spelled so
hex_spelled : (written rest : List ℕ) → StartsNo (belongs ByteClass.Word) rest
    → NumberSpelled (written ++ rest) (number_found rest (hex_number_of (hex_digits_of written)))
hex_spelled [] rest s = tt
hex_spelled (a ∷ []) rest s = tt
hex_spelled (a ∷ b ∷ []) rest s = tt
hex_spelled (a ∷ b ∷ digit ∷ digits) rest s =
    let all = digit ∷ digits in
    let text = a ∷ b ∷ digit ∷ digits ++ rest in
    let test = a == 48 && b == 120 && only (belongs ByteClass.Hexadecimal) all in
    elim test as (λ t. test ≡ t → NumberSpelled text
    (number_found rest (hex_number_of (if t then Some all else None)))) [
      | true ↦ λ e.
          let outer = and_parts (a == 48 && b == 120) (only (belongs ByteClass.Hexadecimal) all) e in
          let inner = and_parts (a == 48) (b == 120) outer.0 in
          let run : HexRunAt text all rest = rw (eqb-true a 48 inner.0, eqb-true b 120 inner.1)
          (hex_run_at digit digits rest outer.1 s) in
          value_spelled text rest (digits_value 16 all) (hexadecimal_numeral text all rest run)
          (λ small. let form : NumberAt (48 ∷ 120 ∷ digit ∷ digits ++ rest)
          (digits_value 16 all) rest = hexadecimal_digits digit digits outer.1 refl small s in
          rw (eqb-true a 48 inner.0, eqb-true b 120 inner.1) form)
      | false ↦ λ e. tt
    ] refl

-- decimal digits that are read are spelled so
digits_spelled : (digit : ℕ) (digits rest : List ℕ) → StartsNo (belongs ByteClass.Word) rest
    → NumberSpelled (digit ∷ digits ++ rest) (number_found rest (number_in (digit ∷ digits)))
digits_spelled digit digits rest s =
    let all = digit ∷ digits in
    let test = not (length all == 0) && only (belongs ByteClass.Decimal) all in
    elim test as (λ t. test ≡ t
    → NumberSpelled (all ++ rest) (number_found rest (if t then fitting (digits_value 10 all) else hex_number_of
    (hex_digits_of all)))) [
      | true ↦ λ e.
          let decimal = (and_parts (not (length all == 0)) (only (belongs ByteClass.Decimal) all) e).1 in
          value_spelled (all ++ rest) rest (digits_value 10 all) (decimal_numeral digit digits rest decimal s)
          (λ small. decimal_digits digit digits decimal refl small s)
      | false ↦ λ _. hex_spelled all rest s
    ] refl

-- a run of letters and digits that is read as a number is spelled as one
run_spelled : (written rest : List ℕ) → StartsNo (belongs ByteClass.Word) rest
    → NumberSpelled (written ++ rest) (number_found rest (number_in written))
run_spelled [] rest s = tt
run_spelled (digit ∷ digits) rest s = digits_spelled digit digits rest s

-- what is read as a number is spelled as one, and each fault is told rightly
number_spelled : (text : List ℕ) → NumberSpelled text (number_ahead text)
number_spelled text =
    let form = run_spelled (run text) (after_run text) (behind_starts (belongs ByteClass.Word) text) in
    rw (number_at-found text) (rw (front-behind (belongs ByteClass.Word) text) at form)

-- a number that is read is spelled so by the grammar
pub read_number_spelled : (text : List ℕ) (value : ℕ) (rest : List ℕ) → number_ahead text ≡ Ok (value, rest)
    → NumberAt text value rest
read_number_spelled text value rest e = rw e at (number_spelled text)

-- a run in front of a text is read as the value or the fault that the run has
written_read : (written rest : List ℕ) (found : Result ℕ LiteralFault) → Passes (belongs ByteClass.Word) written
    → StartsNo (belongs ByteClass.Word) rest
    → number_in written ≡ found
    → number_ahead (written ++ rest) ≡ number_found rest found
written_read written rest found word s e =
    let cut : run (written ++ rest) ≡ written = front-append (belongs ByteClass.Word) written rest word s in
    let left : after_run (written ++ rest) ≡ rest = behind-append (belongs ByteClass.Word) written rest word s in
    number_at-found (written ++ rest)
    ∙ ap (λ r. number_found (after_run (written ++ rest)) (number_in r)) cut
    ∙ ap (number_found (after_run (written ++ rest))) e
    ∙ ap (λ r. number_found r found) left

-- a decimal digit is a byte of a word
word_decimal : (byte : ℕ) → belongs ByteClass.Decimal byte ≡ true → belongs ByteClass.Word byte ≡ true
unfolding belongs
word_decimal byte is = grind (arith, nat_tests)

-- decimal digits are bytes of a word
words_decimal : (digits : List ℕ) → Passes (belongs ByteClass.Decimal) digits → Passes (belongs ByteClass.Word) digits
words_decimal [] all = tt
words_decimal (digit ∷ digits) all = (word_decimal digit all.0, words_decimal digits all.1)

-- decimal digits are read as their value
decimal_read : (digit : ℕ) (digits rest : List ℕ) → IsTrue (only (belongs ByteClass.Decimal) (digit ∷ digits))
    → StartsNo (belongs ByteClass.Word) rest
    → number_ahead (digit ∷ digits ++ rest) ≡ number_found rest (fitting (digits_value 10 (digit ∷ digits)))
decimal_read digit digits rest all s =
    let some : (length (digit ∷ digits) == 0) ≡ false = ne_eqb _ _ (λ e. omega arith) in
    let found : number_in (digit ∷ digits) ≡ fitting (digits_value 10 (digit ∷ digits)) = rw (some, all) refl in
    written_read (digit ∷ digits) rest (fitting (digits_value 10 (digit ∷ digits)))
    (words_decimal (digit ∷ digits) (only_passes (belongs ByteClass.Decimal) (digit ∷ digits) all)) s found

-- a text that begins with `0x` (the bytes 48 and 120) isn't of decimal digits alone
prefixed_not_decimal : (digits : List ℕ) → only (belongs ByteClass.Decimal) (48 ∷ 120 ∷ digits) ≡ false
unfolding behind belongs
prefixed_not_decimal digits = ne_eqb _ _ (λ e. omega arith)

-- hexadecimal digits behind `0x` (the bytes 48 and 120) are read as their value
hexadecimal_read : (digit : ℕ) (digits rest : List ℕ) → AreHex (digit ∷ digits) → StartsNo (belongs ByteClass.Word) rest
    → number_ahead (48 ∷ 120 ∷ digit ∷ digits ++ rest) ≡ number_found rest (fitting (digits_value 16 (digit ∷ digits)))
unfolding belongs
hexadecimal_read digit digits rest all s =
    let written = 48 ∷ 120 ∷ digit ∷ digits in
    let word : Passes (belongs ByteClass.Word) written =
    (refl, (refl, words_hex (digit ∷ digits) (only_passes (belongs ByteClass.Hexadecimal) (digit ∷ digits) all))) in
    let hex : hex_digits_of written ≡ Some (digit ∷ digits) = rw all refl in
    let other : number_in written ≡ hex_number_of (hex_digits_of written) =
    ap (λ t. if not (length written == 0) && t then fitting (digits_value 10 written) else hex_number_of
    (hex_digits_of written))
    (prefixed_not_decimal (digit ∷ digits))
    ∙ rw (ne_eqb (length written) 0 (λ e. omega arith)) refl in
    written_read written rest (fitting (digits_value 16 (digit ∷ digits))) word s (other ∙ ap hex_number_of hex)

-- `0x` and digits at a place of a text are read as their value
run_read : (text digits rest : List ℕ) → HexRunAt text digits rest
    → number_ahead text ≡ number_found rest (fitting (digits_value 16 digits))
run_read _ _ _ (hex_run_at digit digits rest all s) = hexadecimal_read digit digits rest all s

-- what has a number's form is read, or is too large
numeral_read : (text : List ℕ) (value : ℕ) (rest : List ℕ) → NumeralAt text value rest
    → number_ahead text ≡ number_found rest (fitting value)
numeral_read _ _ _ (decimal_numeral digit digits rest all s) = decimal_read digit digits rest all s
numeral_read _ _ _ (hexadecimal_numeral text digits rest form) = run_read text digits rest form

-- a number that is spelled is a numeral whose value is below 2^64
number_numeral : (text : List ℕ) (value : ℕ) (rest : List ℕ) → NumberAt text value rest
    → NumeralAt text value rest × (value < 2 ^ 64)
number_numeral _ _ _ (decimal_digits digit digits {value} {rest} all e small s) =
    (subst (λ v. NumeralAt (digit ∷ digits ++ rest) v rest) e (decimal_numeral digit digits rest all s), small)
number_numeral _ _ _ (hexadecimal_digits digit digits {value} {rest} all e small s) =
    let text = 48 ∷ 120 ∷ digit ∷ digits ++ rest in (
      subst (λ v. NumeralAt text v rest) e (hexadecimal_numeral text (digit ∷ digits) rest
          (hex_run_at digit digits rest all s)),
      small,
    )

-- a number that the grammar spells is read
pub spelled_number_read : (text : List ℕ) (value : ℕ) (rest : List ℕ) → NumberAt text value rest
    → number_ahead text ≡ Ok (value, rest)
spelled_number_read text value rest form =
    let parts = number_numeral text value rest form in
    numeral_read text value rest parts.0 ∙ ap (number_found rest) (sym (fitting_small value value parts.1 refl))

-- a reading has one result
number_once : (reading : Reading ℕ) (found other : ℕ × List ℕ) → reading ≡ Ok found → reading ≡ Ok other → found ≡ other
number_once reading found other e f = cc

-- at most one number is spelled at a place
pub one_number : (text : List ℕ) (value other : ℕ) (rest behind : List ℕ) → NumberAt text value rest
    → NumberAt text other behind
    → (value ≡ other) × (rest ≡ behind)
one_number text value other rest behind form again =
    let same =
    number_once (number_ahead text) (value, rest) (other, behind) (spelled_number_read text value rest form)
    (spelled_number_read text other behind again) in
    (ap (λ pair. pair.0) same, ap (λ pair. pair.1) same)

-- a value never gives the fault NotALiteral
fitting_told : (rest : List ℕ) (value : ℕ) → number_found rest (fitting value) ≡ Err LiteralFault.NotALiteral → ⊥
unfolding fitting
fitting_told rest value =
    cond_both (nat_lt value (2 ^ 64)) (Ok value) (Err LiteralFault.NumberTooLarge)
    (λ found. number_found rest found ≡ Err LiteralFault.NotALiteral → ⊥) (λ _ e. cc) (λ _ e. cc)

-- a fault of reading a number, if it is told rightly, is a row of the table of faults
fault_row : (text : List ℕ) (fault : LiteralFault) → number_ahead text ≡ Err fault → NumberSpelled text (Err fault)
    → FaultyNumber text fault
fault_row text LiteralFault.NotALiteral e s =
    no_number text (λ value rest form. fitting_told rest value (sym (numeral_read text value rest form) ∙ e))
fault_row text LiteralFault.Unclosed e s = absurd s
fault_row text LiteralFault.OddHex e s = absurd s
fault_row text LiteralFault.TooLong e s = absurd s
fault_row text LiteralFault.NumberTooLarge e s = too_large text s.0 s.1 s.2 s.3

-- a fault of reading a number is a row of the table of faults
pub read_faulty_number : (text : List ℕ) (fault : LiteralFault) → number_ahead text ≡ Err fault
    → FaultyNumber text fault
read_faulty_number text fault e = fault_row text fault e (rw e at (number_spelled text))

-- if no numeral stands at a place, reading a number there gives the fault NotALiteral
none_told : (text : List ℕ) → ((value : ℕ) (rest : List ℕ) → NumeralAt text value rest → ⊥) → (found : Reading ℕ)
    → number_ahead text ≡ found
    → NumberSpelled text found → found ≡ Err LiteralFault.NotALiteral
none_told text refused (Ok found) e s = absurd (refused found.0 found.1 (number_numeral text found.0 found.1 s).0)
none_told text refused (Err LiteralFault.NotALiteral) e s = refl
none_told text refused (Err LiteralFault.Unclosed) e s = absurd s
none_told text refused (Err LiteralFault.OddHex) e s = absurd s
none_told text refused (Err LiteralFault.TooLong) e s = absurd s
none_told text refused (Err LiteralFault.NumberTooLarge) e s = absurd (refused s.0 s.1 s.2)

-- each row of the table of faults is told as its fault
pub faulty_number_read : (text : List ℕ) (fault : LiteralFault) → FaultyNumber text fault
    → number_ahead text ≡ Err fault
faulty_number_read _ _ (no_number text refused) = none_told text refused (number_ahead text) refl (number_spelled text)
faulty_number_read _ _ (too_large text value rest form large) =
    numeral_read text value rest form ∙ ap (number_found rest) (sym (fitting_large value large))
