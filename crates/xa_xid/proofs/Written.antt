-- What is written in canonical form is read back.
use Rattle.std.proofs.Common.{◌≡◌, ℕ, ◌*◌, ◌/◌, ◌%◌, ◌^◌, ◌<◌, ◌≤◌, suc, Bool, true, false, ◌==◌, List, [], ◌∷◌, ◌++◌}
use Rattle.std.proofs.Common.{length, Some, Result, Ok, Err, get_or, refl, sym, ◌∙◌, ap, arith, append_assoc, decimal}
use Rattle.std.proofs.lemmas.Bool.{agree_below_at, lt-ltb, le-ltb, ne_eqb, Decides.nat_tests}
use Rattle.std.{proofs.lemmas.{Fmt.decimal_is_IsNumeral, Str.Parse.digit_from_value}, specs.Char.digit_value}
use Rattle.std.specs.Str.Parse.{digits_value, AllDigits, IsNumeral}
use Rattle.hex.specs.Hex.{IsBytes, encode_lower, encode_with, lower_digits, decode_pairs}
use Rattle.hex.specs.declared.error.FromHexError.{FromHexError}
use Rattle.hex.proofs.HexLemmas.{decode_of-encode_lower, length-encode_with}
use Rattle.xa_xid.specs.Bytes.{belongs, front, behind, run, after_run, unblank, StartsNo}
use Rattle.xa_xid.specs.Literal.{Reading, literal_ahead, hex_run_of, hex_digits_of, evened, decoded}
use Rattle.xa_xid.specs.{Number.{number_ahead, number_in}, Xid.Text, XidText.{Parse, xid_ahead, part_text, xid_text}}
use Rattle.xa_xid.specs.XidText.{xid_of, gtrid_next, bqual_next, format_id_next, after_gtrid, after_bqual, comma_next}
use Rattle.xa_xid.specs.{XidText.IsWritable, declared.literal_fault.LiteralFault.LiteralFault}
use Rattle.xa_xid.specs.declared.{byte_class.ByteClass.TheVariants.{Blank, Word, Decimal, Hexadecimal}, xid.Xid.Xid}
use Rattle.xa_xid.proofs.Cuts.{front-passes, front-stops, front-nil, behind-passes, behind-stops, behind-nil}
use Rattle.xa_xid.proofs.Numbers.{fitting_small}

-- each byte passes the test
abbrev pub Passes : (ℕ → Bool) → List ℕ → Type 0
Passes p [] = Unit {0}
Passes p (byte ∷ text) = (p byte ≡ true) × Passes p text

-- the front of a text that begins with no byte that passes is empty
front-starts : (p : ℕ → Bool) (rest : List ℕ) → StartsNo p rest → front p rest ≡ []
front-starts p [] s = front-nil p
front-starts p (byte ∷ rest) s = front-stops p byte rest s

-- all of a text that begins with no byte that passes is behind
behind-starts : (p : ℕ → Bool) (rest : List ℕ) → StartsNo p rest → behind p rest ≡ rest
behind-starts p [] s = behind-nil p
behind-starts p (byte ∷ rest) s = behind-stops p byte rest s

-- bytes that all pass are the front of a text, if what stands behind them begins with none that passes
pub front-append : (p : ℕ → Bool) (text rest : List ℕ) → Passes p text → StartsNo p rest → front p (text ++ rest) ≡ text
front-append p [] rest all s = front-starts p rest s
front-append p (byte ∷ text) rest all s =
    front-passes p byte (text ++ rest) all.0 ∙ ap (λ t. byte ∷ t) (front-append p text rest all.1 s)

-- bytes that pass are skipped up to a text that begins with none
pub behind-append : (p : ℕ → Bool) (text rest : List ℕ) → Passes p text → StartsNo p rest
    → behind p (text ++ rest) ≡ rest
behind-append p [] rest all s = behind-starts p rest s
behind-append p (byte ∷ text) rest all s = behind-passes p byte (text ++ rest) all.0 ∙ behind-append p text rest all.1 s

-- if all bytes of a text pass, nothing is left behind them
only_passes : (p : ℕ → Bool) (text : List ℕ) → Passes p text → behind p text ≡ []
only_passes p [] all = behind-nil p
only_passes p (byte ∷ text) all = behind-passes p byte text all.0 ∙ only_passes p text all.1

-- each of the 16 digits is a byte of a word
digit_is_word : (i : ℕ) → i < 16 → belongs Word (get_or lower_digits i 0) ≡ true
unfolding belongs
digit_is_word i small = agree_below_at (λ n. belongs Word (get_or lower_digits n 0)) (λ _. true) 16 i refl small

-- each of the 16 digits is hexadecimal
digit_is_hex : (i : ℕ) → i < 16 → belongs Hexadecimal (get_or lower_digits i 0) ≡ true
unfolding belongs
digit_is_hex i small = agree_below_at (λ n. belongs Hexadecimal (get_or lower_digits n 0)) (λ _. true) 16 i refl small

-- if a list consists of bytes, so does the list without its first
bytes_tail : (byte : ℕ) (bytes : List ℕ) → IsBytes (byte ∷ bytes) → IsBytes bytes
bytes_tail byte bytes all i = all (suc i)

-- what holds of the 16 digits holds of an encoded text
digits_pass : (p : ℕ → Bool) → ((i : ℕ) → i < 16 → p (get_or lower_digits i 0) ≡ true) → (bytes : List ℕ)
    → IsBytes bytes → Passes p (encode_lower bytes)
unfolding encode_with
digits_pass p each [] all = tt
digits_pass p each (byte ∷ bytes) all =
    let small : byte < 256 = all 0 in
    let high : byte / 16 < 16 = omega arith in
    let low : byte % 16 < 16 = omega arith in
    (each (byte / 16) high, (each (byte % 16) low, digits_pass p each bytes (bytes_tail byte bytes all)))

-- the digits of a run of `0x` and one or more digits are read back
hex_digits_back : (digit : ℕ) (digits : List ℕ) → behind (belongs Hexadecimal) (digit ∷ digits) ≡ []
    → hex_digits_of (48 ∷ 120 ∷ digit ∷ digits) ≡ Some (digit ∷ digits)
hex_digits_back digit digits e = rw e refl

-- the digits of bytes are an even number
even_digits : (bytes : List ℕ) → length (encode_lower bytes) % 2 ≡ 0
even_digits bytes = let twice : length (encode_lower bytes) ≡ 2 * length bytes =
    length-encode_with lower_digits bytes in omega arith

-- what reading makes of decoded digits: the bytes, or a fault
abbrev pub decoded_found : List ℕ → Result (List ℕ) FromHexError → Reading Text
decoded_found rest (Ok bytes) = Ok (record { items = bytes }, rest)
decoded_found rest (Err fault) = Err LiteralFault.NotALiteral

-- the digits of up to 64 bytes are read as these bytes
hex_run_back : (bytes rest : List ℕ) → IsBytes bytes → length bytes ≤ 64
    → hex_run_of (Some (encode_lower bytes)) rest ≡ Ok (record { items = bytes }, rest)
hex_run_back bytes rest all fits =
    let digits = encode_lower bytes in
    let twice : length digits ≡ 2 * length bytes = length-encode_with lower_digits bytes in
    let odd : (length digits % 2 == 1) ≡ false = ap (λ n. n == 1) (even_digits bytes) in
    let short : hex_run_of (Some digits) rest ≡ decoded (evened digits) rest =
    rw (le-ltb 128 (length digits) (omega arith)) refl in
    let even : evened digits ≡ digits = rw odd refl in
    short ∙ ap (λ d. decoded d rest) even ∙ ap (decoded_found rest) (decode_of-encode_lower bytes all)

-- a part that isn't empty, written as `0x` and digits, is read back
filled_back : (byte : ℕ) (bytes rest : List ℕ) → IsBytes (byte ∷ bytes) → length (byte ∷ bytes) ≤ 64
    → StartsNo (belongs Word) rest
    → literal_ahead (48 ∷ 120 ∷ encode_lower (byte ∷ bytes) ++ rest) ≡ Ok (record { items = byte ∷ bytes }, rest)
unfolding literal_ahead belongs encode_with
filled_back byte bytes rest all fits s =
    let digits = encode_lower (byte ∷ bytes) in
    let word : Passes (belongs Word) (48 ∷ 120 ∷ digits) =
    (refl, (refl, digits_pass (belongs Word) digit_is_word (byte ∷ bytes) all)) in
    let cut : run (48 ∷ 120 ∷ digits ++ rest) ≡ 48 ∷ 120 ∷ digits =
    front-append (belongs Word) (48 ∷ 120 ∷ digits) rest word s in
    let left : after_run (48 ∷ 120 ∷ digits ++ rest) ≡ rest =
    behind-append (belongs Word) (48 ∷ 120 ∷ digits) rest word s in
    let hex : hex_digits_of (48 ∷ 120 ∷ digits) ≡ Some digits =
    hex_digits_back _ _ (only_passes (belongs Hexadecimal) digits
    (digits_pass (belongs Hexadecimal) digit_is_hex (byte ∷ bytes) all)) in
    ap (λ r. hex_run_of (hex_digits_of r) (after_run (48 ∷ 120 ∷ digits ++ rest))) cut
    ∙ ap (λ d. hex_run_of d (after_run (48 ∷ 120 ∷ digits ++ rest))) hex
    ∙ ap (λ r. hex_run_of (Some digits) r) left
    ∙ hex_run_back (byte ∷ bytes) rest all fits

-- an empty part, written X'', is read back
empty_back : (rest : List ℕ) → literal_ahead (88 ∷ 39 ∷ 39 ∷ rest) ≡ Ok (record { items = [] }, rest)
unfolding literal_ahead front behind belongs decode_pairs
empty_back rest = refl

-- a gtrid, bqual, key or value in canonical form is read back
pub part_back : (bytes rest : List ℕ) → IsBytes bytes → length bytes ≤ 64 → StartsNo (belongs Word) rest
    → literal_ahead (part_text bytes ++ rest) ≡ Ok (record { items = bytes }, rest)
part_back [] rest all fits s = empty_back rest
part_back (byte ∷ bytes) rest all fits s = filled_back byte bytes rest all fits s

-- a byte whose value as a digit is below 10 is one from 48 to 57
pub decimal_byte : (byte : ℕ) → digit_value byte < 10 → (48 ≤ byte) × (byte ≤ 57)
decimal_byte byte small = digit_from_value byte small

-- no byte from 48 (`0`) on is a blank
digit_not_blank : (byte : ℕ) → 48 ≤ byte → belongs Blank byte ≡ false
unfolding belongs
digit_not_blank byte low =
    rw (
      ne_eqb byte 32 (λ e. omega arith),
      ne_eqb byte 9 (λ e. omega arith),
      ne_eqb byte 10
          (λ e. omega arith),
      ne_eqb byte 13 (λ e. omega arith),
    ) refl

-- a digit (48 to 57) is a byte of a word
word_digit : (byte : ℕ) → 48 ≤ byte → byte ≤ 57 → belongs Word byte ≡ true
unfolding belongs
word_digit byte low high = grind (arith, nat_tests)

-- decimal digits are bytes of a word
digits_word : (digits : List ℕ) → AllDigits 10 digits → Passes (belongs Word) digits
digits_word [] all = tt
digits_word (digit ∷ digits) all =
    let range = decimal_byte digit all.0 in (word_digit digit range.0 range.1, digits_word digits all.1)

-- the digits of a decimal numeral are decimal digits
digits_decimal : (digits : List ℕ) → AllDigits 10 digits → Passes (belongs Decimal) digits
unfolding belongs
digits_decimal [] all = tt
digits_decimal (digit ∷ digits) all = (lt-ltb (digit_value digit) 10 all.0, digits_decimal digits all.1)

-- the decimal digits of a number below 2^64 are read as it
number_in_back : (n : ℕ) → n < 2 ^ 64 → (digits : List ℕ) → IsNumeral 10 digits → digits_value 10 digits ≡ n
    → number_in digits ≡ Ok n
number_in_back n small [] is e = absurd (omega (arith, is.0))
number_in_back n small (digit ∷ digits) is e =
    let decimal : behind (belongs Decimal) (digit ∷ digits) ≡ [] =
    only_passes (belongs Decimal) (digit ∷ digits) (digits_decimal (digit ∷ digits) is.1) in
    let some : (length (digit ∷ digits) == 0) ≡ false = ne_eqb _ _ (λ e. omega (arith, is.0, e)) in
    rw (some, decimal) (sym (fitting_small n (digits_value 10 (digit ∷ digits)) small (sym e)))

-- what reading makes of a run: the number and the rest, or a fault
abbrev pub number_found : List ℕ → Result ℕ LiteralFault → Reading ℕ
number_found rest (Ok value) = Ok (value, rest)
number_found rest (Err fault) = Err fault

-- reading a number is reading the run of word bytes in front as a number
pub number_at-found : (text : List ℕ) → number_ahead text ≡ number_found (after_run text) (number_in (run text))
unfolding number_ahead
number_at-found text = refl

-- a number in decimal digits is read back
pub number_back : (n : ℕ) (rest : List ℕ) → n < 2 ^ 64 → StartsNo (belongs Word) rest
    → number_ahead (decimal n ++ rest) ≡ Ok (n, rest)
number_back n rest small s =
    let is = decimal_is_IsNumeral n small in
    let word : Passes (belongs Word) (decimal n) = digits_word (decimal n) is.0.1 in
    let cut : run (decimal n ++ rest) ≡ decimal n = front-append (belongs Word) (decimal n) rest word s in
    let left : after_run (decimal n ++ rest) ≡ rest = behind-append (belongs Word) (decimal n) rest word s in
    let value : number_in (run (decimal n ++ rest)) ≡ Ok n =
    ap number_in cut ∙ number_in_back n small (decimal n) is.0 is.1 in
    number_at-found (decimal n ++ rest)
    ∙ ap (number_found (after_run (decimal n ++ rest))) value
    ∙ ap (λ r. Ok (n, r)) left

-- the canonical text of a part begins with no blank
pub part_unblank : (bytes rest : List ℕ) → unblank (part_text bytes ++ rest) ≡ part_text bytes ++ rest
unfolding behind belongs
part_unblank [] rest = refl
part_unblank (byte ∷ bytes) rest = refl

-- digits don't begin with a blank
first_unblank : (digits rest : List ℕ) → IsNumeral 10 digits → unblank (digits ++ rest) ≡ digits ++ rest
first_unblank [] rest is = absurd (omega (arith, is.0))
first_unblank (digit ∷ digits) rest is =
    behind-stops (belongs Blank) digit (digits ++ rest) (digit_not_blank digit (decimal_byte digit is.1.0).0)

-- a number in decimal digits begins with no blank
pub number_unblank : (n : ℕ) (rest : List ℕ) → n < 2 ^ 64 → unblank (decimal n ++ rest) ≡ decimal n ++ rest
number_unblank n rest small = first_unblank (decimal n) rest (decimal_is_IsNumeral n small).0

-- a comma (44) is no blank
comma_unblank : (rest : List ℕ) → unblank (44 ∷ rest) ≡ 44 ∷ rest
unfolding behind belongs
comma_unblank rest = refl

-- a comma (44) is no word byte
pub comma_no_word : (rest : List ℕ) → StartsNo (belongs Word) (44 ∷ rest)
unfolding belongs
comma_no_word rest = refl

-- an identifier, once its formatID was looked for behind gtrid and bqual
abbrev pub format_found : Text → Text → List ℕ → Reading ℕ → Parse
format_found gtrid bqual text (Ok found) = Ok (xid_of gtrid bqual found.0, found.1)
format_found gtrid bqual text (Err fault) = Err (fault, text)

-- what reading an identifier makes of its bqual, found or faulty
abbrev pub bqual_found : Text → List ℕ → Reading Text → Parse
bqual_found gtrid text (Ok found) = after_bqual gtrid found.0 found.1 (comma_next (unblank found.1))
bqual_found gtrid text (Err fault) = Err (fault, text)

-- what reading an identifier makes of its gtrid, found or faulty
abbrev pub gtrid_found : List ℕ → Reading Text → Parse
gtrid_found text (Ok found) = after_gtrid found.0 found.1 (comma_next (unblank found.1))
gtrid_found text (Err fault) = Err (fault, text)

-- a formatID behind gtrid and bqual is read back
third_back : (gtrid bqual : Text) (n : ℕ) (text rest : List ℕ) → unblank text ≡ text → number_ahead text ≡ Ok (n, rest)
    → format_id_next gtrid bqual (unblank text) ≡ Ok (xid_of gtrid bqual n, rest)
third_back gtrid bqual n text rest blank e =
    ap (format_id_next gtrid bqual) blank ∙ ap (format_found gtrid bqual text) e

-- the bqual and the comma behind it are read back, and reading goes on to the formatID
second_back : (gtrid : Text) (bqual text next : List ℕ) (answer : Parse) → text ≡ part_text bqual ++ (44 ∷ next)
    → IsBytes bqual → length bqual ≤ 64
    → format_id_next gtrid (record { items = bqual }) (unblank next) ≡ answer → bqual_next gtrid (unblank text) ≡ answer
second_back gtrid bqual text next answer e all fits more =
    let blank : unblank text ≡ text = rw e (part_unblank bqual (44 ∷ next)) in
    let part : literal_ahead text ≡ Ok (record { items = bqual }, 44 ∷ next) =
    ap literal_ahead e ∙ part_back bqual (44 ∷ next) all fits (comma_no_word next) in
    ap (bqual_next gtrid) blank ∙ ap (bqual_found gtrid text) part
    ∙ ap (λ t. after_bqual gtrid (record { items = bqual }) (44 ∷ next) (comma_next t)) (comma_unblank next) ∙ more

-- the gtrid and the comma behind it are read back, and reading goes on to the bqual
first_back : (gtrid text next : List ℕ) (answer : Parse) → text ≡ part_text gtrid ++ (44 ∷ next) → IsBytes gtrid
    → length gtrid ≤ 64
    → bqual_next (record { items = gtrid }) (unblank next) ≡ answer → gtrid_next (unblank text) ≡ answer
first_back gtrid text next answer e all fits more =
    let blank : unblank text ≡ text = rw e (part_unblank gtrid (44 ∷ next)) in
    let part : literal_ahead text ≡ Ok (record { items = gtrid }, 44 ∷ next) =
    ap literal_ahead e ∙ part_back gtrid (44 ∷ next) all fits (comma_no_word next) in
    ap gtrid_next blank ∙ ap (gtrid_found text) part
    ∙ ap (λ t. after_gtrid (record { items = gtrid }) (44 ∷ next) (comma_next t)) (comma_unblank next) ∙ more

-- the canonical text of an identifier with more behind it is its parts, with a comma (44) behind gtrid and behind
-- bqual, and then what is behind
pub xid_text-append : (xid : Xid) (rest : List ℕ) → xid_text xid ++ rest
    ≡ part_text xid.gtrid.items ++ (44 ∷ (part_text xid.bqual.items ++ (44 ∷ (decimal xid.format_id ++ rest))))
xid_text-append xid rest =
    let bqual = part_text xid.bqual.items in
    let number = decimal xid.format_id in
    append_assoc (part_text xid.gtrid.items) (44 ∷ (bqual ++ (44 ∷ number))) rest
    ∙ ap (λ t. part_text xid.gtrid.items ++ (44 ∷ t)) (append_assoc bqual (44 ∷ number) rest)

-- the canonical text of an identifier is read back as it, if no word byte follows
pub xid_back : (xid : Xid) (rest : List ℕ) → IsWritable xid → StartsNo (belongs Word) rest
    → xid_ahead (xid_text xid ++ rest) ≡ Ok (xid, rest)
unfolding xid_ahead
xid_back xid rest is s =
    let number = decimal xid.format_id ++ rest in
    let third = part_text xid.bqual.items ++ (44 ∷ number) in
    first_back xid.gtrid.items (xid_text xid ++ rest) third (Ok (xid, rest))
    (xid_text-append xid rest) is.gtrid_bytes is.gtrid_fits
    (second_back xid.gtrid xid.bqual.items third number (Ok (xid, rest)) refl is.bqual_bytes is.bqual_fits
    (third_back xid.gtrid xid.bqual xid.format_id number rest (number_unblank xid.format_id rest is.format_fits)
    (number_back xid.format_id rest is.format_fits s)))

-- the digits of a part are word bytes
pub part_word : (byte : ℕ) (bytes : List ℕ) → IsBytes (byte ∷ bytes)
    → Passes (belongs Word) (48 ∷ 120 ∷ encode_lower (byte ∷ bytes))
unfolding belongs
part_word byte bytes all = (refl, (refl, digits_pass (belongs Word) digit_is_word (byte ∷ bytes) all))

-- the decimal digits of a number are bytes of a word
pub decimal_word : (n : ℕ) → n < 2 ^ 64 → Passes (belongs Word) (decimal n)
decimal_word n small = digits_word (decimal n) (decimal_is_IsNumeral n small).0.1
