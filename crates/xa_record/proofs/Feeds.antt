-- Texts without a line feed, and lines that are cut where they were joined.
use Rattle.std.proofs.Common.{◌≡◌, ℕ, zero, suc, ◌+◌, ◌<◌, ◌/◌, ◌%◌, ◌^◌, ◌==◌, true, false, Bool, not, ◌&&◌, List, []}
use Rattle.std.proofs.Common.{◌∷◌, ◌++◌, map, codes, decimal, refl, ap, ◌∙◌, arith, lit<}
use Rattle.std.proofs.lemmas.{Bool.Decides.nat_tests, Fmt.{decimal_digit, decimal-digits_of}}
use Rattle.std.{proofs.lemmas.List.Folds.list_all-append, specs.Prelude.slice_index}
use Rattle.std.specs.List.{AllByRecursion as All, list_all}
use Rattle.hex.specs.Hex.{encode_with}
use Rattle.xa_xid.specs.{XidText.{part_text, xid_text}, declared.{xid.Xid.Xid, statement.Statement.Statement}}
use Rattle.xa_statement.specs.Canonical.{statement_text}
use Rattle.xa_lines.specs.Script.{lines_of, with_first}
use Rattle.xa_record.specs.Replaying.{HasNoFeed, joined, IsFit}

-- two tests that hold, hold together
pub both : (one two : Bool) → one ≡ true → two ≡ true → (one && two) ≡ true
both one two first second = ap (λ b. b && two) first ∙ second

-- of two tests that hold together the first one holds
pub both_first : (one two : Bool) → (one && two) ≡ true → one ≡ true
both_first one two is = grind (arith)

-- of two tests that hold together the second one holds
pub both_second : (one two : Bool) → (one && two) ≡ true → two ≡ true
both_second one two is = grind (arith)

-- a test whose negation holds fails
not_so : (test : Bool) → not test ≡ true → test ≡ false
not_so test is = grind (arith)

-- two texts without a line feed have none together
pub feed-append : (one two : List ℕ) → HasNoFeed one → HasNoFeed two → HasNoFeed (one ++ two)
feed-append one two first second = grind (arith, both, list_all-append, not)

-- a line without a line feed, with one behind it, is cut off whole from a text that begins with it
cut : (line rest : List ℕ) → HasNoFeed line → lines_of ((line ++ codes "\n") ++ rest) ≡ line ∷ lines_of rest
unfolding lines_of
cut [] rest free = refl
cut (byte ∷ line) rest free =
    let p : ℕ → Bool = λ b. not (b == 10) in
    rw (not_so (byte == 10) (both_first (p byte) (list_all p line) free))
    (ap (with_first byte) (cut line rest (both_second (p byte) (list_all p line) free)))

-- lines that are joined, each with a line feed behind it, are cut again into the same lines
pub cut_where_joined : (lines : List (List ℕ)) → All HasNoFeed lines → lines_of (joined lines) ≡ lines
unfolding lines_of joined
cut_where_joined [] free = refl
cut_where_joined (line ∷ lines) free =
    cut line (joined lines) free.0 ∙ ap (λ (l : List (List ℕ)). line ∷ l) (cut_where_joined lines free.1)

-- a digit of a table that has no line feed is no line feed
digit_feed : (table : List ℕ) → HasNoFeed table → (place : ℕ) → not (slice_index table place == 10) ≡ true
digit_feed [] free place = refl
digit_feed (byte ∷ table) free zero = both_first (not (byte == 10)) (list_all (λ b. not (b == 10)) table) free
digit_feed (byte ∷ table) free (suc place) =
    digit_feed table (both_second (not (byte == 10)) (list_all (λ b. not (b == 10)) table) free) place

-- bytes encoded by digits of a table without a line feed have none
encoded_feed : (table : List ℕ) → HasNoFeed table → (bytes : List ℕ) → HasNoFeed (encode_with table bytes)
unfolding encode_with
encoded_feed table free [] = refl
encoded_feed table free (byte ∷ bytes) =
    both _ _ (digit_feed table free (byte / 16)) (both _ _ (digit_feed table free (byte % 16))
    (encoded_feed table free bytes))

-- the text of a gtrid, bqual, key or value has no line feed
part_feed : (bytes : List ℕ) → HasNoFeed (part_text bytes)
part_feed bytes = grind (arith, encoded_feed, feed-append)

-- a decimal digit, made of the byte 48 (`0`) and a number, is no line feed
shifted : (digit : ℕ) → not (48 + digit == 10) ≡ true
shifted digit = let apart : (48 + digit == 10) ≡ false = grind (arith, nat_tests) in ap not apart

-- decimal digits have no line feed
shifted_feed : (digits : List ℕ) → HasNoFeed (map (λ d. 48 + d) digits)
shifted_feed [] = refl
shifted_feed (digit ∷ digits) = both _ _ (shifted digit) (shifted_feed digits)

-- a number below 2^64 is written without a line feed
pub decimal_feed : (number : ℕ) → number < 2 ^ 64 → HasNoFeed (decimal number)
decimal_feed number fits = grind (arith, decimal-digits_of, decimal_digit, lit<, shifted_feed)

-- an identifier whose formatID is below 2^64 is written without a line feed
xid_feed : (xid : Xid) → xid.format_id < 2 ^ 64 → HasNoFeed (xid_text xid)
xid_feed xid fits = grind (arith, decimal, decimal_feed, feed-append, part_feed)

-- the canonical form of a statement has no line feed, if its identifier can be written
pub statement_feed : (statement : Statement) → IsFit statement → HasNoFeed (statement_text statement)
unfolding statement_text
statement_feed statement fit = grind (arith, feed-append, part_feed, xid_feed)
