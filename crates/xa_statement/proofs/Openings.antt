-- Words in capitals, literals and numbers at the front of a text.
use Rattle.std.proofs.Common.{◌≡◌, ℕ, ◌<◌, ◌≤◌, true, List, [], ◌∷◌, ◌++◌, length, Option}
use Rattle.std.proofs.Common.{Some, None, Ok, refl, sym, ◌∙◌, ap, arith, IsTrue}
use Rattle.std.proofs.lemmas.Bool.{ne_eqb, ltb-true, Decides.nat_tests}
use Rattle.xa_xid.specs.Bytes.{belongs, behind, unblank, StartsNo}
use Rattle.xa_xid.specs.declared.byte_class.ByteClass.TheVariants.{Word as word_byte, Decimal as decimal_byte}
use Rattle.xa_xid.specs.declared.byte_class.ByteClass.TheVariants.{Hexadecimal as hexadecimal_byte}
use Rattle.xa_xid.specs.{Literal.{literal_ahead, LiteralAt, text_literal, hex_in_quotes, hex_run, is_x}, Xid.Text}
use Rattle.xa_xid.specs.Number.{number_ahead, NumberAt, decimal_digits, hexadecimal_digits}
use Rattle.xa_xid.proofs.{Identifiers.read_text_spelled, Numerals.read_number_spelled, Written.Passes}
use Rattle.xa_xid.proofs.Written.{decimal_byte as decimal_byte_range}
use Rattle.xa_xid.proofs.Spelling.{only_passes, words_hex}
use Rattle.xa_statement.specs.declared.token.{Keyword.Keyword, Token.{TheVariants.{Word, Value}}}
use Rattle.xa_statement.specs.{Reading.read_from, Ways.TakesToken}
use Rattle.xa_statement.specs.Token.{token_at, tokens_of, part_of, opens_quoted}
use Rattle.xa_statement.proofs.{Pieces.tokens-unblank, Ways.{takes, false_is_true}, Canon.digit_token}

-- a blank (32) is skipped
blank_skipped : (rest : List ℕ) → tokens_of (32 ∷ rest) ≡ tokens_of rest
unfolding behind belongs
blank_skipped rest = sym (tokens-unblank (32 ∷ rest)) ∙ tokens-unblank rest

-- a word and the blank behind it are taken from the front of a text
pub word_taken : (word : Keyword) (text written rest : List ℕ) → text ≡ written ++ rest
    → unblank (written ++ rest) ≡ written ++ rest → 0 < length (written ++ rest)
    → token_at (written ++ rest) ≡ (Word word, 32 ∷ rest) → TakesToken (Word word) text rest
word_taken word text written rest is bare some cut = λ state next steps.
    takes (Word word) text (written ++ rest) (32 ∷ rest) (sym (ap unblank is ∙ bare)) some cut state next steps
    ∙ ap (read_from next) (blank_skipped rest)

-- a number at the front of a text is one token, which has that number
pub record NumberFirst (text rest : List ℕ) (number : ℕ) : Type 0 where
  pub some : 0 < length text
  pub token : token_at text ≡ (Value (part_of (literal_ahead text)) (Some number), rest)

-- a run of word bytes that begins with a digit and is read as a number is one token, which has that number
digits_first : (byte : ℕ) (body rest : List ℕ) (number : ℕ) → 48 ≤ byte → byte ≤ 57
    → Passes (belongs word_byte) (byte ∷ body) → StartsNo (belongs word_byte) rest
    → number_ahead (byte ∷ body ++ rest) ≡ Ok (number, rest) → NumberFirst (byte ∷ body ++ rest) rest number
digits_first byte body rest number low high word s e =
    let text = byte ∷ body ++ rest in
    record {
      some = omega arith;
      token = digit_token byte body rest low high word s
          ∙ ap (λ n. (Value (part_of (literal_ahead text)) (part_of n), rest)) e;
    }

-- a decimal digit is a byte from 48 to 57
decimal_range : (byte : ℕ) → belongs decimal_byte byte ≡ true → (48 ≤ byte) × (byte ≤ 57)
unfolding belongs
decimal_range byte is = decimal_byte_range byte (ltb-true _ _ is)

-- a decimal digit is a byte of a word
word_decimal : (byte : ℕ) → belongs decimal_byte byte ≡ true → belongs word_byte byte ≡ true
unfolding belongs
word_decimal byte is = grind (arith, nat_tests)

-- decimal digits are bytes of a word
words_decimal : (digits : List ℕ) → Passes (belongs decimal_byte) digits → Passes (belongs word_byte) digits
words_decimal [] all = tt
words_decimal (digit ∷ digits) all = (word_decimal digit all.0, words_decimal digits all.1)

-- a number that the grammar spells at the front of a text, and that is read, is one token
number_token : (text rest : List ℕ) (number : ℕ) → NumberAt text number rest → number_ahead text ≡ Ok (number, rest)
    → NumberFirst text rest number
unfolding belongs
number_token _ rest number (decimal_digits digit digits all is small s) e =
    let passes = only_passes (belongs decimal_byte) (digit ∷ digits) all in
    let range = decimal_range digit passes.0 in
    digits_first digit digits rest number range.0 range.1 (words_decimal (digit ∷ digits) passes) s e
number_token _ rest number (hexadecimal_digits digit digits all is small s) e =
    let passes = only_passes (belongs hexadecimal_byte) (digit ∷ digits) all in
    digits_first 48 (120 ∷ digit ∷ digits) rest number (omega arith) (omega arith)
    (refl, (refl, words_hex (digit ∷ digits) passes)) s e

-- a number that is read at the front of a text is one token, which has that number
pub number_first : (text rest : List ℕ) (number : ℕ) → number_ahead text ≡ Ok (number, rest)
    → NumberFirst text rest number
number_first text rest number e = number_token text rest number (read_number_spelled text number rest e) e

-- a literal at the front of a text is one token, which has that literal
pub record LiteralFirst (text rest : List ℕ) (found : Text) : Type 0 where
  pub some : 0 < length text
  pub number : Option ℕ
  pub token : token_at text ≡ (Value (Some found) number, rest)

-- a text that begins as a literal in quotes does begins with neither a comma (44) nor a semicolon (59)
quoted_first : (byte : ℕ) (body rest : List ℕ) (found : Text) → (byte ≡ 44 → ⊥) → (byte ≡ 59 → ⊥)
    → opens_quoted (byte ∷ body) ≡ true → literal_ahead (byte ∷ body) ≡ Ok (found, rest)
    → LiteralFirst (byte ∷ body) rest found
unfolding token_at
quoted_first byte body rest found no_comma no_semicolon opens e = record {
  some = omega arith;
  number = None;
  token = rw (ne_eqb byte 44 no_comma, ne_eqb byte 59 no_semicolon, opens, e) refl;
}

-- an X or x and a single quote (39) open a literal in quotes
hex_opens : (letter : ℕ) (body : List ℕ) → IsTrue (is_x letter) → opens_quoted (letter ∷ 39 ∷ body) ≡ true
hex_opens letter body is =
    rw (
      ne_eqb letter 39 (λ same. false_is_true (rw same at is)),
      ne_eqb letter 34 (λ same. false_is_true (rw same at is)),
      is,
    ) refl

-- a literal that the grammar spells at the front of a text, and that is read, is one token
literal_token : (text items rest : List ℕ) (found : Text) → LiteralAt text items rest
    → literal_ahead text ≡ Ok (found, rest) → LiteralFirst text rest found
unfolding belongs
literal_token _ items rest found (text_literal quote {text} is quoted) e =
    quoted_first quote text rest found (λ same. false_is_true (rw same at is)) (λ same. false_is_true (rw same at is))
    (rw is refl) e
literal_token _ items rest found (hex_in_quotes letter digits is decoded all) e =
    quoted_first letter (39 ∷ digits ++ 39 ∷ rest) rest found (λ same. false_is_true (rw same at is))
    (λ same. false_is_true (rw same at is)) (hex_opens letter (digits ++ 39 ∷ rest) is) e
literal_token _ items rest found (hex_run digit digits decoded all s) e =
    let text = 48 ∷ 120 ∷ digit ∷ digits ++ rest in
    let passes = only_passes (belongs hexadecimal_byte) (digit ∷ digits) all in
    record {
      some = omega arith;
      number = part_of (number_ahead text);
      token = digit_token 48 (120 ∷ digit ∷ digits) rest (omega arith) (omega arith)
          (refl, (refl, words_hex (digit ∷ digits) passes)) s
          ∙ ap (λ l. (Value (part_of l) (part_of (number_ahead text)), rest)) e;
    }

-- a literal that is read at the front of a text is one token, which has that literal
pub literal_first : (text rest : List ℕ) (found : Text) → literal_ahead text ≡ Ok (found, rest)
    → LiteralFirst text rest found
literal_first text rest found e =
    literal_token text found.items rest found (read_text_spelled text found rest e).literal e
