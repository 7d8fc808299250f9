-- What stands behind a token is shorter than the text.
use Rattle.std.proofs.Common.{◌≡◌, ℕ, ◌≤◌, suc, Bool, true, false, not, nat_lt, ◌%◌, if◌then◌else◌, ◌||◌, ◌==◌, List}
use Rattle.std.proofs.{Common.{[], ◌∷◌, length, drop, Option, Some, None, Ok, Err, sym, ◌∙◌, arith}, Math.Nat.le_refl}
use Rattle.std.proofs.lemmas.Bool.{cond_both, or_from, true≢false}
use Rattle.hex.specs.Hex.{decode_of}
use Rattle.xa_xid.specs.{Bytes.{belongs, front, behind}, Literal.{Reading, literal_ahead, opens_text, opens_hex}}
use Rattle.xa_xid.specs.{Literal.{text_literal_of, sized, kept, hex_in_quotes_of, decoded}, declared.quoted.Mode.Mode}
use Rattle.xa_xid.specs.{Quoted.{read_in_quotes, onto, escaped}, Xid.Text, declared.byte_class.ByteClass.ByteClass}
use Rattle.xa_xid.specs.declared.literal_fault.LiteralFault.{LiteralFault, TheVariants.{NotALiteral, OddHex, TooLong}}
use Rattle.xa_xid.specs.declared.quoted.Mode.TheVariants.{Plain, Escape, Quote}

-- skipping bytes makes no text longer
pub behind-short : (p : ℕ → Bool) (text : List ℕ) → length (behind p text) ≤ length text
unfolding behind
behind-short p [] = le_refl 0
behind-short p (byte ∷ text) =
    let shorter : length (behind p text) ≤ length text = behind-short p text in
    cond_both (p byte) (behind p text) (byte ∷ text) (λ left. length left ≤ suc (length text)) (λ _. omega arith)
    (λ _. omega arith)

-- what is left is at most so long
abbrev Short : ℕ → Option (List ℕ × List ℕ) → Type 0
Short most None = Unit {0}
Short most (Some found) = length found.1 ≤ most

-- if what is left is at most so long, it is at most one longer than that, also with bytes put in front of what was
-- read
short-onto : (most : ℕ) (first : List ℕ) (found : Option (List ℕ × List ℕ)) → Short most found
    → Short (suc most) (onto first found)
short-onto most first None short = tt
short-onto most first (Some (bytes, rest)) short = omega arith

-- what leaves at most so many bytes leaves at most one more
short-more : (most : ℕ) (found : Option (List ℕ × List ℕ)) → Short most found → Short (suc most) found
short-more most None short = tt
short-more most (Some (bytes, rest)) short = omega arith

-- what is left behind a literal in quotes is at most the text
quoted-short : (quote : ℕ) (mode : Mode) (text : List ℕ) → Short (length text) (read_in_quotes quote mode text)
unfolding read_in_quotes
quoted-short quote Plain [] = tt
quoted-short quote Plain (byte ∷ text) =
    cond_both (byte == quote) _ _ (Short (suc (length text)))
    (λ _. short-more (length text) (read_in_quotes quote Quote text) (quoted-short quote Quote text))
    (λ _. cond_both (byte == 92) _ _ (Short (suc (length text)))
    (λ _. short-more (length text) (read_in_quotes quote Escape text) (quoted-short quote Escape text))
    (λ _. short-onto (length text) (byte ∷ []) (read_in_quotes quote Plain text) (quoted-short quote Plain text)))
quoted-short quote Escape [] = tt
quoted-short quote Escape (byte ∷ text) =
    short-onto (length text) (escaped byte) (read_in_quotes quote Plain text) (quoted-short quote Plain text)
quoted-short quote Quote [] = le_refl 0
quoted-short quote Quote (byte ∷ text) =
    cond_both (byte == quote) _ _ (Short (suc (length text)))
    (λ _. short-onto (length text) (quote ∷ []) (read_in_quotes quote Plain text) (quoted-short quote Plain text))
    (λ _. le_refl (suc (length text)))

-- what is left behind a literal is at most so long
abbrev pub ShortReading : ℕ → Reading Text → Type 0
ShortReading most (Ok found) = length found.1 ≤ most
ShortReading most (Err fault) = Unit {0}

-- a reading of a literal that may be too long leaves at most the rest
short-sized : (most : ℕ) (text : Option Text) (rest : List ℕ) → length rest ≤ most → ShortReading most (sized text rest)
short-sized most None rest short = tt
short-sized most (Some text) rest short = short

-- a reading of a literal in quotes leaves at most what its quotes leave
short-text : (most : ℕ) (found : Option (List ℕ × List ℕ)) → Short most found
    → ShortReading most (text_literal_of found)
short-text most None short = tt
short-text most (Some (bytes, rest)) short = short-sized most (kept bytes) rest short

-- a reading of hexadecimal digits leaves at most the rest
short-decoded : (most : ℕ) (digits rest : List ℕ) → length rest ≤ most → ShortReading most (decoded digits rest)
short-decoded most digits rest short =
    elim (decode_of digits) as (λ found. ShortReading most
    (elim found [ Ok bytes ↦ Ok (record { items = bytes }, rest) | Err _ ↦ Err NotALiteral ])) [
      | Ok bytes ↦ short
      | Err fault ↦ tt
    ]

-- a reading that a test may refuse leaves at most what it leaves without the test
short-guard : (most : ℕ) (test : Bool) (fault : LiteralFault) (other : Reading Text) → ShortReading most other
    → ShortReading most (if test then Err fault else other)
short-guard most true fault other short = tt
short-guard most false fault other short = short

-- a reading of hexadecimal digits in quotes leaves at most the rest
short-hex : (most : ℕ) (digits rest : List ℕ) → length rest ≤ most → ShortReading most (hex_in_quotes_of digits rest)
short-hex most digits [] short = tt
short-hex most digits (byte ∷ rest) short =
    let long : Reading Text = if nat_lt 128 (length digits) then Err TooLong else decoded digits rest in
    let odd : Reading Text = if length digits % 2 == 1 then Err OddHex else long in
    let shorter : length rest ≤ most = omega arith in
    short-guard most (not (byte == 39)) NotALiteral odd
    (short-guard most (length digits % 2 == 1) OddHex long
    (short-guard most (nat_lt 128 (length digits)) TooLong (decoded digits rest)
    (short-decoded most digits rest shorter)))

-- without its first two bytes a text is shorter
length-drop-2 : (byte : ℕ) (text : List ℕ) → length (drop 2 (byte ∷ text)) ≤ length text
length-drop-2 byte [] = le_refl 0
length-drop-2 byte (next ∷ text) = omega arith

-- less is left behind a literal in quotes than the text had
pub literal-short : (byte : ℕ) (text : List ℕ) → (opens_text (byte ∷ text) || opens_hex (byte ∷ text)) ≡ true
    → ShortReading (length text) (literal_ahead (byte ∷ text))
unfolding literal_ahead
literal-short byte text opens =
    let hex = belongs ByteClass.Hexadecimal in
    cond_both (opens_text (byte ∷ text)) _ _ (ShortReading (length text))
    (λ _. short-text (length text) (read_in_quotes byte Plain text) (quoted-short byte Plain text))
    (λ no. cond_both (opens_hex (byte ∷ text)) _ _ (ShortReading (length text))
    (λ _. short-hex (length text) (front hex (drop 2 (byte ∷ text))) (behind hex (drop 2 (byte ∷ text)))
    (omega (arith, behind-short hex (drop 2 (byte ∷ text)), length-drop-2 byte text)))
    (λ none. let never : true ≡ false = sym opens ∙ or_from _ _ no none in absurd (true≢false never)))
