-- The tokens of a text, one after another.
use Rattle.std.proofs.Common.{◌≡◌, ℕ, ◌≤◌, ◌<◌, zero, suc, Bool, true, false, ◌==◌, if◌then◌else◌, List, [], ◌∷◌}
use Rattle.std.proofs.{Common.{length, Option, Some, None, Ok, Err, refl, sym, ◌∙◌, ap, arith}, Math.Nat.le_refl}
use Rattle.std.proofs.lemmas.Bool.{cond_both}
use Rattle.xa_xid.specs.{Bytes.{belongs, behind, unblank}, Literal.{Reading, literal_ahead}, Xid.Text}
use Rattle.xa_xid.specs.declared.byte_class.ByteClass.TheVariants.{Word as word_byte, Blank as blank_byte}
use Rattle.xa_xid.proofs.Cuts.{behind-passes, behind-stops, behind-nil}
use Rattle.xa_xid.proofs.Shorter.{behind-short, ShortReading, literal-short}
use Rattle.xa_statement.specs.{declared.token.Token.{Token, TheVariants.{Comma, Semicolon, Value}}, Token.token_at}
use Rattle.xa_statement.specs.Token.{quoted_piece, run_at, opens_quoted, pieces, tokens_of, first_piece, Piece}

-- what is left behind a token is at most so long
abbrev Leaves : ℕ → Token × List ℕ → Type 0
Leaves most cut = length cut.1 ≤ most

-- a literal in quotes leaves as little as its reading does
leaves_quoted : (most : ℕ) (reading : Reading Text) → ShortReading most reading → Leaves most (quoted_piece reading)
leaves_quoted most (Ok found) short = short
leaves_quoted most (Err fault) short = omega arith

-- each token takes at least one byte
pub token-short : (byte : ℕ) (text : List ℕ) → length (token_at (byte ∷ text)).1 ≤ length text
unfolding token_at
token-short byte text =
    let most = length text in
    let stray : Token × List ℕ = (Value None None, []) in
    let word : Token × List ℕ = if belongs word_byte byte then run_at (byte ∷ text) else stray in
    let quoted : Token × List ℕ = if opens_quoted (byte ∷ text) then quoted_piece
    (literal_ahead (byte ∷ text)) else word in
    let semicolon : Token × List ℕ = if byte == 59 then (Semicolon, text) else quoted in
    cond_both (byte == 44) (Comma, text) semicolon (Leaves most) (λ _. le_refl most)
    (λ _. cond_both (byte == 59) (Semicolon, text) quoted (Leaves most) (λ _. le_refl most)
    (λ _. cond_both (opens_quoted (byte ∷ text)) (quoted_piece (literal_ahead (byte ∷ text))) word (Leaves most)
    (λ opens. leaves_quoted most (literal_ahead (byte ∷ text)) (literal-short byte text opens))
    (λ _. cond_both (belongs word_byte byte) (run_at (byte ∷ text)) stray (Leaves most)
    (λ is. rw (behind-passes (belongs word_byte) byte text is) (behind-short (belongs word_byte) text))
    (λ _. omega arith))))

-- if a first token is cut off, it leaves fewer than so many bytes
abbrev Fewer : ℕ → Option (Piece × List ℕ) → Type 0
Fewer most None = Unit {0}
Fewer most (Some cut) = length cut.1 < most

-- less is left behind the first piece of a text than there was
fewer_first : (text : List ℕ) → Fewer (length text) (first_piece text)
fewer_first [] = tt
fewer_first (byte ∷ text) = let short = token-short byte text in omega (arith, short)

-- what is below a bound is below a greater one
fewer_more : (least most : ℕ) (cut : Option (Piece × List ℕ)) → least ≤ most → Fewer least cut → Fewer most cut
fewer_more least most None more fewer = tt
fewer_more least most (Some cut) more fewer = omega arith

-- less is left behind the first piece of a text than there was, also if blanks come first
fewer : (text : List ℕ) → Fewer (length text) (first_piece (unblank text))
fewer text = fewer_more _ _ (first_piece (unblank text)) (behind-short (belongs blank_byte) text)
    (fewer_first (unblank text))

-- a text without a byte has no pieces
pub pieces-nil : (most : ℕ) → pieces most [] ≡ []
unfolding pieces behind
pieces-nil zero = refl
pieces-nil (suc most) = refl

-- a text of length 0 is the empty one
no_bytes : (text : List ℕ) → length text ≤ 0 → text ≡ []
no_bytes [] none = refl
no_bytes (byte ∷ text) none = absurd (omega arith)

-- the pieces from a first one on, if one could be cut off
abbrev pub go_on : ℕ → Option (Piece × List ℕ) → List Piece
go_on most None = []
go_on most (Some cut) = cut.0 ∷ pieces most cut.1

-- with one step more allowed, the first piece is cut off and the rest is cut on
pub pieces-suc : (most : ℕ) (text : List ℕ) → pieces (suc most) text ≡ go_on most (first_piece (unblank text))
unfolding pieces
pieces-suc most text = refl

-- two numbers of steps that both suffice cut the same pieces
same_more : (most other : ℕ) (cut : Option (Piece × List ℕ)) (bound : ℕ) → Fewer bound cut → bound ≤ suc most
    → bound ≤ suc other
    → ((text : List ℕ) → length text ≤ most → length text ≤ other → pieces most text ≡ pieces other text)
    → go_on most cut ≡ go_on other cut
same_more most other None bound few a b same = refl
same_more most other (Some cut) bound few a b same = ap (λ more. cut.0 ∷ more) (same cut.1 (omega arith) (omega arith))

-- how many tokens are looked for doesn't matter, where it is enough
pub stable : (most other : ℕ) (text : List ℕ) → length text ≤ most → length text ≤ other
    → pieces most text ≡ pieces other text
stable zero other text a b = rw (no_bytes text a, pieces-nil zero, pieces-nil other) refl
stable (suc most) zero text a b = rw (no_bytes text b, pieces-nil zero, pieces-nil (suc most)) refl
stable (suc most) (suc other) text a b =
    pieces-suc most text
    ∙ same_more most other (first_piece (unblank text)) (length text) (fewer text) a b (λ t. stable most other t)
    ∙ sym (pieces-suc other text)

-- the text begins with no blank
pub record IsUnblank (text : List ℕ) : Type 0 where
  pub same : unblank text ≡ text

-- skipping bytes of a kind twice is skipping them once
behind-behind : (p : ℕ → Bool) (text : List ℕ) → behind p (behind p text) ≡ behind p text
behind-behind p [] = rw (behind-nil p, behind-nil p) refl
behind-behind p (byte ∷ text) =
    elim (p byte) as (λ b. p byte ≡ b → behind p (behind p (byte ∷ text)) ≡ behind p (byte ∷ text)) [
      | true ↦ λ e. rw (behind-passes p byte text e) (behind-behind p text)
      | false ↦ λ e. rw (behind-stops p byte text e) (behind-stops p byte text e)
    ] refl

-- a text whose leading blanks were skipped begins with no blank
pub unblank-unblank : (text : List ℕ) → IsUnblank (unblank text)
unblank-unblank text = record { same = behind-behind (belongs blank_byte) text }

-- a text that begins with no blank is cut into its first token and the tokens of the rest
pub first_token : (byte : ℕ) (text : List ℕ) → IsUnblank (byte ∷ text)
    → tokens_of (byte ∷ text) ≡ ((token_at (byte ∷ text)).0, length (byte ∷ text)) ∷ tokens_of
    (token_at (byte ∷ text)).1
first_token byte text is =
    let rest = (token_at (byte ∷ text)).1 in
    pieces-suc (length text) (byte ∷ text)
    ∙ ap (λ t. go_on (length text) (first_piece t)) is.same
    ∙ ap (λ more. ((token_at (byte ∷ text)).0, length (byte ∷ text)) ∷ more)
    (stable (length text) (length rest) rest (token-short byte text) (le_refl (length rest)))

-- leading blanks change no piece
same_start : (most : ℕ) (text : List ℕ) → pieces most (unblank text) ≡ pieces most text
unfolding pieces
same_start zero text = refl
same_start (suc most) text = ap (λ t. go_on most (first_piece t)) (behind-behind (belongs blank_byte) text)

-- leading blanks change no token
pub tokens-unblank : (text : List ℕ) → tokens_of (unblank text) ≡ tokens_of text
tokens-unblank text =
    stable (length (unblank text)) (length text) (unblank text) (le_refl _) (behind-short (belongs blank_byte) text)
    ∙ same_start (length text) text
