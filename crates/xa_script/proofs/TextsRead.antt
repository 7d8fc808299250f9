-- Texts in quotes are literals of their bytes.
use Rattle.std.proofs.Common.{◌≡◌, ◌∙◌, ℕ, ◌≤◌, Bool, true, false, ◌==◌, ◌||◌, if◌then◌else◌, List, [], ◌∷◌, ◌++◌}
use Rattle.std.proofs.{Common.{length, Ok, refl, sym, ap, subst, append-nil}, lemmas.Bool.{eqb-true, eqb-false}}
use Rattle.xa_xid.specs.{Bytes.StartsNo, Literal.{Reading, LiteralAt, text_literal, literal_ahead, kept, sized}}
use Rattle.xa_xid.{specs.{Quoted.{Quoted, close, doubled, escape, plain, escaped}, Xid.Text}, proofs.Texts.kept-fits}
use Rattle.xa_script.specs.Texts.{between_quotes, quoted, are_printable, word_text, said_or}

-- in a text in quotes, a backslash (92) that is written twice stands for one
two_backslashes : {written bytes : List ℕ} → Quoted 39 written bytes → Quoted 39 (92 ∷ 92 ∷ written) (92 ∷ bytes)
unfolding escaped
two_backslashes form = escape 92 form

-- a byte in front of a text in quotes is written twice if it is a quote or a backslash, and else as it is
form_more : (byte : ℕ) (is_quote is_backslash : Bool) (front bytes : List ℕ) → (byte == 39) ≡ is_quote
    → (byte == 92) ≡ is_backslash
    → Quoted 39 (front ++ 39 ∷ []) bytes
    → Quoted 39 ((if is_quote || is_backslash then byte ∷ byte ∷ front else byte ∷ front) ++ 39 ∷ []) (byte ∷ bytes)
form_more byte true is_backslash front bytes quote other form =
    let P : ℕ → Type 0 = λ b. Quoted 39 (b ∷ b ∷ (front ++ 39 ∷ [])) (b ∷ bytes) in
    subst P (sym (eqb-true byte 39 quote)) (doubled form)
form_more byte false true front bytes quote other form =
    let P : ℕ → Type 0 = λ b. Quoted 39 (b ∷ b ∷ (front ++ 39 ∷ [])) (b ∷ bytes) in
    subst P (sym (eqb-true byte 92 other)) (two_backslashes form)
form_more byte false false front bytes quote other form =
    plain byte (eqb-false byte 39 quote) (eqb-false byte 92 other) form

-- what `between_quotes` gives, with the closing quote behind it, stands for the bytes
form_of : (bytes : List ℕ) → Quoted 39 (between_quotes bytes ++ 39 ∷ []) bytes
form_of [] = close
form_of (byte ∷ bytes) = form_more byte (byte == 39) (byte == 92) (between_quotes bytes) bytes refl refl (form_of bytes)

-- a text in quotes, behind which no quote stands, is a literal of its bytes
pub quoted_at : (bytes rest : List ℕ) → StartsNo (λ byte. byte == 39) rest → LiteralAt (quoted bytes ++ rest) bytes rest
quoted_at bytes rest last = text_literal 39 refl (record
    { written = between_quotes bytes ++ 39 ∷ []; form = form_of bytes; cut = refl; last = last })

-- if literals are read as they are spelled, a text of at most 64 bytes that is written in quotes is read as its bytes
read_quoted : (text : Text) → length text.items ≤ 64
    → ((text bytes rest : List ℕ) → LiteralAt text bytes rest → literal_ahead text ≡ sized (kept bytes) rest)
    → literal_ahead (quoted text.items) ≡ Ok (text, [])
read_quoted text fits complete =
    ap literal_ahead (sym (append-nil (quoted text.items)))
    ∙ complete (quoted text.items ++ []) text.items [] (quoted_at text.items [] tt)
    ∙ ap (λ found. sized found []) (kept-fits text.items fits)

-- if a word, and the text in quotes, are each read as that text, so is the one of the two that a test chooses
chosen : (word : List ℕ) (text : Text) (is_plain : Bool) → literal_ahead word ≡ Ok (text, [])
    → literal_ahead (quoted text.items) ≡ Ok (text, [])
    → literal_ahead (if is_plain then quoted text.items else word) ≡ Ok (text, [])
chosen word text true is read = read
chosen word text false is read = is

-- if literals are read as they are spelled, what is written for a literal of at most 64 bytes is read as the same text
pub word_read : (word : List ℕ) (text : Text) → length text.items ≤ 64
    → ((text bytes rest : List ℕ) → LiteralAt text bytes rest → literal_ahead text ≡ sized (kept bytes) rest)
    → literal_ahead word ≡ Ok (text, []) → literal_ahead (word_text word) ≡ Ok (text, [])
word_read word text fits complete is =
    let P : Reading Text → Type 0 = λ found. literal_ahead (said_or word found) ≡ Ok (text, []) in
    subst P (sym is) (chosen word text (are_printable text.items) is (read_quoted text fits complete))
