-- A text without the blanks at its end.
use Rattle.std.proofs.Common.{◌≡◌, ℕ, true, false, List, [], ◌∷◌, ◌++◌, reverse, length, refl, sym, ◌∙◌, arith}
use Rattle.std.proofs.lemmas.List.{reverse-append, reverse-reverse}
use Rattle.xa_xid.specs.{Bytes.{belongs, behind}, declared.byte_class.ByteClass.TheVariants.Blank}
use Rattle.xa_record.specs.Lines.{trimmed}

-- reversing a text puts its last byte first
reversed : (front : List ℕ) (last : ℕ) → reverse (front ++ last ∷ []) ≡ last ∷ reverse front
reversed front last = reverse-append front (last ∷ [])

-- an empty text has nothing to trim
pub trimmed_none : trimmed [] ≡ []
unfolding trimmed behind
trimmed_none = refl

-- a blank at the end is dropped
pub trimmed_blank : (front : List ℕ) (last : ℕ) → belongs Blank last ≡ true
    → trimmed (front ++ last ∷ []) ≡ trimmed front
unfolding trimmed behind
trimmed_blank front last blank = rw (reversed front last, blank) refl

-- a byte at the end that is no blank stays, and all before it
pub trimmed_full : (front : List ℕ) (last : ℕ) → belongs Blank last ≡ false
    → trimmed (front ++ last ∷ []) ≡ front ++ last ∷ []
unfolding trimmed behind
trimmed_full front last full = grind (arith, reverse, reverse-reverse, reversed)

-- if all was trimmed away, the trimmed text is empty
pub trimmed_over : (text rest : List ℕ) → trimmed text ≡ trimmed rest → length rest ≡ 0 → rest ≡ trimmed text
trimmed_over text [] same none = sym (same ∙ trimmed_none)
trimmed_over text (x ∷ rest) same none = absurd (omega arith)
