-- Passes and spares that are dealt in order.
use Rattle.std.proofs.Common.{◌≡◌, ◌⊎◌, ⊎_elim, inl, inr, ℕ, zero, suc, List, [], ◌∷◌, ◌++◌, length, Some, refl, ap}
use Rattle.std.{proofs.Common.{sym, ◌∙◌, subst}, specs.Prelude.slice_get}
use Rattle.decision_log.specs.{declared.known.Known.Known, Known.newcomer}

-- if two elements are equal as found (`Some`), they are equal
some_injective : {A : Type 0} (a b : A) → Some a ≡ Some b → a ≡ b
some_injective a b is = cc

-- an element of a list with one more at its end is one of the list, at its old place, or the last
get_last : {A : Type 0} (xs : List A) (last : A) (place : ℕ) (one : A)
    → slice_get (xs ++ last ∷ []) place ≡ Some one
    → (slice_get xs place ≡ Some one) ⊎ ((place ≡ length xs) × (last ≡ one))
get_last [] last zero one is = inr (refl, some_injective last one is)
get_last [] last (suc place) one is = absurd (cc)
get_last (x ∷ xs) last zero one is = inl is
get_last (x ∷ xs) last (suc place) one is =
    ⊎_elim (λ h. inl h) (λ h. inr (ap suc h.0, h.1)) (get_last xs last place one is)

-- each pass or spare of a list is a newcomer, and its number is `number` of its place
pub record Numbered {A : Type 0} (known : A → Known) (number : ℕ → ℕ) (xs : List A) : Type 0 where
  pub at : (place : ℕ) (one : A) → slice_get xs place ≡ Some one → known one ≡ newcomer (number place)

-- if a list is `Numbered`, and a newcomer with the next place's number is put behind it, the longer list is, too
pub numbered_more : {A : Type 0} (known : A → Known) (number : ℕ → ℕ) (count : ℕ) (xs ys : List A) (last : A)
    → ys ≡ xs ++ last ∷ []
    → length xs ≡ count
    → known last ≡ newcomer (number count)
    → Numbered known number xs
    → Numbered known number ys
numbered_more known number count xs ys last is counted next old = record {
  at = λ place one found.
      ⊎_elim (λ before. old.at place one before)
      (λ here. ap known (sym here.1) ∙ next ∙ ap (λ n. newcomer (number n)) (sym counted ∙ sym here.0))
      (get_last xs last place one (subst (λ zs. slice_get zs place ≡ Some one) is found));
}
