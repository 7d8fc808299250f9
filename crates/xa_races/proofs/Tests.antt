-- Numbers that are told apart, by a test or without one, what stands at a place, first places, and lines after a
-- change.
use Rattle.std.proofs.Common.{◌≡◌, ◌≢◌, ◌⊎◌, ℕ, zero, suc, ◌+◌, ◌<◌, ◌==◌, Bool, true, false, not, cond, Some, List, []}
use Rattle.std.proofs.{Common.{◌∷◌, length, position, inl, inr, refl, ap, arith}, lemmas.Bool.Decides.nat_tests}
use Rattle.std.{proofs.lemmas.Option.{slice_get_within, get_or_from_slice_get}, specs.Prelude.{slice_get, nat_lt}}
use Rattle.std.specs.List.{All, prefix_len, position_or_len}
use Rattle.xa_races.specs.LinesLeft.{with_lines}

-- a number is equal to itself by the test
pub same_test : (n : ℕ) → (n == n) ≡ true
same_test n = grind (arith, nat_tests)

-- different numbers are unequal by the test
pub apart_test : (m n : ℕ) → m ≢ n → (m == n) ≡ false
apart_test m n apart = grind (arith, nat_tests)

-- numbers that are equal by the test are the same
pub same_of_test : (m n : ℕ) → (m == n) ≡ true → m ≡ n
same_of_test m n test = grind (arith, nat_tests)

-- two numbers are the same or not
pub same_number : (m n : ℕ) → (m ≡ n) ⊎ (m ≢ n)
same_number zero zero = inl refl
same_number zero (suc n) = inr (λ e. absurd (omega arith))
same_number (suc m) zero = inr (λ e. absurd (omega arith))
same_number (suc m) (suc n) =
    elim (same_number m n) [ inl is ↦ inl (ap suc is) | inr apart ↦ inr (λ e. apart (omega arith)) ]

-- a smaller number is below by the test
below_test : (m n : ℕ) → m < n → nat_lt m n ≡ true
below_test m n below = grind (arith, nat_tests)

module _ {A : Type 0} (p : A → Bool) where
  -- if the first of a list passes, the first place that passes is 0
  pub first_passes : (x : A) (xs : List A) → p x ≡ true → position_or_len p (x ∷ xs) ≡ 0
  first_passes x xs passes = ap (λ b. cond (not b) (1 + prefix_len (λ y. not (p y)) xs) 0) passes

  -- if the first of a list doesn't pass, the first place that passes is one more than in the rest
  pub first_fails : (x : A) (xs : List A) → p x ≡ false → position_or_len p (x ∷ xs) ≡ 1 + position_or_len p xs
  first_fails x xs fails = ap (λ b. cond (not b) (1 + prefix_len (λ y. not (p y)) xs) 0) fails

  -- if the first place that passes is within the list, it is found
  pub position_is : (xs : List A) (place : ℕ) → position_or_len p xs ≡ place → place < length xs
      → position p xs ≡ Some place
  position_is xs place is below = grind (arith, below_test)

-- after a session's lines were replaced, it has the new ones
pub lines_own : {L : Type 0} (lines : ℕ → List L) (session : ℕ) (rest : List L)
    → with_lines lines session rest session ≡ rest
lines_own lines session rest = ap (λ b. cond b rest (lines session)) (same_test session)

-- replacing one session's lines leaves those of the others
pub lines_other : {L : Type 0} (lines : ℕ → List L) (session other : ℕ) (rest : List L) → other ≢ session
    → with_lines lines session rest other ≡ lines other
lines_other lines session other rest apart = ap (λ b. cond b rest (lines other)) (apart_test other session apart)

-- each place of a list has an element
pub get_within : {A : Type 0} (xs : List A) (i : ℕ) → i < length xs → (x : A) × (slice_get xs i ≡ Some x)
get_within [] i within = absurd (omega arith)
get_within (y ∷ xs) zero within = (y, refl)
get_within (y ∷ xs) (suc i) within = get_within xs i (omega arith)

-- what holds of each element holds of the one at a place
pub all_at : {A : Type 0} (P : A → Type 0) (list : List A) (place : ℕ) (x : A) → All P list
    → slice_get list place ≡ Some x → P x
all_at P list place x all found = grind (arith, get_or_from_slice_get, slice_get_within)
