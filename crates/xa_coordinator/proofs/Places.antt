-- Lists at their places, where one place is written.
use Rattle.std.proofs.Common.{◌≡◌, ◌≢◌, ◌<◌, ℕ, get_or, zero, suc, List, [], ◌∷◌, length, refl, ap, Some, arith}
use Rattle.std.specs.Prelude.{slice_get, slice_set}

module _ {A : Type 0} where
  -- at the place that was written, within the list, stands what was written
  pub get_set_same : (xs : List A) (place : ℕ) (x : A) → place < length xs
      → slice_get (slice_set xs place x) place ≡ Some x
  get_set_same [] place x below = absurd (omega arith)
  get_set_same (y ∷ ys) zero x below = refl
  get_set_same (y ∷ ys) (suc place) x below = get_set_same ys place x (omega arith)

  -- at any other place stands what stood there
  pub get_set_other : (xs : List A) (place other : ℕ) (x : A) → other ≢ place
      → slice_get (slice_set xs place x) other ≡ slice_get xs other
  get_set_other [] place other x apart = refl
  get_set_other (y ∷ ys) zero zero x apart = absurd (apart refl)
  get_set_other (y ∷ ys) zero (suc other) x apart = refl
  get_set_other (y ∷ ys) (suc place) zero x apart = refl
  get_set_other (y ∷ ys) (suc place) (suc other) x apart = get_set_other ys place other x (λ same. apart (ap suc same))

  -- if something stands at the place that was written, it is what was written
  pub get_set_is : (xs : List A) (place : ℕ) (x y : A) → slice_get (slice_set xs place x) place ≡ Some y → x ≡ y
  get_set_is [] place x y is = absurd (cc)
  get_set_is (z ∷ zs) zero x y is = cc
  get_set_is (z ∷ zs) (suc place) x y is = get_set_is zs place x y is

  -- if something stands at the place that was written, something stood there before
  pub get_before_set : (xs : List A) (place : ℕ) (x y d : A) → slice_get (slice_set xs place x) place ≡ Some y
      → slice_get xs place ≡ Some (get_or xs place d)
  get_before_set [] place x y d is = absurd (cc)
  get_before_set (z ∷ zs) zero x y d is = refl
  get_before_set (z ∷ zs) (suc place) x y d is = get_before_set zs place x y d is
