-- Places of a list, also after a write.
--     stands_at, get_within, get_front      what stands at a place
--     get_written, get_apart, set_apart     after a write
--     map_append, length_map                a mapped list
--     mapped_place, place_mapped            where its members come from
use Rattle.std.proofs.Common.{◌≡◌, ◌≢◌, ◌⊎◌, ℕ, ◌<◌, zero, suc, Some, List, [], ◌∷◌, ◌++◌, length, set, map, get_or}
use Rattle.std.proofs.{Common.{refl, ap, inl, inr, arith}, lemmas.Option.{none-some, same_Some, slice_get_read}}
use Rattle.std.specs.{Prelude.slice_get, List.Contains}

-- two numbers are the same or not
pub same_number : (m n : ℕ) → (m ≡ n) ⊎ (m ≢ n)
same_number zero zero = inl refl
same_number zero (suc n) = inr (λ e. absurd (omega arith))
same_number (suc m) zero = inr (λ e. absurd (omega arith))
same_number (suc m) (suc n) =
    elim (same_number m n) [ inl is ↦ inl (ap suc is) | inr apart ↦ inr (λ e. apart (omega arith)) ]

module _ {A : Type 0} where
  -- what is read at a place of the list stands there
  pub stands_at : (xs : List A) (i : ℕ) (x : A) → i < length xs → x ≡ get_or xs i x → slice_get xs i ≡ Some x
  stands_at xs i x within at = slice_get_read xs (length xs) i x refl within at

  -- what was written at a place stands there
  pub get_written : (xs : List A) (i : ℕ) (x a : A) → slice_get xs i ≡ Some x → slice_get (set xs i a) i ≡ Some a
  get_written [] i x a found = absurd (none-some x found)
  get_written (y ∷ ys) zero x a found = refl
  get_written (y ∷ ys) (suc i) x a found = get_written ys i x a found

  -- a write leaves what stands at another place as it is
  pub get_apart : (xs : List A) (i j : ℕ) (a : A) → i ≢ j → slice_get (set xs i a) j ≡ slice_get xs j
  get_apart [] i j a apart = refl
  get_apart (y ∷ ys) zero zero a apart = absurd (apart refl)
  get_apart (y ∷ ys) zero (suc j) a apart = refl
  get_apart (y ∷ ys) (suc i) zero a apart = refl
  get_apart (y ∷ ys) (suc i) (suc j) a apart = get_apart ys i j a (λ e. apart (ap suc e))

  -- two writes at different places leave the same list in either order
  pub set_apart : (xs : List A) (i j : ℕ) (a b : A) → i ≢ j → set (set xs i a) j b ≡ set (set xs j b) i a
  set_apart [] i j a b apart = refl
  set_apart (y ∷ ys) zero zero a b apart = absurd (apart refl)
  set_apart (y ∷ ys) zero (suc j) a b apart = refl
  set_apart (y ∷ ys) (suc i) zero a b apart = refl
  set_apart (y ∷ ys) (suc i) (suc j) a b apart = ap (λ l. y ∷ l) (set_apart ys i j a b (λ e. apart (ap suc e)))

  -- what stands at a place stands there too with more behind the list
  pub get_front : (xs ys : List A) (i : ℕ) (x : A) → slice_get xs i ≡ Some x → slice_get (xs ++ ys) i ≡ Some x
  get_front [] ys i x found = absurd (none-some x found)
  get_front (y ∷ xs) ys zero x found = found
  get_front (y ∷ xs) ys (suc i) x found = get_front xs ys i x found

  -- at each place within the list something stands
  pub get_within : (xs : List A) (i : ℕ) → i < length xs → (x : A) × (slice_get xs i ≡ Some x)
  get_within [] i within = absurd (omega arith)
  get_within (y ∷ xs) zero within = (y, refl)
  get_within (y ∷ xs) (suc i) within = get_within xs i (omega arith)

-- mapping two lists, one behind the other, is mapping each of them
pub map_append : {A B : Type 0} (f : A → B) (xs ys : List A) → map f (xs ++ ys) ≡ map f xs ++ map f ys
map_append f [] ys = refl
map_append f (x ∷ xs) ys = ap (λ l. f x ∷ l) (map_append f xs ys)

-- mapping a list keeps its length
pub length_map : {A B : Type 0} (f : A → B) (xs : List A) → length (map f xs) ≡ length xs
length_map f [] = refl
length_map f (x ∷ xs) = ap suc (length_map f xs)

-- a member of a mapped list comes from a place of the list
pub mapped_place : {A B : Type 0} (f : A → B) (xs : List A) (y : B) → Contains (map f xs) y
    → (i : ℕ) × (x : A) × (i < length xs) × (slice_get xs i ≡ Some x) × (f x ≡ y)
mapped_place {A} {B} f xs y has = by xs has.0 has.1 has.2
  where
    by : (xs : List A) (i : ℕ) → i < length (map f xs) → get_or (map f xs) i y ≡ y
        → (i : ℕ) × (x : A) × (i < length xs) × (slice_get xs i ≡ Some x) × (f x ≡ y)
    by [] i within at = absurd (omega arith)
    by (x ∷ xs) zero within at = (0, x, omega arith, refl, at)
    by (x ∷ xs) (suc i) within at = let rest = by xs i (omega arith) at in
        (suc rest.0, rest.1, omega (arith, rest.2), rest.3, rest.4)

-- the image of what stands at a place is in the mapped list
pub place_mapped : {A B : Type 0} (f : A → B) (xs : List A) (i : ℕ) (x : A) → slice_get xs i ≡ Some x
    → Contains (map f xs) (f x)
place_mapped f [] i x found = absurd (none-some x found)
place_mapped f (y ∷ xs) zero x found = (0, omega arith, ap f (same_Some y x found))
place_mapped f (y ∷ xs) (suc i) x found = let rest = place_mapped f xs i x found in
    (suc rest.0, omega (arith, rest.1), rest.2)
