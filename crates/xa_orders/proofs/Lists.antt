-- Lists in which one element has a property (`Any`) or each two are related (`Pairwise`), and orders that precede
-- others.
use Rattle.std.proofs.Common.{◌≡◌, ℕ, zero, suc, ◌<◌, Some, List, [], ◌∷◌, ◌++◌, length, get_or, take, refl, sym, ap}
use Rattle.std.proofs.{Common.{◌∙◌, inl, inr, arith, subst}, lemmas.Option.{none-some, same_Some, slice_get_read}}
use Rattle.std.{proofs.lemmas.List.Elements.{All-nil, All-cons, All-head, All-tail, All-push}, specs.Prelude.slice_get}
use Rattle.std.specs.List.{All}
use Rattle.xa_orders.specs.Orders.{Precedes, AtMost, Pairwise, Any}

module _ {A : Type 0} where
  -- if one element of a list has a property, so has one of it with others behind
  pub any_left : (P : A → Type 0) (xs ys : List A) → Any P xs → Any P (xs ++ ys)
  any_left P [] ys any = absurd any
  any_left P (x ∷ xs) ys (inl p) = inl p
  any_left P (x ∷ xs) ys (inr any) = inr (any_left P xs ys any)

  -- if an element has a property, so has one of a list with it at the end
  pub any_push : (P : A → Type 0) (xs : List A) (y : A) → P y → Any P (xs ++ y ∷ [])
  any_push P [] y p = inl p
  any_push P (x ∷ xs) y p = inr (any_push P xs y p)

  -- if an element of a list has a property from which another follows, one has the other
  pub any_weaker : (P Q : A → Type 0) → ((x : A) → P x → Q x) → (xs : List A) → Any P xs → Any Q xs
  any_weaker P Q weaker [] any = absurd any
  any_weaker P Q weaker (x ∷ xs) (inl p) = inl (weaker x p)
  any_weaker P Q weaker (x ∷ xs) (inr any) = inr (any_weaker P Q weaker xs any)

  -- if one element has a property and all have another, what follows from both for one element holds
  pub any_with : (P Q : A → Type 0) (R : Type 0) → ((x : A) → P x → Q x → R) → (xs : List A) → All P xs → Any Q xs → R
  any_with P Q R by [] all any = absurd any
  any_with P Q R by (x ∷ xs) all (inl q) = by x (All-head P x xs all) q
  any_with P Q R by (x ∷ xs) all (inr any) = any_with P Q R by xs (All-tail P x xs all) any

  -- if one element has a property and all have another, one has what follows from both
  pub any_both : (P Q S : A → Type 0) → ((x : A) → P x → Q x → S x) → (xs : List A) → All P xs → Any Q xs → Any S xs
  any_both P Q S by [] all any = absurd any
  any_both P Q S by (x ∷ xs) all (inl q) = inl (by x (All-head P x xs all) q)
  any_both P Q S by (x ∷ xs) all (inr any) = inr (any_both P Q S by xs (All-tail P x xs all) any)

  -- if one of the first elements of a list has a property, so has one of the list
  pub any_front : (P : A → Type 0) (n : ℕ) (xs : List A) → Any P (take n xs) → Any P xs
  any_front P zero xs any = absurd any
  any_front P (suc n) [] any = absurd any
  any_front P (suc n) (x ∷ xs) (inl p) = inl p
  any_front P (suc n) (x ∷ xs) (inr any) = inr (any_front P n xs any)

  -- if the element at a place of a list has a property, one of the list has it
  pub any_at : (P : A → Type 0) (xs : List A) (i : ℕ) (x : A) → slice_get xs i ≡ Some x → P x → Any P xs
  any_at P [] i x found p = absurd (none-some x found)
  any_at P (y ∷ xs) zero x found p = inl (subst P (sym (same_Some y x found)) p)
  any_at P (y ∷ xs) (suc i) x found p = inr (any_at P xs i x found p)

  -- if the element that is read at a place within a list has a property, one of the list has it
  pub any_read : (P : A → Type 0) (xs : List A) (i : ℕ) (x : A) → i < length xs → x ≡ get_or xs i x → P x → Any P xs
  any_read P xs i x below at p = any_at P xs i x (slice_get_read xs (length xs) i x refl below at) p

  -- if each two of a list are related, and each to one more, so are each two of the list with that one at its end
  pub pairwise_push : (R : A → A → Type 0) (xs : List A) (y : A) → Pairwise R xs → All (λ x. R x y) xs
      → Pairwise R (xs ++ y ∷ [])
  pairwise_push R [] y pairs all = (All-nil (R y), tt)
  pairwise_push R (x ∷ xs) y pairs all = (
    All-push (R x) xs y pairs.0 (All-head (λ z. R z y) x xs all),
    pairwise_push R xs y pairs.1
        (All-tail (λ z. R z y) x xs all),
  )

  -- if each two of a list are related, each element before a place is to the one there
  pub pairwise_front : (R : A → A → Type 0) (xs : List A) (i : ℕ) (d : A) → i < length xs → Pairwise R xs
      → All (λ x. R x (get_or xs i d)) (take i xs)
  pairwise_front R [] i d below pairs = absurd (omega (arith, below))
  pairwise_front R (x ∷ xs) zero d below pairs = All-nil (λ z. R z x)
  pairwise_front R (x ∷ xs) (suc i) d below pairs =
      All-cons (λ z. R z (get_or xs i d)) x (take i xs) (pairs.0 i d (omega (arith, below)))
      (pairwise_front R xs i d (omega (arith, below)) pairs.1)

  -- a list that isn't empty has a last element, with a list before it
  pub split_last : (x : A) (xs : List A) → (ys : List A) × (y : A) × (x ∷ xs ≡ ys ++ y ∷ [])
  split_last x [] = ([], x, refl)
  split_last x (y ∷ zs) = let rest = split_last y zs in (x ∷ rest.0, rest.1, ap (λ l. x ∷ l) rest.2)

-- of three orders, each of which precedes the next, the first precedes the last
pub precedes_trans : (a b c : List ℕ) → Precedes a b → Precedes b c → Precedes a c
precedes_trans [] b c p q = absurd p
precedes_trans (x ∷ a) [] c p q = absurd p
precedes_trans (x ∷ a) (y ∷ b) [] p q = absurd q
precedes_trans (x ∷ a) (y ∷ b) (z ∷ c) (inl p) (inl q) = inl (omega (arith, p, q))
precedes_trans (x ∷ a) (y ∷ b) (z ∷ c) (inl p) (inr q) = inl (omega (arith, p, q.0))
precedes_trans (x ∷ a) (y ∷ b) (z ∷ c) (inr p) (inl q) = inl (omega (arith, p.0, q))
precedes_trans (x ∷ a) (y ∷ b) (z ∷ c) (inr p) (inr q) = inr (p.0 ∙ q.0, precedes_trans a b c p.1 q.1)

-- an order that precedes another does so with any turns behind both
pub precedes_append : (a b c d : List ℕ) → Precedes a b → Precedes (a ++ c) (b ++ d)
precedes_append [] b c d p = absurd p
precedes_append (x ∷ a) [] c d p = absurd p
precedes_append (x ∷ a) (y ∷ b) c d (inl p) = inl p
precedes_append (x ∷ a) (y ∷ b) c d (inr p) = inr (p.0, precedes_append a b c d p.1)

-- of two orders that differ only in the last session, the one with the smaller precedes the other
pub precedes_last : (a : List ℕ) (s t : ℕ) → s < t → Precedes (a ++ s ∷ []) (a ++ t ∷ [])
precedes_last [] s t below = inl below
precedes_last (x ∷ a) s t below = inr (refl, precedes_last a s t below)

-- an order that is another one or precedes it still is or does with the same turns behind both
pub at_most_append : (a b c : List ℕ) → AtMost a b → AtMost (a ++ c) (b ++ c)
at_most_append a b c is = grind (arith, precedes_append)

-- of three orders, each the next or before it, the first is the last or before it
pub at_most_trans : (a b c : List ℕ) → AtMost a b → AtMost b c → AtMost a c
at_most_trans a b c is other = grind (arith, precedes_trans)
