-- A `BTreeMap` seen as a finite map: what look-ups, writes and removals of the one are in the other.
use Rattle.std.{proofs.Common.{◌≡◌, List, [], ◌∷◌, refl, ap, sym, ◌∙◌, true, false, ◌⊎◌, inl, inr}, specs.Map.lookup}
use Rattle.std.{proofs.lemmas.{Cmp.tied_itself, Map.Lookups.CmpEqualImpliesEq}, specs.Prelude.{Some, None, cond}}
use Rattle.std.specs.{declared.cmp.Ordering.Ordering, Ordering.{eq_by_cmp, is_eq}, Cmp.{IsTotalOrder, eq_by_cmp_equiv}}
use Rattle.std.specs.{BTreeMap.{BTreeMap, is_at, Updates, IsUnchanged, IsEmpty}, FinMap.{FinMap, find, from_entries}}
use Rattle.std.specs.FinMap.{insert, remove, empty, get, same_map, get-from_entries, get-insert, get-remove}
use mathlib.Core.Bool.{true≢false}
use Rattle.std.specs.BTreeMap as tree

module _ {K : Type 0} {R : K → K → Ordering} (total : IsTotalOrder R) (exact : CmpEqualImpliesEq R) where
  -- two keys are one, or the order tells them apart, by how they compare
  by_test : (r : Ordering) (x y : K) → R x y ≡ r → (x ≡ y) ⊎ (is_eq r ≡ false)
  by_test Ordering.Less x y is = inr refl
  by_test Ordering.Equal x y is = inl (exact x y is)
  by_test Ordering.Greater x y is = inr refl

  -- two keys are one, or the order tells them apart
  pub same_or_apart : (x y : K) → (x ≡ y) ⊎ (eq_by_cmp R x y ≡ false)
  same_or_apart x y = by_test (R x y) x y refl

  -- the order calls a key equal to itself
  pub same_itself : (x : K) → eq_by_cmp R x x ≡ true
  same_itself x = ap is_eq (tied_itself total x)

  -- keys that the order calls equal are one
  pub same_is : (x y : K) → eq_by_cmp R x y ≡ true → x ≡ y
  same_is x y e = elim (same_or_apart x y) [ inl is ↦ is | inr apart ↦ absurd (true≢false (sym e ∙ apart)) ]

module _ {K X : Type 0} {R : K → K → Ordering} (total : IsTotalOrder R) (exact : CmpEqualImpliesEq R) where
  -- a look-up in entries as maps make it is one as trees make it
  pub find_lookup : (es : List (K × X)) (q : K) → find R q es ≡ lookup (is_at (R q)) es
  find_lookup [] q = refl
  find_lookup (e ∷ es) q = ap (cond (is_at (R q) e.0) (Some e.1)) (find_lookup es q)

  -- a look-up in the tree is one in the map
  pub get_view : (m : BTreeMap K X) (q : K) → get (from_entries {R = R} m.entries) q ≡ tree.get R m q
  get_view m q = get-from_entries total m.entries q ∙ find_lookup m.entries q

  -- a tree that differs at one key is a map in which that key has this value
  pub one_set : (m n : BTreeMap K X) (k : K) (v : X) → Updates R m n k (Some v)
      → from_entries {R = R} n.entries ≡ insert (from_entries m.entries) k v
  one_set m n k v updates = same_map total exact _ _ (λ q.
      get_view n q ∙ updates.0 q ∙ ap (λ b. cond b (Some v) (tree.get R m q)) ((eq_by_cmp_equiv total).symm k q)
      ∙ sym (get-insert total (from_entries m.entries) k v q ∙ ap (cond (eq_by_cmp R q k) (Some v)) (get_view m q)))

  -- a tree that differs at one key, where it has no value, is a map from which that key was removed
  pub one_gone : (m n : BTreeMap K X) (k : K) → Updates R m n k None
      → from_entries {R = R} n.entries ≡ remove (from_entries m.entries) k
  one_gone m n k updates = same_map total exact _ _ (λ q.
      get_view n q ∙ updates.0 q ∙ ap (λ b. cond b None (tree.get R m q)) ((eq_by_cmp_equiv total).symm k q)
      ∙ sym (get-remove total (from_entries m.entries) k q ∙ ap (cond (eq_by_cmp R q k) None) (get_view m q)))

  -- a tree that is unchanged is the same map
  pub same_view : (m n : BTreeMap K X) → IsUnchanged m n → from_entries {R = R} n.entries ≡ from_entries m.entries
  same_view m n same = ap from_entries same

  -- an empty tree is the empty map
  pub empty_view : (m : BTreeMap K X) → IsEmpty m → from_entries {R = R} m.entries ≡ empty
  empty_view m is = ap from_entries is

  -- a key that was inserted has the inserted value
  pub get_inserted : (m : FinMap R X) (k : K) (v : X) → get (insert m k v) k ≡ Some v
  get_inserted m k v = get-insert total m k v k ∙ ap (λ b. cond b (Some v) (get m k)) (same_itself total exact k)

  -- inserting a key leaves the values of other keys
  pub get_inserted_apart : (m : FinMap R X) (k : K) (v : X) (q : K) → eq_by_cmp R q k ≡ false
      → get (insert m k v) q ≡ get m q
  get_inserted_apart m k v q apart = get-insert total m k v q ∙ ap (λ b. cond b (Some v) (get m q)) apart

  -- a key that was removed has no value
  pub get_removed : (m : FinMap R X) (k : K) → get (remove m k) k ≡ None
  get_removed m k = get-remove total m k k ∙ ap (λ b. cond b None (get m k)) (same_itself total exact k)

  -- removing a key leaves the values of other keys
  pub get_removed_apart : (m : FinMap R X) (k q : K) → eq_by_cmp R q k ≡ false → get (remove m k) q ≡ get m q
  get_removed_apart m k q apart = get-remove total m k q ∙ ap (λ b. cond b None (get m q)) apart
