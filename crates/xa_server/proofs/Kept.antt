-- What is gathered from records stands in their order; and a list in order is the entries of the map that it makes.
use Rattle.std.proofs.Common.{◌≡◌, ◌≤◌, length, suc, arith, List, [], ◌∷◌, refl, ap, sym, ◌∙◌, subst, Bool, true, false}
use Rattle.std.{proofs.{Common.{inl, inr, map}, lemmas.Map.Lookups.CmpEqualImpliesEq}, specs.Option.option_and_then}
use Rattle.std.specs.{Prelude.{Option, Some, None, cond, ◌&&◌}, List.{AllByRecursion, Sorted.IsStrictlySortedBy}}
use Rattle.std.specs.{declared.cmp.Ordering.Ordering, Ordering.{eq_by_cmp, is_lt, is_eq}}
use Rattle.std.specs.{Cmp.{IsTotalOrder, eq_by_cmp_equiv}, FinMap.{FinMap, len, len-entries, find, is_sorted}}
use Rattle.std.specs.FinMap.{from_sorted, from_entries, entries, same_map, get-from_entries, get-from_sorted}
use Rattle.std.specs.FinMap.{entries-from_sorted, get-entries, entries_sorted, Entries.below_all}
use mathlib.Core.Bool.{true≢false}
use Rattle.xa_server.specs.{View.gather, Layers.{with_found as with_kept, gathered as kept}}
use Rattle.xa_server.proofs.{Gathered.get-gather, Maps.{same_or_apart, same_itself}}
use lib.Dec.{T}

-- if both of two tests hold, the first does
pub first : (a b : Bool) → (a && b) ≡ true → a ≡ true
first true b e = refl
first false b e = absurd (true≢false (sym e))

-- if both of two tests hold, the second does
pub second : (a b : Bool) → (a && b) ≡ true → b ≡ true
second true b e = e
second false b e = absurd (true≢false (sym e))

-- two tests that hold, hold together
pub both : (a b : Bool) → a ≡ true → b ≡ true → (a && b) ≡ true
both a b e f = ap (λ c. c && b) e ∙ f

-- a test that holds, as an equation
pub is_true : (b : Bool) → T b → b ≡ true
is_true true t = refl
is_true false t = absurd t

-- what tests as less doesn't test as equal
apart_below : (r : Ordering) → is_lt r ≡ true → is_eq r ≡ false
apart_below Ordering.Less e = refl
apart_below Ordering.Equal e = absurd (true≢false (sym e))
apart_below Ordering.Greater e = refl

module _ {K W : Type 0} where
  -- a value in front of others, if there is one, makes them longer by one at most
  length-with : (k : K) (here : Option W) (rest : List (K × W)) → length (with_kept k here rest) ≤ suc (length rest)
  length-with k None rest = omega arith
  length-with k (Some w) rest = omega arith

module _ {K V W : Type 0} where
  -- no more is found than there are records
  pub length-kept : (found : V → Option W) (es : List (K × V)) → length (kept found es) ≤ length es
  length-kept found [] = omega arith
  length-kept found (e ∷ es) =
      let here : length (with_kept e.0 (found e.1) (kept found es)) ≤ suc (length (kept found es)) =
      length-with e.0 (found e.1) (kept found es) in
      let rest : length (kept found es) ≤ length es = length-kept found es in
      omega arith

module _ {K W : Type 0} (R : K → K → Ordering) where
  -- a key that is below others stays so with an entry in front of them, if there is one, whose key is greater
  below_with : (k other : K) (here : Option W) (rest : List (K × W)) → is_lt (R k other) ≡ true
      → below_all R k rest ≡ true
      → below_all R k (with_kept other here rest) ≡ true
  below_with k other None rest e f = f
  below_with k other (Some w) rest e f = both (is_lt (R k other)) (below_all R k rest) e f

  -- sorted entries stay so with an entry in front of them, if there is one, whose key is below theirs
  sorted_with : (k : K) (here : Option W) (rest : List (K × W)) → below_all R k rest ≡ true → is_sorted R rest ≡ true
      → is_sorted R (with_kept k here rest) ≡ true
  sorted_with k None rest e f = f
  sorted_with k (Some w) rest e f = both (below_all R k rest) (is_sorted R rest) e f

  -- a key below all isn't found
  pub find_none : (q : K) (es : List (K × W)) → below_all R q es ≡ true → find R q es ≡ None
  find_none q [] h = refl
  find_none q (e ∷ es) h =
      ap (λ b. cond b (Some e.1) (find R q es)) (apart_below (R q e.0) (first (is_lt (R q e.0)) (below_all R q es) h))
      ∙ find_none q es (second (is_lt (R q e.0)) (below_all R q es) h)

module _ {K V W : Type 0} (R : K → K → Ordering) where
  -- a key that is below all records is below what is found in them
  below_kept : (found : V → Option W) (k : K) (es : List (K × V)) → below_all R k es ≡ true
      → below_all R k (kept found es) ≡ true
  below_kept found k [] h = refl
  below_kept found k (e ∷ es) h =
      below_with R k e.0 (found e.1) (kept found es) (first (is_lt (R k e.0)) (below_all R k es) h)
      (below_kept found k es (second (is_lt (R k e.0)) (below_all R k es) h))

  -- what is found in sorted records is sorted
  pub sorted_kept : (found : V → Option W) (es : List (K × V)) → is_sorted R es ≡ true → is_sorted R
      (kept found es) ≡ true
  sorted_kept found [] h = refl
  sorted_kept found (e ∷ es) h =
      sorted_with R e.0 (found e.1) (kept found es) (below_kept found e.0 es
      (first (below_all R e.0 es) (is_sorted R es) h))
      (sorted_kept found es (second (below_all R e.0 es) (is_sorted R es) h))

module _ {K V W : Type 0} {R : K → K → Ordering} (total : IsTotalOrder R) (exact : CmpEqualImpliesEq R) where
  -- looking up the key of the first of sorted records among what is found finds what is found in that record
  find_here : (found : V → Option W) (e : K × V) (es : List (K × V)) (q : K) → q ≡ e.0 → below_all R e.0 es ≡ true
      → (here : Option W) → found e.1 ≡ here →
      find R q (with_kept e.0 here (kept found es)) ≡ option_and_then found
      (cond (eq_by_cmp R q e.0) (Some e.1) (find R q es))
  find_here found e es q is below None none =
      ap (λ k. find R k (kept found es)) is ∙ find_none R e.0 (kept found es) (below_kept R found e.0 es below)
      ∙ sym (ap (λ b. option_and_then found (cond b (Some e.1) (find R q es)))
      (ap (λ k. eq_by_cmp R k e.0) is ∙ same_itself total exact e.0) ∙ none)
  find_here found e es q is below (Some w) some =
      ap (λ b. cond b (Some w) (find R q (kept found es)))
      (ap (λ k. eq_by_cmp R k e.0) is ∙ same_itself total exact e.0)
      ∙ sym (ap (λ b. option_and_then found (cond b (Some e.1) (find R q es)))
      (ap (λ k. eq_by_cmp R k e.0) is ∙ same_itself total exact e.0) ∙ some)

  -- looking up another key than the first record's finds what is found in the rest
  find_beside : (found : V → Option W) (e : K × V) (es : List (K × V)) (q : K) → eq_by_cmp R q e.0 ≡ false →
      find R q (kept found es) ≡ option_and_then found (find R q es) → (here : Option W) →
      find R q (with_kept e.0 here (kept found es)) ≡ option_and_then found
      (cond (eq_by_cmp R q e.0) (Some e.1) (find R q es))
  find_beside found e es q apart rest None =
      rest ∙ sym (ap (λ b. option_and_then found (cond b (Some e.1) (find R q es))) apart)
  find_beside found e es q apart rest (Some w) =
      ap (λ b. cond b (Some w) (find R q (kept found es))) apart ∙ rest
      ∙ sym (ap (λ b. option_and_then found (cond b (Some e.1) (find R q es))) apart)

  -- a look-up among what is found in sorted records finds what is found in the key's record
  pub find_kept : (found : V → Option W) (es : List (K × V)) (q : K) → is_sorted R es ≡ true
      → find R q (kept found es) ≡ option_and_then found (find R q es)
  find_kept found [] q h = refl
  find_kept found (e ∷ es) q h = elim (same_or_apart total exact q e.0) [
    | inl is ↦ find_here found e es q is (first (below_all R e.0 es) (is_sorted R es) h) (found e.1) refl
    | inr apart ↦ find_beside found e es q apart (find_kept found es q (second (below_all R e.0 es) (is_sorted R es) h))
        (found e.1)
  ]

  -- what is found in a map's records is sorted
  kept_T : (found : V → Option W) (records : FinMap R V) → T (is_sorted R (kept found (entries records)))
  kept_T found records =
      subst T (sym (sorted_kept R found (entries records) (is_true (is_sorted R (entries records))
      (entries_sorted records)))) tt

  -- what is gathered is the map that what is found in the records makes
  gather-kept : (found : V → Option W) (records : FinMap R V)
      → gather found records ≡ from_sorted {R = R} (kept found (entries records))
  gather-kept found records =
      same_map total exact (gather found records) (from_sorted {R = R} (kept found (entries records)))
      (λ q. get-gather total exact found records q ∙ ap (option_and_then found) (get-entries records q)
      ∙ sym (find_kept found (entries records) q (is_true (is_sorted R (entries records)) (entries_sorted records)))
      ∙ sym (get-from_sorted R (kept found (entries records)) q (kept_T found records)))

  -- the entries of what is gathered are what is found in the records, in their order
  pub entries-gather : (found : V → Option W) (records : FinMap R V)
      → entries (gather found records) ≡ kept found (entries records)
  entries-gather found records = ap entries (gather-kept found records)
      ∙ entries-from_sorted R (kept found (entries records)) (kept_T found records)

  -- what is gathered from records has no more entries than these
  pub len-gather : (found : V → Option W) (records : FinMap R V) → len (gather found records) ≤ len records
  len-gather found records =
      let gathered : len (gather found records) ≡ length (kept found (entries records)) =
      len-entries (gather found records) ∙ ap length (entries-gather found records) in
      let all : len records ≡ length (entries records) = len-entries records in
      let fewer : length (kept found (entries records)) ≤ length (entries records) =
      length-kept found (entries records) in
      omega arith

module _ {K V : Type 0} {R : K → K → Ordering} (total : IsTotalOrder R) (exact : CmpEqualImpliesEq R) where
  -- entries that are found among all are found with one entry more in front, whose key is below theirs
  found_beside : (e : K × V) (all es : List (K × V)) → below_all R e.0 es ≡ true
      → AllByRecursion (λ (f : K × V). find R f.0 all ≡ Some f.1) es →
      AllByRecursion (λ (f : K × V). find R f.0 (e ∷ all) ≡ Some f.1) es
  found_beside e all [] below h = tt
  found_beside e all (f ∷ es) below h =
      let apart : eq_by_cmp R f.0 e.0 ≡ false =
      (eq_by_cmp_equiv total).symm f.0 e.0 ∙ apart_below (R e.0 f.0)
      (first (is_lt (R e.0 f.0)) (below_all R e.0 es) below) in (
        ap (λ b. cond b (Some e.1) (find R f.0 all)) apart ∙ h.0,
        found_beside e all es
            (second (is_lt (R e.0 f.0)) (below_all R e.0 es) below) h.1,
      )

  -- each of sorted entries is found at its key
  found_each : (es : List (K × V)) → is_sorted R es ≡ true → AllByRecursion (λ (e : K × V). find R e.0 es ≡ Some e.1) es
  found_each [] h = tt
  found_each (e ∷ es) h = (
    ap (λ b. cond b (Some e.1) (find R e.0 es)) (same_itself total exact e.0),
    found_beside e es es (first (below_all R e.0 es) (is_sorted R es) h)
        (found_each es (second (below_all R e.0 es) (is_sorted R es) h)),
  )

  -- each entry of a map is found at its key among the entries
  pub found_entries : (records : FinMap R V) → AllByRecursion (λ (e : K × V). find R e.0 (entries records) ≡ Some e.1)
      (entries records)
  found_entries records =
      found_each (entries records) (is_true (is_sorted R (entries records)) (entries_sorted records))

  -- a key that is less than each key of the entries is below them all by the map's test
  below-strict : (k : K) (es : List (K × V)) → AllByRecursion (λ y. R k y ≡ Ordering.Less) (map (λ (e : K × V). e.0) es)
      → below_all R k es ≡ true
  below-strict k [] h = refl
  below-strict k (e ∷ es) h = ap (λ r. is_lt r && below_all R k es) h.0 ∙ below-strict k es h.1

  -- strictly ascending entries are sorted by the map's test
  pub sorted-strict : (es : List (K × V)) → IsStrictlySortedBy R (map (λ (e : K × V). e.0) es) → is_sorted R es ≡ true
  unfolding IsStrictlySortedBy
  sorted-strict [] h = refl
  sorted-strict (e ∷ es) h = ap (λ b. b && is_sorted R es) (below-strict e.0 es h.0) ∙ sorted-strict es h.1

  -- the map that a list in order makes has that list as its entries
  pub entries-made : (es : List (K × V)) → IsStrictlySortedBy R (map (λ (e : K × V). e.0) es)
      → entries (from_entries {R = R} es) ≡ es
  entries-made es h =
      let is : T (is_sorted R es) = subst T (sym (sorted-strict es h)) tt in
      ap entries (same_map total exact (from_entries {R = R} es) (from_sorted {R = R} es)
      (λ q. get-from_entries total es q ∙ sym (get-from_sorted R es q is)))
      ∙ entries-from_sorted R es is
