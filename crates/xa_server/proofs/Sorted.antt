-- The PREPARED branches in a tree's entries are those of the map that the entries make, in the order of its keys.
use Rattle.std.proofs.Common.{◌≡◌, List, [], ◌∷◌, ◌++◌, refl, ap, sym, ◌∙◌, subst, Bool, true, false, map, append_assoc}
use Rattle.std.specs.{Prelude.{Some, cond, ◌&&◌, filter}, List.{AllByRecursion, Sorted.IsStrictlySortedBy}}
use Rattle.std.specs.{Option.{option_map, option_map_or}, declared.cmp.Ordering.Ordering, FinMap.Entries.below_all}
use Rattle.std.specs.{Ordering.{eq_by_cmp, is_lt, is_eq}, Cmp.eq_by_cmp_equiv, FinMap.{find, is_sorted, from_sorted}}
use Rattle.std.specs.FinMap.{from_entries, entries, same_map, get-from_entries, get-from_sorted, entries-from_sorted}
use Rattle.xa_xid.{specs.{declared.xid.Xid.Xid, Xid.xid_cmp}, proofs.Orders.{xids_total, exact_xids}}
use Rattle.xa_server.specs.{declared.branch.BranchRecord.BranchRecord, State.is_prepared_phase}
use Rattle.xa_server.{specs.Tables.{prepared_keys, is_prepared_at, prepared_among}, proofs.Maps.same_itself}
use lib.Dec.{T}

-- ---- a list in order

-- an identifier that is below each key of the entries is below them all by the map's test
below-all : (xid : Xid) (es : List (Xid × BranchRecord))
    → AllByRecursion (λ y. xid_cmp xid y ≡ Ordering.Less) (map (λ (e : Xid × BranchRecord). e.0) es)
    → below_all xid_cmp xid es ≡ true
below-all xid [] h = refl
below-all xid (e ∷ es) h = ap (λ r. is_lt r && below_all xid_cmp xid es) h.0 ∙ below-all xid es h.1

-- strictly ascending entries are sorted by the map's test
sorted : (es : List (Xid × BranchRecord)) → IsStrictlySortedBy xid_cmp (map (λ (e : Xid × BranchRecord). e.0) es)
    → is_sorted xid_cmp es ≡ true
unfolding IsStrictlySortedBy
sorted [] h = refl
sorted (e ∷ es) h = ap (λ b. b && is_sorted xid_cmp es) (below-all e.0 es h.0) ∙ sorted es h.1

-- the map that a list in order makes has that list as its entries
pub entries-from : (es : List (Xid × BranchRecord)) → IsStrictlySortedBy xid_cmp
    (map (λ (e : Xid × BranchRecord). e.0) es)
    → entries (from_entries {R = xid_cmp} es) ≡ es
entries-from es h =
    let is : T (is_sorted xid_cmp es) = subst T (sym (sorted es h)) tt in
    ap entries (same_map xids_total exact_xids (from_entries {R = xid_cmp} es) (from_sorted {R = xid_cmp} es)
    (λ q. get-from_entries xids_total es q ∙ sym (get-from_sorted xid_cmp es q is)))
    ∙ entries-from_sorted xid_cmp es is

-- ---- the branches in it

-- whether the entry of an identifier is there and says PREPARED
tests : List (Xid × BranchRecord) → Xid → Bool
tests es xid = option_map_or is_prepared_phase (option_map (λ (b : BranchRecord). b.phase) (find xid_cmp xid es)) false

-- a greater identifier isn't equal to a smaller one
flipped : (r : Ordering) (x y : Xid) → r ≡ Ordering.Less → xid_cmp x y ≡ r → eq_by_cmp xid_cmp y x ≡ false
flipped r x y less is = (eq_by_cmp_equiv xids_total).symm y x ∙ ap is_eq (is ∙ less)

-- the first entry says nothing about a greater identifier
test_beside : (e : Xid × BranchRecord) (all : List (Xid × BranchRecord)) (xid : Xid) → xid_cmp e.0 xid ≡ Ordering.Less
    → tests (e ∷ all) xid ≡ tests all xid
unfolding tests
test_beside e all xid less =
    ap (λ b. option_map_or is_prepared_phase (option_map (λ (b : BranchRecord). b.phase)
    (cond b (Some e.1) (find xid_cmp xid all))) false)
    (flipped (xid_cmp e.0 xid) e.0 xid less refl)

-- the first entry, which is below all others, changes nothing about which of the others are PREPARED
tests_beside : (e : Xid × BranchRecord) (all es : List (Xid × BranchRecord))
    → AllByRecursion (λ y. xid_cmp e.0 y ≡ Ordering.Less) (map (λ (f : Xid × BranchRecord). f.0) es) →
    filter (tests (e ∷ all)) (map (λ (f : Xid × BranchRecord). f.0) es)
    ≡ filter (tests all) (map (λ (f : Xid × BranchRecord). f.0) es)
unfolding tests
tests_beside e all [] h = refl
tests_beside e all (f ∷ es) h =
    (λ i. cond (test_beside e all f.0 h.0 i) (f.0 ∷ tests_beside e all es h.1 i) (tests_beside e all es h.1 i))

-- the induction's step: if the keys of the entries that say PREPARED are those that pass the test, so they are with
-- one entry more in front, which is below them all
prepared-more : (e : Xid × BranchRecord) (es : List (Xid × BranchRecord))
    → IsStrictlySortedBy xid_cmp (e.0 ∷ map (λ (e : Xid × BranchRecord). e.0) es)
    → filter (tests es) (map (λ (e : Xid × BranchRecord). e.0) es) ≡ prepared_keys es →
    filter (tests (e ∷ es)) (e.0 ∷ map (λ (f : Xid × BranchRecord). f.0) es) ≡ prepared_keys (e ∷ es)
unfolding tests IsStrictlySortedBy
prepared-more e es h rest = (λ i. cond (here i) (e.0 ∷ later i) (later i))
  where
    here : tests (e ∷ es) e.0 ≡ is_prepared_phase e.1.phase
    here =
        ap (λ b. option_map_or is_prepared_phase (option_map (λ (b : BranchRecord). b.phase)
        (cond b (Some e.1) (find xid_cmp e.0 es))) false)
        (same_itself xids_total exact_xids e.0)

    later : filter (tests (e ∷ es)) (map (λ (f : Xid × BranchRecord). f.0) es) ≡ prepared_keys es
    later = tests_beside e es es h.0 ∙ rest

-- the keys of the entries that say PREPARED are those that pass the test
prepared-keys : (es : List (Xid × BranchRecord)) → IsStrictlySortedBy xid_cmp (map (λ (e : Xid × BranchRecord). e.0) es)
    → filter (tests es) (map (λ (e : Xid × BranchRecord). e.0) es) ≡ prepared_keys es
unfolding tests IsStrictlySortedBy
prepared-keys [] h = refl
prepared-keys (e ∷ es) h = prepared-more e es h (prepared-keys es h.1)

-- the test by entries is the test by the map that they make
tests-is : (es : List (Xid × BranchRecord)) → IsStrictlySortedBy xid_cmp (map (λ (e : Xid × BranchRecord). e.0) es)
    → (xid : Xid)
    → is_prepared_at (from_entries {R = xid_cmp} es) xid ≡ tests es xid
unfolding tests
tests-is es h xid = ap (λ found. option_map_or is_prepared_phase
    (option_map (λ (b : BranchRecord). b.phase) found) false) (get-from_entries xids_total es xid)

-- the PREPARED branches of the map are listed by the tree's entries, in their order
pub prepared-among : (es : List (Xid × BranchRecord)) → IsStrictlySortedBy xid_cmp
    (map (λ (e : Xid × BranchRecord). e.0) es)
    → prepared_among (from_entries {R = xid_cmp} es) ≡ prepared_keys es
prepared-among es h =
    (λ i. filter (λ xid. tests-is es h xid i) (map (λ (e : Xid × BranchRecord). e.0) (entries-from es h i)))
    ∙ prepared-keys es h

-- ---- going over a tree's entries

-- the loop over entries: if the next branch is PREPARED, the list with it put in and those of the rest are all of the
-- PREPARED ones
pub goes_in : (xids all : List Xid) (left rest : List (Xid × BranchRecord)) (xid : Xid) (branch : BranchRecord)
    → xids ++ prepared_keys left ≡ all
    → left ≡ (xid, branch) ∷ rest → is_prepared_phase branch.phase ≡ true →
    (xids ++ xid ∷ []) ++ prepared_keys rest ≡ all
goes_in xids all left rest xid branch is left_is prepared = append_assoc xids (xid ∷ []) (prepared_keys rest)
    ∙ ap (λ b. xids ++ cond b (xid ∷ prepared_keys rest) (prepared_keys rest)) (sym prepared)
    ∙ ap (λ es. xids ++ prepared_keys es) (sym left_is) ∙ is

-- the loop over entries: if the next branch isn't PREPARED, the list as it is and those of the rest are all of the
-- PREPARED ones
pub stays_out : (xids all : List Xid) (left rest : List (Xid × BranchRecord)) (xid : Xid) (branch : BranchRecord)
    → xids ++ prepared_keys left ≡ all
    → left ≡ (xid, branch) ∷ rest → is_prepared_phase branch.phase ≡ false →
    xids ++ prepared_keys rest ≡ all
stays_out xids all left rest xid branch is left_is not =
    ap (λ b. xids ++ cond b (xid ∷ prepared_keys rest) (prepared_keys rest)) (sym not)
    ∙ ap (λ es. xids ++ prepared_keys es) (sym left_is) ∙ is
