-- The list of prepared branches ascends, and has exactly those.
use Rattle.std.proofs.Common.{◌≡◌, List, [], ◌∷◌, refl, ap, sym, ◌∙◌, Bool, true, false, inl, inr, map}
use Rattle.std.{proofs.lemmas.List.Kept.IsStrictlySortedBy-filter, specs.Option.{option_map, option_map_or}}
use Rattle.std.specs.{Prelude.{Option, Some, None, cond, ◌&&◌, ◌||◌, is_some, filter}, List.{AllByRecursion, list_any}}
use Rattle.std.specs.{List.Sorted.IsStrictlySortedBy, declared.cmp.Ordering.Ordering, Ordering.is_lt}
use Rattle.std.specs.FinMap.{contains_key-keys, entries_sorted, is_sorted, Entries.below_all}
use mathlib.Core.Bool.{true≢false}
use Rattle.xa_xid.{specs.{declared.xid.Xid.Xid, Xid.{xid_cmp, same_xid}}, proofs.Orders.{xids_total, exact_xids}}
use Rattle.xa_server.specs.State.{Branch, State, is_prepared, is_prepared_phase, prepared_xids}
use Rattle.xa_server.proofs.Maps.{same_or_apart, same_itself}
use Rattle.std.specs.FinMap as fin
use lib.Dec.{T}

-- ---- in order

-- two tests that hold together hold each
halves : (a b : Bool) → T (a && b) → (a ≡ true) × T b
halves true b h = (refl, h)
halves false b h = absurd h

-- an order that tests as less is less
less : (r : Ordering) → is_lt r ≡ true → r ≡ Ordering.Less
less Ordering.Less e = refl
less Ordering.Equal e = absurd (true≢false (sym e))
less Ordering.Greater e = absurd (true≢false (sym e))

-- an identifier below all keys of the entries is below each of them
all_above : (xid : Xid) (es : List (Xid × Branch)) → T (below_all xid_cmp xid es)
    → AllByRecursion (λ other. xid_cmp xid other ≡ Ordering.Less) (map (λ (e : Xid × Branch). e.0) es)
all_above xid [] h = tt
all_above xid (e ∷ es) h =
    let parts = halves (is_lt (xid_cmp xid e.0)) (below_all xid_cmp xid es) h in
    (less (xid_cmp xid e.0) parts.0, all_above xid es parts.1)

-- a test that equals true holds
above_T : (b : Bool) → b ≡ true → T b
above_T true e = tt
above_T false e = absurd (true≢false (sym e))

-- entries in the map's order have strictly ascending identifiers
ascending : (es : List (Xid × Branch)) → T (is_sorted xid_cmp es)
    → IsStrictlySortedBy xid_cmp (map (λ (e : Xid × Branch). e.0) es)
unfolding IsStrictlySortedBy
ascending [] h = tt
ascending (e ∷ es) h =
    let parts = halves (below_all xid_cmp e.0 es) (is_sorted xid_cmp es) h in
    (all_above e.0 es (above_T (below_all xid_cmp e.0 es) parts.0), ascending es parts.1)

-- what XA RECOVER lists ascends by the order of identifiers, each once
pub prepared_ascend : (state : State) → IsStrictlySortedBy xid_cmp (prepared_xids state)
unfolding prepared_xids
prepared_ascend state =
    IsStrictlySortedBy-filter xid_cmp (is_prepared state) (fin.keys state.branches)
    (ascending (fin.entries state.branches) (entries_sorted state.branches))

-- ---- exactly those

-- both don't hold if the second doesn't
and_false : (b : Bool) → (b && false) ≡ false
and_false true = refl
and_false false = refl

-- the induction's step: if the filtered list has exactly the members that pass the test, so it has with one element
-- more in front
in_rest : (p : Xid → Bool) (x : Xid) (xs : List Xid) (xid : Xid)
    → list_any (same_xid xid) (filter p xs) ≡ (list_any (same_xid xid) xs && p xid) →
    (b : Bool) → p x ≡ b → list_any (same_xid xid) (cond b (x ∷ filter p xs) (filter p xs))
    ≡ ((same_xid xid x || list_any (same_xid xid) xs) && p xid)
in_rest p x xs xid rest true is = elim (same_or_apart xids_total exact_xids xid x) [
  | inl e ↦ ap (λ b. b || list_any (same_xid xid) (filter p xs)) (here e)
      ∙ sym (ap (λ b. (b || list_any (same_xid xid) xs) && p xid) (here e) ∙ ap p e ∙ is)
  | inr apart ↦ ap (λ b. b || list_any (same_xid xid) (filter p xs)) apart ∙ rest
      ∙ sym (ap (λ b. (b || list_any (same_xid xid) xs) && p xid) apart)
]
  where
    here : xid ≡ x → same_xid xid x ≡ true
    here e = ap (λ other. same_xid other x) e ∙ same_itself xids_total exact_xids x
in_rest p x xs xid rest false is = rest ∙ (elim (same_or_apart xids_total exact_xids xid x) [
  | inl e ↦ ap (λ b. list_any (same_xid xid) xs && b) (ap p e ∙ is) ∙ and_false (list_any (same_xid xid) xs)
      ∙ sym (ap (λ b. (same_xid xid x || list_any (same_xid xid) xs) && b) (ap p e ∙ is)
      ∙ and_false (same_xid xid x || list_any (same_xid xid) xs))
  | inr apart ↦ sym (ap (λ b. (b || list_any (same_xid xid) xs) && p xid) apart)
])

-- what is in a filtered list is in the list and passes the test
in_filter : (p : Xid → Bool) (xs : List Xid) (xid : Xid)
    → list_any (same_xid xid) (filter p xs) ≡ (list_any (same_xid xid) xs && p xid)
in_filter p [] xid = refl
in_filter p (x ∷ xs) xid = in_rest p x xs xid (in_filter p xs xid) (p x) refl

-- XA RECOVER lists exactly the PREPARED branches
pub prepared_exactly : (state : State) (xid : Xid) → list_any (same_xid xid) (prepared_xids state)
    ≡ is_prepared state xid
unfolding prepared_xids
prepared_exactly state xid =
    in_filter (is_prepared state) (fin.keys state.branches) xid
    ∙ ap (λ b. b && is_prepared state xid) (sym (contains_key-keys state.branches xid))
    ∙ by (fin.get state.branches xid)
  where
    by : (found : Option Branch)
        → (is_some found && option_map_or is_prepared_phase (option_map (λ (b : Branch). b.phase) found) false)
        ≡ option_map_or is_prepared_phase (option_map (λ (b : Branch). b.phase) found) false
    by None = refl
    by (Some branch) = refl
