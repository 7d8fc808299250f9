-- What stands in maps that are gathered from records, or whose values are changed.
use Rattle.std.proofs.Common.{◌≡◌, List, [], ◌∷◌, refl, ap, sym, ◌∙◌, Bool, true, false, inl, inr, map, subst}
use Rattle.std.{proofs.lemmas.Map.Lookups.CmpEqualImpliesEq, specs.Option.{option_map, option_map_or, option_and_then}}
use Rattle.std.specs.{Prelude.{Option, Some, None, cond, ◌&&◌, ◌||◌, is_some}, List.list_any}
use Rattle.std.specs.{declared.cmp.Ordering.Ordering, Ordering.{eq_by_cmp, is_lt}, Cmp.IsTotalOrder, FinMap.FinMap}
use Rattle.std.specs.FinMap.{get, insert, keys, entries, find, entries_sorted, entries-from_sorted, get-entries}
use Rattle.std.specs.FinMap.{get-empty, contains_key-keys, is_sorted, Entries.below_all}
use Rattle.xa_server.specs.View.{gather_at, gather, map_values, mapped}
use Rattle.xa_server.proofs.Maps.{same_or_apart, same_itself, get_inserted, get_inserted_apart}
use lib.Dec.{T}

-- a choice between nothing and nothing is nothing
none_at : {W : Type 0} (b : Bool) (here : Option W) → here ≡ None → cond b here None ≡ None
none_at true here e = e
none_at false here e = refl

module _ {K V W : Type 0} {R : K → K → Ordering} (total : IsTotalOrder R) (exact : CmpEqualImpliesEq R) where
  -- what is gathered at a key and more keys has, at that key, what is found in its record
  first_at : (found : V → Option W) (records : FinMap R V) (ks : List K) (k q : K) → q ≡ k →
      get (gather_at found records ks) q ≡ cond (list_any (eq_by_cmp R q) ks)
      (option_and_then found (get records q)) None →
      (here : Option W) → option_and_then found (get records q) ≡ here →
      get (option_map_or (λ value. insert (gather_at found records ks) k value) (option_and_then found (get records k))
      (gather_at found records ks)) q
      ≡ cond (eq_by_cmp R q k || list_any (eq_by_cmp R q) ks) (option_and_then found (get records q)) None
  first_at found records ks k q is rest None e =
      ap (λ here. get (option_map_or (λ value. insert (gather_at found records ks) k value) here
      (gather_at found records ks)) q)
      (ap (λ x. option_and_then found (get records x)) (sym is) ∙ e)
      ∙ rest ∙ none_at _ _ e ∙ sym (none_at (eq_by_cmp R q k || list_any (eq_by_cmp R q) ks) _ e)
  first_at found records ks k q is rest (Some w) e =
      ap (λ here. get (option_map_or (λ value. insert (gather_at found records ks) k value) here
      (gather_at found records ks)) q)
      (ap (λ x. option_and_then found (get records x)) (sym is) ∙ e)
      ∙ ap (get (insert (gather_at found records ks) k w)) is
      ∙ get_inserted total exact (gather_at found records ks) k w
      ∙ sym (ap (λ b. cond (b || list_any (eq_by_cmp R q) ks) (option_and_then found (get records q)) None)
      (ap (eq_by_cmp R q) (sym is) ∙ same_itself total exact q) ∙ e)

  -- what is gathered at a key and more keys has, at another key, what is gathered there at the other keys
  beside : (found : V → Option W) (records : FinMap R V) (ks : List K) (k q : K) → eq_by_cmp R q k ≡ false →
      get (gather_at found records ks) q ≡ cond (list_any (eq_by_cmp R q) ks)
      (option_and_then found (get records q)) None →
      (here : Option W) →
      get (option_map_or (λ value. insert (gather_at found records ks) k value) here (gather_at found records ks)) q
      ≡ cond (eq_by_cmp R q k || list_any (eq_by_cmp R q) ks) (option_and_then found (get records q)) None
  beside found records ks k q apart rest None =
      rest ∙ sym (ap (λ b. cond (b || list_any (eq_by_cmp R q) ks) (option_and_then found (get records q)) None) apart)
  beside found records ks k q apart rest (Some w) =
      get_inserted_apart total exact (gather_at found records ks) k w q apart ∙ rest
      ∙ sym (ap (λ b. cond (b || list_any (eq_by_cmp R q) ks) (option_and_then found (get records q)) None) apart)

  -- what is gathered at the keys of a list has, at each key of the list, what is found in its record, and nothing
  -- elsewhere
  get-gather_at : (found : V → Option W) (records : FinMap R V) (ks : List K) (q : K) →
      get (gather_at found records ks) q ≡ cond (list_any (eq_by_cmp R q) ks)
      (option_and_then found (get records q)) None
  get-gather_at found records [] q = get-empty R q
  get-gather_at found records (k ∷ ks) q =
      let rest = get-gather_at found records ks q in
      elim (same_or_apart total exact q k) [
        | inl is ↦ first_at found records ks k q is rest (option_and_then found (get records q)) refl
        | inr apart ↦ beside found records ks k q apart rest (option_and_then found (get records k))
      ]

  -- what is found in a record, if there is a record, is what is found in it
  there_only : (found : V → Option W) (here : Option V) → cond (is_some here) (option_and_then found here) None
      ≡ option_and_then found here
  there_only found None = refl
  there_only found (Some v) = refl

  -- what is gathered has, at each key, what is found in its record
  pub get-gather : (found : V → Option W) (records : FinMap R V) (q : K)
      → get (gather found records) q ≡ option_and_then found (get records q)
  unfolding gather
  get-gather found records q =
      get-gather_at found records (keys records) q
      ∙ ap (λ b. cond b (option_and_then found (get records q)) None) (sym (contains_key-keys records q))
      ∙ there_only found (get records q)

  -- changing the values of entries leaves whether a key is below them all
  below-map_values : (change : K → V → W) (k : K) (es : List (K × V))
      → below_all R k (map_values change es) ≡ below_all R k es
  below-map_values change k [] = refl
  below-map_values change k (e ∷ es) = ap (λ b. is_lt (R k e.0) && b) (below-map_values change k es)

  -- changing the values of entries leaves whether they are sorted
  sorted-map_values : (change : K → V → W) (es : List (K × V)) → is_sorted R (map_values change es) ≡ is_sorted R es
  sorted-map_values change [] = refl
  sorted-map_values change (e ∷ es) =
      ap (λ b. b && is_sorted R (map_values change es)) (below-map_values change e.0 es)
      ∙ ap (λ b. below_all R e.0 es && b) (sorted-map_values change es)

  -- the entries of a map with its values changed are its entries with their values changed
  pub entries-mapped : (change : K → V → W) (records : FinMap R V)
      → entries (mapped change records) ≡ map_values change (entries records)
  unfolding mapped
  entries-mapped change records =
      entries-from_sorted R (map_values change (entries records))
      (subst T (sym (sorted-map_values change (entries records))) (entries_sorted records))

  -- changing the values of entries leaves their keys
  keys-map_values : (change : K → V → W) (es : List (K × V))
      → map (λ (e : K × W). e.0) (map_values change es) ≡ map (λ (e : K × V). e.0) es
  keys-map_values change [] = refl
  keys-map_values change (e ∷ es) = ap (λ ks. e.0 ∷ ks) (keys-map_values change es)

  -- a map with its values changed has the same keys
  pub keys-mapped : (change : K → V → W) (records : FinMap R V) → keys (mapped change records) ≡ keys records
  keys-mapped change records =
      ap (map (λ (e : K × W). e.0)) (entries-mapped change records) ∙ keys-map_values change (entries records)

  -- a look-up in entries with their values changed finds the changed value
  find-map_values : (change : K → V → W) (es : List (K × V)) (q : K)
      → find R q (map_values change es) ≡ option_map (change q) (find R q es)
  find-map_values change [] q = refl
  find-map_values change (e ∷ es) q = elim (same_or_apart total exact q e.0) [
    | inl is ↦
        ap (λ b. cond b (Some (change e.0 e.1)) (find R q (map_values change es)))
        (ap (λ k. eq_by_cmp R q k) (sym is) ∙ same_itself total exact q)
        ∙ ap (λ k. Some (change k e.1)) (sym is)
        ∙ sym (ap (option_map (change q)) (ap (λ b. cond b (Some e.1) (find R q es))
        (ap (λ k. eq_by_cmp R q k) (sym is) ∙ same_itself total exact q)))
    | inr apart ↦
        ap (λ b. cond b (Some (change e.0 e.1)) (find R q (map_values change es))) apart
        ∙ find-map_values change es q
        ∙ sym (ap (option_map (change q)) (ap (λ b. cond b (Some e.1) (find R q es)) apart))
  ]

  -- a map with its values changed has the changed value at each key
  pub get-mapped : (change : K → V → W) (records : FinMap R V) (q : K)
      → get (mapped change records) q ≡ option_map (change q) (get records q)
  get-mapped change records q =
      get-entries (mapped change records) q ∙ ap (find R q) (entries-mapped change records)
      ∙ find-map_values change (entries records) q ∙ ap (option_map (change q)) (sym (get-entries records q))
