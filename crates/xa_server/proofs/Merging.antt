-- Ascending entries: how one is found by halves, and what two lists of them are when they are merged.
use Rattle.std.proofs.Common.{◌≡◌, ◌≤◌, ◌<◌, ◌+◌, ℕ, arith, List, [], ◌∷◌, ◌++◌, refl, ap, sym, ◌∙◌, Bool, true, false}
use Rattle.std.proofs.Common.{inl, inr, length, take, drop, append_assoc, append-nil, take-append-drop}
use Rattle.std.{proofs.lemmas.Map.Lookups.CmpEqualImpliesEq, specs.Prelude.{Option, Some, None, cond, ◌&&◌}}
use Rattle.std.specs.{Option.{option_and_then, unwrap_or}, declared.cmp.Ordering.Ordering}
use Rattle.std.specs.{declared.cmp.Ordering.TheVariants.{Less, Equal, Greater}, FinMap.{find, is_sorted}}
use Rattle.std.specs.{Ordering.{eq_by_cmp, is_lt, is_eq, ordering_reverse}, Cmp.{IsTotalOrder, eq_by_cmp_equiv}}
use Rattle.std.specs.FinMap.Entries.{below_all, by_order}
use mathlib.Core.Bool.{true≢false}
use Rattle.xa_server.specs.{Layers.{first_of, with_found, gathered}, Merging.{merged_from, merged, least_of}}
use Rattle.xa_server.proofs.{Maps.{same_or_apart, same_itself}, Kept.{first, second, both, find_none}}

-- an order that tests as less is less
less : (r : Ordering) → is_lt r ≡ true → r ≡ Less
less Less e = refl
less Equal e = absurd (true≢false (sym e))
less Greater e = absurd (true≢false (sym e))

-- what is greater isn't less
never_less : {A : Type 0} (r : Ordering) → r ≡ Less → r ≡ Greater → A
never_less r e f = absurd (true≢false (ap is_lt (sym e ∙ f)))

-- what is less isn't equal
never_equal : {A : Type 0} (r : Ordering) → r ≡ Less → r ≡ Equal → A
never_equal r e f = absurd (true≢false (ap is_lt (sym e ∙ f)))

-- what is greater isn't equal
never_even : {A : Type 0} (r : Ordering) → r ≡ Greater → r ≡ Equal → A
never_even r e f = absurd (true≢false (ap is_eq (sym f ∙ e)))

-- the first of one and of nothing is that one
pub first_alone : {A : Type 0} (x : Option A) → x ≡ first_of x None
first_alone None = refl
first_alone (Some a) = refl

-- a list that was split at a place, and its second part's first element and others
halved : {A : Type 0} (left front back rest : List A) (y : A) (k : ℕ) → front ≡ take k left → back ≡ drop k left
    → back ≡ y ∷ rest → front ++ y ∷ rest ≡ left
halved left front back rest y k is other first_is =
    (λ i. is i ++ (sym first_is ∙ other) i) ∙ take-append-drop k left

module _ {K : Type 0} {R : K → K → Ordering} (total : IsTotalOrder R) where
  -- the order of two keys, the other way round
  turned : (x y : K) → R x y ≡ Greater → R y x ≡ Less
  turned x y e = total.antisymm y x ∙ ap ordering_reverse e

module _ {K V : Type 0} {R : K → K → Ordering} (total : IsTotalOrder R) (exact : CmpEqualImpliesEq R) where
  -- what is below a key is below all that are above that key
  below_less : (x y : K) (es : List (K × V)) → R x y ≡ Less → below_all R y es ≡ true → below_all R x es ≡ true
  below_less x y [] e h = refl
  below_less x y (f ∷ es) e h =
      both (is_lt (R x f.0)) (below_all R x es)
      (ap is_lt (total.trans x y f.0 e (less (R y f.0) (first (is_lt (R y f.0)) (below_all R y es) h))))
      (below_less x y es e (second (is_lt (R y f.0)) (below_all R y es) h))

  -- a key below all of a list is below one in its midst
  below_one : (k : K) (xs : List (K × V)) (y : K × V) (ys : List (K × V)) → below_all R k (xs ++ y ∷ ys) ≡ true
      → is_lt (R k y.0) ≡ true
  below_one k [] y ys h = first (is_lt (R k y.0)) (below_all R k ys) h
  below_one k (x ∷ xs) y ys h = below_one k xs y ys (second (is_lt (R k x.0)) (below_all R k (xs ++ y ∷ ys)) h)

  -- a key below all of a list is below those in front
  below_front : (k : K) (xs ys : List (K × V)) → below_all R k (xs ++ ys) ≡ true → below_all R k xs ≡ true
  below_front k [] ys h = refl
  below_front k (x ∷ xs) ys h =
      both (is_lt (R k x.0)) (below_all R k xs) (first (is_lt (R k x.0)) (below_all R k (xs ++ ys)) h)
      (below_front k xs ys (second (is_lt (R k x.0)) (below_all R k (xs ++ ys)) h))

  -- the front of ascending entries ascends
  pub sorted_front : (xs ys : List (K × V)) → is_sorted R (xs ++ ys) ≡ true → is_sorted R xs ≡ true
  sorted_front [] ys h = refl
  sorted_front (x ∷ xs) ys h =
      both (below_all R x.0 xs) (is_sorted R xs)
      (below_front x.0 xs ys (first (below_all R x.0 (xs ++ ys)) (is_sorted R (xs ++ ys)) h))
      (sorted_front xs ys (second (below_all R x.0 (xs ++ ys)) (is_sorted R (xs ++ ys)) h))

  -- what comes after an entry of ascending ones ascends
  pub sorted_back : (xs : List (K × V)) (y : K × V) (ys : List (K × V)) → is_sorted R (xs ++ y ∷ ys) ≡ true
      → is_sorted R ys ≡ true
  sorted_back [] y ys h = second (below_all R y.0 ys) (is_sorted R ys) h
  sorted_back (x ∷ xs) y ys h =
      sorted_back xs y ys (second (below_all R x.0 (xs ++ y ∷ ys)) (is_sorted R (xs ++ y ∷ ys)) h)

  -- a key is found among ascending entries before, at, or after one of them, as it compares with that one's key
  pub find_halves : (q : K) (xs : List (K × V)) (y : K × V) (ys : List (K × V)) → is_sorted R (xs ++ y ∷ ys) ≡ true
      → find R q (xs ++ y ∷ ys) ≡ by_order (R q y.0) (find R q xs) (Some y.1) (find R q ys)
  find_halves q [] y ys h = by (R q y.0) refl
    where
      by : (r : Ordering) → R q y.0 ≡ r
          → cond (is_eq r) (Some y.1) (find R q ys) ≡ by_order r None (Some y.1) (find R q ys)
      by Less e = find_none R q ys (below_less q y.0 ys e (first (below_all R y.0 ys) (is_sorted R ys) h))
      by Equal e = refl
      by Greater e = refl
  find_halves q (x ∷ xs) y ys h = elim (same_or_apart total exact q x.0) [
    | inl is ↦
        let here : eq_by_cmp R q x.0 ≡ true = ap (λ k. eq_by_cmp R k x.0) is ∙ same_itself total exact x.0 in
        let before : R q y.0 ≡ Less =
        ap (λ k. R k y.0) is ∙ less (R x.0 y.0)
        (below_one x.0 xs y ys (first (below_all R x.0 (xs ++ y ∷ ys)) (is_sorted R (xs ++ y ∷ ys)) h)) in
        ap (λ b. cond b (Some x.1) (find R q (xs ++ y ∷ ys))) here
        ∙ sym (ap (λ r. by_order r (find R q (x ∷ xs)) (Some y.1) (find R q ys)) before
        ∙ ap (λ b. cond b (Some x.1) (find R q xs)) here)
    | inr apart ↦
        ap (λ b. cond b (Some x.1) (find R q (xs ++ y ∷ ys))) apart
        ∙ find_halves q xs y ys (second (below_all R x.0 (xs ++ y ∷ ys)) (is_sorted R (xs ++ y ∷ ys)) h)
        ∙ sym (ap (λ b. by_order (R q y.0) (cond b (Some x.1) (find R q xs)) (Some y.1) (find R q ys)) apart)
  ]

  -- a key is found among an entry, more entries, and older ones merged with these, if it is found so among the others
  find_from : (q : K) (e : K × V) (newer : List (K × V)) → is_sorted R (e ∷ newer) ≡ true
      → ((left : List (K × V)) → find R q (merged R newer left) ≡ first_of (find R q newer) (find R q left))
      → (older : List (K × V))
      → find R q (merged_from R e newer (merged R newer) older) ≡ first_of (find R q (e ∷ newer)) (find R q older)
  find_from q e newer h rest [] = first_alone (find R q (e ∷ newer))
  find_from q e newer h rest (f ∷ older) = by (find_from q e newer h rest older) (R e.0 f.0) refl
    where
      by : find R q (merged_from R e newer (merged R newer) older) ≡ first_of (find R q (e ∷ newer)) (find R q older)
          → (r : Ordering) → R e.0 f.0 ≡ r
          → find R q (by_order r (e ∷ merged R newer (f ∷ older)) (e ∷ merged R newer older)
          (f ∷ merged_from R e newer (merged R newer) older))
          ≡ first_of (find R q (e ∷ newer)) (find R q (f ∷ older))
      by later Less is = elim (same_or_apart total exact q e.0) [
        | inl same ↦
            let here : eq_by_cmp R q e.0 ≡ true = ap (λ k. eq_by_cmp R k e.0) same ∙ same_itself total exact e.0 in
            ap (λ b. cond b (Some e.1) (find R q (merged R newer (f ∷ older)))) here
            ∙ sym (ap (λ b. first_of (cond b (Some e.1) (find R q newer)) (find R q (f ∷ older))) here)
        | inr apart ↦
            ap (λ b. cond b (Some e.1) (find R q (merged R newer (f ∷ older)))) apart ∙ rest (f ∷ older)
            ∙ sym (ap (λ b. first_of (cond b (Some e.1) (find R q newer)) (find R q (f ∷ older))) apart)
      ]
      by later Equal is = elim (same_or_apart total exact q e.0) [
        | inl same ↦
            let here : eq_by_cmp R q e.0 ≡ true = ap (λ k. eq_by_cmp R k e.0) same ∙ same_itself total exact e.0 in
            ap (λ b. cond b (Some e.1) (find R q (merged R newer older))) here
            ∙ sym (ap (λ b. first_of (cond b (Some e.1) (find R q newer)) (find R q (f ∷ older))) here)
        | inr apart ↦
            let other : eq_by_cmp R q f.0 ≡ false = ap (eq_by_cmp R q) (sym (exact e.0 f.0 is)) ∙ apart in
            ap (λ b. cond b (Some e.1) (find R q (merged R newer older))) apart ∙ rest older
            ∙ sym (ap (λ b. first_of (cond b (Some e.1) (find R q newer)) (find R q (f ∷ older))) apart
            ∙ ap (λ b. first_of (find R q newer) (cond b (Some f.1) (find R q older))) other)
      ]
      by later Greater is = elim (same_or_apart total exact q f.0) [
        | inl same ↦
            let here : eq_by_cmp R q f.0 ≡ true = ap (λ k. eq_by_cmp R k f.0) same ∙ same_itself total exact f.0 in
            let under : R q e.0 ≡ Less = ap (λ k. R k e.0) same ∙ turned total e.0 f.0 is in
            let none : find R q (e ∷ newer) ≡ None =
            find_none R q (e ∷ newer) (both (is_lt (R q e.0)) (below_all R q newer) (ap is_lt under)
            (below_less q e.0 newer under (first (below_all R e.0 newer) (is_sorted R newer) h))) in
            ap (λ b. cond b (Some f.1) (find R q (merged_from R e newer (merged R newer) older))) here
            ∙ sym (ap (λ x. first_of x (find R q (f ∷ older))) none
            ∙ ap (λ b. cond b (Some f.1) (find R q older)) here)
        | inr apart ↦
            ap (λ b. cond b (Some f.1) (find R q (merged_from R e newer (merged R newer) older))) apart ∙ later
            ∙ sym (ap (λ b. first_of (find R q (e ∷ newer)) (cond b (Some f.1) (find R q older))) apart)
      ]

  -- a key that is found among merged entries is found among the newer ones, or else among the older
  pub find_merged : (q : K) (newer older : List (K × V)) → is_sorted R newer ≡ true
      → find R q (merged R newer older) ≡ first_of (find R q newer) (find R q older)
  find_merged q [] older h = refl
  find_merged q (e ∷ newer) older h =
      find_from q e newer h
      (λ left. find_merged q newer left (second (below_all R e.0 newer) (is_sorted R newer) h)) older

  -- a key that is below an entry, more entries, and older ones is below them merged, if it is so for the others
  below_from : (k : K) (e : K × V) (newer : List (K × V)) → below_all R k (e ∷ newer) ≡ true
      → ((left : List (K × V)) → below_all R k left ≡ true → below_all R k (merged R newer left) ≡ true)
      → (older : List (K × V)) → below_all R k older ≡ true
      → below_all R k (merged_from R e newer (merged R newer) older) ≡ true
  below_from k e newer a rest [] b = a
  below_from k e newer a rest (f ∷ older) b =
      by (below_from k e newer a rest older (second (is_lt (R k f.0)) (below_all R k older) b)) (R e.0 f.0)
    where
      by : below_all R k (merged_from R e newer (merged R newer) older) ≡ true → (r : Ordering)
          → below_all R k (by_order r (e ∷ merged R newer (f ∷ older)) (e ∷ merged R newer older)
          (f ∷ merged_from R e newer (merged R newer) older)) ≡ true
      by later Less = both (is_lt (R k e.0)) (below_all R k (merged R newer (f ∷ older)))
          (first (is_lt (R k e.0)) (below_all R k newer) a) (rest (f ∷ older) b)
      by later Equal = both (is_lt (R k e.0)) (below_all R k (merged R newer older))
          (first (is_lt (R k e.0)) (below_all R k newer) a)
          (rest older (second (is_lt (R k f.0)) (below_all R k older) b))
      by later Greater = both (is_lt (R k f.0)) (below_all R k (merged_from R e newer (merged R newer) older))
          (first (is_lt (R k f.0)) (below_all R k older) b) later

  -- a key that is below the entries of both lists is below those of the merged one
  below_merged : (k : K) (newer older : List (K × V)) → below_all R k newer ≡ true → below_all R k older ≡ true
      → below_all R k (merged R newer older) ≡ true
  below_merged k [] older a b = b
  below_merged k (e ∷ newer) older a b =
      below_from k e newer a
      (λ left. below_merged k newer left (second (is_lt (R k e.0)) (below_all R k newer) a)) older b

  -- an entry, more entries and older ones ascend when they are merged, if the others do so
  sorted_from : (e : K × V) (newer : List (K × V)) → is_sorted R (e ∷ newer) ≡ true
      → ((left : List (K × V)) → is_sorted R left ≡ true → is_sorted R (merged R newer left) ≡ true)
      → (older : List (K × V)) → is_sorted R older ≡ true
      → is_sorted R (merged_from R e newer (merged R newer) older) ≡ true
  sorted_from e newer a rest [] b = a
  sorted_from e newer a rest (f ∷ older) b =
      by (sorted_from e newer a rest older (second (below_all R f.0 older) (is_sorted R older) b)) (R e.0 f.0) refl
    where
      above : below_all R e.0 newer ≡ true
      above = first (below_all R e.0 newer) (is_sorted R newer) a

      higher : below_all R f.0 older ≡ true
      higher = first (below_all R f.0 older) (is_sorted R older) b

      by : is_sorted R (merged_from R e newer (merged R newer) older) ≡ true → (r : Ordering) → R e.0 f.0 ≡ r
          → is_sorted R (by_order r (e ∷ merged R newer (f ∷ older)) (e ∷ merged R newer older)
          (f ∷ merged_from R e newer (merged R newer) older)) ≡ true
      by later Less is = both (below_all R e.0 (merged R newer (f ∷ older))) (is_sorted R (merged R newer (f ∷ older)))
          (below_merged e.0 newer (f ∷ older) above
          (both (is_lt (R e.0 f.0)) (below_all R e.0 older) (ap is_lt is) (below_less e.0 f.0 older is higher)))
          (rest (f ∷ older) b)
      by later Equal is = both (below_all R e.0 (merged R newer older)) (is_sorted R (merged R newer older))
          (below_merged e.0 newer older above (ap (λ k. below_all R k older) (exact e.0 f.0 is) ∙ higher))
          (rest older (second (below_all R f.0 older) (is_sorted R older) b))
      by later Greater is =
          let under : R f.0 e.0 ≡ Less = turned total e.0 f.0 is in
          both (below_all R f.0 (merged R (e ∷ newer) older)) (is_sorted R (merged R (e ∷ newer) older))
          (below_merged f.0 (e ∷ newer) older
          (both (is_lt (R f.0 e.0)) (below_all R f.0 newer) (ap is_lt under) (below_less f.0 e.0 newer under above))
          higher)
          later

  -- ascending entries, merged, ascend
  pub sorted_merged : (newer older : List (K × V)) → is_sorted R newer ≡ true → is_sorted R older ≡ true
      → is_sorted R (merged R newer older) ≡ true
  sorted_merged [] older a b = b
  sorted_merged (e ∷ newer) older a b =
      sorted_from e newer a
      (λ left. sorted_merged newer left (second (below_all R e.0 newer) (is_sorted R newer) a)) older b

  -- a search by halves goes on before an entry, if the key is below that entry's
  pub search_front : (q : K) (left front back rest : List (K × V)) (y : K × V) (k : ℕ) (r : Option V)
      → front ≡ take k left → back ≡ drop k left → back ≡ y ∷ rest → is_sorted R left ≡ true → find R q left ≡ r
      → R q y.0 ≡ Less → (is_sorted R front ≡ true) × (find R q front ≡ r)
  search_front q left front back rest y k r is other first_is h found less_is =
      let whole : front ++ y ∷ rest ≡ left = halved left front back rest y k is other first_is in
      let sorted : is_sorted R (front ++ y ∷ rest) ≡ true = ap (is_sorted R) whole ∙ h in (
        sorted_front front (y ∷ rest) sorted,
        sym (find_halves q front y rest sorted
            ∙ ap (λ o. by_order o (find R q front) (Some y.1) (find R q rest)) less_is) ∙ ap (find R q) whole ∙ found,
      )

  -- it ends at an entry that has the key
  pub search_here : (q : K) (left front back rest : List (K × V)) (y : K × V) (k : ℕ) (r : Option V)
      → front ≡ take k left → back ≡ drop k left → back ≡ y ∷ rest → is_sorted R left ≡ true → find R q left ≡ r
      → R q y.0 ≡ Equal → Some y.1 ≡ r
  search_here q left front back rest y k r is other first_is h found equal_is =
      let whole : front ++ y ∷ rest ≡ left = halved left front back rest y k is other first_is in
      let sorted : is_sorted R (front ++ y ∷ rest) ≡ true = ap (is_sorted R) whole ∙ h in
      sym (find_halves q front y rest sorted
      ∙ ap (λ o. by_order o (find R q front) (Some y.1) (find R q rest)) equal_is) ∙ ap (find R q) whole ∙ found

  -- it goes on after an entry, if the key is above that entry's
  pub search_back : (q : K) (left front back rest : List (K × V)) (y : K × V) (k : ℕ) (r : Option V)
      → front ≡ take k left → back ≡ drop k left → back ≡ y ∷ rest → is_sorted R left ≡ true → find R q left ≡ r
      → R q y.0 ≡ Greater → (is_sorted R rest ≡ true) × (find R q rest ≡ r)
  search_back q left front back rest y k r is other first_is h found greater_is =
      let whole : front ++ y ∷ rest ≡ left = halved left front back rest y k is other first_is in
      let sorted : is_sorted R (front ++ y ∷ rest) ≡ true = ap (is_sorted R) whole ∙ h in (
        sorted_back front y rest sorted,
        sym (find_halves q front y rest sorted
            ∙ ap (λ o. by_order o (find R q front) (Some y.1) (find R q rest)) greater_is) ∙ ap (find R q) whole
            ∙ found,
      )

-- ---- one step of merging

module _ {K V W : Type 0} where
  -- what is found in a list is what is found in its first entry, and then in the others
  gathered_first : (found : V → Option W) (e : K × V) (es : List (K × V))
      → gathered found (e ∷ es) ≡ gathered found (e ∷ []) ++ gathered found es
  gathered_first found e es = by (found e.1)
    where
      by : (here : Option W) → with_found e.0 here (gathered found es)
          ≡ with_found {K = K} e.0 here [] ++ gathered found es
      by None = refl
      by (Some w) = refl

module _ {K V W : Type 0} (R : K → K → Ordering) (found : V → Option W) where
  -- entries merged with none are as they were
  merged_alone : (es : List (K × V)) → merged R es [] ≡ es
  merged_alone [] = refl
  merged_alone (e ∷ es) = refl

  -- if the newer list has the least key, the merged list begins with its first entry
  pub takes_newer : (newer older : List (K × V)) → least_of R newer older ≡ Less
      → gathered found (take 1 newer) ++ gathered found (merged R (drop 1 newer) older)
      ≡ gathered found (merged R newer older)
  takes_newer [] older is = absurd (true≢false (ap is_lt (sym is)))
  takes_newer (e ∷ newer) [] is =
      ap (λ es. gathered found (e ∷ []) ++ gathered found es) (merged_alone newer) ∙ sym (gathered_first found e newer)
  takes_newer (e ∷ newer) (f ∷ older) is =
      sym (ap (λ r. gathered found (by_order r (e ∷ merged R newer (f ∷ older)) (e ∷ merged R newer older)
      (f ∷ merged_from R e newer (merged R newer) older))) is
      ∙ gathered_first found e (merged R newer (f ∷ older)))

  -- if both have it, it begins with the newer one's first entry, and the older one's is left out
  pub takes_both : (newer older : List (K × V)) → least_of R newer older ≡ Equal
      → gathered found (take 1 newer) ++ gathered found (merged R (drop 1 newer) (drop 1 older))
      ≡ gathered found (merged R newer older)
  takes_both [] older is = absurd (true≢false (ap is_eq (sym is)))
  takes_both (e ∷ newer) [] is = absurd (true≢false (ap is_eq (sym is)))
  takes_both (e ∷ newer) (f ∷ older) is =
      sym (ap (λ r. gathered found (by_order r (e ∷ merged R newer (f ∷ older)) (e ∷ merged R newer older)
      (f ∷ merged_from R e newer (merged R newer) older))) is
      ∙ gathered_first found e (merged R newer older))

  -- else it begins with the older one's first entry
  pub takes_older : (newer older : List (K × V)) → least_of R newer older ≡ Greater
      → gathered found (take 1 older) ++ gathered found (merged R newer (drop 1 older))
      ≡ gathered found (merged R newer older)
  takes_older [] [] is = refl
  takes_older [] (f ∷ older) is = sym (gathered_first found f older)
  takes_older (e ∷ newer) [] is = never_less Less refl is
  takes_older (e ∷ newer) (f ∷ older) is =
      sym (ap (λ r. gathered found (by_order r (e ∷ merged R newer (f ∷ older)) (e ∷ merged R newer older)
      (f ∷ merged_from R e newer (merged R newer) older))) is
      ∙ gathered_first found f (merged_from R e newer (merged R newer) older))

  -- the merging goes on: the first entry of the newer list was added
  pub adds_newer : (rows more total : List (K × W)) (newer older left : List (K × V)) → least_of R newer older ≡ Less
      → more ≡ rows ++ gathered found (take 1 newer) → left ≡ drop 1 newer
      → rows ++ gathered found (merged R newer older) ≡ total
      → more ++ gathered found (merged R left older) ≡ total
  adds_newer rows more total newer older left is added rest all =
      (λ i. added i ++ gathered found (merged R (rest i) older))
      ∙ append_assoc rows (gathered found (take 1 newer)) (gathered found (merged R (drop 1 newer) older))
      ∙ ap (λ es. rows ++ es) (takes_newer newer older is) ∙ all

  -- it was added, and the older list's first entry has the same key
  pub adds_both : (rows more total : List (K × W)) (newer older left last : List (K × V))
      → least_of R newer older ≡ Equal → more ≡ rows ++ gathered found (take 1 newer) → left ≡ drop 1 newer
      → last ≡ drop 1 older → rows ++ gathered found (merged R newer older) ≡ total
      → more ++ gathered found (merged R left last) ≡ total
  adds_both rows more total newer older left last is added rest other all =
      (λ i. added i ++ gathered found (merged R (rest i) (other i)))
      ∙ append_assoc rows (gathered found (take 1 newer)) (gathered found (merged R (drop 1 newer) (drop 1 older)))
      ∙ ap (λ es. rows ++ es) (takes_both newer older is) ∙ all

  -- the first entry of the older list was added
  pub adds_older : (rows more total : List (K × W)) (newer older last : List (K × V)) → least_of R newer older ≡ Greater
      → more ≡ rows ++ gathered found (take 1 older) → last ≡ drop 1 older
      → rows ++ gathered found (merged R newer older) ≡ total
      → more ++ gathered found (merged R newer last) ≡ total
  adds_older rows more total newer older last is added rest all =
      (λ i. added i ++ gathered found (merged R newer (rest i)))
      ∙ append_assoc rows (gathered found (take 1 older)) (gathered found (merged R newer (drop 1 older)))
      ∙ ap (λ es. rows ++ es) (takes_older newer older is) ∙ all

  -- nothing is left to be added
  pub adds_none : (rows total : List (K × W)) (newer older : List (K × V)) → newer ≡ [] → older ≡ []
      → rows ++ gathered found (merged R newer older) ≡ total → rows ≡ total
  adds_none rows total newer older none nothing all =
      sym (append-nil rows) ∙ (λ i. rows ++ gathered found (merged R (sym none i) (sym nothing i))) ∙ all
