-- Entries that are put to their places.
use Rattle.std.proofs.Common.{◌≡◌, ◌⊎◌, ℕ, zero, suc, ◌≤◌, List, [], ◌∷◌, length, map, set, Option, Some, None, inl}
use Rattle.std.proofs.{Common.{inr, ⊎_elim, refl, ap, sym, ◌∙◌, arith}, lemmas.List.Elements.recursion_from_All}
use Rattle.std.{proofs.lemmas.Option.{none-some, same_Some}, specs.{Prelude.slice_get, List.{All, AllByRecursion}}}
use Rattle.xa_words.specs.Entry.{Entry}
use Rattle.decision_log.{specs.Known.AllOf, proofs.Histories.all_from_places}
use Rattle.xa_races.specs.Assembled.{Fits, HasOnly}

-- after an element was set, a place has the new one if it is that place, and else the old one
get_set : {A : Type 0} (xs : List A) (i k : ℕ) (v w : A) → slice_get (set xs i v) k ≡ Some w
    → ((k ≡ i) × (v ≡ w)) ⊎ (slice_get xs k ≡ Some w)
get_set [] i k v w is = inr is
get_set (x ∷ xs) zero zero v w is = inl (refl, same_Some v w is)
get_set (x ∷ xs) zero (suc k) v w is = inr is
get_set (x ∷ xs) (suc i) zero v w is = inr is
get_set (x ∷ xs) (suc i) (suc k) v w is =
    ⊎_elim (λ both. inl (ap suc both.0, both.1)) (λ old. inr old) (get_set xs i k v w is)

-- an entry that fits may be put to its place: the places still have only entries that fit
pub only_set : (list : List Entry) (limit : ℕ) (places : List (Option Entry)) (index : ℕ) (entry : Entry)
    → HasOnly list limit places
    → Fits list limit index entry → HasOnly list limit (set places index (Some entry))
only_set list limit places index entry only fits place one is = grind (arith, get_set, same_Some)

-- if every place is empty, no place has an entry
empty_get : (places : List (Option Entry)) → AllByRecursion (λ place. place ≡ None) places → (place : ℕ) (entry : Entry)
    → slice_get places place ≡ Some (Some entry) → ⊥
empty_get [] all place entry is = none-some (Some entry) is
empty_get (one ∷ places) all zero entry is = none-some entry (sym all.0 ∙ same_Some one (Some entry) is)
empty_get (one ∷ places) all (suc place) entry is = empty_get places all.1 place entry is

-- empty places have only entries that fit
pub only_none : (list : List Entry) (limit : ℕ) (places : List (Option Entry)) → All (λ place. place ≡ None) places
    → HasOnly list limit places
only_none list limit places all place entry is = grind (arith, empty_get, recursion_from_All)

-- places that are filled with the entries of a list have the same entry at each place
get_some : (entries : List Entry) (place : ℕ) (entry : Entry) → slice_get entries place ≡ Some entry
    → slice_get (map Some entries) place ≡ Some (Some entry)
get_some [] place entry is = absurd (none-some entry is)
get_some (one ∷ entries) zero entry is = ap Some is
get_some (one ∷ entries) (suc place) entry is = get_some entries place entry is

-- lists of one length with the same elements at all places are the same
same_lists : (xs ys : List Entry) → length xs ≡ length ys
    → ((place : ℕ) (entry : Entry) → slice_get xs place ≡ Some entry → slice_get ys place ≡ Some entry)
    → xs ≡ ys
same_lists [] [] long at = refl
same_lists [] (y ∷ ys) long at = absurd (omega (arith, long))
same_lists (x ∷ xs) [] long at = absurd (omega (arith, long))
same_lists (x ∷ xs) (y ∷ ys) long at =
    let first : y ≡ x = same_Some y x (at 0 x refl) in
    ap (λ e. e ∷ xs) (sym first) ∙ ap (λ l. y ∷ l) (same_lists xs ys (omega (arith, long))
    (λ place entry is. at (suc place) entry is))

-- filled places are as many as entries
length_some : (entries : List Entry) → length (map Some entries) ≡ length entries
length_some [] = refl
length_some (entry ∷ entries) = ap suc (length_some entries)

-- if each place is filled with an entry that fits, and there are as many places as the list has entries, the entries
-- are those of the list, all of sessions from 1 to `limit`
pub same_entries : (entries list : List Entry) (limit : ℕ) (places : List (Option Entry)) → map Some entries ≡ places
    → length places ≡ length list
    → HasOnly list limit places → (entries ≡ list) × AllOf limit entries
same_entries entries list limit places are long only =
    let at : (place : ℕ) (entry : Entry) → slice_get entries place ≡ Some entry → Fits list limit place entry =
    λ place entry is. only place entry (ap (λ l. slice_get l place) (sym are) ∙ get_some entries place entry is) in (
      same_lists entries list (sym (length_some entries) ∙ ap length are ∙ long)
          (λ place entry is. (at place entry is).at),
      all_from_places (λ entry. (1 ≤ entry.session) × (entry.session ≤ limit)) entries
          (λ place entry is. ((at place entry is).some, (at place entry is).few)),
    )
