-- Two lists of entries, each ascending by key, merged.
--     merged         all entries in order; of two with one key the newer list's
--     least_of       which of two lists has the entry with the least key
use Rattle.std.specs.{Prelude.{List, [], ◌∷◌}, declared.cmp.Ordering.Ordering, FinMap.Entries.by_order}

module _ {K V : Type 0} (R : K → K → Ordering) where
  -- an entry and more entries merged with older ones; `later` merges those more
  abbrev pub merged_from : K × V → List (K × V) → (List (K × V) → List (K × V)) → List (K × V) → List (K × V)
  merged_from e newer later [] = e ∷ newer
  merged_from e newer later (f ∷ older) =
      by_order (R e.0 f.0) (e ∷ later (f ∷ older)) (e ∷ later older) (f ∷ merged_from e newer later older)

  -- the entries of both lists in order; of two with one key the newer list's
  abbrev pub merged : List (K × V) → List (K × V) → List (K × V)
  merged [] older = older
  merged (e ∷ newer) older = merged_from e newer (merged newer) older

  -- which of two lists has the entry with the least key: the first (Less), the second (Greater), or both; an empty one
  -- hasn't
  abbrev pub least_of : List (K × V) → List (K × V) → Ordering
  least_of [] older = Ordering.Greater
  least_of (e ∷ newer) [] = Ordering.Less
  least_of (e ∷ newer) (f ∷ older) = R e.0 f.0
