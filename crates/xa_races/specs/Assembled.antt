-- Entries that are put to their places.
use Rattle.std.specs.Prelude.{◌≡◌, ◌≤◌, ◌-◌, ℕ, Option, Some, List, slice_get}
use Rattle.xa_words.specs.Entry.{Entry}
use Rattle.xa_races.specs.declared.added.Added.{Added}

-- the list has this entry at this place, and it is of a session from 1 to `limit`
pub record Fits (list : List Entry) (limit place : ℕ) (entry : Entry) : Type 0 where
  pub at : slice_get list place ≡ Some entry
  pub some : 1 ≤ entry.session
  pub few : entry.session ≤ limit

-- places that are filled have entries that fit there; others may be empty still
abbrev pub HasOnly : List Entry → ℕ → List (Option Entry) → Type 0
HasOnly list limit places = (place : ℕ) (entry : Entry) → slice_get places place ≡ Some (Some entry)
    → Fits list limit place entry

-- an entry that was added at a place of the whole history fits into the list that begins at the place `from` of it; of
-- an entry before that place nothing is said
abbrev pub IsWithin : List Entry → ℕ → ℕ → Added → Type 0
IsWithin list limit from added = from ≤ added.place → Fits list limit (added.place - from) added.entry
