use Rattle.std.{proofs.Common.{◌≡◌, ℕ, List, length}, specs.List.All}
use Rattle.xa_words.specs.Entry.{Entry}
use Rattle.xa_races.specs.Assembled.{HasOnly, IsWithin}
use Rattle.xa_races.proofs.assembling.place_each.Given as goal

abbrev pub invariant-loop-one : goal.invariant-loop-one
invariant-loop-one l =
    (length l.places.items ≡ length l.fn.places.items)
    × ((list : List Entry) (limit : ℕ) → HasOnly list limit l.fn.places.items
    → All (IsWithin list limit l.fn.from) l.fn.added.items
    → HasOnly list limit l.places.items)
