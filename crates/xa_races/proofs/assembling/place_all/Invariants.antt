use Rattle.std.{proofs.Common.{◌≡◌, ℕ, List, length}, specs.List.All}
use Rattle.xa_words.specs.Entry.{Entry}
use Rattle.xa_races.specs.Assembled.{HasOnly, IsWithin}
use Rattle.xa_races.proofs.assembling.place_all.Given as goal

abbrev pub invariant-loop-added : goal.invariant-loop-added
invariant-loop-added l =
    (length l.places.items ≡ length l.fn.places.items)
    × ((list : List Entry) (limit : ℕ) → HasOnly list limit l.fn.places.items
    → All (λ added. All (IsWithin list limit l.fn.from) added.items) l.fn.lists.items
    → HasOnly list limit l.places.items)
