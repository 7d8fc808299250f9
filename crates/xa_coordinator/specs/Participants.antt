-- Which stores take part in a global transaction.
--     TwoTakePart, OnlyTakesPart      two stores take part;  only this one does
use Rattle.std.specs.Prelude.{◌≡◌, ◌<◌, ℕ, Bool, true, false, unwrap_or, slice_get}
use Rattle.xa_coordinator.specs.declared.participants.Participants.{Participants}

-- whether the store takes part in the transaction
unfoldable pub takes_part : Participants → ℕ → Bool
-- whether a store takes part
takes_part participants store = unwrap_or (slice_get participants.members store) false

-- at least two stores take part
pub record TwoTakePart (participants : Participants) : Type 0 where
  pub first : ℕ
  pub second : ℕ
  pub apart : first < second
  pub first_in : takes_part participants first ≡ true
  pub second_in : takes_part participants second ≡ true

-- only this store takes part
pub record OnlyTakesPart (participants : Participants) (store : ℕ) : Type 0 where
  pub in_it : takes_part participants store ≡ true
  pub others : (other : ℕ) → takes_part participants other ≡ true → other ≡ store
