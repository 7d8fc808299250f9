-- The limits of a coordinator's sessions, and what is open in them.
use Rattle.std.specs.Prelude.{◌≡◌, ◌<◌, ◌-◌, ◌^◌, ℕ, List, length, map, Option, Some, None, slice_get}
use Rattle.xa_coordinator.specs.{declared.{fused.Fused.Fused, branches.OpenBranch.OpenBranch}, Stores.ChangesAt}

-- a store's session passes on so many calls, and then returns out of memory for each
abbrev pub Passes : {S : Type 0} → (store calls : ℕ) → List (Fused S) → Type 0
Passes {S} store calls sessions = slice_get (map (λ (s : Fused S). s.left) sessions) store ≡ Some calls

-- this store's session passes on so many calls, those of the other stores as many as before, and none got a
-- statement
pub record LimitsAlone {S : Type 0} (store calls : ℕ) (old new : List (Fused S)) : Type 0 where
  pub there : Passes store calls new
  pub others : ChangesAt store old new
  pub within : map (λ (s : Fused S). s.inner) new ≡ map (λ (s : Fused S). s.inner) old

-- nothing is open in any store, and each session passes on 2 ^ 64 - 1 calls
pub record StartsAnew {S : Type 0} (branches : List (Option OpenBranch)) (sessions : List (Fused S)) : Type 0 where
  pub free : (store : ℕ) → store < length sessions → slice_get branches store ≡ Some None
  pub passes : (store : ℕ) → store < length sessions → Passes store (2 ^ 64 - 1) sessions
