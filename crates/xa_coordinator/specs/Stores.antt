-- Facts about the stores of a coordinator, by their numbers, before and after a call.
use Rattle.std.specs.Prelude.{◌≡◌, ◌≢◌, ◌<◌, ℕ, List, Some, length, slice_get}
use Rattle.xa_session.specs.View.{SessionView}

-- a fact of one store, of what its session was and is; if a list doesn't have the store, nothing is said
abbrev pub AtStore : {S : Type 0} → (S → SessionView) → ℕ → (SessionView → SessionView → Type 0) → List S → List S
    → Type 0
AtStore {S} view store fact old new =
    (before after : S) → slice_get old store ≡ Some before → slice_get new store ≡ Some after
    → fact (view before) (view after)

-- a fact of each store
abbrev pub EachStore : {S : Type 0} → (S → SessionView) → (ℕ → SessionView → SessionView → Type 0) → List S → List S
    → Type 0
EachStore {S} view fact old new = (store : ℕ) → AtStore view store (fact store) old new

-- the lists have as many stores, and the same for each other store; that of this store may have changed
pub record ChangesAt {S : Type 0} (store : ℕ) (old new : List S) : Type 0 where
  pub count : length new ≡ length old
  pub others : (other : ℕ) → other ≢ store → slice_get new other ≡ slice_get old other

-- a call ended at this store: `fact` holds of each store below it, `last` of itself, and the sessions of those above it
-- are as they were
pub record EndsAt {S : Type 0} (view : S → SessionView) (fact : ℕ → SessionView → SessionView → Type 0) (store : ℕ)
    (last : SessionView → SessionView → Type 0)
    (old new : List S) : Type 0 where
  pub below : (other : ℕ) → other < store → AtStore view other (fact other) old new
  pub at : AtStore view store last old new
  pub behind : (other : ℕ) → store < other → slice_get new other ≡ slice_get old other
