-- How a store opens.
use Rattle.std.specs.Prelude.{◌≡◌, ℕ, length, min, nat_le, if◌then◌else◌}
use Rattle.xa_endless.specs.declared.store.EndlessStore.{EndlessStore}

-- how many checkpoints a store has: none for one session, which nobody can leave behind, else as many as sessions, up
-- to 4
abbrev pub checkpoints_of : ℕ → ℕ
checkpoints_of sessions = if nat_le sessions 1 then 0 else min sessions 4

-- the ring has so many rows, there are so many sessions, each of which has a place, and as many checkpoints as
-- `checkpoints_of` says
pub record Opens (rows sessions : ℕ) (store : EndlessStore) : Type 0 where
  pub rows_are : store.log.rows ≡ rows
  pub sessions_are : store.log.sessions ≡ sessions
  pub places_are : length store.places.items ≡ sessions
  pub checkpoints_are : length store.checkpoints.items ≡ checkpoints_of sessions
