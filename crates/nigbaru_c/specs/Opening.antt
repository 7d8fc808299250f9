-- How C opens a store.
use Rattle.std.specs.Prelude.{◌≡◌, ◌≢◌, ◌⊎◌, ℕ, Option, None, Some}
use Rattle.decision_log.specs.Opens.{IsCount}
use Rattle.chain_log.specs.RingOpens.{AreRows}
use Rattle.xa_endless.specs.{Opens.Opens, declared.store.EndlessStore.EndlessStore}
use Rattle.nigbaru_c.specs.declared.chair.Chair.{Chair}

-- a store is held, and is one that opening with so many slots and sessions gives
abbrev pub Opened : ℕ → ℕ → Option EndlessStore → Type 0
Opened rows sessions None = ⊥
Opened rows sessions (Some store) = Opens rows sessions store

-- 13 is returned only if the handle held something, 10 only if it held nothing and a number was out of its range; 7,
-- for memory, and 0 only if it held nothing and both numbers were in range
pub record IsOpenStatus (rows sessions : ℕ) (held : Option Chair) (status : ℕ) : Type 0 where
  pub some : (status ≡ 0) ⊎ ((status ≡ 13) ⊎ ((status ≡ 10) ⊎ (status ≡ 7)))
  pub held_is : status ≡ 13 → held ≢ None
  pub empty : status ≢ 13 → held ≡ None
  pub range : status ≡ 10 → AreRows rows × IsCount sessions → ⊥
  pub rows_fit : status ≢ 13 → status ≢ 10 → AreRows rows
  pub sessions_fit : status ≢ 13 → status ≢ 10 → IsCount sessions
