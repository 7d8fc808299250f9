-- The result of opening a log: its passes, or a fault with its cause.
--     IsCapacity, IsCount, AreSizes      a capacity, a number of sessions, and both, in range
use Rattle.std.specs.Prelude.{◌≡◌, ◌≤◌, ◌+◌, ℕ, List, length, slice_get, Some, All}
use Rattle.decision_log.specs.declared.{known.Known.Known, fault.OpenFault.OpenFault, sizes.Sizes.Sizes}
use Rattle.decision_log.specs.Known.{LogIdentity, newcomer}

-- a log may have from 1 to 1024 entries (own rule)
abbrev pub IsCapacity : ℕ → Type 0
IsCapacity capacity = (1 ≤ capacity) × (capacity ≤ 1024)

-- a log may have from 1 to 16 sessions (own rule)
abbrev pub IsCount : ℕ → Type 0
IsCount sessions = (1 ≤ sessions) × (sessions ≤ 16)

-- capacity and number of sessions are in range
pub record AreSizes (sizes : Sizes) : Type 0 where
  pub capacity : IsCapacity sizes.capacity
  pub sessions : IsCount sizes.sessions

-- the log has this capacity and this number of sessions, both in range; the passes are of sessions 1 to the last, in
-- order, each of this log and with nothing seen
pub record Opens {Pass : Type 0} (belongs_to : Pass → LogIdentity) (known : Pass → Known) (capacity sessions : ℕ)
    (identity : LogIdentity)
    (passes : List Pass) : Type 0 where
  pub capacity_is : identity.capacity ≡ capacity
  pub sessions_is : identity.sessions ≡ sessions
  pub capacity_fits : IsCapacity capacity
  pub sessions_fit : IsCount sessions
  pub count : length passes ≡ sessions
  pub belongs : All (λ pass. belongs_to pass ≡ identity) passes
  pub numbers : (index : ℕ) (pass : Pass) → slice_get passes index ≡ Some pass → known pass ≡ newcomer (index + 1)

-- why a log of these sizes isn't opened, in the order of test: a size is out of range only if the one tested before it
-- isn't; no memory is the reason only if both are in range
abbrev pub Refuses : ℕ → ℕ → OpenFault → Type 0
Refuses capacity sessions OpenFault.CapacityOutOfRange = IsCapacity capacity → ⊥
Refuses capacity sessions OpenFault.SessionsOutOfRange = IsCapacity capacity × (IsCount sessions → ⊥)
Refuses capacity sessions OpenFault.NoMemory = IsCapacity capacity × IsCount sessions
