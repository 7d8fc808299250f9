-- What opening a ring gives, and why it is refused.
--     AreRows, AreSpares      a number of rows, and one of spares, in range
--     OpensPasses, OpensSpares      the passes and the spares that a ring begins with
use Rattle.std.specs.Prelude.{◌≡◌, ◌≤◌, ◌+◌, ℕ, List, length, slice_get, Some, All}
use Rattle.decision_log.specs.{Known.{LogIdentity, newcomer}, Opens.IsCount}
use Rattle.chain_log.specs.declared.{ring_fault.RingFault.RingFault, ring.RingLog.RingLog, ring_pass.RingPass.RingPass}
use Rattle.chain_log.specs.{declared.spare.RingSpare.RingSpare, RingPass.{identity_of, log_of, known_of}}
use Rattle.chain_log.specs.RingSpare.{spare_log_of, spare_known_of}

-- a ring may have from 1 to 65,536 rows (own rule)
abbrev pub AreRows : ℕ → Type 0
AreRows rows = (1 ≤ rows) × (rows ≤ 65536)

-- a ring may have from 0 to 4 spares, the passes that remember checkpoints' prefixes (own rule)
abbrev pub AreSpares : ℕ → Type 0
AreSpares spares = spares ≤ 4

-- the passes of sessions 1 to the last, in order, each of this log and with nothing seen
pub record OpensPasses (sessions : ℕ) (identity : LogIdentity) (passes : List RingPass) : Type 0 where
  pub count : length passes ≡ sessions
  pub belongs : All (λ pass. log_of pass ≡ identity) passes
  pub numbers : (index : ℕ) (pass : RingPass) → slice_get passes index ≡ Some pass
      → known_of pass ≡ newcomer (index + 1)
  pub low : All (λ pass. (known_of pass).number ≤ sessions) passes

-- the spares, whose numbers follow those of the sessions, in order, each of this log and with nothing seen
pub record OpensSpares (sessions count : ℕ) (identity : LogIdentity) (spares : List RingSpare) : Type 0 where
  pub count_is : length spares ≡ count
  pub belongs : All (λ spare. spare_log_of spare ≡ identity) spares
  pub numbers : (index : ℕ) (spare : RingSpare) → slice_get spares index ≡ Some spare
      → spare_known_of spare ≡ newcomer (sessions + index + 1)

-- a log of so many rows, sessions and spares, all in range, with its passes and its spares; its columns are one for
-- each session and each spare
pub record OpensRing (rows sessions spares : ℕ) (log : RingLog) (passes : List RingPass)
    (spare_list : List RingSpare) : Type 0 where
  pub rows_are : log.rows ≡ rows
  pub sessions_are : log.sessions ≡ sessions
  pub columns_are : log.columns ≡ sessions + spares
  pub rows_fit : AreRows rows
  pub sessions_fit : IsCount sessions
  pub spares_fit : AreSpares spares
  pub passes_are : OpensPasses sessions (identity_of log) passes
  pub spares_are : OpensSpares sessions spares (identity_of log) spare_list

-- why a ring of these sizes isn't opened, in the order of test: a number is out of range only if those tested before it
-- aren't; no memory is the reason only if all are in range
abbrev pub Refuses : ℕ → ℕ → ℕ → RingFault → Type 0
Refuses rows sessions spares RingFault.RowsOutOfRange = AreRows rows → ⊥
Refuses rows sessions spares RingFault.SessionsOutOfRange = AreRows rows × (IsCount sessions → ⊥)
Refuses rows sessions spares RingFault.SparesOutOfRange = AreRows rows × IsCount sessions × (AreSpares spares → ⊥)
Refuses rows sessions spares RingFault.NoMemory = AreRows rows × IsCount sessions × AreSpares spares
