-- What a coordinator has open in its stores.
use Rattle.std.specs.Prelude.{◌≡◌, ◌≤◌, ◌==◌, ◌&&◌, ◌⊎◌, ℕ, Bool, true, false, List, Option, Some, slice_get}
use Rattle.xa_xid.specs.declared.xid.Xid.{Xid}
use Rattle.xa_server.specs.{State.association_of, declared.association.Association.Association}
use Rattle.xa_session.specs.{Replay.state_after, View.SessionView}
use Rattle.xa_coordinator.specs.{Branch.branch_xid, Participants.takes_part, declared.branches.Phase.Phase}
use Rattle.xa_coordinator.specs.declared.{participants.Participants.Participants, branches.OpenBranch.OpenBranch}
use Rattle.xa_coordinator.specs.declared.branches.Phase.TheVariants.{Active, Idle}

-- what the session has open after all that it has seen
abbrev pub association_seen : SessionView → Association
association_seen session = association_of (state_after session.base session.known.seen) session.known.number

-- what a session has open if it has this branch open in this phase
abbrev pub association_in : Phase → Xid → Association
association_in Active xid = Association.Active xid
association_in Idle xid = Association.Idle xid

-- whatever branch the coordinator has open in a store, the session of that store has it open in the same phase, as far
-- as the session has seen
abbrev pub OpenThere : {S : Type 0} → (S → SessionView) → List ℕ → List S → List (Option OpenBranch) → Type 0
OpenThere view name stores branches =
    (store : ℕ) (session : _) (branch : OpenBranch) → slice_get stores store ≡ Some session
    → slice_get branches store ≡ Some (Some branch) →
    association_seen (view session) ≡ association_in branch.phase (branch_xid name branch.number store)

-- the coordinator has the transaction's branch open in the store
pub record HasOpen (branches : List (Option OpenBranch)) (store number : ℕ) : Type 0 where
  pub branch : OpenBranch
  pub there : slice_get branches store ≡ Some (Some branch)
  pub is : branch.number ≡ number

-- whether the phase is ACTIVE
abbrev pub is_active : Phase → Bool
is_active Active = true
is_active Idle = false

-- what is open in a store is the branch of the transaction of this number, ACTIVE
abbrev pub works_for : ℕ → Option (Option OpenBranch) → Bool
works_for number (Some (Some branch)) = is_active branch.phase && (branch.number == number)
works_for number there = false

-- the coordinator has the transaction's branch open in the store, and ACTIVE
unfoldable pub has_working_branch : List (Option OpenBranch) → ℕ → ℕ → Bool
-- whether the coordinator has a transaction's branch open in a store, and ACTIVE
has_working_branch branches store number = works_for number (slice_get branches store)

-- what is open in the store is the transaction's branch, ACTIVE
abbrev pub IsWorking : List (Option OpenBranch) → ℕ → ℕ → Type 0
IsWorking branches store number = slice_get branches store ≡ Some (Some (record { number = number; phase = Active }))

-- in the stores that take no part, and in those from this number on, the coordinator has open what it had
pub record KeepsOpen (participants : Participants) (place : ℕ) (old new : List (Option OpenBranch)) : Type 0 where
  pub apart : (store : ℕ) → takes_part participants store ≡ false → slice_get new store ≡ slice_get old store
  pub behind : (store : ℕ) → place ≤ store → slice_get new store ≡ slice_get old store

-- what the coordinator has open in a store is as before, or the transaction's branch is IDLE there
abbrev pub IsAsBeforeOrEnded : ℕ → ℕ → List (Option OpenBranch) → List (Option OpenBranch) → Type 0
IsAsBeforeOrEnded store number old new =
    (slice_get new store ≡ slice_get old store) ⊎ (slice_get new store
    ≡ Some (Some (record { number = number; phase = Idle })))
