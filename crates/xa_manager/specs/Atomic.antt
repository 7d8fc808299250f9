-- What a run of calls leaves of each transaction, after a recovery that came to its end.
use Rattle.std.specs.Prelude.{◌≡◌, ◌⊎◌, ◌<◌, ◌≤◌, ◌+◌, ◌^◌, ℕ, Bool, true, false, Some, slice_get, List, Contains}
use Rattle.std.specs.Prelude.{codes}
use Rattle.xa_words.specs.Entry.{Entry}
use Rattle.xa_xid.specs.declared.{xid.Xid.Xid, statement.Statement.Statement}
use Rattle.xa_server.specs.State.{Branch, State, association_of, is_prepared}
use Rattle.xa_server.specs.{declared.association.Association.Association, Step.with_writes}
use Rattle.xa_session.specs.{Answer.entry_of, Replay.state_at}
use Rattle.xa_coordinator.specs.{Branch.{branch_xid, IsBranchOf}, Decisions.is_decided, Recovery.{NoneLeft, IsNamed}}
use Rattle.xa_coordinator.specs.{Lasting.{own_view, history_of}, declared.decisions.Decision.Decision}
use Rattle.xa_coordinator.specs.declared.{fused.Fused.Fused, store.LastingStore.LastingStore}
use Rattle.xa_manager.specs.{Calls.takes_rows, declared.call.Call.Call, Runs.Managing}
use Rattle.std.specs.FinMap as map

-- the branch that the transaction of a number has in a store: the coordinator is `c`
abbrev pub branch_in : ℕ → ℕ → Xid
branch_in number store = branch_xid (codes "c") number store

-- the coordinator's session added the statement to the store's history
abbrev pub HasAdded : Fused LastingStore → Statement → Type 0
HasAdded session statement = Contains (own_view session.inner).known.mine (entry_of 1 statement)

-- a call that isn't RECOVER; work gives GET, PUT or DEL, as in each call that a line spells
abbrev pub IsPlain : Call → Type 0
IsPlain (Call.Work number store statement) = takes_rows statement ≡ true
IsPlain Call.Recover = ⊥
IsPlain call = Unit {0}

-- the coordinator began a branch of the transaction in no other store than this one
abbrev pub IsAlone : List (Fused LastingStore) → ℕ → ℕ → Type 0
IsAlone sessions number store =
    (other : ℕ) (session : Fused LastingStore) → slice_get sessions other ≡ Some session
    → HasAdded session (Statement.Start (branch_in number other)) → other ≡ store

-- an undecided transaction of which the coordinator began a branch in no other store than this one; of undecided ones
-- only such a one may be committed, with ONE PHASE
pub record IsOnePhase (decisions : List Decision) (sessions : List (Fused LastingStore))
    (store number : ℕ) : Type 0 where
  pub undecided : is_decided decisions number ≡ false
  pub alone : IsAlone sessions number store

-- XA COMMIT is of a decided transaction's branch; with ONE PHASE, of an undecided one's of which the coordinator began
-- a branch in no other store; XA ROLLBACK is of an undecided one's; every other statement goes with the decisions
abbrev pub GoesWith : List Decision → List (Fused LastingStore) → ℕ → Statement → Type 0
GoesWith decisions sessions store (Statement.Commit xid false) =
    (number : ℕ) × IsBranchOf (codes "c") number store xid × (is_decided decisions number ≡ true)
GoesWith decisions sessions store (Statement.Commit xid true) =
    (number : ℕ) × IsBranchOf (codes "c") number store xid × IsOnePhase decisions sessions store number
GoesWith decisions sessions store (Statement.Rollback xid) =
    (number : ℕ) × IsBranchOf (codes "c") number store xid × (is_decided decisions number ≡ false)
GoesWith decisions sessions store statement = Unit {0}

-- in each store, all that the coordinator's session added, in all calls from the first on, goes with the
-- final decisions, and none of its branches is prepared
pub record KeepsToDecisions (last : Managing) : Type 0 where
  pub goes : (store : ℕ) (session : Fused LastingStore) (statement : Statement)
      → slice_get last.sessions store ≡ Some session → HasAdded session statement
      → GoesWith last.decisions last.sessions store statement
  pub none_left : (store : ℕ) (session : Fused LastingStore) → slice_get last.sessions store ≡ Some session
      → NoneLeft (codes "c") store (own_view session.inner)

-- the statement is no XA COMMIT and no XA ROLLBACK of a branch of the coordinator's naming in this store
abbrev pub EndsNone : ℕ → Statement → Type 0
EndsNone store (Statement.Commit xid one_phase) = IsNamed (codes "c") store xid → ⊥
EndsNone store (Statement.Rollback xid) = IsNamed (codes "c") store xid → ⊥
EndsNone store statement = Unit {0}

-- a call that gives another client no XA COMMIT and no XA ROLLBACK of a branch of the coordinator's naming
abbrev pub LeavesBranches : Call → Type 0
LeavesBranches (Call.At store statement) = EndsNone store statement
LeavesBranches call = Unit {0}

-- the state before the store's entry at this place: that after so many entries
abbrev pub state_before : LastingStore → ℕ → State
state_before kept place = state_at kept.first.value (history_of kept) place

-- a commit, or a write of a session that has no branch open, which is carried out at once
abbrev pub ChangesRows : Association → Statement → Type 0
ChangesRows association (Statement.Commit xid one_phase) = Unit {0}
ChangesRows association (Statement.Put key value) = association ≡ Association.Free
ChangesRows association (Statement.Del key) = association ≡ Association.Free
ChangesRows association statement = ⊥

-- the entry at this place leaves the committed values as they were, or is a commit or a write of a session that has
-- no branch open
abbrev pub KeepsRowsOr : LastingStore → ℕ → Entry → Type 0
KeepsRowsOr kept place entry =
    ((state_before kept (place + 1)).rows ≡ (state_before kept place).rows)
    ⊎ ChangesRows (association_of (state_before kept place) entry.session) entry.statement

-- the coordinator's XA PREPARE of the branch is in the store's history; from there the branch was PREPARED up
-- to a later place, at which the coordinator's XA COMMIT made all writes of the branch the committed values
pub record WasCommitted (kept : LastingStore) (xid : Xid) : Type 0 where
  pub prepare : ℕ
  pub prepares : slice_get (history_of kept) prepare ≡ Some (entry_of 1 (Statement.Prepare xid))
  pub place : ℕ
  pub later : prepare < place
  pub prepared : (at : ℕ) → prepare < at → at ≤ place → is_prepared (state_before kept at) xid ≡ true
  pub commits : slice_get (history_of kept) place ≡ Some (entry_of 1 (Statement.Commit xid false))
  pub rows : (branch : Branch) → map.get (state_before kept place).branches xid ≡ Some branch
      → (state_before kept (place + 1)).rows ≡ with_writes (map.entries branch.writes)
      (state_before kept place).rows

-- a decided transaction was committed in each store in which the coordinator began a branch of it; of an
-- undecided one an XA COMMIT, whoever gave it, is in a store's history only with ONE PHASE, and then the
-- coordinator began no branch of it in another store
pub record AllOrNone (last : Managing) : Type 0 where
  pub all : (number store : ℕ) (session : Fused LastingStore) → number < 2 ^ 64
      → is_decided last.decisions number ≡ true
      → slice_get last.sessions store ≡ Some session → HasAdded session (Statement.Start (branch_in number store))
      → WasCommitted session.inner (branch_in number store)
  pub none : (number store : ℕ) (session : Fused LastingStore) (place client : ℕ) (one_phase : Bool) → number < 2 ^ 64
      → is_decided last.decisions number ≡ false → slice_get last.sessions store ≡ Some session
      → slice_get (history_of session.inner) place ≡ Some
      (entry_of client (Statement.Commit (branch_in number store) one_phase))
      → (one_phase ≡ true) × IsAlone last.sessions number store
