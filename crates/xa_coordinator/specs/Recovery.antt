-- What a recovery does, in one store and in all.
--     SettlesOne, Settled      what became of one listed branch;  of all
--     IsFinished, IsSettled       what became of a store's prepared branches;  after the session's DISCONNECT
--     NoneLeft, IsClear        none of the coordinator's naming is prepared;  as XA RECOVER shows
--     IsUnsettled, StopsAmong      a listed branch wasn't finished;  those before it were settled
--     BreaksBy, BreaksHere      the recovery of a store failed, and what the coordinator has open there
use Rattle.std.specs.Prelude.{◌≡◌, ◌≢◌, ◌<◌, ◌≤◌, ◌+◌, ◌^◌, ◌⊎◌, ℕ, Bool, true, false, List, [], ◌∷◌, ◌++◌, length}
use Rattle.std.specs.{Prelude.{take, map, slice_get, Option, Some, None}, List.sum_by}
use Rattle.xa_xid.specs.declared.{xid.Xid.Xid, statement.Statement.Statement}
use Rattle.xa_server.specs.{State.{is_prepared, prepared_xids}, declared.association.Association.TheVariants.Free}
use Rattle.xa_server.specs.declared.xa_error.XaError.TheVariants.{Nota}
use Rattle.xa_session.specs.{Replay.state_after, View.{SessionView, Takes}, declared.fault.Fault.Fault}
use Rattle.xa_coordinator.specs.declared.{fault.{Cause.Cause, RecoverFault.RecoverFault}, closing.Closing.Closing}
use Rattle.xa_coordinator.specs.declared.{decisions.Decision.Decision, report.{Tally.Tally, Report.Report}}
use Rattle.xa_coordinator.specs.{declared.branches.OpenBranch.OpenBranch, Agreement.{AddsStatements, AddsEach}}
use Rattle.xa_coordinator.specs.{Branch.{branch_xid, IsBranchOf}, Decisions.is_decided, OpenBranches.association_seen}
use Rattle.xa_coordinator.specs.{Outcomes.finish_statement, Stores.{AtStore, EachStore}, Told.IsUndone, Work.MayBe}

-- the session was given DISCONNECT, and has no branch open then; it added that statement at most, which is logged if it
-- ends a branch
pub record IsDisconnected (old new : SessionView) : Type 0 where
  pub statements : List Statement
  pub is : MayBe Statement.Disconnect statements
  pub adds : AddsStatements statements old new
  pub free : association_seen new ≡ Free
  pub takes : Takes 1 old.left new.left

-- XA RECOVER was answered with this list: that of the prepared branches at this place, the end of all that the session
-- sees then; the session has looked, and has added nothing
pub record ListsPrepared (xids : List Xid) (place : ℕ) (old new : SessionView) : Type 0 where
  pub adds : AddsStatements [] old new
  pub looked : old.known.looks < new.known.looks
  pub front : place ≡ length new.known.seen
  pub list : xids ≡ prepared_xids (state_after new.base new.known.seen)
  pub takes : Takes 1 old.left new.left

-- the branch is of a coordinator of this name, in this store
abbrev pub IsNamed : List ℕ → ℕ → Xid → Type 0
IsNamed name store xid = (number : ℕ) × IsBranchOf name number store xid

-- a decided branch is committed, another one is rolled back (presumed abort)
abbrev pub finish_decided : Bool → Closing
finish_decided true = Closing.InTwoPhases
finish_decided false = Closing.RollBack

-- what became of a listed branch, and the tally after it: one that isn't of this coordinator's naming gets no
-- statement; another one is committed or rolled back as the decisions say, or was answered XAER_NOTA
pub data SettlesOne (decisions : List Decision) (name : List ℕ) (store : ℕ) (xid : Xid) (tally : Tally)
    (old : SessionView) : Tally → SessionView → Type 0 where
  foreign : (IsNamed name store xid → ⊥) → SettlesOne decisions name store xid tally old tally old
  committed : (number : ℕ) → IsBranchOf name number store xid → is_decided decisions number ≡ true → (new : SessionView)
      → AddsEach (Statement.Commit xid false ∷ []) old new →
      SettlesOne decisions name store xid tally old (record tally { committed = tally.committed + 1 }) new
  rolled_back : (number : ℕ) → IsBranchOf name number store xid → is_decided decisions number ≡ false
      → (new : SessionView)
      → AddsEach (Statement.Rollback xid ∷ []) old new →
      SettlesOne decisions name store xid tally old (record tally { rolled_back = tally.rolled_back + 1 }) new
  missing : (number : ℕ) → IsBranchOf name number store xid → (new : SessionView)
      → IsUndone (finish_statement (finish_decided (is_decided decisions number)) xid) (Cause.Refused Nota) old new →
      SettlesOne decisions name store xid tally old (record tally { missing = tally.missing + 1 }) new

-- what became of the branches of a list, one after another, and the tally of all of them
pub data Settled (decisions : List Decision) (name : List ℕ) (store : ℕ) (old : SessionView) : List Xid → Tally
    → SessionView → Type 0 where
  nothing : Settled decisions name store old [] (record { committed = 0; rolled_back = 0; missing = 0 }) old
  one_more : (xids : List Xid) (before : Tally) (mid : SessionView) → Settled decisions name store old xids before mid
      → (xid : Xid) (after : Tally) (new : SessionView) →
      SettlesOne decisions name store xid before mid after new
      → Settled decisions name store old (xids ++ xid ∷ []) after new

-- the prepared branches were listed, and each of them was settled
pub record IsFinished (decisions : List Decision) (name : List ℕ) (store : ℕ) (tally : Tally)
    (old new : SessionView) : Type 0 where
  pub listing : SessionView
  pub xids : List Xid
  pub place : ℕ
  pub listed : ListsPrepared xids place old listing
  pub settled : Settled decisions name store listing xids tally new

-- the session was given DISCONNECT, and then the prepared branches were listed and settled (`SettlesOne`)
pub record IsSettled (decisions : List Decision) (name : List ℕ) (store : ℕ) (tally : Tally)
    (old new : SessionView) : Type 0 where
  pub freed : SessionView
  pub disconnected : IsDisconnected old freed
  pub rest : IsFinished decisions name store tally freed new

-- no branch of this coordinator's naming is prepared, as far as the session has seen
abbrev pub NoneLeft : List ℕ → ℕ → SessionView → Type 0
NoneLeft name store session = (number : ℕ) → number < 2 ^ 64
    → is_prepared (state_after session.base session.known.seen) (branch_xid name number store) ≡ false

-- XA RECOVER was answered at this place, at which no branch of this coordinator's naming is prepared
pub record IsClear (name : List ℕ) (store front : ℕ) (old new : SessionView) : Type 0 where
  pub xids : List Xid
  pub listed : ListsPrepared xids front old new
  pub none_left : NoneLeft name store new

-- a store was recovered: its session disconnected, its prepared branches were settled, with this tally, and then a list
-- at this place shows that none of the coordinator's naming is left
pub record IsRecovered (decisions : List Decision) (name : List ℕ) (store : ℕ) (tally : Tally) (front : ℕ)
    (old new : SessionView) : Type 0 where
  pub finished : SessionView
  pub settled : IsSettled decisions name store tally old finished
  pub clear : IsClear name store front finished new

-- a listed branch of this coordinator's naming wasn't committed or rolled back as the decisions say, for this cause,
-- which isn't XAER_NOTA
pub record IsUnsettled (decisions : List Decision) (name : List ℕ) (store : ℕ) (xid : Xid) (cause : Cause)
    (old new : SessionView) : Type 0 where
  pub number : ℕ
  pub named : IsBranchOf name number store xid
  pub undone : IsUndone (finish_statement (finish_decided (is_decided decisions number)) xid) cause old new
  pub known : cause ≢ Cause.Refused Nota

-- the branches of a list before one of them were settled, and that one wasn't finished, for this cause
pub record StopsAmong (decisions : List Decision) (name : List ℕ) (store : ℕ) (xids : List Xid) (cause : Cause)
    (old new : SessionView) : Type 0 where
  pub place : ℕ
  pub xid : Xid
  pub there : slice_get xids place ≡ Some xid
  pub tally : Tally
  pub mid : SessionView
  pub settled : Settled decisions name store old (take place xids) tally mid
  pub unsettled : IsUnsettled decisions name store xid cause mid new

-- after the DISCONNECT the first XA RECOVER, the finish of a listed branch, or the last XA RECOVER wasn't carried out;
-- everything before it was
pub data IsCutOff (decisions : List Decision) (name : List ℕ) (store : ℕ) (old : SessionView) : Cause → SessionView
    → Type 0 where
  unlisted : (freed : SessionView) → IsDisconnected old freed → (fault : Fault) (new : SessionView)
      → IsUndone (Statement.Recover false) (Cause.Session fault) freed new
      → IsCutOff decisions name store old (Cause.Session fault) new
  unsettled : (freed : SessionView) → IsDisconnected old freed → (listing : SessionView) (xids : List Xid) (place : ℕ)
      → ListsPrepared xids place freed listing
      → (cause : Cause) (new : SessionView) → StopsAmong decisions name store xids cause listing new
      → IsCutOff decisions name store old cause new
  unlisted_again : (tally : Tally) (finished : SessionView) → IsSettled decisions name store tally old finished
      → (fault : Fault) (new : SessionView)
      → IsUndone (Statement.Recover false) (Cause.Session fault) finished new
      → IsCutOff decisions name store old (Cause.Session fault) new

-- the prepared branches were settled, and the last list has one of this coordinator's naming
pub record IsStillPrepared (decisions : List Decision) (name : List ℕ) (store : ℕ)
    (old new : SessionView) : Type 0 where
  pub tally : Tally
  pub finished : SessionView
  pub settled : IsSettled decisions name store tally old finished
  pub xids : List Xid
  pub place : ℕ
  pub listed : ListsPrepared xids place finished new
  pub number : ℕ
  pub fits : number < 2 ^ 64
  pub prepared : is_prepared (state_after new.base new.known.seen) (branch_xid name number store) ≡ true

-- the store was recovered, with the tally and the place that stand for it in the list `found`
abbrev pub RecoveredBy : List Decision → List ℕ → List (Tally × ℕ) → ℕ → SessionView → SessionView → Type 0
RecoveredBy decisions name found store old new =
    (one : Tally × ℕ) × (slice_get found store ≡ Some one) × IsRecovered decisions name store one.0 one.1 old new

-- each store was recovered, and the report has the places and the sums of what was counted
pub record Recovers {S : Type 0} (view : S → SessionView) (decisions : List Decision) (name : List ℕ) (report : Report)
    (old new : List S) : Type 0 where
  pub found : List (Tally × ℕ)
  pub count : length found ≡ length old
  pub each : EachStore view (RecoveredBy decisions name found) old new
  pub fronts : report.fronts.items ≡ map (λ one. one.1) found
  pub committed : report.committed ≡ sum_by (λ one. one.0.committed) found
  pub rolled_back : report.rolled_back ≡ sum_by (λ one. one.0.rolled_back) found
  pub missing : report.missing ≡ sum_by (λ one. one.0.missing) found

-- a statement of the recovery of a store wasn't carried out for this cause: DISCONNECT, and the coordinator
-- has open there what it had; or a later one, and it has nothing open there
abbrev pub BreaksBy : {S : Type 0} → (S → SessionView) → List Decision → List ℕ → ℕ → Cause
    → (marks marks' : List (Option OpenBranch)) → List S → List S → Type 0
BreaksBy view decisions name store (Cause.Session fault) marks marks' old new =
    ((slice_get marks' store ≡ slice_get marks store) × AtStore view store
    (IsUndone Statement.Disconnect (Cause.Session fault)) old new)
    ⊎ ((slice_get marks' store ≡ Some None) × AtStore view store
    (λ before after. IsCutOff decisions name store before (Cause.Session fault) after) old new)
BreaksBy view decisions name store (Cause.Refused error) marks marks' old new =
    (slice_get marks' store ≡ Some None) × AtStore view store
    (λ before after. IsCutOff decisions name store before (Cause.Refused error) after) old new

-- the recovery of the store that the fault names failed as it says, and this is what the coordinator has open there; at
-- NoMemory nothing was done, and what is open is as before
abbrev pub BreaksHere : {S : Type 0} → (S → SessionView) → List Decision → List ℕ → RecoverFault
    → (marks marks' : List (Option OpenBranch)) → List S → List S
    → Type 0
BreaksHere view decisions name (RecoverFault.Session store fault) marks marks' old new =
    BreaksBy view decisions name store (Cause.Session fault) marks marks' old new
BreaksHere view decisions name (RecoverFault.StillPrepared store) marks marks' old new =
    (slice_get marks' store ≡ Some None) × AtStore view store (IsStillPrepared decisions name store) old new
BreaksHere view decisions name RecoverFault.NoMemory marks marks' old new = (marks' ≡ marks) × (new ≡ old)
BreaksHere view decisions name (RecoverFault.Refused store error) marks marks' old new =
    BreaksBy view decisions name store (Cause.Refused error) marks marks' old new

-- the stores below this number were spoken to
abbrev pub asked_by_fault : RecoverFault → ℕ
asked_by_fault (RecoverFault.Session store fault) = store + 1
asked_by_fault (RecoverFault.StillPrepared store) = store + 1
asked_by_fault RecoverFault.NoMemory = 0
asked_by_fault (RecoverFault.Refused store error) = store + 1

-- the recovery failed: the stores below the one that the fault names are recovered, and those above it got no
-- statement; at NoMemory no store got one
pub record BreaksOff {S : Type 0} (view : S → SessionView) (decisions : List Decision) (name : List ℕ)
    (fault : RecoverFault)
    (marks marks' : List (Option OpenBranch)) (old new : List S) : Type 0 where
  pub within : asked_by_fault fault ≤ length old
  pub below : (store : ℕ) → store + 1 < asked_by_fault fault
      → AtStore view store (λ before after. (one : Tally × ℕ)
      × IsRecovered decisions name store one.0 one.1 before after) old new
  pub here : BreaksHere view decisions name fault marks marks' old new
  pub behind : (store : ℕ) → asked_by_fault fault ≤ store → slice_get new store ≡ slice_get old store
