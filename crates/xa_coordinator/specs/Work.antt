-- What work in a store did.
use Rattle.std.specs.Prelude.{◌≡◌, ◌≢◌, ◌⊎◌, ℕ, true, false, List, [], ◌∷◌, ◌++◌, Option, Result, Ok, Err}
use Rattle.xa_xid.specs.declared.{xid.Xid.Xid, statement.Statement.{Statement, TheVariants.{Start, Get, Put, Del}}}
use Rattle.xa_server.specs.{State.association_of, declared.{association.Association.Association, reply.Reply.Reply}}
use Rattle.xa_session.specs.{Answer.IsAnswered, Replay.state_at, View.{SessionView, StaysOfLog, Takes}}
use Rattle.xa_coordinator.specs.declared.{fault.{Cause.Cause, WorkFault.WorkFault}, transaction.Transaction.Transaction}
use Rattle.xa_coordinator.specs.{declared.branches.OpenBranch.OpenBranch, Agreement.AddsStatements, Outcomes.branch_of}
use Rattle.xa_coordinator.specs.OpenBranches.{association_seen, HasOpen, has_working_branch, IsWorking}
use Rattle.xa_coordinator.specs.{Participants.takes_part, Stores.AtStore, Told.{IsDone, IsUndone}}

-- the statement is GET, PUT or DEL
abbrev pub IsRow : Statement → Type 0
IsRow (Get key) = Unit {0}
IsRow (Put key value) = Unit {0}
IsRow (Del key) = Unit {0}
IsRow statement = ⊥

-- the list has this statement alone, or is empty
abbrev pub MayBe : Statement → List Statement → Type 0
MayBe statement statements = (statements ≡ []) ⊎ (statements ≡ statement ∷ [])

-- the session added this statement, or nothing
pub record AddsAtMost (statement : Statement) (old new : SessionView) : Type 0 where
  pub statements : List Statement
  pub is : MayBe statement statements
  pub adds : AddsStatements statements old new

-- XA START or nothing was added, and then the row statement or nothing
pub record AddsWork (xid : Xid) (row : Statement) (old new : SessionView) : Type 0 where
  pub started : List Statement
  pub is_start : MayBe (Start xid) started
  pub worked : List Statement
  pub is_row : MayBe row worked
  pub adds : AddsStatements (started ++ worked) old new

-- the session had the branch open, ACTIVE, or was given XA START and carried it out
pub data MayStart (xid : Xid) (old : SessionView) : SessionView → Type 0 where
  was_open : association_seen old ≡ Association.Active xid → MayStart xid old old
  was_started : (mid : SessionView) → IsDone (Start xid) old mid → MayStart xid old mid

-- the row statement was answered, at a place not before the end of what had been seen, and the session's branch was
-- this one there, ACTIVE
pub record IsReplied (row : Statement) (reply : Reply) (xid : Xid) (old new : SessionView) : Type 0 where
  pub log : StaysOfLog old new
  pub place : ℕ
  pub answered : IsAnswered old.base row (record { place = place; reply = reply }) old.known new.known
  pub active : association_of (state_at old.base new.known.seen place) old.known.number ≡ Association.Active xid
  pub takes : Takes 1 old.left new.left

-- the row statement was answered within the branch, which was open before or was started
pub record IsWorked (row : Statement) (reply : Reply) (xid : Xid) (old new : SessionView) : Type 0 where
  pub mid : SessionView
  pub opened : MayStart xid old mid
  pub replied : IsReplied row reply xid mid new

-- the row statement wasn't answered, in the branch that was open before or was started
pub record IsCut (row : Statement) (cause : Cause) (xid : Xid) (old new : SessionView) : Type 0 where
  pub mid : SessionView
  pub opened : MayStart xid old mid
  pub undone : IsUndone row cause mid new

-- the transaction is the same, and no other store comes to take part or ceases to
pub record KeepsOthers (store : ℕ) (old new : Transaction) : Type 0 where
  pub number : new.number ≡ old.number
  pub name : new.name ≡ old.name
  pub stores : new.stores ≡ old.stores
  pub others : (other : ℕ) → other ≢ store → takes_part new.participants other ≡ takes_part old.participants other

-- what work did, by its result. Ok: the branch was open or was started, and the row statement was answered in it.
-- Session: the branch was open or was started, but the row statement wasn't answered; or XA START wasn't carried out,
-- and all else is as before. Refused: XA START was refused, and all else is as before. Lost: the store takes part, the
-- coordinator hasn't its branch open, and nothing was done. After Ok and the first case of Session the store takes
-- part, its branch ACTIVE
abbrev pub WorksAs : {S : Type 0} → (S → SessionView) → (marks marks' : List (Option OpenBranch)) → Transaction
    → Transaction → ℕ → Statement
    → Result Reply WorkFault → List S → List S → Type 0
WorksAs view marks marks' old new store row (Ok reply) before after =
    (takes_part new.participants store ≡ true) × IsWorking marks' store old.number
    × AtStore view store (IsWorked row reply (branch_of old store)) before after
WorksAs view marks marks' old new store row (Err (WorkFault.Session fault)) before after =
    ((takes_part new.participants store ≡ true) × IsWorking marks' store old.number
    × AtStore view store (IsCut row (Cause.Session fault) (branch_of old store)) before after)
    ⊎ ((new ≡ old) × (marks' ≡ marks) × (has_working_branch marks store old.number ≡ false)
    × AtStore view store (IsUndone (Start (branch_of old store)) (Cause.Session fault)) before after)
WorksAs view marks marks' old new store row (Err (WorkFault.Refused error)) before after =
    (new ≡ old) × (marks' ≡ marks) × (has_working_branch marks store old.number ≡ false)
    × AtStore view store (IsUndone (Start (branch_of old store)) (Cause.Refused error)) before after
WorksAs view marks marks' old new store row (Err WorkFault.Lost) before after =
    (new ≡ old) × (marks' ≡ marks) × (takes_part old.participants store ≡ true) × (HasOpen marks store old.number → ⊥)
    × (after ≡ before)
