-- What a call may add to the histories of stores.
use Rattle.std.specs.Prelude.{◌≡◌, ◌++◌, ℕ, true, false, List, length, map, All}
use Rattle.xa_xid.specs.declared.statement.Statement.{Statement, TheVariants.{Commit, Rollback}}
use Rattle.xa_session.specs.{Answer.{Advances, entry_of}, View.{SessionView, StaysOfLog, Takes}}
use Rattle.xa_coordinator.specs.{Branch.IsBranchOf, Decisions.is_decided, declared.decisions.Decision.Decision}

-- the session is of its log, has seen no less than before, and added these statements, in this order
pub record AddsStatements (statements : List Statement) (old new : SessionView) : Type 0 where
  pub log : StaysOfLog old new
  pub advances : Advances old.known new.known
  pub mine : new.known.mine ≡ old.known.mine ++ map (entry_of old.known.number) statements

-- the session was given these statements, in this order, and no other, and added each
pub record AddsEach (statements : List Statement) (old new : SessionView) : Type 0 where
  pub adds : AddsStatements statements old new
  pub takes : Takes (length statements) old.left new.left

-- XA COMMIT is of a decided number's branch, with ONE PHASE of any number's; XA ROLLBACK is of a branch whose
-- number isn't decided (presumed abort); every other statement agrees
abbrev pub AgreesWith : List Decision → List ℕ → ℕ → Statement → Type 0
AgreesWith decisions name store (Commit xid false) =
    (number : ℕ) × IsBranchOf name number store xid × (is_decided decisions number ≡ true)
AgreesWith decisions name store (Commit xid true) = (number : ℕ) × IsBranchOf name number store xid
AgreesWith decisions name store (Rollback xid) =
    (number : ℕ) × IsBranchOf name number store xid × (is_decided decisions number ≡ false)
AgreesWith decisions name store statement = Unit {0}

-- a call added some statements to a store's history, and each of them agrees with the decisions
pub record Agrees (decisions : List Decision) (name : List ℕ) (store : ℕ) (old new : SessionView) : Type 0 where
  pub statements : List Statement
  pub adds : AddsStatements statements old new
  pub each : All (AgreesWith decisions name store) statements
