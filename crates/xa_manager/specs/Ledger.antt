-- The transactions that were begun, as the list of the stages of 1, 2, ..
use Rattle.std.specs.Prelude.{◌≡◌, ℕ, Option, Some, None, if◌then◌else◌, ◌==◌, ◌-◌, List, slice_get, slice_set, codes}
use Rattle.xa_coordinator.specs.declared.transaction.Transaction.{Transaction}
use Rattle.xa_manager.specs.declared.stage.Stage.{Stage, TheVariants.{Working, Ready, Voted, Over}}

-- the stage of the transaction of this number; numbers are given from 1 on
unfoldable pub stage_of : List Stage → ℕ → Option Stage
-- a transaction's stage, if it was begun
stage_of stages number = if number == 0 then None else slice_get stages (number - 1)

-- the transaction of this number has this stage, the others have theirs; nothing changes if it wasn't begun
unfoldable pub with_stage : List Stage → ℕ → Stage → List Stage
-- the list with this stage of one transaction
with_stage stages number stage = if number == 0 then stages else slice_set stages (number - 1) stage

-- the transaction that is kept, unless it is over
abbrev pub transaction_in : Stage → Option Transaction
transaction_in (Working transaction) = Some transaction
transaction_in (Ready prepared) = Some prepared.transaction
transaction_in (Voted prepared) = Some prepared.transaction
transaction_in Over = None

-- the transaction of this number, of the coordinator `c` over so many stores
pub record IsTransactionOf (count place : ℕ) (transaction : Transaction) : Type 0 where
  pub number : transaction.number ≡ place
  pub name : transaction.name.items ≡ codes "c"
  pub stores : transaction.stores ≡ count
