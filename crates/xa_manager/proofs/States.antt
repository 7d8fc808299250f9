-- A transaction manager, as contracts see it, in its parts.
use Rattle.std.proofs.Common.{◌≡◌, ℕ, ◌+◌, ◌-◌, ◌++◌, ◌∷◌, [], List, length, sym, subst, Result, Option, Some, arith}
use Rattle.std.{proofs.lemmas.List.length-set, specs.Prelude.{OnOk, OnErr}}
use Rattle.xa_session.specs.View.{SessionView}
use Rattle.xa_coordinator.specs.declared.{branches.OpenBranch.OpenBranch, decisions.Decision.Decision, vote.Vote.Vote}
use Rattle.xa_coordinator.specs.declared.transaction.{Transaction.Transaction, Prepared.Prepared, VoteKind.VoteKind}
use Rattle.xa_coordinator.specs.{Decisions.with_decided, Outcomes.VotesAs, Work.KeepsOthers}
use Rattle.xa_manager.specs.{declared.stage.Stage.Stage, Ledger.{IsTransactionOf, transaction_in, with_stage}}
use Rattle.xa_manager.{specs.Carried.{WholeManager, stage_after}, proofs.Stages.{Kept, AllReady, with_stage-last}}

-- a manager put together from its parts
abbrev pub whole : {C T : Type 0} → ℕ → List Decision → List Stage → List (Option OpenBranch) → List C → List T
    → WholeManager C T
whole stores decisions stages branches sessions other_clients = record {
  stores = stores;
  decisions = decisions;
  stages = stages;
  branches = branches;
  sessions = sessions;
  other_clients = other_clients;
}

-- managers are equal if their stores, decisions and stages are, and all else is the same
pub same_whole : {C T : Type 0} (n m : ℕ) (d e : List Decision) (s t : List Stage) (b : List (Option OpenBranch))
    (xs : List C) (os : List T)
    → n ≡ m → d ≡ e → s ≡ t → whole n d s b xs os ≡ whole m e t b xs os
same_whole n m d e s t b xs os stores decisions stages = cc

-- managers over as many stores, in which the same is open, are equal if all else is the same
pub same_open : {C T : Type 0} (n m : ℕ) (d : List Decision) (s : List Stage) (b c : List (Option OpenBranch))
    (xs : List C) (os : List T)
    → n ≡ m → b ≡ c → whole n d s b xs os ≡ whole m d s c xs os
same_open n m d s b c xs os stores branches = cc

-- `Kept` holds of an equal number of stores and an equal list of stages
pub kept_as : (n m : ℕ) (s t : List Stage) → m ≡ n → t ≡ s → Kept n s → Kept m t
kept_as n m s t stores stages kept = grind (arith)

-- `AllReady` holds of an equal list of stages
pub ready_as : (s t : List Stage) → t ≡ s → AllReady s → AllReady t
ready_as s t stages ready = let P : List Stage → Type 0 = λ list. AllReady list in subst P (sym stages) ready

-- a decision changes how a number stands, not how many there are
pub decided-length : (decisions : List Decision) (number : ℕ)
    → length (with_decided decisions number) ≡ length decisions
unfolding with_decided
decided-length decisions number = length-set decisions (number - 1) Decision.Decided

-- whether deciding was refused or not, there are as many decisions as before
pub after_decision : {A B : Type 0} (result : Result A B) (old new : List Decision) (number : ℕ)
    → OnOk result (new ≡ with_decided old number)
    → OnErr result (new ≡ old) → length new ≡ length old
after_decision result old new number decided kept = grind (arith, decided-length)

-- the transaction that is kept after a vote is the one of its number, if the one that was voted on is
pub voted_kept : {S : Type 0} (view : S → SessionView) (transaction : Transaction) (vote : Vote) (old new : List S)
    (count number : ℕ)
    → VotesAs view transaction vote old new → IsTransactionOf count number transaction
    → (kept : Transaction) → transaction_in (stage_after vote) ≡ Some kept → IsTransactionOf count number kept
voted_kept view transaction vote old new count number votes is kept keeps = grind (arith)

-- a vote that is kept as Ready is of Ready
pub voted_ready : {S : Type 0} (view : S → SessionView) (transaction : Transaction) (vote : Vote) (old new : List S)
    → VotesAs view transaction vote old new
    → (kept : Prepared) → stage_after vote ≡ Stage.Ready kept → kept.vote_kind ≡ VoteKind.Ready
voted_ready view transaction vote old new votes kept keeps = grind (arith)

-- work keeps the transaction's number, name and count of stores
pub worked_kept : (store count number : ℕ) (old new : Transaction) → KeepsOthers store old new
    → IsTransactionOf count number old → (kept : Transaction)
    → transaction_in (Stage.Working new) ≡ Some kept → IsTransactionOf count number kept
worked_kept store count number old new keeps is kept same = grind (arith)

-- a transaction that has begun is kept as one of its number
pub working_kept : (count number : ℕ) (transaction : Transaction) → IsTransactionOf count number transaction
    → (kept : Transaction)
    → transaction_in (Stage.Working transaction) ≡ Some kept → IsTransactionOf count number kept
working_kept count number transaction is kept same = grind (arith)

-- BEGIN first reserves a place with a stage that is over, and then sets it: together one stage was put behind
pub begun_on : (stages : List Stage) (number : ℕ) (begun : Stage) (added now : List Stage) → number ≡ length stages + 1
    → added ≡ stages ++ Stage.Over ∷ []
    → now ≡ with_stage added number begun → now ≡ stages ++ begun ∷ []
begun_on stages number begun added now is one put = grind (arith, with_stage-last)
