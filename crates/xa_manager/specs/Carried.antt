-- What each call of a transaction manager does if it isn't refused: its response, what the sessions did, and
-- the state then.
--     vote_answer_of, stage_after     the answer for a vote;  the transaction's stage after it
--     IsBegun, IsSpent                BEGIN: a transaction began;  no number is left
use Rattle.std.specs.Prelude.{◌≡◌, ◌⊎◌, ◌<◌, ◌≤◌, ◌+◌, ℕ, true, false, Option, Some, None, Result, IfOk, IfErr, OnOk}
use Rattle.std.specs.Prelude.{List, [], ◌∷◌, ◌++◌, length, map, slice_get, codes}
use Rattle.xa_xid.specs.declared.statement.Statement.{Statement}
use Rattle.xa_server.specs.declared.reply.Reply.{Reply}
use Rattle.xa_session.specs.{declared.fault.Fault.Fault, View.{SessionView, StaysOfLog}}
use Rattle.xa_coordinator.specs.declared.{branches.OpenBranch.OpenBranch, closing.Closing.Closing, report.Report.Report}
use Rattle.xa_coordinator.specs.declared.{decisions.Decision.{Decision, TheVariants.Undecided}, ending.Ending.Ending}
use Rattle.xa_coordinator.specs.declared.{fault.{RecoverFault.RecoverFault, WorkFault.WorkFault}, fused.Fused.Fused}
use Rattle.xa_coordinator.specs.declared.{transaction.{Prepared.Prepared, Transaction.Transaction}, vote.Vote.Vote}
use Rattle.xa_coordinator.specs.{Decisions.{closed_of, is_decided, may_be_decided, with_decided}, Limits.most_numbers}
use Rattle.xa_coordinator.specs.{OpenBranches.KeepsOpen, Participants.takes_part, Work.{KeepsOthers, WorksAs}}
use Rattle.xa_coordinator.specs.Outcomes.{EndsAs, VotesAs, KeepsMark, finish_for, asked_by_vote, asked_by_ending}
use Rattle.xa_coordinator.specs.{Recovery.{Recovers, BreaksOff, asked_by_fault}, Stores.{AtStore, EachStore, ChangesAt}}
use Rattle.xa_lines.specs.Printed.{converts}
use Rattle.xa_manager.specs.declared.{call.Call.Call, listing.Listing.Listing, response.Response.Response}
use Rattle.xa_manager.specs.declared.stage.Stage.{Stage, TheVariants.{Working, Ready, Voted as VotedStage, Over}}
use Rattle.xa_manager.specs.{declared.vote_answer.VoteAnswer.VoteAnswer, Ledger.{stage_of, with_stage, IsTransactionOf}}
use Rattle.xa_manager.specs.{Limits.{LimitsAlone, StartsAnew}, Said.{IsGiven, IsListed}}

-- a transaction manager, as contracts see it: how many stores it has, the states of the numbers, the stage of
-- each transaction, what the coordinator has open in each store, its session in each, and the other client's
pub record WholeManager (C T : Type 0) : Type 0 where
  pub stores : ℕ
  pub decisions : List Decision
  pub stages : List Stage
  pub branches : List (Option OpenBranch)
  pub sessions : List C
  pub other_clients : List T

-- only the coordinator's sessions were used, each stays of its log, and there are as many; these are the
-- decisions and stages now
pub record SpeaksAlone {C T : Type 0} (view : C → SessionView) (decisions : List Decision) (stages : List Stage)
    (old new : WholeManager C T) : Type 0 where
  pub logs : EachStore view (λ store. StaysOfLog) old.sessions new.sessions
  pub count : length new.sessions ≡ length old.sessions
  pub stands : new
      ≡ record old { decisions = decisions; stages = stages; branches = new.branches; sessions = new.sessions }

-- what PREPARE answers for a vote
abbrev pub vote_answer_of : Vote → VoteAnswer
vote_answer_of (Vote.Ready prepared) = VoteAnswer.Ready
vote_answer_of (Vote.OnePhase prepared) = VoteAnswer.OnePhase
vote_answer_of (Vote.No prepared store cause) = VoteAnswer.No store cause
vote_answer_of Vote.Nothing = VoteAnswer.Nothing

-- a transaction's stage after its vote
abbrev pub stage_after : Vote → Stage
stage_after (Vote.Ready prepared) = Ready prepared
stage_after (Vote.OnePhase prepared) = VotedStage prepared
stage_after (Vote.No prepared store cause) = VotedStage prepared
stage_after Vote.Nothing = Over

-- a transaction of the next number was begun, of the coordinator `c`, in which no store takes part, and is undecided
pub record IsBegun {C T : Type 0} (old : WholeManager C T) (response : Response) (new : WholeManager C T) : Type 0 where
  pub transaction : Transaction
  pub named : IsTransactionOf old.stores (length old.stages + 1) transaction
  pub nobody : (store : ℕ) → takes_part transaction.participants store ≡ false
  pub told : response ≡ Response.Begun (length old.stages + 1)
  pub stands : new
      ≡ record old { decisions = old.decisions ++ Undecided ∷ []; stages = old.stages ++ Working transaction ∷ [] }

-- all numbers were given, so BEGIN gives none and changes nothing
pub record IsSpent {C T : Type 0} (old : WholeManager C T) (response : Response) (new : WholeManager C T) : Type 0 where
  pub all : length old.decisions ≡ most_numbers
  pub told : response ≡ Response.NumbersSpent
  pub stands : new ≡ old

-- a transaction that takes work worked in a store, with this result; in the other stores nothing changed, nor
-- whether they take part
pub record HasWorked {C T : Type 0} (view : C → SessionView) (number store : ℕ) (statement : Statement)
    (old : WholeManager C T) (response : Response)
    (new : WholeManager C T) : Type 0 where
  pub before : Transaction
  pub after : Transaction
  pub answer : Result Reply WorkFault
  pub known : store < old.stores
  pub working : stage_of old.stages number ≡ Some (Working before)
  pub told : response ≡ Response.Worked answer
  pub keeps : KeepsOthers store before after
  pub works : WorksAs view old.branches new.branches before after store statement answer old.sessions new.sessions
  pub others : ChangesAt store old.sessions new.sessions
  pub marks : ChangesAt store old.branches new.branches
  pub alone : SpeaksAlone view old.decisions (with_stage old.stages number (Working after)) old new

-- the stores of a transaction that takes work voted, this is the vote, and the transaction's stage is that after it
-- (`stage_after`); what is open stays so in the stores that take no part or weren't asked, and after One Phase and No
-- it is as `KeepsMark` says in the store that was asked last
pub record HasVoted {C T : Type 0} (view : C → SessionView) (number : ℕ) (old : WholeManager C T) (response : Response)
    (new : WholeManager C T) : Type 0 where
  pub before : Transaction
  pub vote : Vote
  pub working : stage_of old.stages number ≡ Some (Working before)
  pub told : response ≡ Response.Voted (vote_answer_of vote)
  pub votes : VotesAs view before vote old.sessions new.sessions
  pub marks : KeepsOpen before.participants (asked_by_vote vote) old.branches new.branches
  pub marked_there : KeepsMark before vote old.branches new.branches
  pub alone : SpeaksAlone view old.decisions (with_stage old.stages number (stage_after vote)) old new

-- a transaction with a vote of Ready is decided; or its number is closed or wasn't given, and nothing changes
pub record IsDecided {C T : Type 0} (number : ℕ) (old : WholeManager C T) (response : Response)
    (new : WholeManager C T) : Type 0 where
  pub prepared : Prepared
  pub ready : stage_of old.stages number ≡ Some (Ready prepared)
  pub outcome :
      ((may_be_decided old.decisions number ≡ true) × (response ≡ Response.Decided)
      × (new ≡ record old { decisions = with_decided old.decisions number }))
      ⊎ ((may_be_decided old.decisions number ≡ false) × (response ≡ Response.Closed) × (new ≡ old))

-- a transaction was to end by this closing, and this is how it ended; it is over now. What is open stays so in the
-- stores that take no part or weren't asked
pub record HasEnded {C T : Type 0} (view : C → SessionView) (number : ℕ) (transaction : Transaction) (closing : Closing)
    (old : WholeManager C T)
    (response : Response) (new : WholeManager C T) : Type 0 where
  pub ending : Ending
  pub told : response ≡ Response.Ended ending
  pub ends : EndsAs view old.branches transaction closing ending old.sessions new.sessions
  pub marks : KeepsOpen transaction.participants (asked_by_ending ending) old.branches new.branches
  pub alone : SpeaksAlone view old.decisions (with_stage old.stages number Over) old new

-- a transaction that was voted on was to end as its decision and its vote say, and ended in this way
pub record IsFinished {C T : Type 0} (view : C → SessionView) (number : ℕ) (old : WholeManager C T)
    (response : Response)
    (new : WholeManager C T) : Type 0 where
  pub prepared : Prepared
  pub voted : (stage_of old.stages number ≡ Some (Ready prepared))
      ⊎ (stage_of old.stages number ≡ Some (VotedStage prepared))
  pub of_number : prepared.transaction.number ≡ number
  pub ends : HasEnded view number prepared.transaction (finish_for
      (is_decided old.decisions number) prepared.vote_kind) old response new

-- a transaction that takes work was to be rolled back, and ended in this way
pub record IsAbandoned {C T : Type 0} (view : C → SessionView) (number : ℕ) (old : WholeManager C T)
    (response : Response)
    (new : WholeManager C T) : Type 0 where
  pub before : Transaction
  pub working : stage_of old.stages number ≡ Some (Working before)
  pub ends : HasEnded view number before Closing.RollBack old response new

-- the coordinator's session in a store passes on so many calls, and no session got a statement
pub record IsLimited {S T : Type 0} (store calls : ℕ) (old : WholeManager (Fused S) T) (response : Response)
    (new : WholeManager (Fused S) T) : Type 0 where
  pub known : store < old.stores
  pub told : response ≡ Response.Limited
  pub limited : LimitsAlone store calls old.sessions new.sessions
  pub stands : new ≡ record old { sessions = new.sessions }

-- a new coordinator replaced the old one, over the same sessions, which got no statement; it has nothing open, and each
-- session passes on 2^64 - 1 calls
pub record IsStopped {S T : Type 0} (old : WholeManager (Fused S) T) (response : Response)
    (new : WholeManager (Fused S) T) : Type 0 where
  pub told : response ≡ Response.Stopped
  pub anew : StartsAnew new.branches new.sessions
  pub within : map (λ (s : Fused S). s.inner) new.sessions ≡ map (λ (s : Fused S). s.inner) old.sessions
  pub stands : new ≡ record old { branches = new.branches; sessions = new.sessions }

-- the undecided numbers were closed, and the coordinator recovered by the decisions, with this result. After a report
-- it has nothing open; after a fault it has open, in the stores that it didn't reach, what it had
pub record HasRecovered {C T : Type 0} (view : C → SessionView) (old : WholeManager C T) (response : Response)
    (new : WholeManager C T) : Type 0 where
  pub outcome : Result Report RecoverFault
  pub told : response ≡ Response.Recovered outcome
  pub done : IfOk outcome (λ report. Recovers view new.decisions (codes "c") report old.sessions new.sessions)
  pub broken : IfErr outcome (λ fault. BreaksOff view new.decisions
      (codes "c") fault old.branches new.branches old.sessions new.sessions)
  pub free : OnOk outcome ((store : ℕ) → store < new.stores → slice_get new.branches store ≡ Some None)
  pub marks : IfErr outcome (λ fault. (store : ℕ) → asked_by_fault fault ≤ store
      → slice_get new.branches store ≡ slice_get old.branches store)
  pub alone : SpeaksAlone view (map closed_of old.decisions) old.stages old new

-- the other client's session in a store was given a statement, and this is its answer; no other session got a
-- statement
pub record HasReplied {C T : Type 0} (view : T → SessionView) (store : ℕ) (statement : Statement)
    (old : WholeManager C T) (response : Response)
    (new : WholeManager C T) : Type 0 where
  pub answer : Result Reply Fault
  pub known : store < old.stores
  pub told : response ≡ Response.Replied (converts statement) answer
  pub replies : AtStore view store (IsGiven statement answer) old.other_clients new.other_clients
  pub others : ChangesAt store old.other_clients new.other_clients
  pub stands : new ≡ record old { other_clients = new.other_clients }

-- the other client's session in each store was given XA RECOVER CONVERT XID, and this is what each answered
pub record IsShown {C T : Type 0} (view : T → SessionView) (old : WholeManager C T) (response : Response)
    (new : WholeManager C T) : Type 0 where
  pub listing : Listing
  pub count : length listing.answers.items ≡ old.stores
  pub told : response ≡ Response.Shown listing
  pub each : EachStore view (IsListed listing.answers.items) old.other_clients new.other_clients
  pub stands : new ≡ record old { other_clients = new.other_clients }

-- a call was carried out, by the call; a line that can't be read never is
abbrev pub Carries : {S T : Type 0} → (Fused S → SessionView) → (T → SessionView) → WholeManager (Fused S) T → Call
    → Response → WholeManager (Fused S) T
    → Type 0
Carries view view' old Call.Silent response new = (response ≡ Response.Silent) × (new ≡ old)
Carries view view' old (Call.Unread place) response new = ⊥
Carries view view' old Call.Begin response new = IsBegun old response new ⊎ IsSpent old response new
Carries view view' old (Call.Work number store statement) response new =
    HasWorked view number store statement old response new
Carries view view' old (Call.Prepare number) response new = HasVoted view number old response new
Carries view view' old (Call.Decide number) response new = IsDecided number old response new
Carries view view' old (Call.Finish number) response new = IsFinished view number old response new
Carries view view' old (Call.Abandon number) response new = IsAbandoned view number old response new
Carries view view' old (Call.Fail store calls) response new = IsLimited store calls old response new
Carries view view' old Call.Stop response new = IsStopped old response new
Carries view view' old Call.Recover response new = HasRecovered view old response new
Carries view view' old (Call.At store statement) response new = HasReplied view' store statement old response new
Carries view view' old Call.Show response new = IsShown view' old response new
