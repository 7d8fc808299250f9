-- What the parts of a call did. Only contracts of private functions cite these: no public clause rests on
-- them.
--     PollsAs, asked_by_poll      what became of the participants that were to be prepared;  which were asked
--     total, counted   all that was counted;  with one more branch
--     added_by, added_at      how many entries a session has added;  the session of a store
use Rattle.std.specs.Prelude.{◌≡◌, ◌≢◌, ◌+◌, ◌⊎◌, ℕ, Bool, true, false, List, [], ◌∷◌, ◌++◌, length, slice_get, Option}
use Rattle.std.specs.Prelude.{Some, None, Result, Ok, Err}
use Rattle.xa_coordinator.specs.{Agreement.AddsEach, Branch.branch_xid, Outcomes.{IsClosed, IsVoted, branch_of}}
use Rattle.xa_coordinator.specs.{Participants.{OnlyTakesPart, TwoTakePart, takes_part}, declared.branches.Phase.Phase}
use Rattle.xa_coordinator.specs.{Stores.{AtStore, EachStore, EndsAt}, declared.branches.OpenBranch.OpenBranch}
use Rattle.xa_coordinator.specs.{Told.{IsDone, IsMissing, IsStopped, IsUndone, IsUnfinished}, Work.IsReplied}
use Rattle.xa_coordinator.specs.declared.{closing.Found.{Found, TheVariants.{Closed, Missing}}, fault.Cause.Cause}
use Rattle.xa_coordinator.specs.declared.{fault.{RecoverFault.RecoverFault, WorkFault.WorkFault}, report.Tally.Tally}
use Rattle.xa_coordinator.specs.declared.participants.{Participants.Participants, Participation.Participation}
use Rattle.xa_coordinator.specs.declared.transaction.Transaction.{Transaction}
use Rattle.xa_server.specs.declared.{reply.Reply.Reply, xa_error.XaError.TheVariants.Nota}
use Rattle.xa_session.specs.View.{SessionView}
use Rattle.xa_xid.specs.declared.{statement.Statement.Statement, xid.Xid.Xid}

-- the statement is about a branch: XA START, XA END, XA PREPARE, XA COMMIT or XA ROLLBACK
abbrev pub IsOfBranch : Statement → Type 0
IsOfBranch (Statement.Start xid) = Unit {0}
IsOfBranch (Statement.End xid) = Unit {0}
IsOfBranch (Statement.Prepare xid) = Unit {0}
IsOfBranch (Statement.Commit xid one_phase) = Unit {0}
IsOfBranch (Statement.Rollback xid) = Unit {0}
IsOfBranch statement = ⊥

-- after Ok the statement was carried out; after Err it wasn't, for this cause
abbrev pub IsToldAs : Statement → Result (Unit {0}) Cause → SessionView → SessionView → Type 0
IsToldAs statement (Ok _) old new = IsDone statement old new
IsToldAs statement (Err cause) old new = IsUndone statement cause old new

-- the statement that brings a branch into this phase
abbrev pub statement_into : Phase → Xid → Statement
statement_into Phase.Active xid = Statement.Start xid
statement_into Phase.Idle xid = Statement.End xid

-- what the coordinator may note as open after the statement: that nothing is, whatever the statement was; or a branch,
-- but only after the XA START or XA END that brings it into its phase
abbrev pub LeavesOpen : List ℕ → ℕ → Statement → Option OpenBranch → Type 0
LeavesOpen name store statement None = Unit {0}
LeavesOpen name store statement (Some branch) =
    statement ≡ statement_into branch.phase (branch_xid name branch.number store)

-- what became of a statement that was to finish a branch: after Closed it was added; after Missing it was answered
-- XAER_NOTA; after Err it wasn't carried out, for this cause, which isn't XAER_NOTA
abbrev pub SaysAs : Statement → Result Found Cause → SessionView → SessionView → Type 0
SaysAs statement (Ok Closed) old new = AddsEach (statement ∷ []) old new
SaysAs statement (Ok Missing) old new = IsUndone statement (Cause.Refused Nota) old new
SaysAs statement (Err cause) old new = (cause ≢ Cause.Refused Nota) × IsUndone statement cause old new

-- what finishing a branch did. If XA END comes before the finishing statement (`ends`), it was added first, after
-- Closed and Missing. Closed: the finishing statement was added. Missing: that was answered XAER_NOTA. Err: the branch
-- isn't finished, for this cause
abbrev pub ClosesAs : (ends : Bool) → Statement → Xid → Result Found Cause → SessionView → SessionView → Type 0
ClosesAs ends statement xid (Ok Closed) old new = IsClosed ends statement xid old new
ClosesAs ends statement xid (Ok Missing) old new = IsMissing ends statement xid old new
ClosesAs ends statement xid (Err cause) old new = IsUnfinished ends statement xid cause old new

-- after Ok XA END and XA PREPARE of the branch were added; after Err one of them wasn't carried out, for this cause
abbrev pub PreparesAs : Xid → Result (Unit {0}) Cause → SessionView → SessionView → Type 0
PreparesAs xid (Ok _) old new = AddsEach (Statement.End xid ∷ Statement.Prepare xid ∷ []) old new
PreparesAs xid (Err cause) old new = IsStopped true (Statement.Prepare xid) xid cause old new

-- the branch of a store was finished, and the list is as it was; or it wasn't known there, and the store was added to
-- the list
abbrev pub ClosesNext : {S : Type 0} → (S → SessionView) → (ends : Bool) → Statement → Xid → ℕ
    → (listed listed' : List ℕ) → List S → List S → Type 0
ClosesNext view ends statement xid store listed listed' old new =
    ((listed' ≡ listed) × AtStore view store (IsClosed ends statement xid) old new)
    ⊎ ((listed' ≡ listed ++ store ∷ []) × AtStore view store (IsMissing ends statement xid) old new)

-- Ok: each participant's branch was ended and prepared. Err: that of this store wasn't, for this cause, those of the
-- participants below it were, and the stores above it got no statement
abbrev pub PollsAs : {S : Type 0} → (S → SessionView) → Transaction → Result (Unit {0}) (ℕ × Cause) → List S → List S
    → Type 0
PollsAs view transaction (Ok _) old new =
    EachStore view (λ store. IsVoted (branch_of transaction store) (takes_part transaction.participants store)) old new
PollsAs view transaction (Err (store, cause)) old new =
    (takes_part transaction.participants store ≡ true)
    × EndsAt view (λ other. IsVoted (branch_of transaction other) (takes_part transaction.participants other))
    store (IsStopped true (Statement.Prepare (branch_of transaction store)) (branch_of transaction store) cause) old new

-- the stores below this number were asked, if they take part; all stores are below 16
abbrev pub asked_by_poll : Result (Unit {0}) (ℕ × Cause) → ℕ
asked_by_poll (Ok _) = 16
asked_by_poll (Err (store, cause)) = store + 1

-- how many stores take part: none, one, or more
abbrev pub IsParticipation : Participants → Participation → Type 0
IsParticipation participants Participation.Nobody = (store : ℕ) → takes_part participants store ≡ false
IsParticipation participants (Participation.Single store) = OnlyTakesPart participants store
IsParticipation participants Participation.Several = TwoTakePart participants

-- what became of a row statement in a branch that is ACTIVE: it was answered there, or not, for the session's fault; no
-- other fault comes
abbrev pub WorksWithin : {S : Type 0} → (S → SessionView) → Xid → ℕ → Statement → Result Reply WorkFault → List S
    → List S → Type 0
WorksWithin view xid store row (Ok reply) before after = AtStore view store (IsReplied row reply xid) before after
WorksWithin view xid store row (Err (WorkFault.Session fault)) before after =
    AtStore view store (IsUndone row (Cause.Session fault)) before after
WorksWithin view xid store row (Err (WorkFault.Refused error)) before after = ⊥
WorksWithin view xid store row (Err WorkFault.Lost) before after = ⊥

-- how many branches a recovery counted: committed, rolled back and missing ones
abbrev pub total : Tally → ℕ
total tally = tally.committed + tally.rolled_back + tally.missing

-- the tally with one more branch: missing, or else committed if its number is decided, or else rolled back
abbrev pub counted : Tally → (decided : Bool) → Found → Tally
counted tally true Closed = record tally { committed = tally.committed + 1 }
counted tally false Closed = record tally { rolled_back = tally.rolled_back + 1 }
counted tally decided Missing = record tally { missing = tally.missing + 1 }

-- the fault of a recovery in which this store didn't carry a statement out, for this cause
abbrev pub fault_by : ℕ → Cause → RecoverFault
fault_by store (Cause.Session fault) = RecoverFault.Session store fault
fault_by store (Cause.Refused error) = RecoverFault.Refused store error

-- how many entries a session has added; none if there is no session
abbrev pub added_by : {S : Type 0} → (S → SessionView) → Option S → ℕ
added_by view None = 0
added_by view (Some session) = length (view session).known.mine

-- how many entries the session of a store has added
unfoldable pub added_at : {S : Type 0} → (S → SessionView) → List S → ℕ → ℕ
added_at view stores store = added_by view (slice_get stores store)
