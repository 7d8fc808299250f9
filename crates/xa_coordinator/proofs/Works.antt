-- What work in a store comes to, from its statements.
use Rattle.std.proofs.Common.{◌≡◌, inl, inr, ℕ, Bool, true, false, List, [], ◌∷◌, ◌++◌, length, get_or, refl, ap, sym}
use Rattle.std.proofs.{Common.{◌∙◌, subst, append-nil, arith}, lemmas.List.Elements.{All-nil, All-cons, All-append}}
use Rattle.std.proofs.lemmas.Option.{slice_get_within, slice_get-get_or}
use Rattle.std.specs.Prelude.{slice_get, Option, Some, Result, Ok, Err, All}
use Rattle.xa_session.specs.{View.SessionView, Replay.state_at}
use Rattle.xa_coordinator.specs.declared.{branches.OpenBranch.OpenBranch, fault.{Cause.Cause, WorkFault.WorkFault}}
use Rattle.xa_coordinator.specs.declared.fault.Cause.TheVariants.{Session as CauseSession, Refused as CauseRefused}
use Rattle.xa_coordinator.specs.declared.{decisions.Decision.Decision, transaction.Transaction.Transaction}
use Rattle.xa_coordinator.specs.{Agreement.{AddsStatements, AgreesWith, Agrees}, Branch.branch_xid}
use Rattle.xa_coordinator.specs.{OpenBranches.{association_seen, association_in, IsWorking}, Outcomes.branch_of}
use Rattle.xa_coordinator.specs.{Participants.takes_part, Stores.{AtStore, EachStore, ChangesAt}}
use Rattle.xa_coordinator.specs.{Told.{IsDone, IsUndone}, Work.{IsRow, MayBe, AddsAtMost, AddsWork, MayStart, was_open}}
use Rattle.xa_coordinator.specs.{Work.{was_started, IsReplied, IsWorked, IsCut, WorksAs}, Parts.WorksWithin}
use Rattle.xa_coordinator.proofs.{Telling.{adds_then, adds_nothing, open_unstarted}, Agreeing.nothing_agrees}
use Rattle.xa_coordinator.proofs.Walk.{at_then, at_weaker, at_same, only_at}
use Rattle.xa_xid.specs.declared.{xid.Xid.Xid, statement.Statement.Statement}
use Rattle.xa_server.specs.{declared.{association.Association.TheVariants.Active, reply.Reply.Reply}, Step.enters}
use Rattle.xa_server.specs.Locks.{LockLaw}
use Rattle.decision_log.specs.History.{entries_of}

-- ---- at most two statements

-- starting the branch, or finding it open, adds XA START or nothing
may_start_adds : (xid : Xid) (old mid : SessionView) → MayStart xid old mid → AddsAtMost (Statement.Start xid) old mid
may_start_adds xid old there (was_open association) = record { statements = []; is = inl refl; adds = adds_nothing old }
may_start_adds xid old there (was_started mid done) =
    record { statements = Statement.Start xid ∷ []; is = inr refl; adds = done.adds }

-- an answered row statement adds itself or nothing
replied_adds : (row : Statement) (reply : Reply) (xid : Xid) (old new : SessionView) → IsReplied row reply xid old new
    → AddsAtMost row old new
replied_adds row reply xid old new is =
    by (enters (state_at old.base new.known.seen is.place) old.known.number row) refl
  where
    by : (b : Bool) → enters (state_at old.base new.known.seen is.place) old.known.number row ≡ b
        → AddsAtMost row old new
    by true entering =
        record {
          statements = row ∷ [];
          is = inr refl;
          adds = record
              { log = is.log; advances = is.answered.advances; mine = (is.answered.entered entering).mine };
        }
    by false outside =
        record {
          statements = [];
          is = inl refl;
          adds = record {
            log = is.log;
            advances = is.answered.advances;
            mine = (is.answered.outside outside).mine
                ∙ sym (append-nil old.known.mine);
          };
        }

-- starting a branch and then giving a row statement add at most XA START and the statement
both : (xid : Xid) (row : Statement) (old mid new : SessionView) → AddsAtMost (Statement.Start xid) old mid
    → AddsAtMost row mid new → AddsWork xid row old new
both xid row old mid new one two =
    record {
      started = one.statements;
      is_start = one.is;
      worked = two.statements;
      is_row = two.is;
      adds = adds_then one.statements two.statements old mid new one.adds two.adds;
    }

-- a session that adds nothing adds at most any statement
none : (statement : Statement) (old new : SessionView) → AddsStatements [] old new → AddsAtMost statement old new
none statement old new adds = record { statements = []; is = inl refl; adds = adds }

-- work that was answered added at most XA START and the row statement
worked_adds : (row : Statement) (reply : Reply) (xid : Xid) (old new : SessionView) → IsWorked row reply xid old new
    → AddsWork xid row old new
worked_adds row reply xid old new is = both xid row old is.mid new (may_start_adds xid old is.mid is.opened)
    (replied_adds row reply xid is.mid new is.replied)

-- work whose row statement wasn't answered added at most its XA START
cut_adds : (row : Statement) (cause : Cause) (xid : Xid) (old new : SessionView) → IsCut row cause xid old new
    → AddsWork xid row old new
cut_adds row cause xid old new is =
    both xid row old is.mid new (may_start_adds xid old is.mid is.opened) (none row is.mid new is.undone.adds)

-- work whose branch couldn't be started added no statement
unstarted_adds : (row : Statement) (cause : Cause) (xid : Xid) (old new : SessionView)
    → IsUndone (Statement.Start xid) cause old new → AddsWork xid row old new
unstarted_adds row cause xid old new is =
    both xid row old new new (none (Statement.Start xid) old new is.adds) (none row new new (adds_nothing new))

-- ---- agreement

-- a row statement decides nothing, so it agrees with any decisions
row_agrees : (decisions : List Decision) (name : List ℕ) (store : ℕ) (row : Statement) → IsRow row
    → AgreesWith decisions name store row
row_agrees decisions name store (Statement.Start xid) is = tt
row_agrees decisions name store (Statement.End xid) is = tt
row_agrees decisions name store (Statement.Prepare xid) is = tt
row_agrees decisions name store (Statement.Commit xid one_phase) is = absurd is
row_agrees decisions name store (Statement.Rollback xid) is = absurd is
row_agrees decisions name store (Statement.Recover convert) is = tt
row_agrees decisions name store Statement.Unsupported is = tt
row_agrees decisions name store (Statement.Get key) is = tt
row_agrees decisions name store (Statement.Put key value) is = tt
row_agrees decisions name store (Statement.Del key) is = tt
row_agrees decisions name store Statement.Disconnect is = tt

-- what holds of a statement holds of each element of a list that has this statement alone or is empty
maybe_all : (P : Statement → Type 0) (statement : Statement) (list : List Statement) → MayBe statement list
    → P statement → All P list
maybe_all P statement list (inl is) holds = subst (All P) (sym is) (All-nil P)
maybe_all P statement list (inr is) holds = subst (All P) (sym is) (All-cons P statement [] holds (All-nil P))

-- all that work adds agrees with the decisions, whatever they are: it finishes no branch
pub work_agrees : (decisions : List Decision) (name : List ℕ) (store : ℕ) (xid : Xid) (row : Statement) → IsRow row
    → (old new : SessionView)
    → AddsWork xid row old new → Agrees decisions name store old new
work_agrees decisions name store xid row is old new work = record {
  statements = work.started ++ work.worked;
  adds = work.adds;
  each =
      All-append (AgreesWith decisions name store) work.started work.worked
      (maybe_all (AgreesWith decisions name store) (Statement.Start xid) work.started work.is_start tt)
      (maybe_all (AgreesWith decisions name store) row work.worked work.is_row
      (row_agrees decisions name store row is));
}

module _ {S : Type 0} (view : S → SessionView) where
  -- if work changed only one store, and added at most XA START and the row statement there, what each store added
  -- agrees with the decisions
  pub work_agrees_each : (decisions : List Decision) (name : List ℕ) (store : ℕ) (xid : Xid) (row : Statement)
      → IsRow row → (old new : List S)
      → ChangesAt store old new → AtStore view store (AddsWork xid row) old new
      → EachStore view (Agrees decisions name) old new
  work_agrees_each decisions name store xid row is old new changes adds =
      only_at view (Agrees decisions name) store old new changes
      (at_weaker view store (AddsWork xid row) (Agrees decisions name store)
      (work_agrees decisions name store xid row is) old new adds)
      (λ other apart a. nothing_agrees decisions name other a)

  -- ---- what work came to

  module _ (marks marks' : List (Option OpenBranch)) (old new : Transaction) (store : ℕ) (row : Statement) where
    -- what became of a row statement in a branch that was open and ACTIVE is what became of the work
    pub works_open : (result : Result Reply WorkFault) (before after : List S)
        → ((s : S) → slice_get before store ≡ Some s → association_seen (view s) ≡ Active (branch_of old store))
        → takes_part new.participants store ≡ true →
        IsWorking marks' store old.number → WorksWithin view (branch_of old store) store row result before after
        → WorksAs view marks marks' old new store row result before after
    works_open (Ok reply) before after association takes mark is = (
      takes,
      mark,
      λ a b is_a is_b. record {
        mid = view a;
        opened = was_open
            (association a is_a);
        replied = is a b is_a is_b;
      },
    )
    works_open (Err (WorkFault.Session fault)) before after association takes mark is =
        inl (
          takes,
          mark,
          λ a b is_a is_b. record {
            mid = view a;
            opened = was_open
                (association a is_a);
            undone = is a b is_a is_b;
          },
        )
    works_open (Err (WorkFault.Refused error)) before after association takes mark is = absurd is
    works_open (Err WorkFault.Lost) before after association takes mark is = absurd is

    -- what became of a row statement in a branch that was started just before is what became of the work
    pub works_started : (result : Result Reply WorkFault) (before mid after : List S) → length mid ≡ length before →
        AtStore view store (IsDone (Statement.Start (branch_of old store))) before mid → takes_part new.participants
        store ≡ true
        → IsWorking marks' store old.number →
        WorksWithin view (branch_of old store) store row result mid after
        → WorksAs view marks marks' old new store row result before after
    works_started (Ok reply) before mid after count started takes mark is = (
      takes,
      mark,
      at_then view store (IsDone (Statement.Start (branch_of old store))) (IsReplied row reply (branch_of old store))
          (IsWorked row reply (branch_of old store))
          (λ a m b done replied. record { mid = m; opened = was_started m done; replied = replied }) before mid after
          count started is,
    )
    works_started (Err (WorkFault.Session fault)) before mid after count started takes mark is =
        inl (
          takes,
          mark,
          at_then view store (IsDone (Statement.Start (branch_of old store))) (IsUndone row (CauseSession fault))
              (IsCut row (CauseSession fault) (branch_of old store))
              (λ a m b done undone. record { mid = m; opened = was_started m done; undone = undone }) before mid after
              count started is,
        )
    works_started (Err (WorkFault.Refused error)) before mid after count started takes mark is = absurd is
    works_started (Err WorkFault.Lost) before mid after count started takes mark is = absurd is

    -- whatever became of the work, it added at most XA START and the row statement
    pub works_add : (result : Result Reply WorkFault) (before after : List S)
        → WorksAs view marks marks' old new store row result before after
        → AtStore view store (AddsWork (branch_of old store) row) before after
    works_add (Ok reply) before after is =
        at_weaker view store (IsWorked row reply (branch_of old store)) (AddsWork (branch_of old store) row)
        (worked_adds row reply (branch_of old store)) before after is.2
    works_add (Err (WorkFault.Session fault)) before after (inl is) =
        at_weaker view store (IsCut row (CauseSession fault) (branch_of old store)) (AddsWork (branch_of old store) row)
        (cut_adds row (CauseSession fault) (branch_of old store)) before after is.2
    works_add (Err (WorkFault.Session fault)) before after (inr is) =
        at_weaker view store (IsUndone (Statement.Start (branch_of old store)) (CauseSession fault))
        (AddsWork (branch_of old store) row)
        (unstarted_adds row (CauseSession fault) (branch_of old store)) before after is.3
    works_add (Err (WorkFault.Refused error)) before after is =
        at_weaker view store (IsUndone (Statement.Start (branch_of old store)) (CauseRefused error))
        (AddsWork (branch_of old store) row)
        (unstarted_adds row (CauseRefused error) (branch_of old store)) before after is.3
    works_add (Err WorkFault.Lost) before after is =
        at_same view store (AddsWork (branch_of old store) row)
        (λ a. both (branch_of old store) row a a a (none (Statement.Start (branch_of old store)) a a (adds_nothing a))
        (none row a a (adds_nothing a)))
        before after (ap (λ (list : List S). slice_get list store) is.4)

  -- ---- a store that takes part

  -- at most the row statement was added to a branch that was open
  pub within_adds : (store : ℕ) (xid : Xid) (row : Statement) (result : Result Reply WorkFault) (before after : List S)
      → WorksWithin view xid store row result before after → AtStore view store (AddsAtMost row) before after
  within_adds store xid row (Ok reply) before after is =
      at_weaker view store (IsReplied row reply xid) (AddsAtMost row) (replied_adds row reply xid) before after is
  within_adds store xid row (Err (WorkFault.Session fault)) before after is =
      at_weaker view store (IsUndone row (CauseSession fault)) (AddsAtMost row)
      (λ a b undone. none row a b undone.adds) before after is
  within_adds store xid row (Err (WorkFault.Refused error)) before after is = absurd is
  within_adds store xid row (Err WorkFault.Lost) before after is = absurd is

  -- a statement that wasn't carried out added nothing, so at most any row statement
  pub unsaid_adds : (store : ℕ) (row statement : Statement) (cause : Cause) (before after : List S)
      → AtStore view store (IsUndone statement cause) before after → AtStore view store (AddsAtMost row) before after
  unsaid_adds store row statement cause before after is =
      at_weaker view store (IsUndone statement cause) (AddsAtMost row)
      (λ a b undone. none row a b undone.adds) before after is

  -- an XA START that was carried out where the session had a branch open can't be, so anything follows, also that at
  -- most the row statement was added
  pub never_started : ((s : S) → LockLaw (view s).base) → ((s : S)
      → entries_of (view s).known.number (view s).known.seen ≡ (view s).known.mine)
      → (store : ℕ) (xid : Xid) (branch : OpenBranch) (name : List ℕ) (row : Statement) (before mid after : List S)
      → length mid ≡ length before →
      ((s : S) → slice_get before store ≡ Some s → association_seen (view s)
      ≡ association_in branch.phase (branch_xid name branch.number store)) →
      AtStore view store (IsDone (Statement.Start xid)) before mid → AtStore view store (AddsAtMost row) before after
  never_started lawful own store xid branch name row before mid after count is_open started = λ a b is_a is_b.
      let between : S = get_or mid store a in
      let is_between : slice_get mid store ≡ Some between =
      slice_get-get_or mid store a (omega (arith, count, slice_get_within before store a is_a)) in
      absurd (open_unstarted xid branch.phase (branch_xid name branch.number store) (view a) (view between)
      (lawful between) (own a) (own between) (is_open a is_a)
      (started a between is_a is_between))
