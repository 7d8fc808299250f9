-- What holds of a manager through calls of which none is RECOVER.
use Rattle.std.proofs.Common.{◌≡◌, ◌⊎◌, ◌<◌, ◌^◌, ℕ, Bool, true, false, List, length, map, refl, ap, sym, ◌∙◌, subst}
use Rattle.std.proofs.{Common.{inl, inr, ⊎_elim, Some, arith}, lemmas.Bool.Decides.{eqb_tells, nat_tests}}
use Rattle.std.proofs.lemmas.{Option.{slice_get-get_or, slice_get_within}, Grind.common_steps}
use Rattle.std.specs.Prelude.{slice_get, Contains, codes}
use Rattle.xa_xid.specs.declared.{xid.Xid.Xid, statement.Statement.Statement}
use Rattle.xa_xid.specs.declared.statement.Statement.TheVariants.{Start, Prepare, Commit, Rollback}
use Rattle.xa_session.specs.{Answer.entry_of, View.SessionView}
use Rattle.xa_coordinator.specs.{Branch.IsBranchOf, Decisions.is_decided, Participants.{takes_part, OnlyTakesPart}}
use Rattle.xa_coordinator.specs.Outcomes.{branch_of, finish_statement, finish_for, VotesAs, IsVoted}
use Rattle.xa_coordinator.specs.declared.closing.Closing.{Closing, TheVariants.{InTwoPhases, InOnePhase, RollBack}}
use Rattle.xa_coordinator.specs.declared.transaction.{Prepared.Prepared, Transaction.Transaction, VoteKind.VoteKind}
use Rattle.xa_coordinator.specs.declared.{vote.Vote.Vote, store.LastingStore.LastingStore}
use Rattle.xa_coordinator.{specs.{Lasting.{own_view, other_alone}, Fusing.limited}, proofs.Listed.number_behind_is}
use Rattle.xa_manager.specs.{Beside.{CarriesBeside, LeavesAlone}, Calls.takes_rows, declared.response.Response.Response}
use Rattle.xa_manager.specs.declared.{call.Call.Call, stage.Stage.{Stage, TheVariants.{Working, Ready, Voted, Over}}}
use Rattle.xa_manager.specs.Carried.{HasWorked, HasVoted, IsFinished, IsAbandoned, HasEnded, stage_after}
use Rattle.xa_manager.specs.{Ledger.{stage_of, IsTransactionOf}, Runs.{Managing, IsAnswered}}
use Rattle.xa_manager.{specs.Atomic.{branch_in, HasAdded, IsPlain, IsAlone}, proofs.Stages.kept_voted}
use Rattle.xa_manager.proofs.States.{worked_kept, voted_kept, voted_ready}
use Rattle.xa_manager.proofs.{Added.{ending_adds, vote_adds, work_adds, work_keeps, adds_known}, Holding.Session}
use Rattle.xa_manager.proofs.Holding.{MayStandDecided, TookPart, IsUndecidedOver, Goes, Holds, Grows, grows_each}
use Rattle.xa_manager.proofs.Holding.{grew_cases, Never, quiet}
use Rattle.xa_manager.proofs.{Moving.{acts, begins, decides_one, stage_put, with_acts}, Said.{as_long, same_seen}}

-- ---- sessions that weren't spoken to

-- sessions that are the same but for their limits have added nothing
pub grows_within : (old new : List Session) → map (λ (s : Session). s.inner) new ≡ map (λ (s : Session). s.inner) old
    → Grows Never old new
grows_within old new same =
    let inner : Session → LastingStore = λ s. s.inner in
    grows_each (limited own_view) Never old new (as_long inner old new same)
    (λ store before after was is.
    adds_known (Never store) (limited own_view before) (limited own_view after)
    (ap (λ (c : LastingStore). (own_view c).known) (same_seen inner old new store before after same was is)))

-- sessions that a call left alone have added nothing
pub grows_alone : (old new : List Session) → LeavesAlone own_view old new → Grows Never old new
grows_alone old new is =
    grows_each (limited own_view) Never old new (as_long (λ (s : Session). s.left) old new is.left)
    (λ store before after is_before is_after.
    adds_known (Never store) (limited own_view before) (limited own_view after)
    (is.alone store before after is_before is_after).known)

-- ---- numbers and branches

-- equal branches of the coordinator in one store are of the same transaction
pub one_number : (number other store : ℕ) → number < 2 ^ 64 → other < 2 ^ 64
    → branch_in number store ≡ branch_in other store → number ≡ other
one_number number other store fits fits' same =
    sym ((number_behind_is (codes "c") number store (branch_in number store) (record { fits = fits; is = refl })).1)
    ∙ (number_behind_is (codes "c") other store (branch_in number store) (record { fits = fits'; is = same })).1

-- the branch of a kept transaction is the one that its number and the manager's name `c` make
named_branch : (stores number : ℕ) (transaction : Transaction) (store : ℕ) → IsTransactionOf stores number transaction
    → branch_of transaction store ≡ branch_in number store
named_branch stores number transaction store is = cc

-- the number of a transaction that is kept fits into 64 bits
fits_number : (stores number : ℕ) (transaction : Transaction) → IsTransactionOf stores number transaction
    → number < 2 ^ 64
fits_number stores number transaction is = subst (λ n. n < 2 ^ 64) is.number transaction.eight_bytes

-- ---- statements other than XA START, XA COMMIT and XA ROLLBACK

-- any statement but XA START, XA COMMIT and XA ROLLBACK; DISCONNECT, too, though it may end a branch
abbrev Harmless : Statement → Type 0
Harmless (Start xid) = ⊥
Harmless (Commit xid one_phase) = ⊥
Harmless (Rollback xid) = ⊥
Harmless statement = Unit {0}

-- `Goes` holds of any harmless statement, whatever holds of the manager
harmless_goes : (manager : Managing) (store : ℕ) (statement : Statement) → Harmless statement
    → Goes manager store statement
harmless_goes manager store statement is = grind (arith)

-- GET, PUT and DEL are harmless
row_harmless : (row : Statement) → takes_rows row ≡ true → Harmless row
row_harmless row is = grind (arith)

-- ---- WORK

-- what work adds: harmless statements, and an XA START of the transaction's branch if the store takes part then
abbrev Begins : Transaction → Transaction → ℕ → Statement → Type 0
Begins before after store statement =
    Harmless statement ⊎ ((statement ≡ Start (branch_of before store)) × (takes_part after.participants store ≡ true))

-- `Goes` holds of the XA START and the harmless statements of work
begins_goes : (manager : Managing) (before after : Transaction) (store : ℕ) (statement : Statement)
    → Begins before after store statement
    → Goes manager store statement
begins_goes manager before after store statement is = grind (arith, harmless_goes)

-- a call of WORK keeps what holds of the manager
pub works : (number store : ℕ) (row : Statement) (old new : Managing) (response : Response) → takes_rows row ≡ true
    → HasWorked (limited own_view) number store row old response new → Holds old → Holds new
works number store row old new response rows is holds =
    subst Holds (sym is.alone.stands)
    (acts (Begins is.before is.after) number (Working is.before) (Working is.after) old new.branches
    new.sessions (record {
      before = is.working;
      opened = λ e. absurd (cc);
      grows = grows_each (limited own_view) (Begins is.before is.after) old.sessions new.sessions is.alone.count
          (work_adds (limited own_view) (Begins is.before is.after) old.branches new.branches is.before is.after store
          row is.answer old.sessions new.sessions
          (λ takes. inr (refl, takes)) (inl (row_harmless row rows)) is.others is.works);
      kept = worked_kept store old.stores number is.before is.after is.keeps named;
      ready = λ prepared e. absurd (cc);
      alone = λ prepared e one. absurd (cc);
      decided = λ decided. undecided decided;
      took = took;
      starts = λ other there fits begun. elim begun [
        | inl harmless ↦ absurd harmless
        | inr started ↦ (
          one_number other number there fits (fits_number old.stores number is.before named)
              (let same : branch_in other there ≡ branch_of is.before there = let e = started.0 in cc in
              same ∙ named_branch old.stores number is.before there named),
          started.1,
          λ decided. undecided decided,
        )
      ];
      prepares = λ prepared e. absurd (cc);
      goes = begins_goes (with_acts old number (Working is.after) new.branches new.sessions) is.before is.after;
    }) holds)
  where
    named : IsTransactionOf old.stores number is.before
    named = holds.kept number (Working is.before) is.before is.working refl

    undecided : {A : Type 0} → is_decided old.decisions number ≡ true → A
    undecided decided = absurd (subst MayStandDecided is.working (holds.decided number decided))

    took : (other : ℕ) → TookPart other (Some (Working is.before)) → TookPart other (Some (Working is.after))
    took other takes = elim (eqb_tells other store) [
      | inl (_, here) ↦
          let there : takes_part is.before.participants store ≡ true =
          subst (λ n. takes_part is.before.participants n ≡ true) here takes in
          subst (λ n. takes_part is.after.participants n ≡ true) (sym here)
          (work_keeps (limited own_view) old.branches new.branches is.before is.after store row is.answer old.sessions
          new.sessions is.works there)
      | inr (_, apart) ↦ is.keeps.others other apart ∙ takes
    ]

-- ---- PREPARE

-- what voting adds: only harmless statements, as XA END and XA PREPARE are
abbrev Votes : ℕ → Statement → Type 0
Votes store statement = Harmless statement

-- a vote for one phase comes from a transaction with one participant
vote_alone : (before : Transaction) (vote : Vote) (old new : List Session)
    → VotesAs (limited own_view) before vote old new
    → (prepared : Prepared)
    → stage_after vote ≡ Voted prepared → prepared.vote_kind ≡ VoteKind.OnePhase
    → (store : ℕ) × OnlyTakesPart prepared.transaction.participants store
vote_alone before vote old new is prepared stage one = grind (arith)

-- after a vote each participant still counts as one
vote_took : (before : Transaction) (vote : Vote) (old new : List Session)
    → VotesAs (limited own_view) before vote old new → (store : ℕ)
    → takes_part before.participants store ≡ true → TookPart store (Some (stage_after vote))
vote_took before vote old new is store takes = grind (arith)

-- a branch of which the store voted yes was prepared: its XA PREPARE is among the session's entries
two_added : (xid : Xid) (takes : Bool) (old new : SessionView) → takes ≡ true → IsVoted xid takes old new
    → Contains new.known.mine (entry_of old.known.number (Prepare xid))
two_added xid takes old new is adds = grind (arith, common_steps, nat_tests)

-- each participant of a vote of Ready was prepared
vote_prepares : (before : Transaction) (vote : Vote) (old new : List Session) → length new ≡ length old
    → VotesAs (limited own_view) before vote old new
    → (prepared : Prepared)
    → stage_after vote ≡ Ready prepared → (store : ℕ) (session : Session) → slice_get new store ≡ Some session
    → takes_part before.participants store ≡ true
    → HasAdded session (Prepare (branch_of before store))
vote_prepares before (Vote.Ready p) old new count is prepared stage store session there takes =
    let below : store < length old = let there = slice_get_within new store session there in
    omega (arith, there, count) in
    let was = slice_get-get_or old store session below in
    two_added (branch_of before store) (takes_part before.participants store) _ (limited own_view session) takes
    (is.2 store _ session was there)
vote_prepares before vote old new count is prepared stage store session there takes = absurd (cc)

-- a call of PREPARE keeps what holds of the manager
pub votes : (number : ℕ) (old new : Managing) (response : Response)
    → HasVoted (limited own_view) number old response new → Holds old → Holds new
votes number old new response is holds =
    subst Holds (sym is.alone.stands)
    (acts Votes number (Working is.before) (stage_after is.vote) old new.branches new.sessions (record {
      before = is.working;
      opened = λ e. absurd (cc);
      grows = grows;
      kept = voted_kept (limited own_view) is.before is.vote old.sessions new.sessions old.stores number is.votes named;
      ready = voted_ready (limited own_view) is.before is.vote old.sessions new.sessions is.votes;
      alone = vote_alone is.before is.vote old.sessions new.sessions is.votes;
      decided = λ decided. absurd (subst MayStandDecided is.working (holds.decided number decided));
      took = vote_took is.before is.vote old.sessions new.sessions is.votes;
      starts = λ other there fits begun. absurd begun;
      prepares = λ prepared e store session there added.
          let grew = grows store session there in
          elim (grew_cases Votes store old.sessions session (Start (branch_in number store)) grew added) [
            | inl before ↦
                let takes = subst (TookPart store) is.working (holds.began number store grew.before
                (fits_number old.stores number is.before named) grew.there before) in
                subst (λ xid. HasAdded session (Prepare xid)) (named_branch old.stores number is.before store named)
                (vote_prepares is.before is.vote old.sessions new.sessions is.alone.count is.votes prepared e store
                session there takes)
            | inr now ↦ absurd now
          ];
      goes = harmless_goes (with_acts old number (stage_after is.vote) new.branches new.sessions);
    }) holds)
  where
    named : IsTransactionOf old.stores number is.before
    named = holds.kept number (Working is.before) is.before is.working refl

    grows : Grows Votes old.sessions new.sessions
    grows = grows_each (limited own_view) Votes old.sessions new.sessions is.alone.count
        (vote_adds (limited own_view) Votes is.before is.vote old.sessions new.sessions (λ store. tt)
        (λ store. tt) is.votes)

-- ---- FINISH and ABANDON

-- what ending adds: harmless statements, and the statement that finishes the branch of a participant
abbrev Ends : Transaction → Closing → ℕ → Statement → Type 0
Ends transaction closing store statement =
    Harmless statement ⊎ ((statement ≡ finish_statement closing (branch_of transaction store))
    × (takes_part transaction.participants store ≡ true))

-- no statement that ends a transaction begins a branch
no_start : (transaction : Transaction) (closing : Closing) (store : ℕ) (xid : Xid)
    → Ends transaction closing store (Start xid) → ⊥
no_start transaction closing store xid is = grind (arith)

-- how a transaction may be finished: in two phases if it is decided; else by a rollback, or in one phase if only one
-- store takes part
abbrev May : Managing → ℕ → Transaction → Closing → Type 0
May old number transaction InTwoPhases = is_decided old.decisions number ≡ true
May old number transaction InOnePhase =
    (is_decided old.decisions number ≡ false) × ((store : ℕ) × OnlyTakesPart transaction.participants store)
May old number transaction RollBack = is_decided old.decisions number ≡ false

-- a call that ends a transaction keeps what holds, if its closing is what the decision allows
pub ends : (number : ℕ) (was : Stage) (transaction : Transaction) (closing : Closing) (old new : Managing)
    (response : Response)
    → stage_of old.stages number ≡ Some was → (was ≡ Over → ⊥) → IsTransactionOf old.stores number transaction
    → ((store : ℕ) → TookPart store (Some was) → takes_part transaction.participants store ≡ true)
    → May old number transaction closing
    → HasEnded (limited own_view) number transaction closing old response new → Holds old → Holds new
ends number was transaction closing old new response there opened named takes may is holds =
    subst Holds (sym is.alone.stands)
    (acts kind number was Over old new.branches new.sessions (record {
      before = there;
      opened = opened;
      grows = grows;
      kept = λ t e. absurd (cc);
      ready = λ prepared e. absurd (cc);
      alone = λ prepared e one. absurd (cc);
      decided = λ decided. tt;
      took = λ store took. tt;
      starts = λ other store fits begun. absurd (no_start transaction closing store (branch_in other store) begun);
      prepares = λ prepared e. absurd (cc);
      goes = goes;
    }) holds)
  where
    kind : ℕ → Statement → Type 0
    kind = Ends transaction closing

    next : Managing
    next = with_acts old number Over new.branches new.sessions

    grows : Grows (Ends transaction closing) old.sessions new.sessions
    grows = grows_each (limited own_view) (Ends transaction closing) old.sessions new.sessions is.alone.count
        (ending_adds (limited own_view) (Ends transaction closing) old.branches transaction closing is.ending
        old.sessions new.sessions (λ store. inl tt)
        (λ store part. inr (refl, part)) is.ends)

    over : stage_of next.stages number ≡ Some Over
    over = elim (stage_put old.stages number number was Over there) [
      | inl put ↦ put.1
      | inr apart ↦ absurd (apart.0 refl)
    ]

    branch : (store : ℕ) → IsBranchOf (codes "c") number store (branch_of transaction store)
    branch store =
        record {
          fits = fits_number old.stores number transaction named;
          is = named_branch old.stores number transaction
              store named;
        }

    undecided : is_decided old.decisions number ≡ false → IsUndecidedOver next number
    undecided is_not = record { undecided = is_not; over = over }

    alone : (one store : ℕ) → OnlyTakesPart transaction.participants one
        → takes_part transaction.participants store ≡ true
        → IsAlone new.sessions number store
    alone one store only part other session at added =
        let grew = grows other session at in
        elim (grew_cases (Ends transaction closing) other old.sessions session
        (Start (branch_in number other)) grew added) [
          | inl before ↦
              let took = holds.began number other grew.before (fits_number old.stores number transaction named)
              grew.there before in
              only.others other (takes other (subst (TookPart other) there took)) ∙ sym (only.others store part)
          | inr now ↦ absurd (no_start transaction closing other (branch_in number other) now)
        ]

    finish_goes : (c : Closing) → May old number transaction c → (store : ℕ)
        → takes_part transaction.participants store ≡ true
        → Goes next store (finish_statement c (branch_of transaction store))
    finish_goes InTwoPhases allowed store part = (number, branch store, allowed)
    finish_goes InOnePhase allowed store part =
        (number, branch store, undecided allowed.0, alone allowed.1.0 store allowed.1.1 part)
    finish_goes RollBack allowed store part = (number, branch store, undecided allowed)

    goes : (store : ℕ) (statement : Statement) → Ends transaction closing store statement → Goes next store statement
    goes store statement (inl harmless) = harmless_goes next store statement harmless
    goes store statement (inr finish) = subst (Goes next store) (sym finish.0) (finish_goes closing may store finish.1)

-- a transaction that was voted on may be finished as its decision and its vote say
may_finish : (old : Managing) (number : ℕ) (prepared : Prepared) → Holds old
    → (stage_of old.stages number ≡ Some (Ready prepared)) ⊎ (stage_of old.stages number ≡ Some (Voted prepared))
    → May old number prepared.transaction (finish_for (is_decided old.decisions number) prepared.vote_kind)
may_finish old number prepared holds voted = grind (arith)

-- a call of FINISH keeps what holds of the manager
pub finishes : (number : ℕ) (old new : Managing) (response : Response)
    → IsFinished (limited own_view) number old response new → Holds old → Holds new
finishes number old new response is holds =
    ⊎_elim (λ there. finished (Ready is.prepared) there (λ e. absurd (cc)) (λ store took. took))
    (λ there. finished (Voted is.prepared) there (λ e. absurd (cc)) (λ store took. took)) is.voted
  where
    named : IsTransactionOf old.stores number is.prepared.transaction
    named = kept_voted old.stores old.stages number is.prepared holds.kept is.voted

    finished : (was : Stage) → stage_of old.stages number ≡ Some was → (was ≡ Over → ⊥)
        → ((store : ℕ) → TookPart store (Some was) → takes_part is.prepared.transaction.participants store ≡ true)
        → Holds new
    finished was there opened takes =
        ends number was is.prepared.transaction
        (finish_for (is_decided old.decisions number) is.prepared.vote_kind) old new response there opened named takes
        (may_finish old number is.prepared holds is.voted) is.ends holds

-- a test that can't hold fails
not_decided : (b : Bool) → (b ≡ true → ⊥) → b ≡ false
not_decided b is = grind (arith)

-- a call of ABANDON keeps what holds of the manager
pub abandons : (number : ℕ) (old new : Managing) (response : Response)
    → IsAbandoned (limited own_view) number old response new → Holds old → Holds new
abandons number old new response is holds =
    ends number (Working is.before) is.before RollBack old new response is.working (λ e. absurd (cc))
    (holds.kept number (Working is.before) is.before is.working refl) (λ store took. took)
    (not_decided (is_decided old.decisions number) (λ decided. subst MayStandDecided is.working
    (holds.decided number decided))) is.ends holds

-- ---- each call

-- each call but RECOVER keeps what holds of the manager, if it is carried out
pub carried_holds : (old new : Managing) (call : Call) (response : Response) → IsPlain call
    → CarriesBeside own_view other_alone own_view old call response new
    → Holds old → Holds new
carried_holds old new Call.Silent response plain is holds = subst Holds (sym is.0.1) holds
carried_holds old new (Call.Unread place) response plain is holds = absurd is.0
carried_holds old new Call.Begin response plain is holds =
    ⊎_elim (λ begun. begins begun.transaction old new begun.named begun.stands holds)
    (λ spent. subst Holds (sym spent.stands) holds) is.0
carried_holds old new (Call.Work number store statement) response plain is holds =
    works number store statement old new response plain is.0 holds
carried_holds old new (Call.Prepare number) response plain is holds = votes number old new response is.0 holds
carried_holds old new (Call.Decide number) response plain is holds =
    ⊎_elim (λ done. decides_one number is.0.prepared old new is.0.ready done.2 holds)
    (λ closed. subst Holds (sym closed.2) holds) is.0.outcome
carried_holds old new (Call.Finish number) response plain is holds = finishes number old new response is.0 holds
carried_holds old new (Call.Abandon number) response plain is holds = abandons number old new response is.0 holds
carried_holds old new (Call.Fail store calls) response plain is holds =
    subst Holds (sym is.0.stands)
    (quiet old old.branches new.sessions (grows_within old.sessions new.sessions is.0.limited.within) holds)
carried_holds old new Call.Stop response plain is holds =
    subst Holds (sym is.0.stands)
    (quiet old new.branches new.sessions (grows_within old.sessions new.sessions is.0.within) holds)
carried_holds old new Call.Recover response plain is holds = absurd plain
carried_holds old new (Call.At store statement) response plain is holds =
    subst Holds (sym is.stands)
    (quiet old old.branches new.sessions (grows_alone old.sessions new.sessions is.alone) holds)
carried_holds old new Call.Show response plain is holds =
    subst Holds (sym is.stands)
    (quiet old old.branches new.sessions (grows_alone old.sessions new.sessions is.alone) holds)

-- each call but RECOVER keeps what holds of the manager: one that is refused changes nothing
pub answered_holds : (old new : Managing) (call : Call) (response : Response) → IsPlain call
    → IsAnswered old call response new → Holds old → Holds new
answered_holds old new call response plain is holds = grind (arith, carried_holds)
