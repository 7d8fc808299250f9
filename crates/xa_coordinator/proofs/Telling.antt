-- What an answered statement adds, and what it leaves open.
use Rattle.std.proofs.Common.{◌≡◌, ℕ, true, false, List, [], ◌∷◌, ◌++◌, length, arith, take, refl, ap, sym, ◌∙◌, subst}
use Rattle.std.{proofs.{Common.{append-nil, append_assoc}, lemmas.List.map-append}, specs.Prelude.{not, ◌&&◌, map}}
use Rattle.xa_xid.specs.declared.{xid.Xid.Xid, statement.Statement.Statement}
use Rattle.xa_server.specs.{State.{State, association_of}, Locks.LockLaw, declared.association.Association.Association}
use Rattle.xa_server.specs.{declared.{reply.Reply.TheVariants.Refused, xa_error.XaError.XaError}, Replies.reply_to}
use Rattle.xa_server.{specs.Step.{enters, may_enter, is_refused, after}, proofs.Accepted.accepted_start}
use Rattle.decision_log.specs.{History.entries_of, declared.known.Known.Known}
use Rattle.xa_session.specs.{Answer.{entry_of, IsAnswered, IsUnanswered}, Replay.{state_after, state_at}}
use Rattle.xa_session.specs.{declared.answer.Answer.Answer, View.{SessionView, StaysOfLog, Takes}}
use Rattle.xa_session.proofs.Answering.{accepted_there, refused_unanswered, advances_through, fails_unanswered}
use Rattle.xa_session.proofs.{Answering.unanswered_itself, Views.{stays_itself, stays_through, takes_through}}
use Rattle.xa_session.proofs.OwnAssociations.{started, ended}
use Rattle.xa_session.proofs.Associations.{law_seen, association_at, association_unanswered, state_entered}
use Rattle.xa_coordinator.specs.{Agreement.{AddsStatements, AddsEach}, Told.{IsDone, IsUndone, HasCause}}
use Rattle.xa_coordinator.specs.{Parts.{IsOfBranch, statement_into}, OpenBranches.{association_seen, association_in}}
use Rattle.xa_coordinator.specs.declared.{branches.Phase.{Phase, TheVariants.{Active, Idle}}, fault.Cause.Cause}

-- a statement about a branch enters where it isn't refused
enters_unrefused : (state : State) (session : ℕ) (statement : Statement) → IsOfBranch statement
    → is_refused (reply_to state session statement) ≡ false
    → enters state session statement ≡ true
unfolding enters may_enter
enters_unrefused state session (Statement.Start xid) is accepted = ap (λ b. not b && true) accepted
enters_unrefused state session (Statement.End xid) is accepted = ap (λ b. not b && true) accepted
enters_unrefused state session (Statement.Prepare xid) is accepted = ap (λ b. not b && true) accepted
enters_unrefused state session (Statement.Commit xid one_phase) is accepted = ap (λ b. not b && true) accepted
enters_unrefused state session (Statement.Rollback xid) is accepted = ap (λ b. not b && true) accepted
enters_unrefused state session (Statement.Recover convert) is accepted = absurd is
enters_unrefused state session Statement.Unsupported is accepted = absurd is
enters_unrefused state session (Statement.Get key) is accepted = absurd is
enters_unrefused state session (Statement.Put key value) is accepted = absurd is
enters_unrefused state session (Statement.Del key) is accepted = absurd is
enters_unrefused state session Statement.Disconnect is accepted = absurd is

-- a statement about a branch that wasn't refused entered the history at its answer's place
pub entering_there : (base : State) (statement : Statement) (answer : Answer) (old new : Known) → IsOfBranch statement
    → IsAnswered base statement answer old new → is_refused answer.reply ≡ false →
    enters (state_at base new.seen answer.place) old.number statement ≡ true
entering_there base statement answer old new kind is accepted =
    enters_unrefused (state_at base new.seen answer.place) old.number statement kind
    (accepted_there base statement answer old new is accepted)

-- a statement about a branch whose answer isn't a refusal was carried out: it is the session's next entry
pub is_done : (statement : Statement) (answer : Answer) (old new : SessionView) → IsOfBranch statement
    → StaysOfLog old new
    → IsAnswered old.base statement answer old.known new.known → Takes 1 old.left new.left
    → is_refused answer.reply ≡ false
    → IsDone statement old new
is_done statement answer old new kind stays is takes accepted = record {
  answer = answer;
  answered = is;
  accepted = accepted;
  adds =
      record {
        log = stays;
        advances = is.advances;
        mine = (is.entered
            (entering_there old.base statement answer old.known new.known kind is accepted)).mine;
      };
  takes = takes;
}

-- ---- what the session has open

-- after an XA START or XA END that was carried out the session has that branch open, in that phase
pub association_done : (old new : SessionView) (phase : Phase) (xid : Xid) → LockLaw new.base
    → entries_of old.known.number old.known.seen ≡ old.known.mine
    → entries_of new.known.number new.known.seen ≡ new.known.mine →
    IsDone (statement_into phase xid) old new → association_seen new ≡ association_in phase xid
association_done old new phase xid law own_old own_new is =
    let stays : StaysOfLog old new = is.adds.log in
    let base : State = old.base in
    let number : ℕ = old.known.number in
    let place : ℕ = is.answer.place in
    let law_base : LockLaw base = subst LockLaw stays.base law in
    let there : State = state_at base new.known.seen place in
    let kept : LockLaw there = law_seen base (take place new.known.seen) law_base in
    let accepted = accepted_there base (statement_into phase xid) is.answer old.known new.known is.answered
    is.accepted in
    let entering = entering_there base (statement_into phase xid) is.answer old.known new.known
    (of_branch phase xid) is.answered is.accepted in
    ap (λ b. association_of (state_after b new.known.seen) new.known.number) stays.base
    ∙ ap (association_of (state_after base new.known.seen)) is.answered.advances.number
    ∙ ap (λ state. association_of state number) (state_entered base
    (statement_into phase xid) is.answer old.known new.known is.answered entering)
    ∙ opened phase there kept number accepted
  where
    of_branch : (phase : Phase) (xid : Xid) → IsOfBranch (statement_into phase xid)
    of_branch Active xid = tt
    of_branch Idle xid = tt

    opened : (phase : Phase) (state : State) → LockLaw state → (session : ℕ)
        → is_refused (reply_to state session (statement_into phase xid)) ≡ false
        → association_of (after state session (statement_into phase xid)) session ≡ association_in phase xid
    opened Active state law session accepted = started state law session xid accepted
    opened Idle state law session accepted = ended state law session xid accepted

-- XA START isn't carried out where the session has a branch open
pub open_unstarted : (xid : Xid) (phase : Phase) (other : Xid) (old new : SessionView) → LockLaw new.base
    → entries_of old.known.number old.known.seen ≡ old.known.mine
    → entries_of new.known.number new.known.seen ≡ new.known.mine →
    association_seen old ≡ association_in phase other → IsDone (Statement.Start xid) old new → ⊥
unfolding reply_to
open_unstarted xid phase other old new law own_old own_new open_one is =
    let base : State = old.base in
    let there : State = state_at base new.known.seen is.answer.place in
    let free : association_of there old.known.number ≡ Association.Free =
    (accepted_start there (association_of there old.known.number) xid
    (accepted_there base (Statement.Start xid) is.answer old.known new.known is.answered is.accepted)).0 in
    apart phase
    (sym free
    ∙ association_at base (subst LockLaw is.adds.log.base law)
    (Statement.Start xid) is.answer old.known new.known is.answered own_old own_new
    ∙ open_one)
  where
    apart : (phase : Phase) → Association.Free ≡ association_in phase other → ⊥
    apart Active e = cc
    apart Idle e = cc

-- nothing is added by a statement that is refused, or that a session couldn't answer
cause_unanswered : (statement : Statement) (cause : Cause) (old new : SessionView) → HasCause statement cause old new
    → IsUnanswered old.known new.known
cause_unanswered statement (Cause.Session fault) old new is =
    fails_unanswered old.turns old.identity.capacity old.base statement fault old.known new.known is.0
cause_unanswered statement (Cause.Refused error) old new is =
    refused_unanswered old.base statement (record { place = is.place; reply = Refused error }) old.known new.known
    is.answered refl

-- a statement that wasn't carried out for a cause, by a session that stays of its log, is undone: it added nothing
pub is_undone : (statement : Statement) (cause : Cause) (old new : SessionView) → StaysOfLog old new
    → HasCause statement cause old new
    → IsUndone statement cause old new
is_undone statement cause old new stays why =
    let nothing = cause_unanswered statement cause old new why in
    record {
      adds = record {
        log = stays;
        advances = nothing.advances;
        mine = nothing.mine
            ∙ sym (append-nil old.known.mine);
      };
      why = why;
    }

-- a statement whose answer is a refusal is undone, for that refusal
pub refused : (statement : Statement) (answer : Answer) (error : XaError) (old new : SessionView) → StaysOfLog old new
    → IsAnswered old.base statement answer old.known new.known → Takes 1 old.left new.left
    → answer.reply ≡ Refused error
    → IsUndone statement (Cause.Refused error) old new
refused statement answer error old new stays is takes reply =
    is_undone statement (Cause.Refused error) old new stays
    (record {
      place = answer.place;
      answered = subst (λ r. IsAnswered old.base statement
          (record { place = answer.place; reply = r }) old.known new.known) reply is;
      takes = takes;
    })

-- after a statement that is undone the session has open what it had open before
pub association_refused : (statement : Statement) (cause : Cause) (old new : SessionView) → LockLaw new.base
    → entries_of old.known.number old.known.seen ≡ old.known.mine
    → entries_of new.known.number new.known.seen ≡ new.known.mine →
    IsUndone statement cause old new → association_seen new ≡ association_seen old
association_refused statement cause old new law own_old own_new is =
    ap (λ b. association_of (state_after b new.known.seen) new.known.number) is.adds.log.base
    ∙ association_unanswered old.base (subst LockLaw is.adds.log.base law) old.known new.known
    (cause_unanswered statement cause old new is.why) own_old own_new

-- ---- one statement after another

-- what two calls add is what the first adds and then what the second adds
pub adds_then : (first second : List Statement) (old mid new : SessionView) → AddsStatements first old mid
    → AddsStatements second mid new
    → AddsStatements (first ++ second) old new
adds_then first second old mid new one two = record {
  log = stays_through old mid new one.log two.log;
  advances = advances_through old.known mid.known new.known one.advances two.advances;
  mine = two.mine
      ∙ ap (λ list. list ++ map (entry_of mid.known.number) second) one.mine
      ∙ ap (λ n. (old.known.mine ++ map (entry_of old.known.number) first)
      ++ map (entry_of n) second) one.advances.number
      ∙ append_assoc old.known.mine (map (entry_of old.known.number) first) (map (entry_of old.known.number) second)
      ∙ ap (λ list. old.known.mine ++ list) (sym (map-append (entry_of old.known.number) first second));
}

-- a session that isn't used adds nothing
pub adds_nothing : (session : SessionView) → AddsStatements [] session session
adds_nothing session = record {
  log = stays_itself session;
  advances = (unanswered_itself session.known).advances;
  mine = sym (append-nil session.known.mine);
}

-- if a statement was carried out, and then each of some more was added, all of them were added
pub each_then : (statement : Statement) (more : List Statement) (old mid new : SessionView) → IsDone statement old mid
    → AddsEach more mid new
    → AddsEach (statement ∷ more) old new
each_then statement more old mid new one rest = record {
  adds = adds_then (statement ∷ []) more old mid new one.adds rest.adds;
  takes = subst (λ count. Takes count old.left new.left) (omega arith)
      (takes_through 1 (length more) old.left mid.left new.left one.takes rest.takes);
}

-- a statement that was carried out was added, and is all that its session was given
pub each_alone : (statement : Statement) (old new : SessionView) → IsDone statement old new
    → AddsEach (statement ∷ []) old new
each_alone statement old new is = record { adds = is.adds; takes = is.takes }
