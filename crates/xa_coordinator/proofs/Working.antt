-- What a row statement makes of a branch that is open and ACTIVE.
use Rattle.std.proofs.Common.{◌≡◌, ℕ, Bool, true, false, take, refl, ap, sym, ◌∙◌, subst}
use Rattle.std.specs.Prelude.{not, ◌&&◌, Result, Ok, Err, IfOk, IfErr}
use Rattle.xa_xid.specs.declared.{xid.Xid.Xid, statement.Statement.Statement}
use Rattle.xa_server.specs.{State.{State, association_of}, declared.association.Association.TheVariants.Active}
use Rattle.xa_server.specs.{Locks.LockLaw, Replies.reply_to, Step.{enters, may_enter, is_refused, after}}
use Rattle.decision_log.specs.History.{entries_of}
use Rattle.xa_session.specs.{declared.{fault.Fault.Fault, answer.Answer.Answer}, Replay.{state_after, state_at}}
use Rattle.xa_session.specs.{View.{SessionView, StaysOfLog, TakesBy}, Answer.{IsAnswered, Fails, IsFinal}}
use Rattle.xa_session.proofs.OwnAssociations.{read, written, deleted}
use Rattle.xa_session.proofs.Associations.{law_seen, association_at, state_entered, state_outside}
use Rattle.xa_coordinator.specs.{declared.fault.Cause.TheVariants.Session, OpenBranches.association_seen, Work.IsRow}
use Rattle.xa_coordinator.proofs.Telling.{is_undone, association_refused}

-- if a test that needs another one to fail holds, that one fails
unrefused : (refused may : Bool) → (not refused && may) ≡ true → refused ≡ false
unrefused true may is = absurd (cc)
unrefused false may is = refl

-- a row statement that enters leaves its session the branch that is open, ACTIVE
row_entered : (state : State) → LockLaw state → (session : ℕ) (xid : Xid) (statement : Statement) → IsRow statement
    → association_of state session ≡ Active xid
    → enters state session statement ≡ true → association_of (after state session statement) session ≡ Active xid
unfolding enters
row_entered state law session xid (Statement.Get key) is association entering =
    read state law session xid key association
    (unrefused (is_refused (reply_to state session (Statement.Get key)))
    (may_enter state (association_of state session) (Statement.Get key)) entering)
row_entered state law session xid (Statement.Put key value) is association entering =
    written state law session xid key value association
    (unrefused (is_refused (reply_to state session (Statement.Put key value)))
    (may_enter state (association_of state session) (Statement.Put key value)) entering)
row_entered state law session xid (Statement.Del key) is association entering =
    deleted state law session xid key association
    (unrefused (is_refused (reply_to state session (Statement.Del key)))
    (may_enter state (association_of state session) (Statement.Del key)) entering)
row_entered state law session xid (Statement.Start other) is association entering = absurd is
row_entered state law session xid (Statement.End other) is association entering = absurd is
row_entered state law session xid (Statement.Prepare other) is association entering = absurd is
row_entered state law session xid (Statement.Commit other one_phase) is association entering = absurd is
row_entered state law session xid (Statement.Rollback other) is association entering = absurd is
row_entered state law session xid (Statement.Recover convert) is association entering = absurd is
row_entered state law session xid Statement.Unsupported is association entering = absurd is
row_entered state law session xid Statement.Disconnect is association entering = absurd is

module _ (statement : Statement) (answer : Answer) (xid : Xid) (old new : SessionView) where
  -- if the session had this branch open and ACTIVE after all that it had seen before the call, it has so at the
  -- answer's place
  pub active_there : LockLaw new.base → StaysOfLog old new → entries_of old.known.number old.known.seen ≡ old.known.mine
      → entries_of new.known.number new.known.seen ≡ new.known.mine → association_seen old ≡ Active xid →
      IsAnswered old.base statement answer old.known new.known
      → association_of (state_at old.base new.known.seen answer.place) old.known.number ≡ Active xid
  active_there law stays own_old own_new association is =
      association_at old.base (subst LockLaw stays.base law) statement answer old.known new.known is own_old own_new
      ∙ association

  -- if the session had this branch open and ACTIVE before the call, and a row statement was answered, it has so after
  -- the call, too
  pub active_after : LockLaw new.base → StaysOfLog old new → entries_of old.known.number old.known.seen ≡ old.known.mine
      → entries_of new.known.number new.known.seen ≡ new.known.mine → association_seen old ≡ Active xid
      → IsRow statement →
      IsAnswered old.base statement answer old.known new.known → association_seen new ≡ Active xid
  active_after law stays own_old own_new association row is =
      ap (λ b. association_of (state_after b new.known.seen) new.known.number) stays.base
      ∙ ap (association_of (state_after old.base new.known.seen)) is.advances.number
      ∙ by (enters (state_at old.base new.known.seen answer.place) old.known.number statement) refl
    where
      law_base : LockLaw old.base
      law_base = subst LockLaw stays.base law

      there : association_of (state_at old.base new.known.seen answer.place) old.known.number ≡ Active xid
      there = active_there law stays own_old own_new association is

      by : (b : Bool) → enters (state_at old.base new.known.seen answer.place) old.known.number statement ≡ b
          → association_of (state_after old.base new.known.seen) old.known.number ≡ Active xid
      by true entering =
          ap (λ state. association_of state old.known.number)
          (state_entered old.base statement answer old.known new.known is entering)
          ∙ row_entered (state_at old.base new.known.seen answer.place)
          (law_seen old.base (take answer.place new.known.seen) law_base) old.known.number xid statement row there
          entering
      by false outside =
          ap (λ state. association_of state old.known.number)
          (state_outside old.base statement answer old.known new.known is outside) ∙ there

-- after a row statement, answered or not, the branch is still open and ACTIVE
pub active_still : (statement : Statement) (result : Result Answer Fault) (xid : Xid) (old new : SessionView)
    → LockLaw new.base → StaysOfLog old new
    → entries_of old.known.number old.known.seen ≡ old.known.mine
    → entries_of new.known.number new.known.seen ≡ new.known.mine →
    association_seen old ≡ Active xid → IsRow statement → IfOk result
    (λ answer. IsAnswered old.base statement answer old.known new.known) →
    IfErr result (λ fault. Fails old.turns old.identity.capacity old.base statement fault old.known new.known)
    → IfErr result IsFinal → TakesBy result old new
    → association_seen new ≡ association_seen old
active_still statement (Ok answer) xid old new law stays own_old own_new association row answered fails final takes =
    active_after statement answer xid old new law stays own_old own_new association row answered ∙ sym association
active_still statement (Err fault) xid old new law stays own_old own_new association row answered fails final takes =
    association_refused statement (Session fault) old new law own_old own_new
    (is_undone statement (Session fault) old new stays (fails, final, takes))
