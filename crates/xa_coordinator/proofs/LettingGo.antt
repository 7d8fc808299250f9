-- What a session has open after DISCONNECT, and what XA RECOVER answers.
use Rattle.std.proofs.Common.{◌≡◌, Bool, true, false, List, [], ◌∷◌, refl, ap, sym, ◌∙◌, subst, inl, inr, append-nil}
use Rattle.std.specs.Prelude.{Result, Ok, Err, IfOk, IfErr}
use Rattle.xa_xid.specs.declared.{xid.Xid.Xid, statement.Statement.TheVariants.{Recover, Disconnect}}
use Rattle.xa_server.specs.{declared.reply.Reply.TheVariants.Recovered, Locks.LockLaw}
use Rattle.xa_server.specs.{State.{State, association_of, prepared_xids}, Step.enters}
use Rattle.decision_log.specs.{History.entries_of, declared.known.Known.Known}
use Rattle.xa_session.specs.declared.{fault.Fault.Fault, answer.Answer.Answer}
use Rattle.xa_session.specs.View.{SessionView, StaysOfLog, Takes, TakesBy}
use Rattle.xa_session.specs.{Answer.{IsAnswered, IsUnanswered, Fails, IsFinal}, Replay.{state_after, state_at}}
use Rattle.xa_session.proofs.{Entering.{recover_outside, recover_reply}, OwnAssociations.{let_go, outside_free}}
use Rattle.xa_session.proofs.Associations.{law_seen, association_unanswered, state_entered, state_outside}
use Rattle.xa_coordinator.specs.{declared.fault.Cause.TheVariants.Session, OpenBranches.association_seen}
use Rattle.xa_coordinator.specs.Recovery.{IsDisconnected, ListsPrepared}
use Rattle.xa_coordinator.proofs.Telling.{is_undone, association_refused}

-- after an answered DISCONNECT its session has nothing open, and has added at most the DISCONNECT
pub disconnected_as : (answer : Answer) (old new : SessionView) → LockLaw new.base → StaysOfLog old new
    → IsAnswered old.base Disconnect answer old.known new.known → Takes 1 old.left new.left → IsDisconnected old new
disconnected_as answer old new law stays is takes = by (enters there old.known.number Disconnect) refl
  where
    there : State
    there = state_at old.base new.known.seen answer.place

    law_there : LockLaw there
    law_there = law_seen old.base _ (subst LockLaw stays.base law)

    association_is : association_seen new ≡ association_of (state_after old.base new.known.seen) old.known.number
    association_is =
        ap (λ b. association_of (state_after b new.known.seen) new.known.number) stays.base
        ∙ ap (association_of (state_after old.base new.known.seen)) is.advances.number

    by : (b : Bool) → enters there old.known.number Disconnect ≡ b → IsDisconnected old new
    by true entering = record {
      statements = Disconnect ∷ [];
      is = inr refl;
      adds = record { log = stays; advances = is.advances; mine = (is.entered entering).mine };
      free =
          association_is ∙ ap (λ state. association_of state old.known.number)
          (state_entered old.base Disconnect answer old.known new.known is entering)
          ∙ let_go there law_there old.known.number;
      takes = takes;
    }
    by false outside = record {
      statements = [];
      is = inl refl;
      adds = record
          { log = stays; advances = is.advances; mine = (is.outside outside).mine ∙ sym (append-nil old.known.mine) };
      free =
          association_is ∙ ap (λ state. association_of state old.known.number)
          (state_outside old.base Disconnect answer old.known new.known is outside)
          ∙ outside_free there old.known.number outside;
      takes = takes;
    }

-- an answered XA RECOVER that isn't refused lists the prepared branches as `ListsPrepared` says, and adds nothing
pub listed_as : (convert : Bool) (answer : Answer) (xids : List Xid) (old new : SessionView) → StaysOfLog old new
    → IsAnswered old.base (Recover convert) answer old.known new.known → Takes 1 old.left new.left
    → answer.reply ≡ Recovered xids
    → ListsPrepared xids answer.place old new
listed_as convert answer xids old new stays is takes reply =
    let there : State = state_at old.base new.known.seen answer.place in
    let outside : enters there old.known.number (Recover convert) ≡ false =
    recover_outside there old.known.number convert in
    let whole : state_after old.base new.known.seen ≡ there =
    state_outside old.base (Recover convert) answer old.known new.known is outside in
    let same : Recovered xids ≡ Recovered (prepared_xids there) =
    sym reply ∙ is.at.reply_is ∙ recover_reply there old.known.number convert in
    let list : xids ≡ prepared_xids there = cc in
    record {
      adds = record
          { log = stays; advances = is.advances; mine = (is.outside outside).mine ∙ sym (append-nil old.known.mine) };
      looked = is.looked;
      front = sym (is.outside outside).whole;
      list = list ∙ ap prepared_xids (sym whole ∙ ap (λ b. state_after b new.known.seen) (sym stays.base));
      takes = takes;
    }

-- an answered XA RECOVER adds no entry to its session's own
pub listed_quietly : (base : State) (convert : Bool) (answer : Answer) (old new : Known)
    → IsAnswered base (Recover convert) answer old new
    → new.mine ≡ old.mine
listed_quietly base convert answer old new is =
    (is.outside (recover_outside (state_at base new.seen answer.place) old.number convert)).mine

-- after an answered XA RECOVER the session has open what it had open
pub listed_association : (convert : Bool) (answer : Answer) (old new : SessionView) → LockLaw new.base
    → StaysOfLog old new
    → entries_of old.known.number old.known.seen ≡ old.known.mine
    → entries_of new.known.number new.known.seen ≡ new.known.mine →
    IsAnswered old.base (Recover convert) answer old.known new.known → association_seen new ≡ association_seen old
listed_association convert answer old new law stays own_old own_new is =
    let nothing : IsUnanswered old.known new.known =
    record {
      advances = is.advances;
      mine = (is.outside
          (recover_outside (state_at old.base new.known.seen answer.place) old.known.number convert)).mine;
    } in
    ap (λ b. association_of (state_after b new.known.seen) new.known.number) stays.base
    ∙ association_unanswered old.base (subst LockLaw stays.base law) old.known new.known nothing own_old own_new

-- whatever XA RECOVER was answered, the session has open what it had open
pub listed_still : (convert : Bool) (result : Result Answer Fault) (old new : SessionView) → LockLaw new.base
    → StaysOfLog old new
    → entries_of old.known.number old.known.seen ≡ old.known.mine
    → entries_of new.known.number new.known.seen ≡ new.known.mine →
    IfOk result (λ answer. IsAnswered old.base (Recover convert) answer old.known new.known)
    → IfErr result (λ fault. Fails old.turns old.identity.capacity old.base (Recover convert) fault old.known new.known)
    → IfErr result IsFinal → TakesBy result old new
    → association_seen new ≡ association_seen old
listed_still convert (Ok answer) old new law stays own_old own_new answered fails final takes =
    listed_association convert answer old new law stays own_old own_new answered
listed_still convert (Err fault) old new law stays own_old own_new answered fails final takes =
    association_refused (Recover convert) (Session fault) old new law own_old own_new
    (is_undone (Recover convert) (Session fault) old new stays (fails, final, takes))
