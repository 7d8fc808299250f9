-- A statement that enters makes an entry and is accepted, DISCONNECT is accepted, and XA RECOVER is answered a list and
-- doesn't enter.
use Rattle.std.proofs.Common.{◌≡◌, ℕ, Bool, true, false, ◌&&◌, not, refl}
use Rattle.xa_xid.specs.declared.statement.Statement.{Statement, TheVariants.{Start, End, Prepare, Commit, Rollback}}
use Rattle.xa_xid.specs.declared.statement.Statement.TheVariants.{Recover, Unsupported, Get, Put, Del, Disconnect}
use Rattle.xa_words.specs.Entry.{may_be_entry as makes_entry}
use Rattle.xa_server.specs.{State.{State, association_of, prepared_xids}, Replies.{table, reply_to}}
use Rattle.xa_server.specs.{declared.association.Association.Association, Step.{enters, may_enter, is_refused}}
use Rattle.xa_server.specs.declared.reply.Reply.TheVariants.{Ok as Accepted, Recovered}

-- a test and a false one never hold together
never_both : (b : Bool) → b && false ≡ true → ⊥
never_both true is = cc
never_both false is = cc

-- a statement that enters is of a kind that makes an entry
pub entering_makes_entry : (state : State) (session : ℕ) (statement : Statement) → enters state session statement ≡ true
    → makes_entry statement ≡ true
unfolding enters may_enter
entering_makes_entry state session (Start xid) is = refl
entering_makes_entry state session (End xid) is = refl
entering_makes_entry state session (Prepare xid) is = refl
entering_makes_entry state session (Commit xid one_phase) is = refl
entering_makes_entry state session (Rollback xid) is = refl
entering_makes_entry state session (Recover convert) is =
    absurd (never_both (not (is_refused (reply_to state session (Recover convert)))) is)
entering_makes_entry state session Unsupported is =
    absurd (never_both (not (is_refused (reply_to state session Unsupported))) is)
entering_makes_entry state session (Get key) is = refl
entering_makes_entry state session (Put key value) is = refl
entering_makes_entry state session (Del key) is = refl
entering_makes_entry state session Disconnect is = refl

-- a statement that enters is accepted
pub entering_accepted : (state : State) (session : ℕ) (statement : Statement) → enters state session statement ≡ true
    → is_refused (reply_to state session statement) ≡ false
unfolding enters
entering_accepted state session statement is =
    by (is_refused (reply_to state session statement)) (may_enter state (association_of state session) statement) is
  where
    by : (refused rest : Bool) → not refused && rest ≡ true → refused ≡ false
    by true rest e = absurd (cc)
    by false rest e = refl

-- DISCONNECT is accepted, whatever the session has open
disconnect_in : (state : State) (association : Association) → table state association Disconnect ≡ Accepted
unfolding table
disconnect_in state Association.Free = refl
disconnect_in state (Association.Active own) = refl
disconnect_in state (Association.Idle own) = refl

-- DISCONNECT is answered Ok in each state
pub disconnect_accepted : (state : State) (session : ℕ) → reply_to state session Disconnect ≡ Accepted
unfolding reply_to
disconnect_accepted state session = disconnect_in state (association_of state session)

-- XA RECOVER enters no history
pub recover_outside : (state : State) (session : ℕ) (convert : Bool) → enters state session (Recover convert) ≡ false
unfolding enters may_enter
recover_outside state session convert = none (not (is_refused (reply_to state session (Recover convert))))
  where
    none : (b : Bool) → (b && false) ≡ false
    none true = refl
    none false = refl

-- XA RECOVER is answered the list of the prepared branches
pub recover_reply : (state : State) (session : ℕ) (convert : Bool)
    → reply_to state session (Recover convert) ≡ Recovered (prepared_xids state)
unfolding reply_to table
recover_reply state session convert = by (association_of state session)
  where
    by : (association : Association) → table state association (Recover convert) ≡ Recovered (prepared_xids state)
    by Association.Free = refl
    by (Association.Active own) = refl
    by (Association.Idle own) = refl
