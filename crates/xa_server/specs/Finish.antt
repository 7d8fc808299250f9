-- Finishing a prepared branch: which statements do it, and at which places of a history a branch is finished or
-- prepared.
use Rattle.std.specs.Prelude.{◌≡◌, ℕ, true, false, Some, List, take, slice_get}
use Rattle.xa_xid.specs.declared.{xid.Xid.Xid, statement.Statement.{Statement, TheVariants.{Prepare, Commit, Rollback}}}
use Rattle.xa_server.specs.{declared.reply.Reply.Reply, State.{State, is_prepared}, Replies.reply_to, Step.after_all}

-- an XA COMMIT without ONE PHASE, or an XA ROLLBACK, of the branch
pub data Finishes : Statement → Xid → Type 0 where
  commits : (xid : Xid) → Finishes (Commit xid false) xid
  rolls_back : (xid : Xid) → Finishes (Rollback xid) xid

-- at this place the prepared branch is finished: the statement there is accepted, and ends it
pub record FinishesAt (base : State) (history : List (ℕ × Statement)) (place : ℕ) (xid : Xid) : Type 0 where
  pub session : ℕ
  pub statement : Statement
  pub entry : slice_get history place ≡ Some (session, statement)
  pub finishes : Finishes statement xid
  pub prepared : is_prepared (after_all base (take place history)) xid ≡ true
  pub accepted : reply_to (after_all base (take place history)) session statement ≡ Reply.Ok

-- there is an accepted XA PREPARE of the branch at this place
pub record PreparesAt (base : State) (history : List (ℕ × Statement)) (place : ℕ) (xid : Xid) : Type 0 where
  pub session : ℕ
  pub entry : slice_get history place ≡ Some (session, Prepare xid)
  pub accepted : reply_to (after_all base (take place history)) session (Prepare xid) ≡ Reply.Ok
