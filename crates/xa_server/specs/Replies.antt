-- The reply to each statement, in each state of a session.
--     ok_if, refused_if      OK or a refusal by a test;  a refusal by a test, or else another reply
use Rattle.std.specs.Prelude.{ℕ, Bool, true, false, not}
use Rattle.xa_xid.specs.{Xid.same_xid, declared.statement.Statement.{Statement, TheVariants.{Start, End, Prepare}}}
use Rattle.xa_xid.specs.declared.statement.Statement.TheVariants.{Commit, Rollback, Recover, Unsupported, Get, Put, Del}
use Rattle.xa_xid.specs.declared.statement.Statement.TheVariants.{Disconnect}
use Rattle.xa_server.specs.declared.reply.Reply.{Reply, TheVariants.{Ok as Accepted, Value, Recovered, Refused}}
use Rattle.xa_server.specs.declared.xa_error.XaError.{XaError, TheVariants.{Nota, Inval, Rmfail, Dupid, RowLocked}}
use Rattle.xa_server.specs.declared.xa_error.BranchState.TheVariants.{NonExisting, Active as StateActive}
use Rattle.xa_server.specs.declared.xa_error.BranchState.TheVariants.{Idle as StateIdle, Prepared as StatePrepared}
use Rattle.xa_server.specs.declared.association.Association.{Association, TheVariants.{Free, Active, Idle}}
use Rattle.xa_server.specs.State.{State, is_known, is_prepared, association_of, committed_value, value_within}
use Rattle.xa_server.specs.{State.prepared_xids, Locks.{is_held_against, is_locked_against}}

-- the reply is OK if the test holds, and else a refusal with this error
abbrev pub ok_if : Bool → XaError → Reply
ok_if true error = Accepted
ok_if false error = Refused error

-- the statement is refused if the test holds, and else has this reply
abbrev pub refused_if : Bool → XaError → Reply → Reply
refused_if true error reply = Refused error
refused_if false error reply = reply

-- The reply to a statement, by what its session has open: a line for each statement and column of
-- docs/STATEMENTS.md#replies, or one for all three columns if they are the same. `own` is the branch that the session
-- has open. Which statement is allowed in which state is the manual's ('XA Transaction States') and C193's; the order
-- of the refusals, the reply to an identifier that isn't the session's, ONE PHASE of a PREPARED branch, and the
-- statements about rows are our own rules.
unfoldable pub table : State → Association → Statement → Reply
-- the table of replies, by statement and state of the session
table state Free (Start xid) = refused_if (is_known state xid) Dupid Accepted
table state (Active own) (Start xid) = Refused (Rmfail StateActive)
table state (Idle own) (Start xid) = Refused (Rmfail StateIdle)
table state Free (End xid) = Refused (Rmfail NonExisting)
table state (Active own) (End xid) = ok_if (same_xid xid own) Nota
table state (Idle own) (End xid) = Refused (Rmfail StateIdle)
table state Free (Prepare xid) = Refused (Rmfail NonExisting)
table state (Active own) (Prepare xid) = Refused (Rmfail StateActive)
table state (Idle own) (Prepare xid) = ok_if (same_xid xid own) Nota
table state Free (Commit xid false) = ok_if (is_prepared state xid) Nota
table state (Active own) (Commit xid false) = Refused (Rmfail StateActive)
table state (Idle own) (Commit xid false) = Refused (Rmfail StateIdle)
table state Free (Commit xid true) = refused_if (not (is_prepared state xid)) Nota (Refused (Rmfail StatePrepared))
table state (Active own) (Commit xid true) = Refused (Rmfail StateActive)
table state (Idle own) (Commit xid true) = ok_if (same_xid xid own) (Rmfail StateIdle)
table state Free (Rollback xid) = ok_if (is_prepared state xid) Nota
table state (Active own) (Rollback xid) = Refused (Rmfail StateActive)
table state (Idle own) (Rollback xid) = ok_if (same_xid xid own) (Rmfail StateIdle)
table state association (Recover convert) = Recovered (prepared_xids state)
table state association Unsupported = Refused Inval
table state Free (Get key) = Value (committed_value state key)
table state (Active own) (Get key) =
    refused_if (is_locked_against state (Active own) key) RowLocked (Value (value_within state own key))
table state (Idle own) (Get key) = Refused (Rmfail StateIdle)
table state Free (Put key value) = refused_if (is_held_against state Free key) RowLocked Accepted
table state (Active own) (Put key value) = refused_if (is_held_against state (Active own) key) RowLocked Accepted
table state (Idle own) (Put key value) = Refused (Rmfail StateIdle)
table state Free (Del key) = refused_if (is_held_against state Free key) RowLocked Accepted
table state (Active own) (Del key) = refused_if (is_held_against state (Active own) key) RowLocked Accepted
table state (Idle own) (Del key) = Refused (Rmfail StateIdle)
table state association Disconnect = Accepted

-- the reply to a session's statement
unfoldable pub reply_to : State → ℕ → Statement → Reply
reply_to state session statement = table state (association_of state session) statement
