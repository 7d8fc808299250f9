-- Words of the laws of every state and every history.
use Rattle.std.specs.Prelude.{◌≡◌, ℕ, ◌<◌, true, List}
use Rattle.xa_xid.specs.declared.{xid.Xid.Xid, statement.Statement.Statement}
use Rattle.xa_server.specs.{State.{State, owns, own_xid, phase_at, association_of}, Finish.PreparesAt}
use Rattle.std.specs.FinMap as map

-- there is an accepted XA PREPARE of the branch between two places of a history, at neither of them
pub record IsPreparedBetween (base : State) (history : List (ℕ × Statement)) (first second : ℕ)
    (xid : Xid) : Type 0 where
  pub place : ℕ
  pub after_first : first < place
  pub before_second : place < second
  pub prepares : PreparesAt base history place xid

-- what a session has open is as it was
pub record LeavesSession (old new : State) (session : ℕ) : Type 0 where
  -- the session owns the branch that it owned
  pub own : own_xid new session ≡ own_xid old session
  -- and has it open in the same phase, or nothing open as before
  pub association : association_of new session ≡ association_of old session
  -- the branch that it owned is in the phase in which it was
  pub phase : (xid : Xid) → owns old session xid ≡ true → phase_at new xid ≡ phase_at old xid
  -- and has the owner, the writes and the locks that it had
  pub branch : (xid : Xid) → owns old session xid ≡ true → map.get new.branches xid ≡ map.get old.branches xid
