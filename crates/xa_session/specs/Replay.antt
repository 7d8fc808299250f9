-- The state after a history of entries, from the state in which it begins.
use Rattle.std.specs.Prelude.{◌≡◌, ◌≤◌, ℕ, List, length, map, take}
use Rattle.xa_words.specs.Entry.{Entry}
use Rattle.xa_xid.specs.declared.statement.Statement.{Statement}
use Rattle.xa_server.specs.{State.State, Step.after_all}
use Rattle.xa_session.specs.declared.replica.Replica.{Replica}

-- an entry's session number and its statement
abbrev pub call_of : Entry → ℕ × Statement
call_of entry = (entry.session, entry.statement)

-- the state after all entries of a history, from the state in which it begins
unfoldable pub state_after : State → List Entry → State
-- the state after a history
state_after base history = after_all base (map call_of history)

-- the state after the given number of entries of a history
abbrev pub state_at : State → List Entry → ℕ → State
state_at base history place = state_after base (take place history)

-- the replica has replayed no more entries than were seen, and is the server after them
pub record Stands (base : State) (seen : List Entry) (replica : Replica) : Type 0 where
  pub within : replica.replayed ≤ length seen
  pub state : replica.server ≡ state_at base seen replica.replayed
