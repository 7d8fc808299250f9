-- The state that a listing is of. Every rule here is the project's own: docs/HISTORIES.md#records-in-pieces.
use Rattle.std.specs.{Prelude.{◌≡◌, ◌≢◌, ℕ, Bool, true, false, None, List}, List.Contains}
use Rattle.xa_xid.specs.declared.statement.Statement.{Statement, TheVariants.{Commit, Put, Del}}
use Rattle.xa_server.specs.{declared.association.Association.Association, State.{State, committed_value}}
use Rattle.xa_lines.specs.Listing.{listing}

-- each row that has a value is one of these
pub record NamesAllRows (keys : List (List ℕ)) (state : State) : Type 0 where
  pub names : (key : List ℕ) → committed_value state key ≢ None → Contains keys key

-- the text lists the state: every branch, and rows, among them every row that has a value
pub record IsStateOf (text : List ℕ) (state : State) : Type 0 where
  pub keys : List (List ℕ)
  pub lists : text ≡ listing state keys
  pub all : NamesAllRows keys state

-- the session's statement leaves the committed values of rows as they are, as its kind shows: it is no commit, and a
-- free session writes no row. A refused one leaves them too, also if this is false
abbrev pub leaves_rows : Association → Statement → Bool
leaves_rows association (Commit xid one_phase) = false
leaves_rows Association.Free (Put key value) = false
leaves_rows Association.Free (Del key) = false
leaves_rows association statement = true
