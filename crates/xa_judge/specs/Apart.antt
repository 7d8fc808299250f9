-- What two sessions have open has nothing to do with each other.
--     named_by, key_of                the branch and the row that a statement names
--     Avoids, IsBeside                a statement doesn't name a branch;  a session hasn't it open
--     EndsIn, IsUnlisted              a statement is to end a branch;  it leaves the list of PREPARED branches as it is
--     is_get, barring                 a statement is GET;  how a lock bars a statement
--     Spares, AreApart                a statement has nothing to do with what another one names;  nor the other with it
--     open_statement, is_gone         what a client has called for;  whether it is gone
--     Opens, HasOpen, IsApartAt       a client has a statement open;  a session;  all that two have open is apart
-- Every rule here is the project's own: crates/xa_judge/README.md.
use Rattle.std.specs.Prelude.{◌≡◌, ◌⊎◌, ℕ, Bool, true, false, cond, Option, Some, None, List, slice_get}
use Rattle.std.specs.Ordering.{eq_by_cmp}
use Rattle.xa_xid.specs.{declared.{xid.Xid.Xid, statement.Statement.Statement}, Xid.{same_xid, bytes_cmp}}
use Rattle.xa_server.specs.declared.association.Association.{Association}
use Rattle.xa_server.specs.{State.{State, LockMode, Exclusive, association_of}, Locks.lock_at}
use Rattle.xa_judge.specs.{declared.{request.Request.Request, client_state.ClientState.ClientState}, Explained.Config}

-- the branch that a statement names
abbrev pub named_by : Statement → Option Xid
named_by (Statement.Start xid) = Some xid
named_by (Statement.End xid) = Some xid
named_by (Statement.Prepare xid) = Some xid
named_by (Statement.Commit xid one_phase) = Some xid
named_by (Statement.Rollback xid) = Some xid
named_by other = None

-- the row that a statement names
abbrev pub key_of : Statement → Option (List ℕ)
key_of (Statement.Get key) = Some key
key_of (Statement.Put key value) = Some key
key_of (Statement.Del key) = Some key
key_of other = None

-- the statement doesn't name the branch
abbrev pub Avoids : Statement → Xid → Type 0
Avoids (Statement.Start other) xid = same_xid xid other ≡ false
Avoids (Statement.End other) xid = same_xid xid other ≡ false
Avoids (Statement.Prepare other) xid = same_xid xid other ≡ false
Avoids (Statement.Commit other one_phase) xid = same_xid xid other ≡ false
Avoids (Statement.Rollback other) xid = same_xid xid other ≡ false
Avoids other xid = Unit {0}

-- the session hasn't the branch open
abbrev pub IsBeside : Association → Xid → Type 0
IsBeside Association.Free xid = Unit {0}
IsBeside (Association.Active own) xid = same_xid xid own ≡ false
IsBeside (Association.Idle own) xid = same_xid xid own ≡ false

-- the statement is to end the branch: XA COMMIT or XA ROLLBACK of it, or DISCONNECT of a session that has it open
abbrev pub EndsIn : Association → Statement → Xid → Type 0
EndsIn association (Statement.Commit other one_phase) xid = other ≡ xid
EndsIn association (Statement.Rollback other) xid = other ≡ xid
EndsIn (Association.Active own) Statement.Disconnect xid = own ≡ xid
EndsIn (Association.Idle own) Statement.Disconnect xid = own ≡ xid
EndsIn association other xid = ⊥

-- the statement leaves the list of PREPARED branches as it is: it is no XA PREPARE, no XA COMMIT in two phases, and
-- no XA ROLLBACK
abbrev pub IsUnlisted : Statement → Type 0
IsUnlisted (Statement.Prepare xid) = ⊥
IsUnlisted (Statement.Commit xid one_phase) = one_phase ≡ true
IsUnlisted (Statement.Rollback xid) = ⊥
IsUnlisted other = Unit {0}

-- the statement is GET
abbrev pub is_get : Statement → Bool
is_get (Statement.Get key) = true
is_get other = false

-- how a branch holds a row, if it holds it exclusively
abbrev pub exclusively : Option LockMode → Option LockMode
exclusively (Some Exclusive) = Some Exclusive
exclusively other = None

-- how a branch holds a row, as far as that bars the statement: a shared row doesn't bar GET
abbrev pub barring : Statement → Option LockMode → Option LockMode
barring statement held = cond (is_get statement) (exclusively held) held

-- `two`, a statement of this session, has nothing to do with what `one`, another session's statement, names. Its
-- session hasn't that branch open, and it doesn't name it. It doesn't name that row, or both only read it; and it ends
-- no branch that holds the row in a way that bars `one`. If `one` lists the PREPARED branches, it leaves that list
pub record Spares (state : State) (one : Statement) (session : ℕ) (two : Statement) : Type 0 where
  pub avoids : (xid : Xid) → named_by one ≡ Some xid → Avoids two xid
  pub beside : (xid : Xid) → named_by one ≡ Some xid → IsBeside (association_of state session) xid
  pub row : (key other : List ℕ) → key_of one ≡ Some key → key_of two ≡ Some other
      → (eq_by_cmp bytes_cmp key other ≡ false) ⊎ ((is_get one ≡ true) × (is_get two ≡ true))
  pub unheld : (key : List ℕ) (xid : Xid) → key_of one ≡ Some key → EndsIn (association_of state session) two xid
      → barring one (lock_at state xid key) ≡ None
  pub listed : (convert : Bool) → one ≡ Statement.Recover convert → IsUnlisted two

-- the statements of two sessions have nothing to do with each other
abbrev pub AreApart : State → ℕ → Statement → ℕ → Statement → Type 0
AreApart state first one second two = Spares state one second two × Spares state two first one

-- the statement that a client has called for, if that has taken no effect yet; the client may be gone
abbrev pub open_statement : Option ClientState → Option Statement
open_statement (Some (ClientState.Called (Request.Statement statement))) = Some statement
open_statement (Some (ClientState.Gone (Some (Request.Statement statement)))) = Some statement
open_statement other = None

-- the client is gone, and its DISCONNECT has taken no effect yet
abbrev pub is_gone : Option ClientState → Bool
is_gone (Some (ClientState.Gone request)) = true
is_gone other = false

-- the client has the statement open: it has called for it, or it is gone and this is its DISCONNECT
abbrev pub Opens : Option ClientState → Statement → Type 0
Opens client statement =
    (open_statement client ≡ Some statement) ⊎ ((is_gone client ≡ true) × (statement ≡ Statement.Disconnect))

-- the session's client has the statement open
abbrev pub HasOpen : Config → ℕ → Statement → Type 0
HasOpen config session statement = Opens (slice_get config.clients session) statement

-- what `other` has open has nothing to do with what `session` has open. A text that isn't a statement never has
abbrev pub IsApartAt : Config → ℕ → ℕ → Type 0
IsApartAt config other session = (one two : Statement) → HasOpen config other one → HasOpen config session two
    → AreApart config.state other one session two
