-- How the program follows a history.
--     state_said, deed_said     the state after what a line says;  the deed of it
use Rattle.std.specs.{Prelude.{◌≡◌, ℕ, cond, Option, Some, None, slice_index_or}, Option.unwrap_or}
use Rattle.std.specs.{BTreeMap.{BTreeMap, get, is_at}, declared.cmp.Ordering.Ordering}
use Rattle.xa_xid.specs.{declared.{xid.Xid.Xid, statement.Statement.Statement}, Xid.xid_cmp}
use Rattle.xa_server.specs.{State.{State, own_xid}, Step.after}
use Rattle.xa_audit.specs.{Deeds.deed_of, declared.said.Said.{Said, TheVariants.{Nothing, Given, Unread}}}
use Rattle.xa_audit.specs.{declared.{deed.Deed.Deed, lives.Lives.Lives, owned.Owned.Owned}, Lives.{no_lives, noted}}

-- what a session owns after its statement was accepted, by what it owned before
abbrev pub own_after : Option Xid → Statement → Option Xid
own_after own (Statement.Start xid) = Some xid
own_after own (Statement.End xid) = own
own_after own (Statement.Prepare xid) = None
own_after own (Statement.Commit xid one_phase) = None
own_after own (Statement.Rollback xid) = None
own_after own (Statement.Recover convert) = own
own_after own Statement.Unsupported = own
own_after own (Statement.Get key) = own
own_after own (Statement.Put key value) = own
own_after own (Statement.Del key) = own
own_after own Statement.Disconnect = None

-- the state after the statement that a line gives; as it was, if the line gives none
abbrev pub state_said : State → Said → State
state_said state Nothing = state
state_said state (Given session statement) = after state session statement
state_said state (Unread place) = state

-- the deed of the statement that a line gives, in this state; None if the line gives none
abbrev pub deed_said : State → Said → Option (Xid × Deed)
deed_said state Nothing = None
deed_said state (Given session statement) = deed_of state session statement
deed_said state (Unread place) = None

-- the branch that is kept for a session
abbrev pub owned_at : Owned → ℕ → Option Xid
owned_at owned session = slice_index_or owned.places.items session None

-- for each session, the branch that is kept as its own is the one that it owns in the state
abbrev pub IsFollowed : Owned → State → Type 0
IsFollowed owned state = (session : ℕ) → owned_at owned session ≡ own_xid state session

-- the map has this value at the key, and is otherwise as it was
abbrev pub PutsAt : {K V : Type 0} → (K → K → Ordering) → BTreeMap K V → K → V → BTreeMap K V → Type 0
PutsAt {K} cmp old key value new =
    (other : K) → get cmp new other ≡ cond (is_at (cmp key) other) (Some value) (get cmp old other)

-- what is kept of lives after a statement: the deed is noted, if there is one
abbrev pub Notes : Option (Xid × Deed) → BTreeMap Xid Lives → BTreeMap Xid Lives → Type 0
Notes None old new = new ≡ old
Notes (Some told) old new = PutsAt xid_cmp old told.0 (noted (unwrap_or (get xid_cmp old told.0) no_lives) told.1) new
