-- The branches that hold a row, and the lock law that every state of a server keeps.
--     holds, holds_exclusively      whether the branch holds the row, in either way;  exclusively
use Rattle.std.specs.{Prelude.{◌≡◌, ℕ, Bool, true, false, not, ◌&&◌, Option, Some, None, List, is_some}, List.list_any}
use Rattle.std.specs.Option.{option_and_then}
use Rattle.xa_xid.specs.{declared.xid.Xid.Xid, Xid.same_xid}
use Rattle.xa_server.specs.declared.association.Association.{Association, TheVariants.{Free, Active, Idle}}
use Rattle.xa_server.specs.State.{State, LockMode, Shared, Exclusive, is_known, is_prepared, owner_at, owns, write_at}
use Rattle.std.specs.FinMap as map

-- how the branch holds the row; None if it doesn't hold it. What a branch holds, it holds until it ends (own rule)
abbrev pub lock_at : State → Xid → List ℕ → Option LockMode
lock_at state xid key = option_and_then (λ branch. map.get branch.locks key) (map.get state.branches xid)

-- the branch holds the row, in either way
abbrev pub holds : State → Xid → List ℕ → Bool
holds state xid key = is_some (lock_at state xid key)

-- the branch holds the row (not None), and exclusively
abbrev pub is_exclusive : Option LockMode → Bool
is_exclusive None = false
is_exclusive (Some Shared) = false
is_exclusive (Some Exclusive) = true

-- the branch holds the row exclusively
abbrev pub holds_exclusively : State → Xid → List ℕ → Bool
holds_exclusively state xid key = is_exclusive (lock_at state xid key)

-- the branch isn't the one that the session has open; a free session has none, so each branch is another
abbrev pub is_another : Association → Xid → Bool
is_another Free xid = true
is_another (Active own) xid = not (same_xid xid own)
is_another (Idle own) xid = not (same_xid xid own)

-- a branch that isn't the session's own holds the row, in either way
unfoldable pub is_held_against : State → Association → List ℕ → Bool
-- whether a branch that isn't the session's own holds the row, in either way
is_held_against state association key =
    list_any (λ xid. is_another association xid && holds state xid key) (map.keys state.branches)

-- a branch that isn't the session's own holds the row exclusively
unfoldable pub is_locked_against : State → Association → List ℕ → Bool
-- whether such a branch holds it exclusively
is_locked_against state association key =
    list_any (λ xid. is_another association xid && holds_exclusively state xid key) (map.keys state.branches)

-- what every state of a server keeps
pub record LockLaw (state : State) : Type 0 where
  -- a row that one branch holds exclusively is held by no other, in either way
  pub one_holder : (xid other : Xid) (key : List ℕ) → holds_exclusively state xid key ≡ true
      → holds state other key ≡ true → xid ≡ other
  -- a session owns at most one branch
  pub one_branch : (session : ℕ) (xid other : Xid) → owns state session xid ≡ true → owns state session other ≡ true
      → xid ≡ other
  -- a PREPARED branch has no owner
  pub detached : (xid : Xid) → is_prepared state xid ≡ true → owner_at state xid ≡ None
  -- an ACTIVE or IDLE branch has an owner
  pub attached : (xid : Xid) → is_known state xid ≡ true → is_prepared state xid ≡ false
      → is_some (owner_at state xid) ≡ true
  -- a branch writes only rows that it holds exclusively
  pub held_writes : (xid : Xid) (key : List ℕ) → is_some (write_at state xid key) ≡ true
      → holds_exclusively state xid key ≡ true
