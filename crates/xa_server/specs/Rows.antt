-- The record of a row, and what the server does to it.
--     RowMap, Sharing        the records by key;  the branches that share a row
--     committed_of, lock_of        the committed value of a row;  who holds it
--     write_by, lock_by      the newest write, the lock, that this branch has on the row
--     held_row, shared_row   the record after the branch holds the row exclusively, with this change;  after it shares
--                            the row
--     freed_row, freed       the record after the branch has ended
--     write_in, mode_in, held_beside, locked_beside      the same as write_by, lock_by, held_against, locked_against,
--                            by the row's lock
--     with_sharer, freed_lock      the lock after the branch shares the row;  after it has ended
--     is_needed, kept        whether a row needs its record;  the record, if it does
use Rattle.std.specs.{Prelude.{◌≡◌, ℕ, Bool, false, cond, ◌||◌, is_some, Option, Some, None, List}, List.list_any}
use Rattle.std.specs.{Ordering.eq_by_cmp, Option.{option_and_then, option_map_or, unwrap_or}}
use Rattle.xa_xid.specs.{declared.xid.Xid.Xid, Xid.{Text, bytes_cmp, xid_cmp, same_xid}}
use Rattle.xa_server.specs.declared.lock.{Change.{Change, TheVariants.{Put, Delete}}, Lock.Lock}
use Rattle.xa_server.specs.declared.lock.Lock.TheVariants.{Exclusive as HeldBy, Shared as SharedBy}
use Rattle.xa_server.specs.{declared.association.Association.{Association, TheVariants.Free}, Recorded.RowRecord}
use Rattle.xa_server.specs.{State.{Write, LockMode, Shared, Exclusive, Branch}, Step.with_own_write, Locks.is_another}
use Rattle.std.specs.FinMap as map
use Rattle.std.specs.FinSet as set

-- the records of rows, by their keys
abbrev pub RowMap : Type 0
RowMap = map.FinMap bytes_cmp RowRecord

-- the branches that share a row; none, if nobody holds it
abbrev pub Sharing : Type 0
Sharing = set.FinSet xid_cmp

-- the committed value of a row, by its record; None if there is no record, or no value in it
abbrev pub committed_of : Option RowRecord → Option Text
committed_of found = option_and_then (λ row. row.committed) found

-- the lock of a row: nobody's, if it has no record
abbrev pub lock_of : Option RowRecord → Lock
lock_of None = SharedBy set.empty
lock_of (Some row) = row.lock

-- what a change writes to its row: a value, or none if it deletes
abbrev pub write_of : Change → Write
write_of (Put value) = Some value
write_of Delete = None

-- the newest write of the row by this branch, by the row's lock; None if the branch doesn't hold the row exclusively
abbrev pub write_in : Xid → Lock → Option Write
write_in xid (HeldBy holder change) = cond (same_xid holder xid) (Some (write_of change)) None
write_in xid (SharedBy sharers) = None

-- the newest write of the row by this branch, if the branch wrote it, by the row's record
abbrev pub write_by : Xid → RowRecord → Option Write
write_by xid row = write_in xid row.lock

-- how this branch holds the row, if it does, by the row's lock
abbrev pub mode_in : Xid → Lock → Option LockMode
mode_in xid (HeldBy holder change) = cond (same_xid holder xid) (Some Exclusive) None
mode_in xid (SharedBy sharers) = cond (set.contains sharers xid) (Some Shared) None

-- how this branch holds the row, if it does, by the row's record
abbrev pub lock_by : Xid → RowRecord → Option LockMode
lock_by xid row = mode_in xid row.lock

-- whether another branch than the session's own holds the row, in either way, by its lock
abbrev pub held_beside : Association → Lock → Bool
held_beside association (HeldBy holder change) = is_another association holder
held_beside association (SharedBy sharers) = list_any (is_another association) (set.items sharers)

-- whether another branch than the session's own holds the row exclusively, by its lock
abbrev pub locked_beside : Association → Lock → Bool
locked_beside association (HeldBy holder change) = is_another association holder
locked_beside association (SharedBy sharers) = false

-- whether another branch than the session's own holds the row, in either way, by its record; nobody holds a row without
-- one
abbrev pub held_against : Association → Option RowRecord → Bool
held_against association found = option_map_or (λ row. held_beside association row.lock) found false

-- whether another branch than the session's own holds the row exclusively, by its record
abbrev pub locked_against : Association → Option RowRecord → Bool
locked_against association found = option_map_or (λ row. locked_beside association row.lock) found false

-- the value that the branch sees: its own newest write of the row, else the committed value
abbrev pub value_seen : Xid → Option RowRecord → Option Text
value_seen xid found = unwrap_or (option_and_then (write_by xid) found) (committed_of found)

-- the record after the branch holds the row exclusively, with this change
abbrev pub held_row : Xid → Change → Option RowRecord → RowRecord
held_row xid change found = record { committed = committed_of found; lock = HeldBy xid change }

-- the holders after the branch is one of the sharers; if a branch holds the row exclusively, nobody is added
abbrev pub with_sharer : Xid → Lock → Lock
with_sharer xid (HeldBy holder change) = HeldBy holder change
with_sharer xid (SharedBy sharers) = SharedBy (set.insert sharers xid)

-- the record after the branch shares the row
abbrev pub shared_row : Xid → Option RowRecord → RowRecord
shared_row xid found = record { committed = committed_of found; lock = with_sharer xid (lock_of found) }

-- a branch after it holds the row exclusively, with this change
abbrev pub with_change : List ℕ → Change → Branch → Branch
with_change key change branch = with_own_write key (write_of change) branch

-- the lock after the branch has ended, which then holds the row no more
abbrev pub freed_lock : Xid → Lock → Lock
freed_lock xid (HeldBy holder change) = cond (same_xid holder xid) (SharedBy set.empty) (HeldBy holder change)
freed_lock xid (SharedBy sharers) = SharedBy (set.remove sharers xid)

-- the record after the branch has ended: the branch's write of the row, if it has one, is the committed value if the
-- branch commits, and the branch holds the row no more
abbrev pub freed_row : Bool → Xid → RowRecord → RowRecord
freed_row commits xid row =
    record {
      committed = cond commits (unwrap_or (write_by xid row) row.committed) row.committed;
      lock = freed_lock xid
          row.lock;
    }

-- a row needs its record: it has a committed value, or a branch holds it (to a free session each is another's)
abbrev pub is_needed : RowRecord → Bool
is_needed row = is_some row.committed || held_beside Free row.lock

-- the record that a row keeps; none, if it has no value and nobody holds it
abbrev pub kept : RowRecord → Option RowRecord
kept row = cond (is_needed row) (Some row) None

-- the record of a row, if there is one, after the branch has ended
abbrev pub freed : Bool → Xid → Option RowRecord → Option RowRecord
freed commits xid found = option_and_then (λ row. kept (freed_row commits xid row)) found

-- the records after a branch holds the rows of these keys no more: if it commits, its writes are their values; the
-- records among these that are no longer needed are gone; those of all other rows are as they were
abbrev pub Frees : Bool → Xid → List (List ℕ) → RowMap → RowMap → Type 0
Frees commits xid keys old new =
    (key : List ℕ) → map.get new key ≡ cond (list_any (eq_by_cmp bytes_cmp key) keys)
    (freed commits xid (map.get old key)) (map.get old key)
