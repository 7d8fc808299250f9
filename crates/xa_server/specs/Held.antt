-- The branches, and the rows that a branch holds, by the records.
use Rattle.std.specs.{Prelude.{ℕ, cond, Option, Some, None, List, [], ◌∷◌, map}, Option.option_map_or}
use Rattle.xa_xid.specs.{declared.xid.Xid.Xid, Xid.same_xid}
use Rattle.xa_server.specs.declared.{branch.BranchRecord.BranchRecord, hold.{Hold.Hold, HeldRow.HeldRow}}
use Rattle.xa_server.specs.declared.{lock.Lock.Lock, overview.BranchEntry.BranchEntry, row.RecentRow.RecentRow}
use Rattle.xa_server.specs.{Recorded.RowRecord, Overview.hold_of, Rows.write_of, Tables.BranchMap}
use Rattle.std.specs.FinMap as fin
use Rattle.std.specs.FinSet as set

-- a branch without its rows, by its record
abbrev pub recorded_entry : Xid × BranchRecord → BranchEntry
recorded_entry named = record { xid = named.0; phase = named.1.phase; owner = named.1.owner }

-- every branch, by its record
abbrev pub recorded_entries : BranchMap → List BranchEntry
recorded_entries branches = map recorded_entry (fin.entries branches)

-- how this branch holds a row, by the row's lock: by its newest write if it holds the row exclusively, else in share;
-- None if it doesn't hold the row
abbrev pub hold_in : Xid → Lock → Option Hold
hold_in xid (Lock.Exclusive holder change) = cond (same_xid holder xid) (Some (hold_of (Some (write_of change)))) None
hold_in xid (Lock.Shared sharers) = cond (set.contains sharers xid) (Some Hold.Shared) None

-- these rows with the row of this key in front, if `held` says how the branch holds it; with None they are unchanged
abbrev pub with_held : List ℕ → Option Hold → List HeldRow → List HeldRow
with_held key held rows = option_map_or (λ hold. record { key = key; hold = hold } ∷ rows) held rows

-- the rows that this branch holds, of those in a list of keys with their records, in its order
abbrev pub held_among : Xid → List (List ℕ × RowRecord) → List HeldRow
held_among xid [] = []
held_among xid (row ∷ rows) = with_held row.0 (hold_in xid row.1.lock) (held_among xid rows)

-- the rows that this branch holds, of those in a list of keys with the records of recent rows, in its order
abbrev pub held_recently : Xid → List (List ℕ × RecentRow) → List HeldRow
held_recently xid [] = []
held_recently xid (row ∷ rows) = with_held row.0 (hold_in xid row.1.lock) (held_recently xid rows)
