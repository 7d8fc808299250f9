-- Rows in layers: the records of the rows that were touched lately, and below them runs that never change.
--     RecentMap, Writes      the records of the recent rows;  what a run has, each by key
--     change_of, change_at   what a record makes of the value below it
--     first_of, merged_at    what two runs have for a key:  as they are;  merged into one
--     value_of, hides_below, freed_recent, is_needed_over, held_as_below      the parts of what the records do
use Rattle.std.specs.Prelude.{ℕ, Bool, true, false, not, cond, ◌||◌, Option, Some, None, List, [], ◌∷◌}
use Rattle.std.specs.{Option.{option_and_then, unwrap_or}, Ordering.eq_by_cmp}
use Rattle.xa_xid.specs.{declared.xid.Xid.Xid, Xid.{Text, bytes_cmp}}
use Rattle.xa_server.specs.{declared.{association.Association.TheVariants.Free, lock.Lock.Lock}, Recorded.RowRecord}
use Rattle.xa_server.specs.declared.{lock.Lock.TheVariants.Shared as SharedBy, row.RecentRow.RecentRow}
use Rattle.xa_server.specs.{declared.row.RecentValue.{RecentValue, TheVariants.{AsBelow, Value, Gone}}, View.mapped}
use Rattle.xa_server.specs.{Rows.{RowMap, write_in, held_beside, freed_lock, kept}, State.Write, Step.with_writes}
use Rattle.std.specs.FinMap as map
use Rattle.std.specs.FinSet as set

-- the records of the recent rows, by their keys
abbrev pub RecentMap : Type 0
RecentMap = map.FinMap bytes_cmp RecentRow

-- what a run has of each of its rows, by their keys: a value, or a deletion
abbrev pub Writes : Type 0
Writes = map.FinMap bytes_cmp Write

-- what a record's value makes of the value below: a value, or none; None if it leaves that as it is
abbrev pub change_of : RecentValue → Option Write
change_of AsBelow = None
change_of (Value value) = Some (Some value)
change_of Gone = Some None

-- what a row's record, if there is one, makes of the value below
abbrev pub change_at : Option RecentRow → Option Write
change_at recent = option_and_then (λ row. change_of row.value) recent

-- the branches that hold a row, by its record; nobody holds one without a record
abbrev pub recent_lock : Option RecentRow → Lock
recent_lock None = SharedBy set.empty
recent_lock (Some row) = row.lock

-- the row of a record, if there is one, over the value below; None if it has no value and nobody holds it
abbrev pub row_over : Option RecentRow → Option Text → Option RowRecord
row_over recent below =
    kept (record { committed = unwrap_or (change_at recent) below; lock = recent_lock recent })

-- the rows with this one at the key
abbrev pub with_row : List ℕ → Option RowRecord → RowMap → RowMap
with_row key None rows = map.remove rows key
with_row key (Some row) rows = map.insert rows key row

-- all rows, by a list of records and the values below
abbrev pub over_entries : List (List ℕ × RecentRow) → map.FinMap bytes_cmp Text → RowMap
over_entries [] below = mapped (λ key value. record { committed = Some value; lock = SharedBy set.empty }) below
over_entries (e ∷ es) below = with_row e.0 (row_over (Some e.1) (map.get below e.0)) (over_entries es below)

-- all rows, by the records of recent ones and the values below
unfoldable pub layered : RecentMap → map.FinMap bytes_cmp Text → RowMap
-- all rows, by the records and the values below
layered recent below = over_entries (map.entries recent) below

-- the values of runs, the newest first: what a run has of a row hides what older runs have
abbrev pub under : List Writes → map.FinMap bytes_cmp Text
under [] = map.empty
under (run ∷ older) = with_writes (map.entries run) (under older)

-- the first of two, if it is there, else the second
abbrev pub first_of : {A : Type 0} → Option A → Option A → Option A
first_of None second = second
first_of (Some x) second = Some x

-- what a run keeps of a write if no run is below it: a value; a deletion hides nothing there
abbrev pub value_only : Write → Option Write
value_only None = None
value_only (Some value) = Some (Some value)

-- what a run keeps of a write; if it is the `last`, no run is below it
abbrev pub kept_write : Bool → Write → Option Write
kept_write last write = cond last (value_only write) (Some write)

-- what two runs merged into one have for a key, by what the newer and the older have
abbrev pub merged_at : Bool → Option Write → Option Write → Option Write
merged_at last newer older = option_and_then (kept_write last) (first_of newer older)

-- a value that was found, before others
abbrev pub with_found : {K W : Type 0} → K → Option W → List (K × W) → List (K × W)
with_found k None found = found
with_found k (Some w) found = (k, w) ∷ found

-- what is found in each entry, in their order
abbrev pub gathered : {K V W : Type 0} → (V → Option W) → List (K × V) → List (K × W)
gathered found [] = []
gathered found (e ∷ es) = with_found e.0 (found e.1) (gathered found es)

-- the value of a record that says what the row has: a value, or none
abbrev pub value_of : Write → RecentValue
value_of None = Gone
value_of (Some value) = Value value

-- whether a record's value says more than no record would; a deletion that is `alone` has no runs below it
abbrev pub hides_below : Bool → RecentValue → Bool
hides_below alone AsBelow = false
hides_below alone (Value value) = true
hides_below alone Gone = not alone

-- the value of a record after the branch has ended, by what the branch wrote
abbrev pub ended_value : Option Write → RecentValue → RecentValue
ended_value None value = value
ended_value (Some write) value = value_of write

-- the record after the branch has ended: if it commits, what it wrote is the row's value; it holds the row no more
abbrev pub freed_recent : Bool → Xid → RecentRow → RecentRow
freed_recent commits xid row =
    record {
      value = cond commits (ended_value (write_in xid row.lock) row.value) row.value;
      lock = freed_lock xid row.lock;
    }

-- whether a row needs its record: a branch holds it, or the record says more than no record would
abbrev pub is_needed_over : Bool → RecentRow → Bool
is_needed_over alone row = held_beside Free row.lock || hides_below alone row.value

-- the record of a row that is held, once the runs below have its value; None if nobody holds it
abbrev pub held_as_below : RecentRow → Option RecentRow
held_as_below row = cond (held_beside Free row.lock) (Some (record { value = AsBelow; lock = row.lock })) None

-- what a key has once what was found, if anything was, was put at a key; `here` is what it had
abbrev pub put_at : {A : Type 0} → Option A → List ℕ → Option A → List ℕ → Option A
put_at found key here q = cond (eq_by_cmp bytes_cmp q key) (first_of found here) here
