-- The branches that a state lists are those of the records, and so are the rows that a branch holds.
use Rattle.std.proofs.Common.{◌≡◌, List, [], ◌∷◌, refl, ap, sym, ◌∙◌, Bool, true, false, map, ℕ}
use Rattle.std.specs.{Prelude.{Option, Some, None, cond, is_some}, List.AllByRecursion}
use Rattle.std.specs.{Option.{option_map, option_map_or, option_and_then}, FinMap.{find, get-entries}}
use mathlib.Core.Bool.{true≢false}
use Rattle.xa_xid.specs.{declared.xid.Xid.Xid, Xid.{bytes_cmp, same_xid}}
use Rattle.xa_xid.proofs.Orders.{xids_total, exact_xids, bytes_total, exact_texts}
use Rattle.xa_server.specs.declared.{branch.BranchRecord.BranchRecord, hold.{HeldRow.HeldRow, Hold.Hold}}
use Rattle.xa_server.specs.declared.lock.Lock.{Lock, TheVariants.{Exclusive as HeldBy, Shared as SharedBy}}
use Rattle.xa_server.specs.{Recorded.RowRecord, Held.{recorded_entry, recorded_entries, hold_in, with_held, held_among}}
use Rattle.xa_server.specs.Overview.{entry_of, branches_of, hold_of, held_row, rows_held, rows_of}
use Rattle.xa_server.specs.Rows.{RowMap, write_by, write_in, lock_by, mode_in, write_of}
use Rattle.xa_server.specs.{State.{State, Branch, LockMode, Exclusive, Shared, Write, is_known}, Tables.BranchMap}
use Rattle.xa_server.specs.View.{gather, map_values, branch_seen, state_of}
use Rattle.xa_server.{specs.Layers.{with_found as with_kept, gathered as kept}, proofs.Gathered.entries-mapped}
use Rattle.xa_server.proofs.{Kept.{entries-gather, found_entries}, Seen.{get-branches, writes-seen, known_record}}
use Rattle.std.specs.FinMap as fin
use Rattle.std.specs.FinSet as set

-- ---- branches

-- a state's branch as a list shows it is the branch's record as it is kept
entries-seen : (rows : RowMap) (es : List (Xid × BranchRecord))
    → map entry_of (map_values (branch_seen rows) es) ≡ map recorded_entry es
entries-seen rows [] = refl
entries-seen rows (e ∷ es) = ap (λ rest. recorded_entry e ∷ rest) (entries-seen rows es)

-- the branches that a state lists are those of which there are records
pub branches-seen : (branches : BranchMap) (rows : RowMap)
    → branches_of (state_of branches rows) ≡ recorded_entries branches
unfolding branches_of state_of
branches-seen branches rows = ap (map entry_of) (entries-mapped xids_total exact_xids (branch_seen rows) branches)
    ∙ entries-seen rows (fin.entries branches)

-- ---- rows

-- a branch holds a row exclusively that it wrote, and shares another that it holds
hold-modes : (xid : Xid) (lock : Lock) → hold_in xid lock
    ≡ option_map (λ (mode : LockMode). hold_of (write_in xid lock)) (mode_in xid lock)
hold-modes xid (HeldBy holder change) = by (same_xid holder xid)
  where
    by : (b : Bool) → cond b (Some (hold_of (Some (write_of change)))) None
        ≡ option_map (λ (mode : LockMode). hold_of (cond b (Some (write_of change)) None))
        (cond b (Some Exclusive) None)
    by true = refl
    by false = refl
hold-modes xid (SharedBy sharers) = by (set.contains sharers xid)
  where
    by : (b : Bool) → cond b (Some Hold.Shared) None ≡ option_map (λ (mode : LockMode). hold_of None)
        (cond b (Some Shared) None)
    by true = refl
    by false = refl

-- the induction's step: if the records of a list and the branch say the same of which rows it holds, so they do with
-- one row more in front
held-more : (branch : Branch) (xid : Xid) (e : List ℕ × RowRecord) (es : List (List ℕ × RowRecord))
    → fin.get branch.writes e.0 ≡ write_by xid e.1 →
    held_among xid es ≡ map (held_row branch) (kept (lock_by xid) es) → (mode : Option LockMode) →
    with_held e.0 (option_map (λ (mode : LockMode). hold_of (write_in xid e.1.lock)) mode) (held_among xid es)
    ≡ map (held_row branch) (with_kept e.0 mode (kept (lock_by xid) es))
held-more branch xid e es wrote rest None = rest
held-more branch xid e es wrote rest (Some mode) =
    ap (λ (write : Option Write). let row : HeldRow = record { key = e.0; hold = hold_of write } in
    row ∷ held_among xid es) (sym wrote)
    ∙ ap (λ rows. held_row branch (e.0, mode) ∷ rows) rest

-- if a branch's writes are those in a list of rows' records, the rows of the list that it holds are those whose
-- record says so, each with the branch's write
held-kept : (branch : Branch) (xid : Xid) (es : List (List ℕ × RowRecord))
    → AllByRecursion (λ (e : List ℕ × RowRecord). fin.get branch.writes e.0 ≡ write_by xid e.1) es →
    held_among xid es ≡ map (held_row branch) (kept (lock_by xid) es)
held-kept branch xid [] h = refl
held-kept branch xid (e ∷ es) h =
    ap (λ held. with_held e.0 held (held_among xid es)) (hold-modes xid e.1.lock)
    ∙ held-more branch xid e es h.0 (held-kept branch xid es h.1) (mode_in xid e.1.lock)

-- the branch's writes are those in the rows' records
wrote-each : (rows : RowMap) (xid : Xid) (es : List (List ℕ × RowRecord))
    → AllByRecursion (λ (e : List ℕ × RowRecord). find bytes_cmp e.0 (fin.entries rows) ≡ Some e.1) es →
    AllByRecursion (λ (e : List ℕ × RowRecord). fin.get (gather (write_by xid) rows) e.0 ≡ write_by xid e.1) es
wrote-each rows xid [] h = tt
wrote-each rows xid (e ∷ es) h = (
  writes-seen rows xid e.0 ∙ ap (option_and_then (write_by xid))
      (get-entries rows e.0 ∙ h.0),
  wrote-each rows xid es h.1,
)

-- the rows that a branch holds in the state are those whose records name it
rows-seen : (rows : RowMap) (xid : Xid) (branch : BranchRecord)
    → rows_held (branch_seen rows xid branch) ≡ held_among xid (fin.entries rows)
rows-seen rows xid branch =
    ap (map (held_row (branch_seen rows xid branch))) (entries-gather bytes_total exact_texts (lock_by xid) rows)
    ∙ sym (held-kept (branch_seen rows xid branch) xid (fin.entries rows)
    (wrote-each rows xid (fin.entries rows) (found_entries bytes_total exact_texts rows)))

-- a branch that has a record holds the rows whose records name it
rows-known : (rows : RowMap) (xid : Xid) (found : Option BranchRecord) → is_some found ≡ true →
    option_map_or rows_held (option_map (branch_seen rows xid) found) [] ≡ held_among xid (fin.entries rows)
rows-known rows xid None there = absurd (true≢false (sym there))
rows-known rows xid (Some branch) there = rows-seen rows xid branch

-- a branch that the state knows holds the rows whose records name it
pub rows_of-seen : (branches : BranchMap) (rows : RowMap) (xid : Xid) → is_known (state_of branches rows) xid ≡ true
    → rows_of (state_of branches rows) xid ≡ held_among xid (fin.entries rows)
unfolding rows_of
rows_of-seen branches rows xid known =
    ap (λ found. option_map_or rows_held found []) (get-branches branches rows xid)
    ∙ rows-known rows xid (fin.get branches xid) (known_record branches rows xid known)

-- a branch that isn't known holds no row
pub rows_of-unknown : (state : State) (xid : Xid) → is_known state xid ≡ false → rows_of state xid ≡ []
unfolding rows_of
rows_of-unknown state xid unknown = by (fin.get state.branches xid) unknown
  where
    by : (found : Option Branch) → is_some found ≡ false → option_map_or rows_held found [] ≡ []
    by None e = refl
    by (Some branch) e = absurd (true≢false e)
