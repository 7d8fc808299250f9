-- Rows in layers: what the records of recent rows and the runs below them have at each key, and what changes it.
use Rattle.std.proofs.Common.{◌≡◌, ℕ, List, [], ◌∷◌, refl, ap, sym, ◌∙◌, Bool, true, false, inl, inr, map as map_list}
use Rattle.std.specs.{Prelude.{Option, Some, None, cond, not, ◌&&◌, ◌||◌, is_some, MatchOption}, Cmp.eq_by_cmp_equiv}
use Rattle.std.specs.{Option.{option_map, option_and_then, unwrap_or}, List.list_any, Ordering.eq_by_cmp}
use Rattle.std.specs.{BTreeMap.{BTreeMap, Updates}, FinMap.{find, is_sorted, same_map, get-entries, Entries.below_all}}
use Rattle.std.specs.FinSet.{contains-items, contains-empty, contains-insert, same_set}
use Rattle.std.specs.declared.cmp.Ordering.{Ordering}
use mathlib.Core.Bool.{true≢false}
use Rattle.xa_xid.specs.{declared.xid.Xid.Xid, Xid.{Text, bytes_cmp, xid_cmp, same_xid}}
use Rattle.xa_xid.proofs.Orders.{xids_total, exact_xids, bytes_total, exact_texts}
use Rattle.xa_server.specs.declared.{association.Association.{Association, TheVariants.Free}, lock.Change.Change}
use Rattle.xa_server.specs.declared.lock.Lock.{Lock, TheVariants.{Exclusive as HeldBy, Shared as SharedBy}}
use Rattle.xa_server.specs.{declared.row.{RecentRow.RecentRow, RecentValue.RecentValue}, Locks.is_another}
use Rattle.xa_server.specs.{declared.{row.RecentValue.TheVariants.{AsBelow, Value, Gone}, hold.Hold.Hold}, State.Write}
use Rattle.xa_server.specs.{declared.hold.{Hold.TheVariants.Shared as SharesRow, HeldRow.HeldRow}, Recorded.RowRecord}
use Rattle.xa_server.specs.Rows.{RowMap, Sharing, committed_of, lock_of, write_in, write_by, mode_in, lock_by}
use Rattle.xa_server.specs.Rows.{held_beside, held_against, locked_against, locked_beside, value_seen, held_row}
use Rattle.xa_server.specs.Rows.{with_sharer, shared_row, freed_lock, freed_row, is_needed, kept, freed, Frees}
use Rattle.xa_server.specs.Layers.{RecentMap, change_of, change_at, recent_lock, row_over, with_row, over_entries}
use Rattle.xa_server.specs.Layers.{layered, value_of, hides_below, ended_value, freed_recent, is_needed_over}
use Rattle.xa_server.specs.{Layers.{held_as_below, Writes, first_of, put_at, with_found, gathered}, View.gather}
use Rattle.xa_server.{specs.Held.{hold_in, with_held, held_among, held_recently}, proofs.Maps.{get_view, find_lookup}}
use Rattle.xa_server.proofs.Maps.{same_or_apart, same_itself, get_inserted, get_inserted_apart, get_removed}
use Rattle.xa_server.proofs.{Maps.get_removed_apart, Gathered.{get-gather, get-mapped}, Kept.{first, second, find_none}}
use Rattle.xa_server.proofs.Kept.{sorted_kept, find_kept, sorted-strict, entries-gather, entries-made}
use Rattle.xa_server.proofs.{Merging.first_alone, Underlying.found_run, Holders.{none_of, itself, any_some}}
use Rattle.xa_server.proofs.Holders.{none_passes, mode_of-lock, held_against-lock, locked_against-lock}
use Rattle.xa_server.proofs.{Freeing.{not_there, frees_one}, Index.not_none}
use Rattle.std.specs.BTreeMap as tree
use Rattle.std.specs.FinMap as map
use Rattle.std.specs.FinSet as set

-- the records of recent rows, in their tree
abbrev pub Table : Type 0
Table = BTreeMap (List ℕ) RecentRow

-- the map of keys to records that the tree's entries make
abbrev pub recent_in : Table → RecentMap
recent_in table = map.from_entries {R = bytes_cmp} table.entries

-- if neither of two tests holds, the first doesn't
left_false : (a b : Bool) → (a || b) ≡ false → a ≡ false
left_false true b e = absurd (true≢false e)
left_false false b e = refl

-- if neither of two tests holds, the second doesn't
right_false : (a b : Bool) → (a || b) ≡ false → b ≡ false
right_false true b e = absurd (true≢false e)
right_false false b e = e

-- one of two tests holds if the second does
or_true : (a b : Bool) → b ≡ true → (a || b) ≡ true
or_true true b e = refl
or_true false b e = e

-- ---- a row by its parts

-- the lock of a row that no branch holds is nobody's
unheld : (lock : Lock) → held_beside Free lock ≡ false → lock ≡ SharedBy set.empty
unheld (HeldBy holder change) e = absurd (true≢false e)
unheld (SharedBy sharers) e =
    ap SharedBy (same_set xids_total exact_xids sharers set.empty
    (λ xid. by xid (set.contains sharers xid) refl ∙ sym (contains-empty xid_cmp xid)))
  where
    by : (xid : Xid) (b : Bool) → set.contains sharers xid ≡ b → set.contains sharers xid ≡ false
    by xid true is =
        absurd (true≢false (sym (any_some (is_another Free) (set.items sharers) xid
        (sym (contains-items sharers xid) ∙ is) refl) ∙ e))
    by xid false is = is

-- a row has its committed value, also if it isn't kept
kept_committed : (row : RowRecord) → committed_of (kept row) ≡ row.committed
kept_committed row = by (is_needed row) refl
  where
    by : (b : Bool) → is_needed row ≡ b → committed_of (cond b (Some row) None) ≡ row.committed
    by true e = refl
    by false e = sym (none_of row.committed (left_false (is_some row.committed) (held_beside Free row.lock) e))

-- a row has its lock, also if it isn't kept
kept_lock : (row : RowRecord) → lock_of (kept row) ≡ row.lock
kept_lock row = by (is_needed row) refl
  where
    by : (b : Bool) → is_needed row ≡ b → lock_of (cond b (Some row) None) ≡ row.lock
    by true e = refl
    by false e = sym (unheld row.lock (right_false (is_some row.committed) (held_beside Free row.lock) e))

-- nobody holds a row with nobody's lock
nobody_beside : (association : Association) → held_beside association (SharedBy set.empty) ≡ false
nobody_beside association = none_passes (is_another association)

-- a row that nobody holds is kept if it has a value
kept_nobody : (value : Option Text) → kept (record { committed = value; lock = SharedBy set.empty })
    ≡ option_map (λ text. record { committed = Some text; lock = SharedBy set.empty }) value
kept_nobody None = ap (λ b. cond b (Some (record { committed = None; lock = SharedBy set.empty })) None)
    (nobody_beside Free)
kept_nobody (Some text) = refl

-- two rows with the same parts are kept as one
same_kept : {value other : Option Text} {lock another : Lock} → value ≡ other → lock ≡ another
    → kept (record { committed = value; lock = lock }) ≡ kept (record { committed = other; lock = another })
same_kept p q = λ i. kept (record { committed = p i; lock = q i })

-- a branch ends on the row that is kept as it does on the row itself
freed_kept : (commits : Bool) (xid : Xid) (row : RowRecord)
    → freed commits xid (kept row) ≡ kept (freed_row commits xid row)
freed_kept commits xid row = by (is_needed row) refl
  where
    nothing : (b : Bool) (write : Option Write) → write ≡ None → cond b (unwrap_or write None) None ≡ None
    nothing true write e = ap (λ w. unwrap_or w None) e
    nothing false write e = refl

    -- no branch wrote a row that nobody holds
    by : (b : Bool) → is_needed row ≡ b → freed commits xid (cond b (Some row) None) ≡ kept (freed_row commits xid row)
    by true e = refl
    by false e =
        let none : row.committed ≡ None =
        none_of row.committed (left_false (is_some row.committed) (held_beside Free row.lock) e) in
        let free : row.lock ≡ SharedBy set.empty =
        unheld row.lock (right_false (is_some row.committed) (held_beside Free row.lock) e) in
        sym (same_kept
        ((λ i. cond commits (unwrap_or (write_in xid (free i)) (none i)) (none i)) ∙ nothing commits None refl)
        (ap (freed_lock xid) free ∙ ap SharedBy (not_there set.empty xid (contains-empty xid_cmp xid)))
        ∙ kept_nobody None)

-- ---- the row at a key

-- setting a row sets it at its key
with_row_here : (key : List ℕ) (row : Option RowRecord) (rows : RowMap) → map.get (with_row key row rows) key ≡ row
with_row_here key None rows = get_removed bytes_total exact_texts rows key
with_row_here key (Some row) rows = get_inserted bytes_total exact_texts rows key row

-- setting a row leaves those of other keys
with_row_apart : (key : List ℕ) (row : Option RowRecord) (rows : RowMap) (q : List ℕ)
    → eq_by_cmp bytes_cmp q key ≡ false
    → map.get (with_row key row rows) q ≡ map.get rows q
with_row_apart key None rows q apart = get_removed_apart bytes_total exact_texts rows key q apart
with_row_apart key (Some row) rows q apart = get_inserted_apart bytes_total exact_texts rows key row q apart

-- at each key stands the row of its record, over the value below
get-over : (es : List (List ℕ × RecentRow)) (below : map.FinMap bytes_cmp Text) (q : List ℕ)
    → map.get (over_entries es below) q ≡ row_over (find bytes_cmp q es) (map.get below q)
get-over [] below q =
    get-mapped bytes_total exact_texts (λ key value. record { committed = Some value; lock = SharedBy set.empty })
    below q
    ∙ sym (kept_nobody (map.get below q))
get-over (e ∷ es) below q = elim (same_or_apart bytes_total exact_texts q e.0) [
  | inl is ↦
      ap (map.get (over_entries (e ∷ es) below)) is
      ∙ with_row_here e.0 (row_over (Some e.1) (map.get below e.0)) (over_entries es below)
      ∙ sym (ap (λ b. row_over (cond b (Some e.1) (find bytes_cmp q es)) (map.get below q))
      (ap (λ k. eq_by_cmp bytes_cmp k e.0) is ∙ same_itself bytes_total exact_texts e.0)
      ∙ ap (λ k. row_over (Some e.1) (map.get below k)) is)
  | inr apart ↦
      with_row_apart e.0 (row_over (Some e.1) (map.get below e.0)) (over_entries es below) q apart
      ∙ get-over es below q
      ∙ sym (ap (λ b. row_over (cond b (Some e.1) (find bytes_cmp q es)) (map.get below q)) apart)
]

-- at each key stands the row of its record, over the value below
pub get-layered : (recent : RecentMap) (below : map.FinMap bytes_cmp Text) (q : List ℕ)
    → map.get (layered recent below) q ≡ row_over (map.get recent q) (map.get below q)
unfolding layered
get-layered recent below q =
    get-over (map.entries recent) below q ∙ ap (λ r. row_over r (map.get below q)) (sym (get-entries recent q))

-- the same, by a look-up in the tree
pub row_at : (table : Table) (below : map.FinMap bytes_cmp Text) (q : List ℕ)
    → map.get (layered (recent_in table) below) q ≡ row_over (tree.get bytes_cmp table q) (map.get below q)
row_at table below q =
    get-layered (recent_in table) below q
    ∙ ap (λ r. row_over r (map.get below q)) (get_view bytes_total exact_texts table q)

-- a look-up in the tree, over the value below, finds the row that contracts see
pub row_seen : (table : Table) (below : map.FinMap bytes_cmp Text) (seen : RowMap) (q : List ℕ)
    → layered (recent_in table) below ≡ seen
    → row_over (tree.get bytes_cmp table q) (map.get below q) ≡ map.get seen q
row_seen table below seen q is = sym (row_at table below q) ∙ ap (λ m. map.get m q) is

-- ---- what is read of a row

-- the committed value is what the record makes of the value below
pub committed_over : (recent : Option RecentRow) (below : Option Text)
    → committed_of (row_over recent below) ≡ unwrap_or (change_at recent) below
committed_over recent below =
    kept_committed (record { committed = unwrap_or (change_at recent) below; lock = recent_lock recent })

-- who holds the row is what the record says
pub lock_over : (recent : Option RecentRow) (below : Option Text) → lock_of (row_over recent below) ≡ recent_lock recent
lock_over recent below =
    kept_lock (record { committed = unwrap_or (change_at recent) below; lock = recent_lock recent })

-- what a branch wrote depends on the row's lock alone
written_lock : (xid : Xid) (found : Option RowRecord)
    → option_and_then (write_by xid) found ≡ write_in xid (lock_of found)
written_lock xid None = refl
written_lock xid (Some row) = refl

-- the value that a branch sees, by the record
pub value_over : (xid : Xid) (recent : Option RecentRow) (below : Option Text)
    → value_seen xid (row_over recent below)
    ≡ unwrap_or (write_in xid (recent_lock recent)) (committed_of (row_over recent below))
value_over xid recent below =
    ap (λ w. unwrap_or w (committed_of (row_over recent below)))
    (written_lock xid (row_over recent below) ∙ ap (write_in xid) (lock_over recent below))

-- whether a row is held against a session, by the record
pub held_over : (association : Association) (recent : Option RecentRow) (below : Option Text)
    → held_against association (row_over recent below) ≡ held_beside association (recent_lock recent)
held_over association recent below =
    held_against-lock association (row_over recent below) ∙ ap (held_beside association) (lock_over recent below)

-- whether a row is locked against a session, by the record
pub locked_over : (association : Association) (recent : Option RecentRow) (below : Option Text)
    → locked_against association (row_over recent below) ≡ locked_beside association (recent_lock recent)
locked_over association recent below =
    locked_against-lock association (row_over recent below) ∙ ap (locked_beside association) (lock_over recent below)

-- how a branch holds a row, by the record
pub mode_over : (xid : Xid) (recent : Option RecentRow) (below : Option Text)
    → option_and_then (lock_by xid) (row_over recent below) ≡ mode_in xid (recent_lock recent)
mode_over xid recent below =
    mode_of-lock xid (row_over recent below) ∙ ap (mode_in xid) (lock_over recent below)

-- ---- what changes a row

-- the look-ups in a tree in which one key was set or removed
updated : (old new : Table) (key : List ℕ) (recent : Option RecentRow) → Updates bytes_cmp old new key recent
    → (q : List ℕ) → tree.get bytes_cmp new q ≡ cond (eq_by_cmp bytes_cmp q key) recent (tree.get bytes_cmp old q)
updated old new key recent updates q =
    updates.0 q ∙ ap (λ b. cond b recent (tree.get bytes_cmp old q)) ((eq_by_cmp_equiv bytes_total).symm key q)

-- at the key that was set stands the row of the new record
set_here : (old new : Table) (key : List ℕ) (recent : Option RecentRow) (below : map.FinMap bytes_cmp Text)
    → Updates bytes_cmp old new key recent
    → map.get (layered (recent_in new) below) key ≡ row_over recent (map.get below key)
set_here old new key recent below updates =
    row_at new below key
    ∙ ap (λ r. row_over r (map.get below key))
    (updated old new key recent updates key
    ∙ ap (λ b. cond b recent (tree.get bytes_cmp old key)) (same_itself bytes_total exact_texts key))

-- at other keys the rows are as they were
set_apart : (old new : Table) (key : List ℕ) (recent : Option RecentRow) (below : map.FinMap bytes_cmp Text)
    → Updates bytes_cmp old new key recent → (q : List ℕ) → eq_by_cmp bytes_cmp q key ≡ false
    → map.get (layered (recent_in new) below) q ≡ map.get (layered (recent_in old) below) q
set_apart old new key recent below updates q apart =
    row_at new below q
    ∙ ap (λ r. row_over r (map.get below q))
    (updated old new key recent updates q ∙ ap (λ b. cond b recent (tree.get bytes_cmp old q)) apart)
    ∙ sym (row_at old below q)

-- setting or removing a record sets the row of its key, or removes it
pub layered_set : (old new : Table) (key : List ℕ) (recent : Option RecentRow) (row : Option RowRecord)
    (below : map.FinMap bytes_cmp Text) → Updates bytes_cmp old new key recent
    → row_over recent (map.get below key) ≡ row
    → layered (recent_in new) below ≡ with_row key row (layered (recent_in old) below)
layered_set old new key recent row below updates fits =
    same_map bytes_total exact_texts _ _ (λ q. elim (same_or_apart bytes_total exact_texts q key) [
      | inl is ↦ rw is (set_here old new key recent below updates ∙ fits
          ∙ sym (with_row_here key row (layered (recent_in old) below)))
      | inr apart ↦ set_apart old new key recent below updates q apart
          ∙ sym (with_row_apart key row (layered (recent_in old) below) q apart)
    ])

-- a row with a value that nobody holds
pub row_put : (text : Text) (below : Option Text)
    → row_over (Some (record { value = Value text; lock = SharedBy set.empty })) below
    ≡ Some (record { committed = Some text; lock = SharedBy set.empty })
row_put text below = refl

-- a row without a value that nobody holds is none
pub row_gone : (below : Option Text) → row_over (Some (record { value = Gone; lock = SharedBy set.empty })) below ≡ None
row_gone below = kept_nobody None

-- a row without a record and without a value below is none
pub row_nowhere : row_over None None ≡ None
row_nowhere = kept_nobody None

-- a row that a branch holds exclusively, by its record: with the value that the row had
held_now : (xid : Xid) (change : Change) (recent : Option RecentRow) (value : RecentValue) (below : Option Text)
    → change_at recent ≡ change_of value
    → row_over (Some (record { value = value; lock = HeldBy xid change })) below
    ≡ Some (held_row xid change (row_over recent below))
held_now xid change recent value below same =
    ap (λ b. cond b (Some (record { committed = unwrap_or (change_of value) below; lock = HeldBy xid change })) None)
    (or_true (is_some (unwrap_or (change_of value) below)) true refl)
    ∙ ap (λ c. Some (record { committed = c; lock = HeldBy xid change }))
    (ap (λ c. unwrap_or c below) (sym same) ∙ sym (committed_over recent below))

-- a row that is shared is held
sharer_holds : (xid : Xid) (lock : Lock) → held_beside Free (with_sharer xid lock) ≡ true
sharer_holds xid (HeldBy holder change) = refl
sharer_holds xid (SharedBy sharers) =
    any_some (is_another Free) (set.items (set.insert sharers xid)) xid
    (sym (contains-items (set.insert sharers xid) xid) ∙ contains-insert xids_total sharers xid xid
    ∙ ap (λ b. b || set.contains sharers xid) (itself xid)) refl

-- a row that a branch shares, by its record: with the value that the row had
shared_now : (xid : Xid) (recent : Option RecentRow) (value : RecentValue) (lock : Lock) (below : Option Text)
    → change_at recent ≡ change_of value → lock ≡ with_sharer xid (recent_lock recent)
    → row_over (Some (record { value = value; lock = lock })) below ≡ Some (shared_row xid (row_over recent below))
shared_now xid recent value lock below same is =
    ap (λ l. row_over (Some (record { value = value; lock = l })) below) is
    ∙ ap (λ b. cond b (Some (record {
      committed = unwrap_or (change_of value) below;
      lock = with_sharer xid (recent_lock recent);
    })) None)
    (or_true (is_some (unwrap_or (change_of value) below)) _ (sharer_holds xid (recent_lock recent)))
    ∙ (λ i. Some (record {
      committed = (ap (λ c. unwrap_or c below) (sym same) ∙ sym (committed_over recent below)) i;
      lock = with_sharer xid (sym (lock_over recent below) i);
    }))

-- what `set_lock` leaves: the lock changed in place
abbrev pub Locks : Lock → List ℕ → Table → Table → Type 0
Locks lock key old new = MatchOption (tree.get bytes_cmp old key) (new ≡ old)
    (λ row. Updates bytes_cmp old new key (Some (record row { lock = lock })))

-- if the row has a record, the lock went there; else it comes back
abbrev pub Backs : Lock → List ℕ → Table → Option Lock → Type 0
Backs lock key old back = MatchOption (tree.get bytes_cmp old key) (back ≡ Some lock) (λ row. back ≡ None)

-- a row that has a record, with an exclusive lock set in it, is one that the branch holds with this change
pub holds_known : (key : List ℕ) (xid : Xid) (change : Change) (old new : Table) (below : map.FinMap bytes_cmp Text)
    (back : Option Lock) → Locks (HeldBy xid change) key old new → Backs (HeldBy xid change) key old back → back ≡ None
    → layered (recent_in new) below ≡ map.insert (layered (recent_in old) below) key
    (held_row xid change (map.get (layered (recent_in old) below) key))
holds_known key xid change old new below back changes told is = by (tree.get bytes_cmp old key) refl changes told
  where
    by : (found : Option RecentRow) → tree.get bytes_cmp old key ≡ found
        → MatchOption found (new ≡ old) (λ row. Updates bytes_cmp old new key
        (Some (record row { lock = HeldBy xid change })))
        → MatchOption found (back ≡ Some (HeldBy xid change)) (λ row. back ≡ None)
        → layered (recent_in new) below ≡ map.insert (layered (recent_in old) below) key
        (held_row xid change (map.get (layered (recent_in old) below) key))
    by None e same given = not_none (HeldBy xid change) (sym is ∙ given)
    by (Some row) e updates given =
        layered_set old new key _ _ below updates
        (held_now xid change (Some row) row.value (map.get below key) refl)
        ∙ ap (λ found. map.insert (layered (recent_in old) below) key (held_row xid change found))
        (sym (row_at old below key ∙ ap (λ r. row_over r (map.get below key)) e))

-- a row that had no record, with one made of the exclusive lock, is one that the branch holds with this change
pub holds_new : (key : List ℕ) (xid : Xid) (change : Change) (old mid new : Table) (below : map.FinMap bytes_cmp Text)
    (back : Option Lock) (lock : Lock) → Locks (HeldBy xid change) key old mid → Backs (HeldBy xid change) key old back
    → back ≡ Some lock → Updates bytes_cmp mid new key (Some (record { value = AsBelow; lock = lock }))
    → layered (recent_in new) below ≡ map.insert (layered (recent_in old) below) key
    (held_row xid change (map.get (layered (recent_in old) below) key))
holds_new key xid change old mid new below back lock changes told is updates =
    by (tree.get bytes_cmp old key) refl changes told
  where
    by : (found : Option RecentRow) → tree.get bytes_cmp old key ≡ found
        → MatchOption found (mid ≡ old) (λ row. Updates bytes_cmp old mid key
        (Some (record row { lock = HeldBy xid change })))
        → MatchOption found (back ≡ Some (HeldBy xid change)) (λ row. back ≡ None)
        → layered (recent_in new) below ≡ map.insert (layered (recent_in old) below) key
        (held_row xid change (map.get (layered (recent_in old) below) key))
    by None e same given =
        let lock_is : lock ≡ HeldBy xid change = same_lock lock (HeldBy xid change) (sym is ∙ given) in
        layered_set mid new key _ _ below updates
        (ap (λ l. row_over (Some (record { value = AsBelow; lock = l })) (map.get below key)) lock_is
        ∙ held_now xid change None AsBelow (map.get below key) refl)
        ∙ ap (λ table. map.insert (layered (recent_in table) below) key
        (held_row xid change (row_over None (map.get below key)))) same
        ∙ ap (λ found. map.insert (layered (recent_in old) below) key (held_row xid change found))
        (sym (row_at old below key ∙ ap (λ r. row_over r (map.get below key)) e))
      where
        same_lock : (one other : Lock) → Some one ≡ Some other → one ≡ other
        same_lock one other e = ap (λ found. unwrap_or found one) e
    by (Some row) e updated given = not_none lock (sym given ∙ is)

-- what `share_in` leaves: the record changed in place
abbrev pub Shares : Xid → List ℕ → Table → Table → Type 0
Shares xid key old new = MatchOption (tree.get bytes_cmp old key) (new ≡ old)
    (λ row. Updates bytes_cmp old new key (Some (record row { lock = with_sharer xid row.lock })))

-- a row's record that is put back as it was changes nothing
pub put_back : (key : List ℕ) (old new : Table) (below : map.FinMap bytes_cmp Text)
    → MatchOption (tree.get bytes_cmp old key) (new ≡ old) (λ row. Updates bytes_cmp old new key (Some row))
    → layered (recent_in new) below ≡ layered (recent_in old) below
put_back key old new below = by (tree.get bytes_cmp old key) refl
  where
    by : (found : Option RecentRow) → tree.get bytes_cmp old key ≡ found
        → MatchOption found (new ≡ old) (λ row. Updates bytes_cmp old new key (Some row))
        → layered (recent_in new) below ≡ layered (recent_in old) below
    by None e same = ap (λ table. layered (recent_in table) below) same
    by (Some row) e updates =
        same_map bytes_total exact_texts _ _ (λ q. elim (same_or_apart bytes_total exact_texts q key) [
          | inl is ↦ rw is (set_here old new key (Some row) below updates
              ∙ sym (row_at old below key ∙ ap (λ r. row_over r (map.get below key)) e))
          | inr apart ↦ set_apart old new key (Some row) below updates q apart
        ])

-- a row that has a record, with one sharer more in it, is one that the branch shares
pub shares_known : (xid : Xid) (key : List ℕ) (old new : Table) (below : map.FinMap bytes_cmp Text)
    → Shares xid key old new → is_some (tree.get bytes_cmp old key) ≡ true
    → layered (recent_in new) below ≡ map.insert (layered (recent_in old) below) key
    (shared_row xid (map.get (layered (recent_in old) below) key))
shares_known xid key old new below shares there = by (tree.get bytes_cmp old key) refl there shares
  where
    by : (found : Option RecentRow) → tree.get bytes_cmp old key ≡ found → is_some found ≡ true
        → MatchOption found (new ≡ old) (λ row. Updates bytes_cmp old new key
        (Some (record row { lock = with_sharer xid row.lock })))
        → layered (recent_in new) below ≡ map.insert (layered (recent_in old) below) key
        (shared_row xid (map.get (layered (recent_in old) below) key))
    by None e there same = absurd (true≢false (sym there))
    by (Some row) e there updates =
        layered_set old new key _ _ below updates
        (shared_now xid (Some row) row.value (with_sharer xid row.lock) (map.get below key) refl refl)
        ∙ ap (λ found. map.insert (layered (recent_in old) below) key (shared_row xid found))
        (sym (row_at old below key ∙ ap (λ r. row_over r (map.get below key)) e))

-- a row that had no record, with one made of this sharer, is one that the branch shares
pub shares_new : (xid : Xid) (key : List ℕ) (old mid new : Table) (below : map.FinMap bytes_cmp Text) (lock : Lock)
    → Shares xid key old mid → is_some (tree.get bytes_cmp old key) ≡ false → lock ≡ with_sharer xid
    (SharedBy set.empty)
    → Updates bytes_cmp mid new key (Some (record { value = AsBelow; lock = lock }))
    → layered (recent_in new) below ≡ map.insert (layered (recent_in old) below) key
    (shared_row xid (map.get (layered (recent_in old) below) key))
shares_new xid key old mid new below lock shares none lock_is updates =
    by (tree.get bytes_cmp old key) refl none shares
  where
    by : (found : Option RecentRow) → tree.get bytes_cmp old key ≡ found → is_some found ≡ false
        → MatchOption found (mid ≡ old) (λ row. Updates bytes_cmp old mid key
        (Some (record row { lock = with_sharer xid row.lock })))
        → layered (recent_in new) below ≡ map.insert (layered (recent_in old) below) key
        (shared_row xid (map.get (layered (recent_in old) below) key))
    by None e none same =
        layered_set mid new key _ _ below updates
        (shared_now xid None AsBelow lock (map.get below key) refl lock_is)
        ∙ ap (λ table. map.insert (layered (recent_in table) below) key
        (shared_row xid (row_over None (map.get below key)))) same
        ∙ ap (λ found. map.insert (layered (recent_in old) below) key (shared_row xid found))
        (sym (row_at old below key ∙ ap (λ r. row_over r (map.get below key)) e))
    by (Some row) e none updated = absurd (true≢false none)

-- ---- the end of a branch

-- what `free_in` leaves: the record changed in place
abbrev pub Changes : Bool → Xid → List ℕ → Table → Table → Type 0
Changes commits xid key old new = MatchOption (tree.get bytes_cmp old key) (new ≡ old)
    (λ row. Updates bytes_cmp old new key (Some (freed_recent commits xid row)))

-- `needed` says whether the row's record is still needed once the branch is freed; true if there is no record
abbrev pub Tells : Bool → Xid → List ℕ → Table → Bool → Bool → Type 0
Tells commits xid key old alone needed = MatchOption (tree.get bytes_cmp old key) (needed ≡ true)
    (λ row. needed ≡ is_needed_over alone (freed_recent commits xid row))

-- the committed value of a record after a branch has ended
ended_over : (commits : Bool) (write : Option Write) (value : RecentValue) (below : Option Text)
    → unwrap_or (change_of (cond commits (ended_value write value) value)) below
    ≡ cond commits (unwrap_or write (unwrap_or (change_of value) below)) (unwrap_or (change_of value) below)
ended_over true None value below = refl
ended_over true (Some None) value below = refl
ended_over true (Some (Some text)) value below = refl
ended_over false write value below = refl

-- a branch ends on a row's record as it does on the row
freed_over : (commits : Bool) (xid : Xid) (row : RecentRow) (below : Option Text)
    → row_over (Some (freed_recent commits xid row)) below ≡ freed commits xid (row_over (Some row) below)
freed_over commits xid row below =
    same_kept (ended_over commits (write_in xid row.lock) row.value below) refl
    ∙ sym (freed_kept commits xid (record { committed = unwrap_or (change_of row.value) below; lock = row.lock }))

-- the end of a branch leaves a row without a record as it is
freed_alone : (commits : Bool) (xid : Xid) (below : Option Text)
    → row_over None below ≡ freed commits xid (row_over None below)
freed_alone commits xid below =
    same_kept (same commits below) (sym (ap SharedBy (not_there set.empty xid (contains-empty xid_cmp xid))))
    ∙ sym (freed_kept commits xid (record { committed = below; lock = SharedBy set.empty }))
  where
    same : (b : Bool) (value : Option Text) → value ≡ cond b value value
    same true value = refl
    same false value = refl

-- a row whose record isn't needed is the same without it
unneeded : (alone : Bool) (row : RecentRow) (below : Option Text) → is_needed_over alone row ≡ false
    → (alone ≡ true → below ≡ None) → row_over None below ≡ row_over (Some row) below
unneeded alone row below e none =
    same_kept (by row.value alone (right_false (held_beside Free row.lock) (hides_below alone row.value) e) none)
    (sym (unheld row.lock (left_false (held_beside Free row.lock) (hides_below alone row.value) e)))
  where
    by : (value : RecentValue) (alone : Bool) → hides_below alone value ≡ false → (alone ≡ true → below ≡ None)
        → below ≡ unwrap_or (change_of value) below
    by AsBelow alone e none = refl
    by (Value text) alone e none = absurd (true≢false e)
    by Gone true e none = none refl
    by Gone false e none = absurd (true≢false e)

-- if a row's record, where there is one, is changed in place to one without the branch, the row is freed of the branch
pub frees_kept : (commits : Bool) (xid : Xid) (key : List ℕ) (old new : Table) (below : map.FinMap bytes_cmp Text)
    → Changes commits xid key old new
    → Frees commits xid (key ∷ []) (layered (recent_in old) below) (layered (recent_in new) below)
frees_kept commits xid key old new below changes = by (tree.get bytes_cmp old key) refl changes
  where
    by : (found : Option RecentRow) → tree.get bytes_cmp old key ≡ found
        → MatchOption found (new ≡ old) (λ row. Updates bytes_cmp old new key (Some (freed_recent commits xid row)))
        → Frees commits xid (key ∷ []) (layered (recent_in old) below) (layered (recent_in new) below)
    by None e same =
        let row : map.get (layered (recent_in old) below) key ≡ row_over None (map.get below key) =
        row_at old below key ∙ ap (λ r. row_over r (map.get below key)) e in
        rw same (frees_one commits xid key (layered (recent_in old) below) (layered (recent_in old) below)
        (row ∙ freed_alone commits xid (map.get below key) ∙ sym (ap (freed commits xid) row))
        (λ other apart. refl))
    by (Some row) e updates =
        frees_one commits xid key (layered (recent_in old) below) (layered (recent_in new) below)
        (set_here old new key _ below updates ∙ freed_over commits xid row (map.get below key)
        ∙ sym (ap (freed commits xid) (row_at old below key ∙ ap (λ r. row_over r (map.get below key)) e)))
        (λ other apart. set_apart old new key _ below updates other apart)

-- if it isn't needed then, and is removed, the row is freed of the branch, too
pub frees_dropped : (commits : Bool) (xid : Xid) (key : List ℕ) (old mid new : Table)
    (below : map.FinMap bytes_cmp Text) (alone needed : Bool) → (alone ≡ true → below ≡ map.empty)
    → Changes commits xid key old mid → Tells commits xid key old alone needed → needed ≡ false
    → Updates bytes_cmp mid new key None
    → Frees commits xid (key ∷ []) (layered (recent_in old) below) (layered (recent_in new) below)
frees_dropped commits xid key old mid new below alone needed nothing changes tells is gone =
    by (tree.get bytes_cmp old key) refl changes tells
  where
    by : (found : Option RecentRow) → tree.get bytes_cmp old key ≡ found
        → MatchOption found (mid ≡ old) (λ row. Updates bytes_cmp old mid key (Some (freed_recent commits xid row)))
        → MatchOption found (needed ≡ true) (λ row. needed ≡ is_needed_over alone (freed_recent commits xid row))
        → Frees commits xid (key ∷ []) (layered (recent_in old) below) (layered (recent_in new) below)
    by None e same told = absurd (true≢false (sym told ∙ is))
    by (Some row) e updates told =
        frees_one commits xid key (layered (recent_in old) below) (layered (recent_in new) below)
        (set_here mid new key None below gone
        ∙ unneeded alone (freed_recent commits xid row) (map.get below key) (sym told ∙ is)
        (λ all. ap (λ m. map.get m key) (nothing all) ∙ map.get-empty bytes_cmp key)
        ∙ freed_over commits xid row (map.get below key)
        ∙ sym (ap (freed commits xid) (row_at old below key ∙ ap (λ r. row_over r (map.get below key)) e)))
        (λ other apart. set_apart mid new key None below gone other apart
        ∙ set_apart old mid key _ below updates other apart)

-- ---- copies

module _ {K V W : Type 0} (R : K → K → Ordering) where
  -- what a key has once what is found in each entry, one after another, was put at the entry's key; `here` is what it
  -- had
  abbrev pub later_at : (V → Option W) → List (K × V) → Option W → K → Option W
  later_at found [] here q = here
  later_at found (e ∷ es) here q = later_at found es (cond (eq_by_cmp R q e.0) (first_of (found e.1) here) here) q

module _ {V W : Type 0} where
  -- of ascending entries, a key has what is found in its entry, or else what it had
  pub later_found : (found : V → Option W) (es : List (List ℕ × V)) (here : Option W) (q : List ℕ)
      → is_sorted bytes_cmp es ≡ true
      → later_at bytes_cmp found es here q ≡ first_of (option_and_then found (find bytes_cmp q es)) here
  later_found found [] here q h = refl
  later_found found (e ∷ es) here q h =
      later_found found es (cond (eq_by_cmp bytes_cmp q e.0) (first_of (found e.1) here) here) q
      (second (below_all bytes_cmp e.0 es) (is_sorted bytes_cmp es) h)
      ∙ (elim (same_or_apart bytes_total exact_texts q e.0) [
        | inl is ↦
            let same : eq_by_cmp bytes_cmp q e.0 ≡ true =
            ap (λ k. eq_by_cmp bytes_cmp k e.0) is ∙ same_itself bytes_total exact_texts e.0 in
            let none : find bytes_cmp q es ≡ None =
            ap (λ k. find bytes_cmp k es) is
            ∙ find_none bytes_cmp e.0 es (first (below_all bytes_cmp e.0 es) (is_sorted bytes_cmp es) h) in
            (λ i. first_of (option_and_then found (none i)) (cond (same i) (first_of (found e.1) here) here))
            ∙ sym (ap (λ b. first_of (option_and_then found (cond b (Some e.1) (find bytes_cmp q es))) here) same)
        | inr apart ↦
            (λ i. first_of (option_and_then found (find bytes_cmp q es))
            (cond (apart i) (first_of (found e.1) here) here))
            ∙ sym (ap (λ b. first_of (option_and_then found (cond b (Some e.1) (find bytes_cmp q es))) here) apart)
      ])

-- nothing is found in an entry, so nothing is put
pub put_none : (found : Option RecentRow) (here : Option RecentRow) (k q : List ℕ) → found ≡ None
    → here ≡ put_at found k here q
put_none found here k q none = by (eq_by_cmp bytes_cmp q k) ∙ ap (λ f. put_at f k here q) (sym none)
  where
    by : (b : Bool) → here ≡ cond b here here
    by true = refl
    by false = refl

-- what is found in an entry is put
pub put_one : (found : Option RecentRow) (row : RecentRow) (table more : Table) (k q : List ℕ) → found ≡ Some row
    → Updates bytes_cmp table more k (Some row)
    → tree.get bytes_cmp more q ≡ put_at found k (tree.get bytes_cmp table q) q
put_one found row table more k q some updates =
    updated table more k (Some row) updates q ∙ ap (λ f. put_at f k (tree.get bytes_cmp table q) q) (sym some)

-- the next record's is put
pub puts_next : (found : RecentRow → Option RecentRow) (recent : List (List ℕ × RecentRow)) (made more : Table)
    (k : List ℕ) (row : RecentRow) (rest left : List (List ℕ × RecentRow)) (q : List ℕ) → left ≡ (k, row) ∷ rest
    → tree.get bytes_cmp more q ≡ put_at (found row) k (tree.get bytes_cmp made q) q
    → later_at bytes_cmp found left (tree.get bytes_cmp made q) q ≡ later_at bytes_cmp found recent None q
    → later_at bytes_cmp found rest (tree.get bytes_cmp more q) q ≡ later_at bytes_cmp found recent None q
puts_next found recent made more k row rest left q is put all =
    ap (λ here. later_at bytes_cmp found rest here q) put
    ∙ ap (λ es. later_at bytes_cmp found es (tree.get bytes_cmp made q) q) (sym is) ∙ all

-- what was made of all records is what is made of each
pub all_put : (found : RecentRow → Option RecentRow) (recent made : Table) (left : List (List ℕ × RecentRow))
    (q : List ℕ) → tree.IsOrdered bytes_cmp recent → left ≡ []
    → later_at bytes_cmp found left (tree.get bytes_cmp made q) q ≡ later_at bytes_cmp found recent.entries None q
    → tree.get bytes_cmp made q ≡ option_and_then found (tree.get bytes_cmp recent q)
all_put found recent made left q ordered none is =
    ap (λ es. later_at bytes_cmp found es (tree.get bytes_cmp made q) q) (sym none) ∙ is
    ∙ later_found found recent.entries None q (sorted-strict bytes_total exact_texts recent.entries ordered)
    ∙ sym (first_alone (option_and_then found (find bytes_cmp q recent.entries)))
    ∙ ap (option_and_then found) (find_lookup bytes_total exact_texts recent.entries q)

-- what a run of the records' changes has for a key is what the key's record makes of the value below
pub change_found : (recent : Table) (run : Writes) (q : List ℕ) → tree.IsOrdered bytes_cmp recent
    → run ≡ map.from_sorted {R = bytes_cmp} (gathered (λ (row : RecentRow). change_of row.value) recent.entries)
    → map.get run q ≡ change_at (tree.get bytes_cmp recent q)
change_found recent run q ordered is =
    let sorted : is_sorted bytes_cmp recent.entries ≡ true =
    sorted-strict bytes_total exact_texts recent.entries ordered in
    sym (found_run (gathered (λ (row : RecentRow). change_of row.value) recent.entries) run q
    (sorted_kept bytes_cmp (λ (row : RecentRow). change_of row.value) recent.entries sorted) (sym is))
    ∙ find_kept bytes_total exact_texts (λ (row : RecentRow). change_of row.value) recent.entries q sorted
    ∙ ap change_at (find_lookup bytes_total exact_texts recent.entries q)

-- the changes of records ascend by key
pub changes_sorted : (recent : Table) (rows : List (List ℕ × Write)) → tree.IsOrdered bytes_cmp recent
    → rows ≡ gathered (λ (row : RecentRow). change_of row.value) recent.entries → is_sorted bytes_cmp rows ≡ true
changes_sorted recent rows ordered is =
    ap (is_sorted bytes_cmp) is
    ∙ sorted_kept bytes_cmp (λ (row : RecentRow). change_of row.value) recent.entries
    (sorted-strict bytes_total exact_texts recent.entries ordered)

-- ---- the rows that a branch holds

-- a held row, by its key and how it is held
held_as : List ℕ × Hold → HeldRow
held_as named = record { key = named.0; hold = named.1 }

-- the held row of a key, in front of others
with_held-found : (key : List ℕ) (hold : Option Hold) (rows : List HeldRow) (found : List (List ℕ × Hold))
    → rows ≡ map_list held_as found → with_held key hold rows ≡ map_list held_as (with_found key hold found)
unfolding held_as
with_held-found key None rows found e = e
with_held-found key (Some hold) rows found e = ap (λ more. record { key = key; hold = hold } ∷ more) e

-- the rows that a branch holds are those that are found to be held
held_among-found : (xid : Xid) (es : List (List ℕ × RowRecord))
    → held_among xid es ≡ map_list held_as (gathered (λ row. hold_in xid row.lock) es)
held_among-found xid [] = refl
held_among-found xid (e ∷ es) =
    with_held-found e.0 (hold_in xid e.1.lock) (held_among xid es) (gathered (λ row. hold_in xid row.lock) es)
    (held_among-found xid es)

-- the same, by the records of recent rows
held_recently-found : (xid : Xid) (es : List (List ℕ × RecentRow))
    → held_recently xid es ≡ map_list held_as (gathered (λ row. hold_in xid row.lock) es)
held_recently-found xid [] = refl
held_recently-found xid (e ∷ es) =
    with_held-found e.0 (hold_in xid e.1.lock) (held_recently xid es) (gathered (λ row. hold_in xid row.lock) es)
    (held_recently-found xid es)

-- how a branch holds a row depends on the row's lock alone
hold_lock : (xid : Xid) (found : Option RowRecord)
    → option_and_then (λ row. hold_in xid row.lock) found ≡ hold_in xid (lock_of found)
hold_lock xid None = sym (ap (λ b. cond b (Some SharesRow) None) (contains-empty xid_cmp xid))
hold_lock xid (Some row) = refl

-- the same, by its record
hold_recent : (xid : Xid) (recent : Option RecentRow)
    → option_and_then (λ row. hold_in xid row.lock) recent ≡ hold_in xid (recent_lock recent)
hold_recent xid None = sym (ap (λ b. cond b (Some SharesRow) None) (contains-empty xid_cmp xid))
hold_recent xid (Some row) = refl

-- the rows that a branch holds are those whose records say so
pub held_listed : (xid : Xid) (table : Table) (below : map.FinMap bytes_cmp Text) → tree.IsOrdered bytes_cmp table
    → held_recently xid table.entries ≡ held_among xid (map.entries (layered (recent_in table) below))
held_listed xid table below ordered =
    held_recently-found xid table.entries
    ∙ ap (map_list held_as)
    (ap (gathered (λ (row : RecentRow). hold_in xid row.lock))
    (sym (entries-made bytes_total exact_texts table.entries ordered))
    ∙ sym (entries-gather bytes_total exact_texts (λ (row : RecentRow). hold_in xid row.lock) (recent_in table))
    ∙ ap map.entries (same_map bytes_total exact_texts
    (gather (λ (row : RecentRow). hold_in xid row.lock) (recent_in table))
    (gather (λ (row : RowRecord). hold_in xid row.lock) (layered (recent_in table) below))
    (λ q.
    get-gather bytes_total exact_texts (λ (row : RecentRow). hold_in xid row.lock) (recent_in table) q
    ∙ hold_recent xid (map.get (recent_in table) q)
    ∙ ap (hold_in xid) (sym (lock_over (map.get (recent_in table) q) (map.get below q)))
    ∙ ap (λ found. hold_in xid (lock_of found)) (sym (get-layered (recent_in table) below q))
    ∙ sym (hold_lock xid (map.get (layered (recent_in table) below) q))
    ∙ sym (get-gather bytes_total exact_texts (λ (row : RowRecord). hold_in xid row.lock)
    (layered (recent_in table) below) q)))
    ∙ entries-gather bytes_total exact_texts (λ (row : RowRecord). hold_in xid row.lock) (layered
    (recent_in table) below))
    ∙ sym (held_among-found xid (map.entries (layered (recent_in table) below)))

-- ---- copies of all rows

-- the row of a record is the same over runs that have its value, if it is kept only while the row is held
over_change : (recent : Option RecentRow) (below : Option Text)
    → row_over (option_and_then held_as_below recent) (unwrap_or (change_at recent) below) ≡ row_over recent below
over_change None below = refl
over_change (Some row) below = by (held_beside Free row.lock) refl
  where
    by : (b : Bool) → held_beside Free row.lock ≡ b
        → row_over (cond b (Some (record { value = AsBelow; lock = row.lock })) None)
        (unwrap_or (change_of row.value) below) ≡ row_over (Some row) below
    by true e = refl
    by false e = same_kept refl (sym (unheld row.lock e))

-- records of held rows over runs that have the values of all records are the same rows
pub same_rows : (recent held : Table) (below above : map.FinMap bytes_cmp Text)
    → ((q : List ℕ) → tree.get bytes_cmp held q ≡ option_and_then held_as_below (tree.get bytes_cmp recent q))
    → ((q : List ℕ) → map.get above q ≡ unwrap_or (change_at (tree.get bytes_cmp recent q)) (map.get below q))
    → layered (recent_in held) above ≡ layered (recent_in recent) below
same_rows recent held below above records values =
    same_map bytes_total exact_texts _ _ (λ q.
    row_at held above q
    ∙ (λ i. row_over (records q i) (values q i))
    ∙ over_change (tree.get bytes_cmp recent q) (map.get below q)
    ∙ sym (row_at recent below q))
