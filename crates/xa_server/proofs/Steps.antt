-- What a change of the records is in the state that they stand for.
use Rattle.std.proofs.Common.{◌≡◌, ℕ, List, [], refl, ap, sym, ◌∙◌, Bool, true, false, inl, inr}
use Rattle.std.specs.{Prelude.{Option, Some, None, cond, is_some}, Option.{option_map, option_map_or, option_and_then}}
use Rattle.std.specs.{FinMap.{get-empty, same_map}, FinSet.contains-empty}
use mathlib.Core.Bool.{true≢false}
use Rattle.xa_xid.specs.{declared.xid.Xid.Xid, Xid.{Text, bytes_cmp, xid_cmp, same_xid}}
use Rattle.xa_xid.proofs.Orders.{xids_total, exact_xids, bytes_total, exact_texts}
use Rattle.xa_server.specs.declared.branch.{Phase.TheVariants.Active as PhaseActive, BranchRecord.BranchRecord}
use Rattle.xa_server.specs.declared.{lock.{Change.Change, Lock.Lock}, association.Association.TheVariants.Active}
use Rattle.xa_server.specs.{Recorded.RowRecord, State.{LockMode, Shared, Exclusive, Branch, State, no_state}}
use Rattle.xa_server.specs.{Locks.is_exclusive, Step.{started_by, with_branch, with_changed, with_lock, with_write}}
use Rattle.xa_server.specs.{Tables.{BranchMap, with_record}, Rows.{RowMap, committed_of, lock_of, write_of, write_by}}
use Rattle.xa_server.specs.Rows.{mode_in, lock_by, locked_against, held_row, shared_row, with_change}
use Rattle.xa_server.{specs.View.{gather, branch_seen, state_of}, proofs.Gathered.get-gather}
use Rattle.xa_server.proofs.Maps.{same_or_apart, get_inserted, get_inserted_apart, get_removed, get_removed_apart}
use Rattle.xa_server.proofs.Holders.{mode_of, mode_of-lock, none_of, itself, turned_apart, unwritten}
use Rattle.xa_server.proofs.Holders.{locked_against-lock, sharer_there, sharer_beside, sharer_writes}
use Rattle.xa_server.proofs.Seen.{get-branches}
use Rattle.std.specs.FinMap as map
use Rattle.std.specs.FinSet as set

-- states with the same branches and rows are one
pub same_state : (s t : State) → s.branches ≡ t.branches → s.rows ≡ t.rows → s ≡ t
same_state s t b r = λ i. record { branches = b i; rows = r i }

-- branches with equal fields are equal
same_branch : (b c : Branch) → b.phase ≡ c.phase → b.owner ≡ c.owner → b.writes ≡ c.writes → b.locks ≡ c.locks → b ≡ c
same_branch b c p o w l = λ i. record { phase = p i; owner = o i; writes = w i; locks = l i }

-- maps with the same branch at each identifier are equal
pub same_branches : (m n : map.FinMap xid_cmp Branch) → ((xid : Xid) → map.get m xid ≡ map.get n xid) → m ≡ n
same_branches m n is = same_map xids_total exact_xids m n is

-- ---- what is gathered from rows

module _ {W : Type 0} (found : RowRecord → Option W) where
  -- if the same is found in each row's record, the same is gathered
  pub gather_same : (old new : RowMap) → ((key : List ℕ)
      → option_and_then found (map.get new key) ≡ option_and_then found (map.get old key))
      → gather found new ≡ gather found old
  gather_same old new is =
      same_map bytes_total exact_texts _ _
      (λ key. get-gather bytes_total exact_texts found new key ∙ is key
      ∙ sym (get-gather bytes_total exact_texts found old key))

  -- if nothing is found in any row's record, nothing is gathered
  gather_none : (rows : RowMap) → ((key : List ℕ) → option_and_then found (map.get rows key) ≡ None)
      → gather found rows ≡ map.empty
  gather_none rows is = same_map bytes_total exact_texts _ _
      (λ key. get-gather bytes_total exact_texts found rows key ∙ is key ∙ sym (get-empty bytes_cmp key))

  -- setting a record in which the same is found as before leaves what is gathered
  gather_insert_same : (rows : RowMap) (key : List ℕ) (row : RowRecord)
      → found row ≡ option_and_then found (map.get rows key)
      → gather found (map.insert rows key row) ≡ gather found rows
  gather_insert_same rows key row is =
      gather_same rows (map.insert rows key row) (λ other. elim (same_or_apart bytes_total exact_texts other key) [
        | inl e ↦ rw e (ap (option_and_then found) (get_inserted bytes_total exact_texts rows key row) ∙ is)
        | inr apart ↦ ap (option_and_then found) (get_inserted_apart bytes_total exact_texts rows key row other apart)
      ])

  -- removing a record in which nothing is found leaves what is gathered
  gather_remove_same : (rows : RowMap) (key : List ℕ) → option_and_then found (map.get rows key) ≡ None
      → gather found (map.remove rows key) ≡ gather found rows
  gather_remove_same rows key is =
      gather_same rows (map.remove rows key) (λ other. elim (same_or_apart bytes_total exact_texts other key) [
        | inl e ↦ rw e (ap (option_and_then found) (get_removed bytes_total exact_texts rows key) ∙ sym is)
        | inr apart ↦ ap (option_and_then found) (get_removed_apart bytes_total exact_texts rows key other apart)
      ])

  -- setting a record in which a value is found sets that value in what is gathered
  gather_insert : (rows : RowMap) (key : List ℕ) (row : RowRecord) (w : W) → found row ≡ Some w
      → gather found (map.insert rows key row) ≡ map.insert (gather found rows) key w
  gather_insert rows key row w is = same_map bytes_total exact_texts _ _ (λ other.
      get-gather bytes_total exact_texts found (map.insert rows key row) other ∙
      (elim (same_or_apart bytes_total exact_texts other key) [
        | inl e ↦ rw e (ap (option_and_then found) (get_inserted bytes_total exact_texts rows key row) ∙ is
            ∙ sym (get_inserted bytes_total exact_texts (gather found rows) key w))
        | inr apart ↦ ap (option_and_then found) (get_inserted_apart bytes_total exact_texts rows key row other apart)
            ∙ sym (get_inserted_apart bytes_total exact_texts (gather found rows) key w other apart
            ∙ get-gather bytes_total exact_texts found rows other)
      ]))

  -- removing a record removes what was found in it from what is gathered
  gather_remove : (rows : RowMap) (key : List ℕ) → gather found (map.remove rows key)
      ≡ map.remove (gather found rows) key
  gather_remove rows key = same_map bytes_total exact_texts _ _ (λ other.
      get-gather bytes_total exact_texts found (map.remove rows key) other ∙
      (elim (same_or_apart bytes_total exact_texts other key) [
        | inl e ↦ rw e (ap (option_and_then found) (get_removed bytes_total exact_texts rows key)
            ∙ sym (get_removed bytes_total exact_texts (gather found rows) key))
        | inr apart ↦ ap (option_and_then found) (get_removed_apart bytes_total exact_texts rows key other apart)
            ∙ sym (get_removed_apart bytes_total exact_texts (gather found rows) key other apart
            ∙ get-gather bytes_total exact_texts found rows other)
      ]))

-- records of rows that say the same of every branch stand for the same branches
seen_same_rows : (branches : BranchMap) (old new : RowMap)
    → ((xid : Xid) → gather (write_by xid) new ≡ gather (write_by xid) old)
    → ((xid : Xid) → gather (lock_by xid) new ≡ gather (lock_by xid) old) →
    (state_of branches new).branches ≡ (state_of branches old).branches
seen_same_rows branches old new writes locks =
    same_branches _ _ (λ xid. get-branches branches new xid
    ∙ ap (λ (f : BranchRecord → Branch). option_map f (map.get branches xid)) (same xid)
    ∙ sym (get-branches branches old xid))
  where
    same : (xid : Xid) → branch_seen new xid ≡ branch_seen old xid
    same xid = λ i branch. record
        { phase = branch.phase; owner = branch.owner; writes = writes xid i; locks = locks xid i }

-- ---- no records, records of branches

-- no records stand for the empty state
pub seen_empty : state_of map.empty map.empty ≡ no_state
unfolding state_of no_state
seen_empty = same_state _ _
    (same_branches _ _ (λ xid. get-branches map.empty map.empty xid
    ∙ ap (option_map (branch_seen map.empty xid)) (get-empty xid_cmp xid)
    ∙ sym (get-empty xid_cmp xid)))
    (gather_none (λ row. row.committed) map.empty (λ key. ap (option_and_then (λ (row : RowRecord). row.committed))
    (get-empty bytes_cmp key)))

-- putting in a branch's record is, in the state, putting in the branch that this record and those of the rows say
pub seen_inserted : (branches : BranchMap) (rows : RowMap) (xid : Xid) (branch : BranchRecord)
    → state_of (map.insert branches xid branch) rows ≡ with_branch (state_of branches rows) xid
    (branch_seen rows xid branch)
unfolding state_of
seen_inserted branches rows xid branch = same_state _ _
    (same_branches _ _ (λ other. get-branches (map.insert branches xid branch) rows other
    ∙ (elim (same_or_apart xids_total exact_xids other xid) [
      | inl e ↦ rw e (ap (option_map (branch_seen rows xid)) (get_inserted xids_total exact_xids branches xid branch)
          ∙ sym (get_inserted xids_total exact_xids (state_of branches rows).branches xid _))
      | inr apart ↦ ap (option_map (branch_seen rows other))
          (get_inserted_apart xids_total exact_xids branches xid branch other apart)
          ∙ sym (get_inserted_apart xids_total exact_xids (state_of branches rows).branches xid
          (branch_seen rows xid branch) other apart
          ∙ get-branches branches rows other)
    ])))
    refl

-- changing the record of a branch changes the branch in the state that the records stand for
pub seen_changed : (branches : BranchMap) (rows : RowMap) (xid : Xid) (change : BranchRecord → BranchRecord)
    (seen : Branch → Branch) →
    ((branch : BranchRecord) → branch_seen rows xid (change branch) ≡ seen (branch_seen rows xid branch)) →
    state_of (with_record branches xid change) rows ≡ with_changed (state_of branches rows) xid seen
seen_changed branches rows xid change seen is =
    by (map.get branches xid)
    ∙ ap (λ found. option_map_or (λ branch. with_branch (state_of branches rows) xid (seen branch)) found
    (state_of branches rows))
    (sym (get-branches branches rows xid))
  where
    by : (found : Option BranchRecord) →
        state_of (option_map_or (λ branch. map.insert branches xid (change branch)) found branches) rows
        ≡ option_map_or (λ branch. with_branch (state_of branches rows) xid (seen branch))
        (option_map (branch_seen rows xid) found) (state_of branches rows)
    by None = refl
    by (Some branch) =
        seen_inserted branches rows xid (change branch) ∙ ap (with_branch (state_of branches rows) xid) (is branch)

-- a row without sharers is held by no branch
pub nobodys : (xid : Xid) → mode_in xid (Lock.Shared set.empty) ≡ None
nobodys xid = ap (λ b. cond b (Some Shared) None) (contains-empty xid_cmp xid)

-- a branch that a session has just started, and that no row's record names, is in the state as `started_by` says
pub seen_fresh : (rows : RowMap) (xid : Xid) (session : ℕ)
    → ((key : List ℕ) → is_some (mode_of xid (map.get rows key)) ≡ false) →
    branch_seen rows xid (record { phase = PhaseActive; owner = Some session; held = [] }) ≡ started_by session
seen_fresh rows xid session free = same_branch _ _ refl refl
    (gather_none (write_by xid) rows (λ key. unwritten xid (map.get rows key) (free key)))
    (gather_none (lock_by xid) rows (λ key. none_of (mode_of xid (map.get rows key)) (free key)))

-- ---- rows that nobody holds

-- the record of a row that a branch doesn't hold has no write of that branch
unheld_writes : (xid : Xid) (found : Option RowRecord) → mode_of xid found ≡ None
    → option_and_then (write_by xid) found ≡ None
unheld_writes xid found none = unwritten xid found (ap is_some none)

-- a committed value set in a record that nobody holds is one set in the state
pub seen_put : (branches : BranchMap) (rows : RowMap) (key : List ℕ) (value : Text)
    → ((xid : Xid) → mode_of xid (map.get rows key) ≡ None) →
    state_of branches (map.insert rows key (record { committed = Some value; lock = Lock.Shared set.empty }))
    ≡ record (state_of branches rows) { rows = with_write key (Some value) (state_of branches rows).rows }
unfolding state_of
seen_put branches rows key value free = same_state _ _
    (seen_same_rows branches rows _
    (λ xid. gather_insert_same (write_by xid) rows key _ (sym (unheld_writes xid (map.get rows key) (free xid))))
    (λ xid. gather_insert_same (lock_by xid) rows key _ (nobodys xid ∙ sym (free xid))))
    (gather_insert (λ row. row.committed) rows key _ value refl)

-- removing the record of a row that nobody holds is deleting the row in the state
pub seen_deleted : (branches : BranchMap) (rows : RowMap) (key : List ℕ)
    → ((xid : Xid) → mode_of xid (map.get rows key) ≡ None) →
    state_of branches (map.remove rows key) ≡ record (state_of branches rows)
    { rows = with_write key None (state_of branches rows).rows }
unfolding state_of
seen_deleted branches rows key free = same_state _ _
    (seen_same_rows branches rows _
    (λ xid. gather_remove_same (write_by xid) rows key (unheld_writes xid (map.get rows key) (free xid)))
    (λ xid. gather_remove_same (lock_by xid) rows key (free xid)))
    (gather_remove (λ row. row.committed) rows key)

-- ---- a row that a branch comes to hold

-- if a row's new record keeps the committed value, and changes what the rows say of one known branch alone, then the
-- state is changed at that branch alone, in the same way
seen_row : (branches : BranchMap) (rows : RowMap) (xid : Xid) (key : List ℕ) (row : RowRecord)
    (change : Branch → Branch) →
    is_some (map.get branches xid) ≡ true → row.committed ≡ committed_of (map.get rows key) →
    ((branch : BranchRecord) → branch_seen (map.insert rows key row) xid branch ≡ change (branch_seen rows xid branch))
    →
    ((other : Xid) → same_xid other xid ≡ false → branch_seen (map.insert rows key row) other ≡ branch_seen rows other)
    →
    state_of branches (map.insert rows key row) ≡ with_changed (state_of branches rows) xid change
unfolding state_of
seen_row branches rows xid key row change known value own others =
    by (map.get branches xid) refl known
    ∙ ap (λ found. option_map_or (λ branch. with_branch (state_of branches rows) xid (change branch)) found
    (state_of branches rows))
    (sym (get-branches branches rows xid))
  where
    by : (found : Option BranchRecord) → map.get branches xid ≡ found → is_some found ≡ true →
        state_of branches (map.insert rows key row)
        ≡ option_map_or (λ branch. with_branch (state_of branches rows) xid (change branch))
        (option_map (branch_seen rows xid) found) (state_of branches rows)
    by None e there = absurd (true≢false (sym there))
    by (Some branch) e there = same_state _ _
        (same_branches _ _ (λ other. get-branches branches _ other
        ∙ (elim (same_or_apart xids_total exact_xids other xid) [
          | inl is ↦ rw is (ap (option_map (branch_seen (map.insert rows key row) xid)) e ∙ ap Some (own branch)
              ∙ sym (get_inserted xids_total exact_xids (state_of branches rows).branches xid
              (change (branch_seen rows xid branch))))
          | inr apart ↦ ap (λ (f : BranchRecord → Branch). option_map f (map.get branches other)) (others other apart)
              ∙ sym (get_inserted_apart xids_total exact_xids (state_of branches rows).branches xid
              (change (branch_seen rows xid branch)) other apart
              ∙ get-branches branches rows other)
        ])))
        (gather_insert_same (λ row. row.committed) rows key _ value)

-- no other branch holds the row of this record
abbrev pub IsFreeFor : Xid → Option RowRecord → Type 0
IsFreeFor xid found = (other : Xid) → same_xid other xid ≡ false → is_some (mode_of other found) ≡ false

-- a choice by a test that holds gives Some
if_there : {A : Type 0} (b : Bool) (x : A) → b ≡ true → cond b (Some x) None ≡ Some x
if_there true x e = refl
if_there false x e = absurd (true≢false (sym e))

-- a choice by a test that fails gives None
if_apart : {A : Type 0} (b : Bool) (x : A) → b ≡ false → cond b (Some x) None ≡ None
if_apart true x e = absurd (true≢false e)
if_apart false x e = refl

-- once a row's record says that a branch holds it with a change, the branch has that write and an exclusive lock in
-- the state
held_branch : (rows : RowMap) (xid : Xid) (key : List ℕ) (change : Change) (branch : BranchRecord) →
    branch_seen (map.insert rows key (held_row xid change (map.get rows key))) xid branch
    ≡ with_change key change (branch_seen rows xid branch)
held_branch rows xid key change branch = same_branch _ _ refl refl
    (gather_insert (write_by xid) rows key _ (write_of change)
    (if_there (same_xid xid xid) (write_of change) (itself xid)))
    (gather_insert (lock_by xid) rows key _ Exclusive (if_there (same_xid xid xid) Exclusive (itself xid)))

-- giving a row that no other branch holds to a branch leaves what the others have written and locked
held_others : (rows : RowMap) (xid : Xid) (key : List ℕ) (change : Change) (other : Xid)
    → IsFreeFor xid (map.get rows key) → same_xid other xid ≡ false →
    branch_seen (map.insert rows key (held_row xid change (map.get rows key))) other ≡ branch_seen rows other
held_others rows xid key change other free apart =
    λ i branch. record { phase = branch.phase; owner = branch.owner; writes = writes i; locks = locks i }
  where
    writes : gather (write_by other) (map.insert rows key (held_row xid change (map.get rows key)))
        ≡ gather (write_by other) rows
    writes =
        gather_insert_same (write_by other) rows key _
        (if_apart (same_xid xid other) (write_of change) (turned_apart xid other apart)
        ∙ sym (unwritten other (map.get rows key) (free other apart)))

    locks : gather (lock_by other) (map.insert rows key (held_row xid change (map.get rows key)))
        ≡ gather (lock_by other) rows
    locks =
        gather_insert_same (lock_by other) rows key _
        (if_apart (same_xid xid other) Exclusive (turned_apart xid other apart)
        ∙ sym (none_of (mode_of other (map.get rows key)) (free other apart)))

-- if a row that no other branch holds is given to a branch with a change, the branch has that write and lock in the
-- state
pub seen_held : (branches : BranchMap) (rows : RowMap) (xid : Xid) (key : List ℕ) (change : Change) →
    is_some (map.get branches xid) ≡ true → IsFreeFor xid (map.get rows key) →
    state_of branches (map.insert rows key (held_row xid change (map.get rows key)))
    ≡ with_changed (state_of branches rows) xid (with_change key change)
seen_held branches rows xid key change known free =
    seen_row branches rows xid key (held_row xid change (map.get rows key)) (with_change key change) known refl
    (held_branch rows xid key change)
    (λ other. held_others rows xid key change other free)

-- ---- a row that a branch comes to share

-- the branch may come to share the row: it doesn't hold it, and no other holds it exclusively
pub record IsShareable (xid : Xid) (found : Option RowRecord) : Type 0 where
  pub unheld : is_some (mode_of xid found) ≡ false
  pub unlocked : locked_against (Active xid) found ≡ false

-- a branch that comes to share a row that it may share holds it shared
pub share_there : (xid : Xid) (found : Option RowRecord) → IsShareable xid found
    → lock_by xid (shared_row xid found) ≡ Some Shared
share_there xid found is =
    sharer_there xid (lock_of found) (by (mode_in xid (lock_of found))
    (sym (ap is_some (mode_of-lock xid found)) ∙ is.unheld))
    (sym (locked_against-lock (Active xid) found) ∙ is.unlocked)
  where
    by : (mode : Option LockMode) → is_some mode ≡ false → is_exclusive mode ≡ false
    by None e = refl
    by (Some mode) e = absurd (true≢false e)

-- one branch more that shares a row leaves how the others have locked it
pub share_others : (xid other : Xid) (found : Option RowRecord) → same_xid other xid ≡ false
    → lock_by other (shared_row xid found) ≡ mode_of other found
share_others xid other found apart = sharer_beside xid other (lock_of found) apart ∙ sym (mode_of-lock other found)

-- one branch more that shares a row leaves every write as it was
share_writes : (xid other : Xid) (found : Option RowRecord)
    → write_by other (shared_row xid found) ≡ option_and_then (write_by other) found
share_writes xid other None = refl
share_writes xid other (Some row) = sharer_writes xid other row.lock

-- if a branch comes to share a row that it may share, the rows say that it has one lock more
shared_branch : (rows : RowMap) (xid : Xid) (key : List ℕ) (branch : BranchRecord) → IsShareable xid (map.get rows key)
    →
    branch_seen (map.insert rows key (shared_row xid (map.get rows key))) xid branch
    ≡ with_lock key (branch_seen rows xid branch)
shared_branch rows xid key branch is = same_branch _ _ refl refl
    (gather_insert_same (write_by xid) rows key _ (share_writes xid xid (map.get rows key)))
    (gather_insert (lock_by xid) rows key _ Shared (share_there xid (map.get rows key) is)
    ∙ sym (ap (λ b. cond b (gather (lock_by xid) rows) (map.insert (gather (lock_by xid) rows) key Shared))
    (ap is_some (get-gather bytes_total exact_texts (lock_by xid) rows key) ∙ is.unheld)))

-- a branch that comes to share a row leaves what the rows say of another branch
shared_others : (rows : RowMap) (xid : Xid) (key : List ℕ) (other : Xid) → same_xid other xid ≡ false →
    branch_seen (map.insert rows key (shared_row xid (map.get rows key))) other ≡ branch_seen rows other
shared_others rows xid key other apart =
    λ i branch. record { phase = branch.phase; owner = branch.owner; writes = writes i; locks = locks i }
  where
    writes : gather (write_by other) (map.insert rows key (shared_row xid (map.get rows key)))
        ≡ gather (write_by other) rows
    writes = gather_insert_same (write_by other) rows key _ (share_writes xid other (map.get rows key))

    locks : gather (lock_by other) (map.insert rows key (shared_row xid (map.get rows key)))
        ≡ gather (lock_by other) rows
    locks = gather_insert_same (lock_by other) rows key _ (share_others xid other (map.get rows key) apart)

-- a row's record with one sharer more is, in the state, that branch with a lock more
pub seen_shared : (branches : BranchMap) (rows : RowMap) (xid : Xid) (key : List ℕ) →
    is_some (map.get branches xid) ≡ true → IsShareable xid (map.get rows key) →
    state_of branches (map.insert rows key (shared_row xid (map.get rows key)))
    ≡ with_changed (state_of branches rows) xid (with_lock key)
seen_shared branches rows xid key known is =
    seen_row branches rows xid key (shared_row xid (map.get rows key)) (with_lock key) known refl
    (λ branch. shared_branch rows xid key branch is)
    (λ other. shared_others rows xid key other)
