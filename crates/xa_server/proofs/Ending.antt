-- What the end of a branch is in the state that the records stand for.
use Rattle.std.proofs.Common.{◌≡◌, ℕ, List, [], ◌∷◌, refl, ap, sym, ◌∙◌, Bool, true, false, inl, inr}
use Rattle.std.specs.{Prelude.{Option, Some, None, cond, ◌||◌, is_some}, FinMap.{get-entries, find, same_map}}
use Rattle.std.specs.{Option.{option_map, option_map_or, option_and_then, unwrap_or}, List.list_any, Ordering.eq_by_cmp}
use mathlib.Core.Bool.{true≢false}
use Rattle.xa_xid.specs.{declared.xid.Xid.Xid, Xid.{Text, bytes_cmp, same_xid}}
use Rattle.xa_xid.proofs.Orders.{xids_total, exact_xids, bytes_total, exact_texts}
use Rattle.xa_server.specs.declared.{branch.BranchRecord.BranchRecord, association.Association.TheVariants.Free}
use Rattle.xa_server.specs.{Recorded.RowRecord, State.{Write, Branch}, View.{gather, branch_seen, state_of}}
use Rattle.xa_server.specs.{Step.{without_branch, with_write, with_writes, committed}, Tables.BranchMap, Rows.RowMap}
use Rattle.xa_server.specs.Rows.{committed_of, write_by, lock_by, held_beside, freed_row, is_needed, kept, freed, Frees}
use Rattle.xa_server.proofs.Maps.{same_or_apart, same_itself, get_inserted, get_inserted_apart, get_removed}
use Rattle.xa_server.proofs.{Maps.get_removed_apart, Gathered.get-gather, Seen.get-branches}
use Rattle.xa_server.proofs.Holders.{mode_of, none_of, beside_there, unwritten, freed_own, freed_beside, freed_writes}
use Rattle.xa_server.proofs.Steps.{same_state, same_branches, gather_same}
use Rattle.std.specs.FinMap as map

-- after writes, the newest first, a row has the value that the newest write to it says, or else its old one
pub get-with_writes : (writes : List (List ℕ × Write)) (rows : map.FinMap bytes_cmp Text) (key : List ℕ)
    → map.get (with_writes writes rows) key ≡ unwrap_or (find bytes_cmp key writes) (map.get rows key)
get-with_writes [] rows key = refl
get-with_writes (write ∷ writes) rows key =
    let rest = get-with_writes writes rows key in
    elim (same_or_apart bytes_total exact_texts key write.0) [
      | inl is ↦ ap (map.get (with_write write.0 write.1 (with_writes writes rows))) is
          ∙ here write.0 write.1 (with_writes writes rows)
          ∙ ap (λ b. unwrap_or (cond b (Some write.1) (find bytes_cmp key writes)) (map.get rows key))
          (sym (ap (eq_by_cmp bytes_cmp key) (sym is) ∙ same_itself bytes_total exact_texts key))
      | inr apart ↦ beside write.0 write.1 (with_writes writes rows) apart ∙ rest
          ∙ ap (λ b. unwrap_or (cond b (Some write.1) (find bytes_cmp key writes)) (map.get rows key)) (sym apart)
    ]
  where
    here : (at : List ℕ) (w : Write) (rest : map.FinMap bytes_cmp Text) → map.get (with_write at w rest) at ≡ w
    here at None rest = get_removed bytes_total exact_texts rest at
    here at (Some value) rest = get_inserted bytes_total exact_texts rest at value

    beside : (at : List ℕ) (w : Write) (rest : map.FinMap bytes_cmp Text) → eq_by_cmp bytes_cmp key at ≡ false
        → map.get (with_write at w rest) key ≡ map.get rest key
    beside at None rest apart = get_removed_apart bytes_total exact_texts rest at key apart
    beside at (Some value) rest apart = get_inserted_apart bytes_total exact_texts rest at value key apart

-- a record that isn't needed has no value and no holders
unneeded : (row : RowRecord) → is_needed row ≡ false → (row.committed ≡ None) × (held_beside Free row.lock ≡ false)
unneeded row e = by row.committed e
  where
    by : (value : Option Text) → (is_some value || held_beside Free row.lock) ≡ false
        → (value ≡ None) × (held_beside Free row.lock ≡ false)
    by None e = (refl, e)
    by (Some value) e = absurd (true≢false e)

-- no branch has locked the row of a record that isn't needed
unneeded_mode : (xid : Xid) (row : RowRecord) → is_needed row ≡ false → lock_by xid row ≡ None
unneeded_mode xid row e = none_of (lock_by xid row) (by (is_some (lock_by xid row)) refl)
  where
    by : (b : Bool) → is_some (lock_by xid row) ≡ b → b ≡ false
    by true held = absurd (true≢false (sym (beside_there Free row.lock xid held refl) ∙ (unneeded row e).1))
    by false none = refl

-- no branch has written to the row of a record that isn't needed
unneeded_write : (xid : Xid) (row : RowRecord) → is_needed row ≡ false → write_by xid row ≡ None
unneeded_write xid row e = unwritten xid (Some row) (ap is_some (unneeded_mode xid row e))

-- if a record that isn't needed says nothing, dropping the record where it isn't needed changes nothing of what it
-- says
kept_says : {W : Type 0} (says : RowRecord → Option W) (row : RowRecord) → (is_needed row ≡ false → says row ≡ None)
    → option_and_then says (kept row) ≡ says row
kept_says says row nothing = by (is_needed row) refl
  where
    by : (b : Bool) → is_needed row ≡ b → option_and_then says (cond b (Some row) None) ≡ says row
    by true e = refl
    by false e = sym (nothing e)

-- if freeing changes nothing of what a record says, and one that isn't needed says nothing, a row's record says the
-- same after it was freed, and dropped where it isn't needed
freed_says : {W : Type 0} (says : RowRecord → Option W) → ((row : RowRecord) → is_needed row ≡ false → says row ≡ None)
    → (commits : Bool) (xid : Xid) →
    ((row : RowRecord) → says (freed_row commits xid row) ≡ says row) → (found : Option RowRecord)
    → option_and_then says (freed commits xid found) ≡ option_and_then says found
freed_says says nothing commits xid same None = refl
freed_says says nothing commits xid same (Some row) =
    kept_says says (freed_row commits xid row) (nothing (freed_row commits xid row)) ∙ same row

-- after a row is freed of a branch, the row's record says that the branch doesn't hold it
freed_mode : (commits : Bool) (xid : Xid) (found : Option RowRecord) → mode_of xid (freed commits xid found) ≡ None
freed_mode commits xid None = refl
freed_mode commits xid (Some row) = kept_says (lock_by xid) (freed_row commits xid row)
    (unneeded_mode xid (freed_row commits xid row)) ∙ freed_own xid row.lock

-- the committed value after a branch ended: the branch's write, if the branch commits and wrote the row; else the
-- value before
value_after : Bool → Option Write → Option Text → Option Text
value_after commits write value = cond commits (unwrap_or write value) value

-- a choice between nothing and nothing is nothing
never : (b : Bool) → ◌≡◌ {A = Option Text} None (cond b None None)
never true = refl
never false = refl

-- after a row is freed of a branch, its committed value is the branch's write, if the branch commits and wrote the
-- row, and else the value before
freed_value : (commits : Bool) (xid : Xid) (found : Option RowRecord)
    → committed_of (freed commits xid found) ≡ value_after commits (option_and_then (write_by xid) found)
    (committed_of found)
unfolding value_after
freed_value commits xid None = never commits
freed_value commits xid (Some row) =
    kept_says (λ row. row.committed) (freed_row commits xid row) (λ e. (unneeded (freed_row commits xid row) e).0)

-- ending a branch leaves the value of a row that the branch doesn't hold
unheld_value : (commits : Bool) (xid : Xid) (found : Option RowRecord) → is_some (mode_of xid found) ≡ false
    → value_after commits (option_and_then (write_by xid) found) (committed_of found) ≡ committed_of found
unfolding value_after
unheld_value commits xid found none =
    ap (λ write. cond commits (unwrap_or write (committed_of found)) (committed_of found)) (unwritten xid found none)
    ∙ same commits
  where
    same : (b : Bool) → cond b (committed_of found) (committed_of found) ≡ committed_of found
    same true = refl
    same false = refl

-- each row that the branch holds is in the list
abbrev pub IsListedIn : Xid → List (List ℕ) → RowMap → Type 0
IsListedIn xid keys rows = (key : List ℕ) → is_some (mode_of xid (map.get rows key)) ≡ true
    → list_any (eq_by_cmp bytes_cmp key) keys ≡ true

-- ending a branch leaves how another branch holds each row
pub beside_mode : (commits : Bool) (xid : Xid) (keys : List (List ℕ)) (old new : RowMap)
    → Frees commits xid keys old new → (other : Xid)
    → same_xid other xid ≡ false → (key : List ℕ) →
    mode_of other (map.get new key) ≡ mode_of other (map.get old key)
beside_mode commits xid keys old new frees other apart key =
    ap (mode_of other) (frees key) ∙ at (list_any (eq_by_cmp bytes_cmp key) keys)
  where
    at : (b : Bool) → mode_of other (cond b (freed commits xid (map.get old key)) (map.get old key))
        ≡ mode_of other (map.get old key)
    at true = freed_says (lock_by other) (unneeded_mode other) commits xid
        (λ row. freed_beside xid other row.lock apart) (map.get old key)
    at false = refl

-- ending a branch leaves what another branch writes to each row
beside_write : (commits : Bool) (xid : Xid) (keys : List (List ℕ)) (old new : RowMap) → Frees commits xid keys old new
    → (other : Xid)
    → same_xid other xid ≡ false → (key : List ℕ) →
    option_and_then (write_by other) (map.get new key) ≡ option_and_then (write_by other) (map.get old key)
beside_write commits xid keys old new frees other apart key =
    ap (option_and_then (write_by other)) (frees key) ∙ at (list_any (eq_by_cmp bytes_cmp key) keys)
  where
    at : (b : Bool) → option_and_then (write_by other) (cond b (freed commits xid (map.get old key)) (map.get old key))
        ≡ option_and_then (write_by other) (map.get old key)
    at true = freed_says (write_by other) (unneeded_write other) commits xid
        (λ row. freed_writes xid other row.lock apart) (map.get old key)
    at false = refl

-- if the rows of a branch are in a list, it doesn't hold a row that isn't in the list
unlisted : (xid : Xid) (keys : List (List ℕ)) (rows : RowMap) → IsListedIn xid keys rows → (key : List ℕ)
    → list_any (eq_by_cmp bytes_cmp key) keys ≡ false
    → is_some (mode_of xid (map.get rows key)) ≡ false
unlisted xid keys rows listed key none = by (is_some (mode_of xid (map.get rows key))) refl
  where
    by : (b : Bool) → is_some (mode_of xid (map.get rows key)) ≡ b → b ≡ false
    by true held = absurd (true≢false (sym (listed key held) ∙ none))
    by false e = refl

-- if each row of a branch is in a list, the branch holds no row after the rows of the list were freed
pub own_mode : (commits : Bool) (xid : Xid) (keys : List (List ℕ)) (old new : RowMap) → Frees commits xid keys old new
    → IsListedIn xid keys old
    → (key : List ℕ) → is_some (mode_of xid (map.get new key)) ≡ false
own_mode commits xid keys old new frees listed key =
    ap (λ found. is_some (mode_of xid found)) (frees key) ∙ at (list_any (eq_by_cmp bytes_cmp key) keys) refl
  where
    at : (b : Bool) → list_any (eq_by_cmp bytes_cmp key) keys ≡ b
        → is_some (mode_of xid (cond b (freed commits xid (map.get old key)) (map.get old key))) ≡ false
    at true e = ap is_some (freed_mode commits xid (map.get old key))
    at false e = unlisted xid keys old listed key e

-- ending a branch leaves what the rows say of another branch
ended_beside : (commits : Bool) (xid : Xid) (keys : List (List ℕ)) (old new : RowMap) → Frees commits xid keys old new
    → (other : Xid)
    → same_xid other xid ≡ false → branch_seen new other ≡ branch_seen old other
ended_beside commits xid keys old new frees other apart =
    λ i branch. record { phase = branch.phase; owner = branch.owner; writes = writes i; locks = locks i }
  where
    writes : gather (write_by other) new ≡ gather (write_by other) old
    writes = gather_same (write_by other) old new (beside_write commits xid keys old new frees other apart)

    locks : gather (lock_by other) new ≡ gather (lock_by other) old
    locks = gather_same (lock_by other) old new (beside_mode commits xid keys old new frees other apart)

-- after a branch's rows were freed, each row has the branch's write, if the branch commits and wrote the row, and
-- else its old value
ended_value : (commits : Bool) (xid : Xid) (keys : List (List ℕ)) (old new : RowMap) → Frees commits xid keys old new
    → IsListedIn xid keys old
    → (key : List ℕ) →
    committed_of (map.get new key) ≡ value_after commits (option_and_then (write_by xid) (map.get old key))
    (committed_of (map.get old key))
ended_value commits xid keys old new frees listed key =
    ap committed_of (frees key) ∙ at (list_any (eq_by_cmp bytes_cmp key) keys) refl
  where
    at : (b : Bool) → list_any (eq_by_cmp bytes_cmp key) keys ≡ b
        → committed_of (cond b (freed commits xid (map.get old key)) (map.get old key))
        ≡ value_after commits (option_and_then (write_by xid) (map.get old key)) (committed_of (map.get old key))
    at true e = freed_value commits xid (map.get old key)
    at false e = sym (unheld_value commits xid (map.get old key) (unlisted xid keys old listed key e))

-- after a branch's rows were freed and its record dropped, the state has all branches but that one
ended_branches : (branches : BranchMap) (commits : Bool) (xid : Xid) (keys : List (List ℕ)) (old new : RowMap)
    → Frees commits xid keys old new →
    (state_of (map.remove branches xid) new).branches ≡ map.remove (state_of branches old).branches xid
ended_branches branches commits xid keys old new frees =
    same_branches _ _ (λ other. get-branches (map.remove branches xid) new other
    ∙ (elim (same_or_apart xids_total exact_xids other xid) [
      | inl is ↦ rw is (ap (option_map (branch_seen new xid)) (get_removed xids_total exact_xids branches xid)
          ∙ sym (get_removed xids_total exact_xids (state_of branches old).branches xid))
      | inr apart ↦ ap (option_map (branch_seen new other))
          (get_removed_apart xids_total exact_xids branches xid other apart)
          ∙ ap (λ (f : BranchRecord → Branch). option_map f (map.get branches other))
          (ended_beside commits xid keys old new frees other apart)
          ∙ sym (get_removed_apart xids_total exact_xids (state_of branches old).branches xid other apart
          ∙ get-branches branches old other)
    ]))

-- freeing a branch's rows and dropping its record is, in the state, taking the branch out
pub seen_rolled_back : (branches : BranchMap) (xid : Xid) (keys : List (List ℕ)) (old new : RowMap)
    → Frees false xid keys old new → IsListedIn xid keys old →
    state_of (map.remove branches xid) new ≡ without_branch (state_of branches old) xid
unfolding state_of value_after
seen_rolled_back branches xid keys old new frees listed = same_state _ _
    (ended_branches branches false xid keys old new frees)
    (gather_same (λ row. row.committed) old new (ended_value false xid keys old new frees listed))

-- freeing a branch's rows, with its writes made committed values, and dropping its record is, in the state,
-- committing the branch
pub seen_committed : (branches : BranchMap) (xid : Xid) (branch : BranchRecord) (keys : List (List ℕ))
    (old new : RowMap) → map.get branches xid ≡ Some branch
    → Frees true xid keys old new → IsListedIn xid keys old →
    state_of (map.remove branches xid) new ≡ committed (state_of branches old) xid
unfolding state_of committed value_after
seen_committed branches xid branch keys old new is frees listed =
    same_state _ _
    (ended_branches branches true xid keys old new frees)
    (same_map bytes_total exact_texts _ _ (λ key.
    get-gather bytes_total exact_texts (λ row. row.committed) new key
    ∙ ended_value true xid keys old new frees listed key
    ∙ (λ i. unwrap_or (sym (get-gather bytes_total exact_texts (write_by xid) old key) i)
    (sym (get-gather bytes_total exact_texts (λ row. row.committed) old key) i))
    ∙ ap (λ write. unwrap_or write (map.get (gather (λ row. row.committed) old) key))
    (get-entries (gather (write_by xid) old) key)
    ∙ sym (get-with_writes (map.entries (gather (write_by xid) old)) (gather (λ row. row.committed) old) key)))
    ∙ ap (λ found. option_map_or
    (λ (b : Branch). record (without_branch (state_of branches old) xid)
    { rows = with_writes (map.entries b.writes) (state_of branches old).rows }) found
    (state_of branches old))
    (sym (get-branches branches old xid ∙ ap (option_map (branch_seen old xid)) is))
