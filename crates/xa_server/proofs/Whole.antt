-- What the records keep, under each change of them.
use Rattle.std.proofs.Common.{◌≡◌, ◌≢◌, ℕ, suc, ◌+◌, List, [], ◌∷◌, ◌++◌, length, refl, ap, sym, ◌∙◌, Bool, true, false}
use Rattle.std.{proofs.Common.{◌⊎◌, inl, inr, arith}, specs.Option.{option_map, option_map_or, option_and_then}}
use Rattle.std.specs.{Prelude.{Option, Some, None, cond, ◌||◌, filter, is_none, is_some}, List.list_any}
use Rattle.std.specs.{Ordering.eq_by_cmp, FinMap.get-empty}
use mathlib.Core.Bool.{true≢false}
use Rattle.xa_xid.specs.{declared.xid.Xid.Xid, Xid.{bytes_cmp, xid_cmp, same_xid}}
use Rattle.xa_xid.proofs.Orders.{xids_total, exact_xids, bytes_total, exact_texts}
use Rattle.xa_server.specs.{declared.branch.BranchRecord.BranchRecord, Recorded.RowRecord, State.is_prepared_phase}
use Rattle.xa_server.specs.{Tables.{BranchMap, owner_of, with_record}, Rows.{RowMap, lock_by, Frees}}
use Rattle.xa_server.{specs.View.{times_in, IsWhole}, proofs.Maps.{same_or_apart, same_itself, get_inserted}}
use Rattle.xa_server.proofs.{Maps.{get_inserted_apart, get_removed, get_removed_apart}, Index.{same_value, not_none}}
use Rattle.xa_server.proofs.{Holders.{zero_or_one, mode_of}, Ending.{IsListedIn, own_mode, beside_mode}}
use Rattle.std.specs.FinMap as map

-- the session that owns a branch, by its record
owner : Option BranchRecord → Option ℕ
owner found = option_and_then (λ (b : BranchRecord). b.owner) found

-- how often a branch's record lists the row, 0 if there is no record
times : List ℕ → Option BranchRecord → ℕ
times key found = option_map_or (λ (b : BranchRecord). times_in key b.held) found 0

-- how often a key is listed that is listed at most once: 1 or 0, by a test
once : Bool → ℕ
once held = cond held 1 0

-- ---- how often a list names a row

-- if a is b + c, then a + 1 is (b + 1) + c
one_more : (a b c : ℕ) → a ≡ b + c → suc a ≡ suc b + c
one_more a b c e = omega (arith, e)

-- adding 0 changes nothing
plus_none : (n : ℕ) → n + 0 ≡ n
plus_none n = omega arith

-- a key is in a list with one key more as often as in the list, and once more if it is that key
pub times_more : (key other : List ℕ) (keys : List (List ℕ))
    → times_in key (keys ++ other ∷ []) ≡ times_in key keys + cond (eq_by_cmp bytes_cmp key other) 1 0
times_more key other [] = by (eq_by_cmp bytes_cmp key other)
  where
    by : (b : Bool) → length (cond b (other ∷ []) []) ≡ 0 + cond b 1 0
    by true = refl
    by false = refl
times_more key other (x ∷ keys) = by (eq_by_cmp bytes_cmp key x) (times_more key other keys)
  where
    by : (b : Bool) → times_in key (keys ++ other ∷ []) ≡ times_in key keys + cond (eq_by_cmp bytes_cmp key other) 1 0
        → length (cond b (x ∷ filter (eq_by_cmp bytes_cmp key) (keys ++ other ∷ []))
        (filter (eq_by_cmp bytes_cmp key) (keys ++ other ∷ [])))
        ≡ length (cond b (x ∷ filter (eq_by_cmp bytes_cmp key) keys) (filter (eq_by_cmp bytes_cmp key) keys)) + cond
        (eq_by_cmp bytes_cmp key other) 1 0
    by true rest = one_more _ _ _ rest
    by false rest = rest

-- a key that isn't in a list is there 0 times
times_none : (key : List ℕ) (keys : List (List ℕ)) → list_any (eq_by_cmp bytes_cmp key) keys ≡ false
    → times_in key keys ≡ 0
times_none key [] e = refl
times_none key (x ∷ keys) e = by (eq_by_cmp bytes_cmp key x) e (times_none key keys)
  where
    by : (b : Bool) → (b || list_any (eq_by_cmp bytes_cmp key) keys) ≡ false
        → (list_any (eq_by_cmp bytes_cmp key) keys ≡ false → times_in key keys ≡ 0)
        → length (cond b (x ∷ filter (eq_by_cmp bytes_cmp key) keys) (filter (eq_by_cmp bytes_cmp key) keys)) ≡ 0
    by true e rest = absurd (true≢false e)
    by false e rest = rest e

-- a row that is listed once is listed
listed_of_times : (key : List ℕ) (keys : List (List ℕ)) → times_in key keys ≡ 1
    → list_any (eq_by_cmp bytes_cmp key) keys ≡ true
listed_of_times key keys e = by (list_any (eq_by_cmp bytes_cmp key) keys) refl
  where
    by : (b : Bool) → list_any (eq_by_cmp bytes_cmp key) keys ≡ b → b ≡ true
    by true is = refl
    by false is = absurd (zero_or_one (times_in key keys) (times_none key keys is) e)

-- ---- records of branches

-- exactly the PREPARED branches are nobody's
abbrev AreAttached : BranchMap → Type 0
AreAttached branches = (xid : Xid) (branch : BranchRecord) → map.get branches xid ≡ Some branch
    → is_none branch.owner ≡ is_prepared_phase branch.phase

-- a session owns at most one branch
abbrev OwnOne : BranchMap → Type 0
OwnOne branches = (session : ℕ) (xid other : Xid) → owner_of branches xid ≡ Some session
    → owner_of branches other ≡ Some session → xid ≡ other

-- where there are no records, they are whole
pub whole_empty : IsWhole map.empty map.empty
unfolding times once
whole_empty = record {
  attached = λ xid branch e. not_none branch (sym (get-empty xid_cmp xid) ∙ e);
  one_owned = λ session xid other e f. not_none session (ap (option_and_then (λ (b : BranchRecord). b.owner))
      (sym (get-empty xid_cmp xid)) ∙ e);
  listed_once = λ xid key. ap (times key) (get-empty xid_cmp xid)
      ∙ sym (ap (λ found. once (is_some (mode_of xid found))) (get-empty bytes_cmp key));
}

-- the records stay whole if a branch starts under an identifier without a record: it is owned by a session that owned
-- none, isn't PREPARED and lists no row
pub whole_started : (branches : BranchMap) (rows : RowMap) (xid : Xid) (branch : BranchRecord) (session : ℕ) →
    map.get branches xid ≡ None → branch.owner ≡ Some session → is_prepared_phase branch.phase ≡ false
    → branch.held ≡ []
    → ((other : Xid) → owner_of branches other ≢ Some session) →
    IsWhole branches rows → IsWhole (map.insert branches xid branch) rows
unfolding times once owner
whole_started branches rows xid branch session unknown owner_is phase none free whole = record {
  attached = λ other found e. elim (same_or_apart xids_total exact_xids other xid) [
    | inl is ↦
        let same : branch ≡ found =
        same_value branch found (sym (ap (map.get (map.insert branches xid branch)) is
        ∙ get_inserted xids_total exact_xids branches xid branch) ∙ e) in
        rw (← same) (ap is_none owner_is ∙ sym phase)
    | inr apart ↦ whole.attached other found
        (sym (get_inserted_apart xids_total exact_xids branches xid branch other apart) ∙ e)
  ];
  one_owned = λ at left right e f. one at left right e f (same_or_apart xids_total exact_xids left xid)
      (same_or_apart xids_total exact_xids right xid);
  listed_once = λ other key. elim (same_or_apart xids_total exact_xids other xid) [
    | inl is ↦ ap (times key) (ap (map.get (map.insert branches xid branch)) is
        ∙ get_inserted xids_total exact_xids branches xid branch)
        ∙ ap (times_in key) none
        ∙ sym (ap (times key) (ap (map.get branches) is ∙ unknown)) ∙ whole.listed_once other key
    | inr apart ↦ ap (times key) (get_inserted_apart xids_total exact_xids branches xid branch other apart)
        ∙ whole.listed_once other key
  ];
}
  where
    before : (other : Xid) → same_xid other xid ≡ false → owner_of (map.insert branches xid branch) other
        ≡ owner_of branches other
    before other apart = ap owner (get_inserted_apart xids_total exact_xids branches xid branch other apart)

    own : (other : Xid) → other ≡ xid → (at : ℕ) → owner_of (map.insert branches xid branch) other ≡ Some at
        → at ≡ session
    own other is at e =
        same_value at session (sym e ∙ ap owner (ap (map.get (map.insert branches xid branch)) is
        ∙ get_inserted xids_total exact_xids branches xid branch)
        ∙ owner_is)

    one : (at : ℕ) (left right : Xid) → owner_of (map.insert branches xid branch) left ≡ Some at
        → owner_of (map.insert branches xid branch) right ≡ Some at →
        (left ≡ xid) ⊎ (same_xid left xid ≡ false) → (right ≡ xid) ⊎ (same_xid right xid ≡ false) → left ≡ right
    one at left right e f (inl l) (inl r) = l ∙ sym r
    one at left right e f (inl l) (inr apart) =
        absurd (free right (sym (before right apart) ∙ f ∙ ap Some (own left l at e)))
    one at left right e f (inr apart) (inl r) =
        absurd (free left (sym (before left apart) ∙ e ∙ ap Some (own right r at f)))
    one at left right e f (inr l) (inr r) =
        whole.one_owned at left right (sym (before left l) ∙ e) (sym (before right r) ∙ f)

-- changing a record so that it has no owner exactly if it is PREPARED, and no new owner, keeps that this holds of all
-- records and that a session owns at most one branch
owners_changed : (branches : BranchMap) (xid : Xid) (change : BranchRecord → BranchRecord) →
    ((branch : BranchRecord) → map.get branches xid ≡ Some branch
    → is_none (change branch).owner ≡ is_prepared_phase (change branch).phase) →
    ((branch : BranchRecord) (session : ℕ) → (change branch).owner ≡ Some session → branch.owner ≡ Some session) →
    AreAttached branches → OwnOne branches → AreAttached (with_record branches xid change)
    × OwnOne (with_record branches xid change)
unfolding owner
owners_changed branches xid change attached owners all one = by (map.get branches xid) refl
  where
    by : (found : Option BranchRecord) → map.get branches xid ≡ found →
        AreAttached (option_map_or (λ branch. map.insert branches xid (change branch)) found branches)
        × OwnOne (option_map_or (λ branch. map.insert branches xid (change branch)) found branches)
    by None is = (all, one)
    by (Some branch) is = (
      λ other found e. elim (same_or_apart xids_total exact_xids other xid) [
        | inl o ↦
            let same : change branch ≡ found =
            same_value (change branch) found
            (sym (ap (map.get (map.insert branches xid (change branch))) o
            ∙ get_inserted xids_total exact_xids branches xid (change branch)) ∙ e) in
            rw (← same) (attached branch is)
        | inr apart ↦ all other found (sym (get_inserted_apart xids_total exact_xids branches xid
            (change branch) other apart) ∙ e)
      ],
      λ at left right e f. one at left right (owned left at e) (owned right at f),
    )
      where
        owned : (other : Xid) (at : ℕ) → owner_of (map.insert branches xid (change branch)) other ≡ Some at
            → owner_of branches other ≡ Some at
        owned other at e = elim (same_or_apart xids_total exact_xids other xid) [
          | inl o ↦ ap owner (ap (map.get branches) o ∙ is)
              ∙ owners branch at (sym (ap owner
              (ap (map.get (map.insert branches xid (change branch))) o
              ∙ get_inserted xids_total exact_xids branches xid (change branch))) ∙ e)
          | inr apart ↦ sym (ap owner (get_inserted_apart xids_total exact_xids branches xid
              (change branch) other apart)) ∙ e
        ]

-- after the record of a branch is changed, the changed one is there, if there was one
pub changed_at : (branches : BranchMap) (xid : Xid) (change : BranchRecord → BranchRecord)
    → map.get (with_record branches xid change) xid ≡ option_map change (map.get branches xid)
changed_at branches xid change = by (map.get branches xid) refl
  where
    by : (found : Option BranchRecord) → map.get branches xid ≡ found
        → map.get (option_map_or (λ branch. map.insert branches xid (change branch)) found branches) xid
        ≡ option_map change found
    by None is = is
    by (Some branch) is = get_inserted xids_total exact_xids branches xid (change branch)

-- changing one branch's record leaves the others'
changed_beside : (branches : BranchMap) (xid : Xid) (change : BranchRecord → BranchRecord) (other : Xid)
    → same_xid other xid ≡ false
    → map.get (with_record branches xid change) other ≡ map.get branches other
changed_beside branches xid change other apart = by (map.get branches xid)
  where
    by : (found : Option BranchRecord)
        → map.get (option_map_or (λ branch. map.insert branches xid (change branch)) found branches) other
        ≡ map.get branches other
    by None = refl
    by (Some branch) = get_inserted_apart xids_total exact_xids branches xid (change branch) other apart

-- the records stay whole if one is changed that lists what it listed, has no owner exactly if it is PREPARED, and has
-- no new owner
pub whole_changed : (branches : BranchMap) (rows : RowMap) (xid : Xid) (change : BranchRecord → BranchRecord) →
    ((branch : BranchRecord) → map.get branches xid ≡ Some branch
    → is_none (change branch).owner ≡ is_prepared_phase (change branch).phase) →
    ((branch : BranchRecord) (session : ℕ) → (change branch).owner ≡ Some session → branch.owner ≡ Some session) →
    ((branch : BranchRecord) → (change branch).held ≡ branch.held) →
    IsWhole branches rows → IsWhole (with_record branches xid change) rows
unfolding times once
whole_changed branches rows xid change attached owners held whole =
    let parts = owners_changed branches xid change attached owners whole.attached whole.one_owned in
    record {
      attached = parts.0;
      one_owned = parts.1;
      listed_once = λ other key. elim (same_or_apart xids_total exact_xids other xid) [
        | inl is ↦ ap (λ x. times key (map.get (with_record branches xid change) x)) is
            ∙ ap (times key) (changed_at branches xid change)
            ∙ same key (map.get branches xid)
            ∙ sym (ap (λ x. times key (map.get branches x)) is) ∙ whole.listed_once other key
        | inr apart ↦ ap (times key) (changed_beside branches xid change other apart) ∙ whole.listed_once other key
      ];
    }
  where
    same : (key : List ℕ) (found : Option BranchRecord) → times key (option_map change found) ≡ times key found
    same key None = refl
    same key (Some branch) = ap (times_in key) (held branch)

-- ---- records of rows

-- if each branch holds the same rows as before, the records still fit the new rows
pub whole_rows : (branches : BranchMap) (old new : RowMap)
    → ((xid : Xid) (key : List ℕ) → is_some (mode_of xid (map.get new key)) ≡ is_some (mode_of xid (map.get old key)))
    → IsWhole branches old
    → IsWhole branches new
whole_rows branches old new same whole = record {
  attached = whole.attached;
  one_owned = whole.one_owned;
  listed_once = λ xid key. whole.listed_once xid key ∙ ap (λ held. cond held 1 0) (sym (same xid key));
}

-- if the same branches hold a row by its new record, the records still fit each other
pub whole_row : (branches : BranchMap) (rows : RowMap) (key : List ℕ) (row : RowRecord)
    → ((xid : Xid) → is_some (lock_by xid row) ≡ is_some (mode_of xid (map.get rows key))) → IsWhole branches rows
    → IsWhole branches (map.insert rows key row)
whole_row branches rows key row same whole =
    whole_rows branches rows _ (λ xid other. elim (same_or_apart bytes_total exact_texts other key) [
      | inl is ↦ rw is (ap (λ found. is_some (mode_of xid found)) (get_inserted bytes_total exact_texts rows key row)
          ∙ same xid)
      | inr apart ↦ ap (λ found. is_some (mode_of xid found))
          (get_inserted_apart bytes_total exact_texts rows key row other apart)
    ]) whole

-- the records stay whole if a row's record is set that no branch holds, and none held before
pub whole_put : (branches : BranchMap) (rows : RowMap) (key : List ℕ) (row : RowRecord)
    → ((xid : Xid) → lock_by xid row ≡ None)
    → ((xid : Xid) → mode_of xid (map.get rows key) ≡ None) →
    IsWhole branches rows → IsWhole branches (map.insert rows key row)
whole_put branches rows key row after before whole =
    whole_row branches rows key row (λ xid. ap is_some (after xid) ∙ sym (ap is_some (before xid))) whole

-- the records stay whole when a row's record is removed that no branch holds
pub whole_deleted : (branches : BranchMap) (rows : RowMap) (key : List ℕ)
    → ((xid : Xid) → mode_of xid (map.get rows key) ≡ None) → IsWhole branches rows
    → IsWhole branches (map.remove rows key)
whole_deleted branches rows key free whole =
    whole_rows branches rows _ (λ xid other. elim (same_or_apart bytes_total exact_texts other key) [
      | inl is ↦ rw is (ap (λ found. is_some (mode_of xid found)) (get_removed bytes_total exact_texts rows key)
          ∙ sym (ap is_some (free xid)))
      | inr apart ↦ ap (λ found. is_some (mode_of xid found))
          (get_removed_apart bytes_total exact_texts rows key other apart)
    ]) whole

-- ---- a branch that comes to hold a row, and lists it

-- the branch's record with one key more among those that it holds
unfoldable pub longer : List ℕ → BranchRecord → BranchRecord
longer key branch = record branch { held = branch.held ++ key ∷ [] }

-- the records stay whole when a branch comes to hold a row, if it lists the row's key once more
pub whole_more : (branches : BranchMap) (rows : RowMap) (xid : Xid) (key : List ℕ) (row : RowRecord)
    → is_some (map.get branches xid) ≡ true →
    is_some (mode_of xid (map.get rows key)) ≡ false → is_some (lock_by xid row) ≡ true →
    ((other : Xid) → same_xid other xid ≡ false → is_some (lock_by other row)
    ≡ is_some (mode_of other (map.get rows key))) →
    IsWhole branches rows → IsWhole (with_record branches xid (longer key)) (map.insert rows key row)
unfolding times once longer
whole_more branches rows xid key row known none there others whole =
    let parts = owners_changed branches xid (longer key) (λ branch is. whole.attached xid branch is)
    (λ branch session e. e) whole.attached whole.one_owned in
    record {
      attached = parts.0;
      one_owned = parts.1;
      listed_once = λ other at. elim (same_or_apart xids_total exact_xids other xid) [
        | inl is ↦ ap (λ x. times at (map.get (with_record branches xid (longer key)) x)) is
            ∙ own at (same_or_apart bytes_total exact_texts at key)
            ∙ sym (ap (λ x. once (is_some (mode_of x (map.get (map.insert rows key row) at)))) is)
        | inr apart ↦ ap (times at) (changed_beside branches xid (longer key) other apart) ∙ whole.listed_once other at
            ∙ ap once (sym (beside other apart at (same_or_apart bytes_total exact_texts at key)))
      ];
    }
  where
    here : map.get (map.insert rows key row) key ≡ Some row
    here = get_inserted bytes_total exact_texts rows key row

    beside : (other : Xid) → same_xid other xid ≡ false → (at : List ℕ)
        → (at ≡ key) ⊎ (eq_by_cmp bytes_cmp at key ≡ false)
        → is_some (mode_of other (map.get (map.insert rows key row) at)) ≡ is_some (mode_of other (map.get rows at))
    beside other apart at (inl is) = rw is (ap (λ found. is_some (mode_of other found)) here ∙ others other apart)
    beside other apart at (inr not) =
        ap (λ found. is_some (mode_of other found)) (get_inserted_apart bytes_total exact_texts rows key row at not)

    more : (at : List ℕ) (found : Option BranchRecord) → is_some found ≡ true
        → times at (option_map (longer key) found) ≡ times at found + cond (eq_by_cmp bytes_cmp at key) 1 0
    more at None e = absurd (true≢false (sym e))
    more at (Some branch) e = times_more at key branch.held

    listed : (at : List ℕ) → times at (map.get (with_record branches xid (longer key)) xid)
        ≡ once (is_some (mode_of xid (map.get rows at))) + cond (eq_by_cmp bytes_cmp at key) 1 0
    listed at =
        ap (times at) (changed_at branches xid (longer key)) ∙ more at (map.get branches xid) known
        ∙ ap (λ n. n + cond (eq_by_cmp bytes_cmp at key) 1 0) (whole.listed_once xid at)

    own : (at : List ℕ) → (at ≡ key) ⊎ (eq_by_cmp bytes_cmp at key ≡ false)
        → times at (map.get (with_record branches xid (longer key)) xid)
        ≡ once (is_some (mode_of xid (map.get (map.insert rows key row) at)))
    own at (inl is) =
        rw is (listed key ∙ ap (λ held. once held + cond (eq_by_cmp bytes_cmp key key) 1 0) none
        ∙ ap (λ b. 0 + cond b 1 0) (same_itself bytes_total exact_texts key)
        ∙ sym (ap (λ found. once (is_some (mode_of xid found))) here ∙ ap once there))
    own at (inr not) =
        listed at ∙ ap (λ b. once (is_some (mode_of xid (map.get rows at))) + cond b 1 0) not ∙ plus_none _
        ∙ sym (ap (λ found. once (is_some (mode_of xid found)))
        (get_inserted_apart bytes_total exact_texts rows key row at not))

-- ---- a branch that ends

-- the branch lists the rows that it holds
pub listed_rows : (branches : BranchMap) (rows : RowMap) (xid : Xid) (branch : BranchRecord) → IsWhole branches rows
    → map.get branches xid ≡ Some branch
    → IsListedIn xid branch.held rows
unfolding times once
listed_rows branches rows xid branch whole is key e =
    listed_of_times key branch.held (sym (ap (times key) is) ∙ whole.listed_once xid key ∙ ap once e)

-- the records stay whole if a branch's rows are all freed and its record is removed
pub whole_ended : (branches : BranchMap) (commits : Bool) (xid : Xid) (keys : List (List ℕ)) (old new : RowMap)
    → Frees commits xid keys old new
    → IsListedIn xid keys old →
    IsWhole branches old → IsWhole (map.remove branches xid) new
unfolding times once owner
whole_ended branches commits xid keys old new frees listed whole = record {
  attached = λ other found e. elim (same_or_apart xids_total exact_xids other xid) [
    | inl is ↦ not_none found (sym (ap (map.get (map.remove branches xid)) is
        ∙ get_removed xids_total exact_xids branches xid) ∙ e)
    | inr apart ↦ whole.attached other found (sym (get_removed_apart xids_total exact_xids branches xid other apart)
        ∙ e)
  ];
  one_owned = λ at left right e f. whole.one_owned at left right (owned left at e) (owned right at f);
  listed_once = λ other key. elim (same_or_apart xids_total exact_xids other xid) [
    | inl is ↦ ap (times key) (ap (map.get (map.remove branches xid)) is
        ∙ get_removed xids_total exact_xids branches xid)
        ∙ sym (ap once (ap (λ x. is_some (mode_of x (map.get new key))) is
        ∙ own_mode commits xid keys old new frees listed key))
    | inr apart ↦ ap (times key) (get_removed_apart xids_total exact_xids branches xid other apart)
        ∙ whole.listed_once other key
        ∙ ap (λ mode. once (is_some mode)) (sym (beside_mode commits xid keys old new frees other apart key))
  ];
}
  where
    owned : (other : Xid) (at : ℕ) → owner_of (map.remove branches xid) other ≡ Some at
        → owner_of branches other ≡ Some at
    owned other at e = elim (same_or_apart xids_total exact_xids other xid) [
      | inl is ↦ not_none at
          (sym (ap owner (ap (map.get (map.remove branches xid)) is ∙ get_removed xids_total exact_xids branches xid))
          ∙ e)
      | inr apart ↦ sym (ap owner (get_removed_apart xids_total exact_xids branches xid other apart)) ∙ e
    ]
