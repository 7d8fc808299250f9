-- A branch comes to hold a row: it lists the row first, and the row then names it.
use Rattle.std.proofs.Common.{◌≡◌, ℕ, List, [], ◌∷◌, ◌++◌, refl, ap, sym, ◌∙◌, true, false, inl, inr, length, arith}
use Rattle.std.{proofs.{Common.{length-append, ◌+◌}, Math.Seq.take-append_seam}, specs.FinMap.same_map}
use Rattle.std.specs.{Prelude.{Option, Some, None, cond, ◌-◌, is_some}, Option.{option_map, option_map_or}}
use Rattle.xa_xid.{specs.{declared.xid.Xid.Xid, Xid.same_xid}, proofs.Orders.{xids_total, exact_xids}}
use Rattle.xa_server.specs.declared.{branch.BranchRecord.BranchRecord, lock.Change.Change}
use Rattle.xa_server.specs.declared.association.Association.TheVariants.{Active}
use Rattle.xa_server.specs.{State.{Exclusive, Branch, State, is_known}, Step.{with_branch, with_changed, with_lock}}
use Rattle.xa_server.specs.Locks.{holds, is_held_against, is_locked_against}
use Rattle.xa_server.specs.Tables.{BranchMap, with_record, without_last}
use Rattle.xa_server.specs.{Rows.{RowMap, held_row, shared_row, with_change}, View.{state_of, IsWhole}}
use Rattle.xa_server.proofs.Maps.{same_or_apart, get_inserted, get_inserted_apart}
use Rattle.xa_server.proofs.Holders.{mode_of, itself, turned_apart, some_if}
use Rattle.xa_server.proofs.{Seen.{holds-seen, free_row, known_record, locked_against-seen}, Steps.same_state}
use Rattle.xa_server.proofs.Steps.{same_branches, seen_changed, seen_held, seen_shared, IsShareable, share_there}
use Rattle.xa_server.proofs.{Steps.share_others, Whole.{whole_more, whole_row, changed_at}}
use Rattle.std.specs.FinMap as map
unfoldable pub use Rattle.xa_server.proofs.Whole.{longer}

-- the branch's record without the last key that it holds
unfoldable pub shorter : BranchRecord → BranchRecord
shorter branch = record branch { held = without_last branch.held }

-- a list with one more behind it, without its last, is the list
front_of : (keys : List (List ℕ)) (key : List ℕ) → without_last (keys ++ key ∷ []) ≡ keys
front_of keys key = rw (length-append) (let n : (length keys + 1) - 1 ≡ length keys = omega arith in
    rw n (take-append_seam keys (key ∷ [])))

-- the records with one changed at an identifier are those with it changed at an equal identifier
pub changed_as : (branches new : BranchMap) (own named : Xid) (change : BranchRecord → BranchRecord) → named ≡ own
    → new ≡ with_record branches named change → new ≡ with_record branches own change
changed_as branches new own named change same is = is ∙ ap (λ xid. with_record branches xid change) same

-- changing a branch to itself leaves the state
with_same : (state : State) (xid : Xid) → with_changed state xid (λ branch. branch) ≡ state
with_same state xid = by (map.get state.branches xid) refl
  where
    by : (found : Option Branch) → map.get state.branches xid ≡ found
        → option_map_or (λ branch. with_branch state xid branch) found state ≡ state
    by None e = refl
    by (Some branch) e =
        same_state _ _ (same_branches _ _ (λ other. elim (same_or_apart xids_total exact_xids other xid) [
          | inl is ↦ rw is (get_inserted xids_total exact_xids state.branches xid branch ∙ sym e)
          | inr apart ↦ get_inserted_apart xids_total exact_xids state.branches xid branch other apart
        ])) refl

-- a key that a branch lists but whose row doesn't name it yet changes nothing in the state
pub seen_listed : (branches : BranchMap) (rows : RowMap) (xid : Xid) (key : List ℕ)
    → state_of (with_record branches xid (longer key)) rows ≡ state_of branches rows
unfolding longer
seen_listed branches rows xid key = seen_changed branches rows xid (longer key) (λ branch. branch) (λ branch. refl)
    ∙ with_same (state_of branches rows) xid

-- listing a key and dropping it again leaves a branch's record as it was
back : (key : List ℕ) (branch : BranchRecord) → shorter (longer key branch) ≡ branch
unfolding longer shorter
back key branch = λ i. record { phase = branch.phase; owner = branch.owner; held = front_of branch.held key i }

-- listing a key in the record of one branch and dropping it again leaves all records as they were
pub unlisted : (branches : BranchMap) (xid : Xid) (key : List ℕ)
    → with_record (with_record branches xid (longer key)) xid shorter ≡ branches
unlisted branches xid key = by (map.get branches xid) refl
  where
    by : (found : Option BranchRecord) → map.get branches xid ≡ found
        → with_record (option_map_or (λ branch. map.insert branches xid (longer key branch)) found branches) xid shorter
        ≡ branches
    by None e = ap (λ found. option_map_or (λ branch. map.insert branches xid (shorter branch)) found branches) e
    by (Some branch) e =
        ap (λ found. option_map_or (λ b. map.insert (map.insert branches xid (longer key branch)) xid (shorter b)) found
        (map.insert branches xid (longer key branch))) (get_inserted xids_total exact_xids branches xid
        (longer key branch))
        ∙ same_map xids_total exact_xids _ _ (λ other. elim (same_or_apart xids_total exact_xids other xid) [
          | inl is ↦ rw is (get_inserted xids_total exact_xids _ xid (shorter (longer key branch))
              ∙ ap Some (back key branch) ∙ sym e)
          | inr apart ↦ get_inserted_apart xids_total exact_xids _ xid (shorter (longer key branch)) other apart
              ∙ get_inserted_apart xids_total exact_xids branches xid (longer key branch) other apart
        ])

-- a branch that holds a row exclusively holds it
holder_there : (own : Xid) → is_some (cond (same_xid own own) (Some Exclusive) None) ≡ true
holder_there own = some_if (same_xid own own) Exclusive ∙ itself own

-- a row that one branch holds exclusively isn't held by another
holder_beside : (own other : Xid) → same_xid other own ≡ false → cond (same_xid own other) (Some Exclusive) None ≡ None
holder_beside own other apart = ap (λ b. cond b (Some Exclusive) None) (turned_apart own other apart)

-- a branch still has a record once a key was listed in it
known_longer : (branches : BranchMap) (xid : Xid) (key : List ℕ) → is_some (map.get branches xid) ≡ true
    → is_some (map.get (with_record branches xid (longer key)) xid) ≡ true
known_longer branches xid key known =
    ap is_some (changed_at branches xid (longer key)) ∙ by (map.get branches xid) known
  where
    by : (found : Option BranchRecord) → is_some found ≡ true → is_some (option_map (longer key) found) ≡ true
    by None e = e
    by (Some branch) e = refl

-- if a branch comes to hold, with a change, a row that no branch held, and lists it, the records stay whole; in the
-- state the branch has that write and lock
pub held_anew : (branches : BranchMap) (rows : RowMap) (own : Xid) (key : List ℕ) (change : Change)
    → IsWhole branches rows
    → is_known (state_of branches rows) own ≡ true →
    is_held_against (state_of branches rows) (Active own) key ≡ false → is_some (mode_of own (map.get rows key)) ≡ false
    →
    IsWhole (with_record branches own (longer key)) (map.insert rows key (held_row own change (map.get rows key)))
    × (state_of (with_record branches own (longer key)) (map.insert rows key (held_row own change (map.get rows key)))
    ≡ with_changed (state_of branches rows) own (with_change key change))
held_anew branches rows own key change whole known unheld none =
    let free = free_row branches rows own key whole unheld in (
      whole_more branches rows own key (held_row own change (map.get rows key))
          (known_record branches rows own known) none (holder_there own)
          (λ other apart. ap is_some (holder_beside own other apart) ∙ sym (free other apart)) whole,
      seen_held (with_record branches own (longer key)) rows own key change
          (known_longer branches own key (known_record branches rows own known)) free
          ∙ ap (λ s. with_changed s own (with_change key change)) (seen_listed branches rows own key),
    )

-- if a branch makes a new change of a row that it holds, in either way, and no other does, the records stay whole; in
-- the state the branch has that write and lock
pub held_again : (branches : BranchMap) (rows : RowMap) (own : Xid) (key : List ℕ) (change : Change)
    → IsWhole branches rows
    → is_known (state_of branches rows) own ≡ true →
    is_held_against (state_of branches rows) (Active own) key ≡ false → is_some (mode_of own (map.get rows key)) ≡ true
    →
    IsWhole branches (map.insert rows key (held_row own change (map.get rows key)))
    × (state_of branches (map.insert rows key (held_row own change (map.get rows key)))
    ≡ with_changed (state_of branches rows) own (with_change key change))
held_again branches rows own key change whole known unheld there =
    let free = free_row branches rows own key whole unheld in (
      whole_row branches rows key (held_row own change (map.get rows key))
          (λ xid. elim (same_or_apart xids_total exact_xids xid own) [
            | inl is ↦ rw is (holder_there own ∙ sym there)
            | inr apart ↦ ap is_some (holder_beside own xid apart) ∙ sym (free xid apart)
          ]) whole,
      seen_held branches rows own key change (known_record branches rows own known) free,
    )

-- a row that no other branch holds exclusively, and that the branch doesn't hold, may be shared by the branch
shareable : (branches : BranchMap) (rows : RowMap) (own : Xid) (key : List ℕ) → IsWhole branches rows
    → is_locked_against (state_of branches rows) (Active own) key ≡ false
    → holds (state_of branches rows) own key ≡ false →
    IsShareable own (map.get rows key)
shareable branches rows own key whole unlocked unheld = record {
  unheld = sym (holds-seen branches rows own key whole) ∙ unheld;
  unlocked = sym (locked_against-seen branches rows (Active own) key whole) ∙ unlocked;
}

-- if a branch comes to share a row that it didn't hold and no other holds exclusively, and lists it, the records stay
-- whole; in the state the branch has that lock
pub shared_anew : (branches : BranchMap) (rows : RowMap) (own : Xid) (key : List ℕ) → IsWhole branches rows
    → is_known (state_of branches rows) own ≡ true →
    is_locked_against (state_of branches rows) (Active own) key ≡ false → holds (state_of branches rows) own key ≡ false
    →
    IsWhole (with_record branches own (longer key)) (map.insert rows key (shared_row own (map.get rows key)))
    × (state_of (with_record branches own (longer key)) (map.insert rows key (shared_row own (map.get rows key)))
    ≡ with_changed (state_of branches rows) own (with_lock key))
shared_anew branches rows own key whole known unlocked unheld =
    let is = shareable branches rows own key whole unlocked unheld in (
      whole_more branches rows own key (shared_row own (map.get rows key))
          (known_record branches rows own known) is.unheld
          (ap is_some (share_there own (map.get rows key) is))
          (λ other apart. ap is_some (share_others own other (map.get rows key) apart)) whole,
      seen_shared (with_record branches own (longer key)) rows own key
          (known_longer branches own key (known_record branches rows own known)) is
          ∙ ap (λ s. with_changed s own (with_lock key)) (seen_listed branches rows own key),
    )
