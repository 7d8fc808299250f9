-- The records of branches in their tree, seen as a finite map.
use Rattle.std.{proofs.Common.{◌≡◌, refl, ap, sym, ◌∙◌, inl, inr}, specs.Prelude.{Option, Some, None, MatchOption}}
use Rattle.std.specs.{Option.option_map_or, BTreeMap.{BTreeMap, Updates}, FinMap.{from_entries, same_map}}
use Rattle.xa_xid.{specs.{declared.xid.Xid.Xid, Xid.xid_cmp}, proofs.Orders.{xids_total, exact_xids}}
use Rattle.xa_server.specs.{declared.branch.BranchRecord.BranchRecord, Tables.{BranchMap, with_record}}
use Rattle.xa_server.proofs.Maps.{get_view, one_set, one_gone, same_or_apart, get_inserted, get_inserted_apart}
use Rattle.std.specs.BTreeMap as tree
use Rattle.std.specs.FinMap as map

-- the map of identifiers to records that the tree's entries make
abbrev pub branches_in : BTreeMap Xid BranchRecord → BranchMap
branches_in table = from_entries {R = xid_cmp} table.entries

-- a look-up in the tree is one in the value that contracts see
pub get_branch : (table : BTreeMap Xid BranchRecord) (seen : BranchMap) (xid : Xid) → branches_in table ≡ seen
    → tree.get xid_cmp table xid ≡ map.get seen xid
get_branch table seen xid is = sym (get_view xids_total exact_xids table xid) ∙ ap (λ m. map.get m xid) is

-- a record that is changed in place in the tree is changed in the map of records
pub changed_in :
    (old new : BTreeMap Xid BranchRecord) (xid : Xid) (change : BranchRecord → BranchRecord) →
    MatchOption (tree.get xid_cmp old xid) (new ≡ old) (λ branch. Updates xid_cmp old new xid (Some (change branch))) →
    branches_in new ≡ with_record (branches_in old) xid change
changed_in old new xid change = by (tree.get xid_cmp old xid) refl
  where
    by :
        (found : Option BranchRecord) → tree.get xid_cmp old xid ≡ found →
        MatchOption found (new ≡ old) (λ branch. Updates xid_cmp old new xid (Some (change branch))) →
        branches_in new ≡ with_record (branches_in old) xid change
    by None e same =
        ap branches_in same ∙ sym
        (ap (λ found. option_map_or (λ branch. map.insert (branches_in old) xid (change branch)) found
        (branches_in old))
        (get_view xids_total exact_xids old xid ∙ e))
    by (Some branch) e updates =
        one_set xids_total exact_xids old new xid (change branch) updates
        ∙ sym (ap (λ found. option_map_or (λ branch. map.insert (branches_in old) xid (change branch)) found
        (branches_in old))
        (get_view xids_total exact_xids old xid ∙ e))

-- a record that is put back as it was changes nothing
pub with_record-same : (branches : BranchMap) (xid : Xid) → with_record branches xid (λ branch. branch) ≡ branches
with_record-same branches xid = by (map.get branches xid) refl
  where
    by : (found : Option BranchRecord) → map.get branches xid ≡ found
        → option_map_or (λ branch. map.insert branches xid branch) found branches ≡ branches
    by None e = refl
    by (Some branch) e =
        same_map xids_total exact_xids _ _ (λ other. elim (same_or_apart xids_total exact_xids other xid) [
          | inl is ↦ rw is (get_inserted xids_total exact_xids branches xid branch ∙ sym e)
          | inr apart ↦ get_inserted_apart xids_total exact_xids branches xid branch other apart
        ])

-- a record that is taken out of the tree is taken out of the map of records
pub removed_in : (old new : BTreeMap Xid BranchRecord) (xid : Xid) → Updates xid_cmp old new xid None
    → branches_in new ≡ map.remove (branches_in old) xid
removed_in old new xid updates = one_gone xids_total exact_xids old new xid updates

-- a record that a look-up in the tree found stands in the map
pub found_in : (table : BTreeMap Xid BranchRecord) (xid : Xid) (found : Option BranchRecord)
    → found ≡ tree.get xid_cmp table xid
    → map.get (branches_in table) xid ≡ found
found_in table xid found is = get_view xids_total exact_xids table xid ∙ sym is
