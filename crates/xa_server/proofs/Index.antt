-- The index of what sessions have open, under each change of the records.
use Rattle.std.proofs.Common.{◌≡◌, ◌≢◌, ℕ, ◌<◌, zero, suc, List, [], ◌∷◌, ◌++◌, refl, ap, sym, ◌∙◌, true, false, length}
use Rattle.std.proofs.Common.{arith, ◌⊎◌, inl, inr, get_or-set_same, get_or-set_other}
use Rattle.std.specs.Prelude.{Option, Some, None, cond, slice_set}
use Rattle.std.specs.{Option.{option_and_then, option_map, option_map_or}, BTreeMap.BTreeMap, FinMap.get-empty}
use mathlib.Core.Bool.{true≢false}
use Rattle.xa_xid.{specs.{declared.xid.Xid.Xid, Xid.{xid_cmp, same_xid}}, proofs.Orders.{xids_total, exact_xids}}
use Rattle.xa_server.specs.{declared.branch.{BranchRecord.BranchRecord, Phase.Phase}, State.association_in}
use Rattle.xa_server.specs.declared.association.Association.{Association, TheVariants.{Free, Active, Idle}}
use Rattle.xa_server.specs.Tables.{BranchMap, owner_of, phase_in, opened_at, named_in, idle_of, IsIndexed, with_record}
use Rattle.xa_server.proofs.Maps.{get_view, same_or_apart, same_itself, get_inserted, get_inserted_apart, get_removed}
use Rattle.xa_server.proofs.{Maps.get_removed_apart, Records.branches_in}
use Rattle.std.specs.BTreeMap as tree
use Rattle.std.specs.FinMap as map
use lib.Dec.{eqb}

-- if two values are equal under `Some`, they are equal
pub same_value : {A : Type 0} (x y : A) → Some x ≡ Some y → x ≡ y
same_value x y e = cc

-- None is never Some
pub not_none : {A : Type 0} (x : A) {P : Type 0} → None ≡ Some x → P
not_none x e = cc

-- after XA END a session that has a branch open has that branch open and IDLE
pub ended_named : (association : Association) (xid : Xid) → named_in association ≡ Some xid
    → idle_of association ≡ Idle xid
ended_named Free xid e = not_none xid e
ended_named (Active own) xid e = ap Idle (same_value own xid e)
ended_named (Idle own) xid e = ap Idle (same_value own xid e)

-- the owner that a branch's record names, if there is a record and it names one
abbrev pub owner_in : Option BranchRecord → Option ℕ
owner_in found = option_and_then (λ (branch : BranchRecord). branch.owner) found

-- the phase of a record's branch, if there is a record
abbrev pub phase_of : Option BranchRecord → Option Phase
phase_of found = option_map (λ (branch : BranchRecord). branch.phase) found

-- an empty index is right where there are no records
pub indexed_empty : (nothing : Association) → nothing ≡ Free → IsIndexed [] nothing map.empty
indexed_empty nothing free = record {
  free = free;
  found = λ session xid e. not_none xid e;
  listed = λ session xid e. not_none session (ap owner_in (sym (get-empty xid_cmp xid)) ∙ e);
  phased = λ session xid e. not_none session (ap owner_in (sym (get-empty xid_cmp xid)) ∙ e);
}

-- the index stays right if the records have the owners and the phases that they had
pub indexed_moved :
    (opened : List Association) (nothing : Association) (old new : BranchMap)
    → ((xid : Xid) → owner_of new xid ≡ owner_of old xid) →
    ((xid : Xid) → phase_in new xid ≡ phase_in old xid) → IsIndexed opened nothing old → IsIndexed opened nothing new
indexed_moved opened nothing old new owner phase is = record {
  free = is.free;
  found = λ session xid e. owner xid ∙ is.found session xid e;
  listed = λ session xid e. is.listed session xid (sym (owner xid) ∙ e);
  phased = λ session xid e. is.phased session xid (sym (owner xid) ∙ e)
      ∙ ap (λ p. association_in p xid) (sym (phase xid));
}

-- the index stays right if each session has open in it what it had
pub indexed_grown :
    (opened longer : List Association) (nothing : Association) (branches : BranchMap)
    → ((at : ℕ) → opened_at longer at ≡ opened_at opened at) →
    IsIndexed opened nothing branches → IsIndexed longer nothing branches
indexed_grown opened longer nothing branches same is = record {
  free = is.free;
  found = λ session xid e. is.found session xid (ap named_in (sym (same session)) ∙ e);
  listed = λ session xid e. ap named_in (same session) ∙ is.listed session xid e;
  phased = λ session xid e. same session ∙ is.phased session xid e;
}

-- one place more in the index, with nothing open there, changes nothing
pub one_place_more : (opened : List Association) (at : ℕ) → opened_at (opened ++ Free ∷ []) at ≡ opened_at opened at
one_place_more [] zero = refl
one_place_more [] (suc at) = refl
one_place_more (association ∷ rest) zero = refl
one_place_more (association ∷ rest) (suc at) = one_place_more rest at

-- a session that has a branch open has a place
named_within : (opened : List Association) (session : ℕ) (xid : Xid) → named_in (opened_at opened session) ≡ Some xid
    → session < length opened
named_within [] session xid e = not_none xid e
named_within (association ∷ rest) zero xid e = omega arith
named_within (association ∷ rest) (suc session) xid e = omega (arith, named_within rest session xid e)

-- a session that owns a branch has a place in the index
pub owner_within :
    (opened : List Association) (nothing : Association) (branches : BranchMap) (session : ℕ) (xid : Xid)
    → owner_of branches xid ≡ Some session →
    IsIndexed opened nothing branches → session < length opened
owner_within opened nothing branches session xid owner is =
    named_within opened session xid (is.listed session xid owner)

-- what a look-up finds once the record of one identifier is this one, or none, and the others are as they were
pub found_with : BranchMap → Xid → Option BranchRecord → Xid → Option BranchRecord
found_with old xid found other = cond (same_xid other xid) found (map.get old other)

-- after the record of a branch is replaced, a look-up at that branch finds the new record
pub here : (old : BranchMap) (xid : Xid) (found : Option BranchRecord) → found_with old xid found xid ≡ found
unfolding found_with
here old xid found = ap (λ b. cond b found (map.get old xid)) (same_itself xids_total exact_xids xid)

-- replacing the record of one branch leaves those of the others
pub there : (old : BranchMap) (xid : Xid) (found : Option BranchRecord) (other : Xid) → same_xid other xid ≡ false
    → found_with old xid found other ≡ map.get old other
unfolding found_with
there old xid found other apart = ap (λ b. cond b found (map.get old other)) apart

-- two numbers are the same or not
numbers_apart : (m n : ℕ) → (m ≡ n) ⊎ (m ≢ n)
numbers_apart m n = elim (eqb m n) as (λ b. eqb m n ≡ b
    → (m ≡ n) ⊎ (m ≢ n)) [ true ↦ λ e. inl (grind arith) | false ↦ λ e. inr (λ is. grind arith) ] refl

-- a session's place in one change of the branch `xid`, which it may own: before, nobody else owned that branch and the
-- session owned no other; afterwards it owns what its association names, and nothing else
pub record IsSeat (opened : List Association) (old : BranchMap) (session : ℕ) (xid : Xid) (found : Option BranchRecord)
    (association : Association) : Type 0 where
  pub within : session < length opened
  pub was : (at : ℕ) → owner_of old xid ≡ Some at → at ≡ session
  pub only : (other : Xid) → owner_of old other ≡ Some session → other ≡ xid
  pub names : (other : Xid) → named_in association ≡ Some other → (xid ≡ other) × (owner_in found ≡ Some session)
  pub owner : (at : ℕ) → owner_in found ≡ Some at → session ≡ at
  pub owned : (at : ℕ) → owner_in found ≡ Some at → (named_in association ≡ Some xid)
      × (association ≡ association_in (phase_of found) xid)

-- the index stays right if a branch is changed and a session's place is set as `IsSeat` says
pub indexed_set :
    (opened : List Association) (nothing : Association) (old new : BranchMap) (session : ℕ) (xid : Xid)
    (found : Option BranchRecord)
    (association : Association) → ((other : Xid) → map.get new other ≡ found_with old xid found other) →
    IsSeat opened old session xid found association → IsIndexed opened nothing old
    → IsIndexed (slice_set opened session association) nothing new
indexed_set opened nothing old new session xid found association gets seat is =
    record {
      free = is.free;
      found = is_found;
      listed = λ at other e. (both at other e).0;
      phased = λ at other e.
          (both at other e).1;
    }
  where
    placed : opened_at (slice_set opened session association) session ≡ association
    placed = get_or-set_same opened session association Free seat.within

    apart_at : (at : ℕ) → at ≢ session → opened_at (slice_set opened session association) at ≡ opened_at opened at
    apart_at at apart = get_or-set_other opened session at association Free apart

    gets_here : map.get new xid ≡ found
    gets_here = gets xid ∙ here old xid found

    gets_there : (other : Xid) → same_xid other xid ≡ false → map.get new other ≡ map.get old other
    gets_there other apart = gets other ∙ there old xid found other apart

    is_found : (at : ℕ) (other : Xid) → named_in (opened_at (slice_set opened session association) at) ≡ Some other
        → owner_of new other ≡ Some at
    is_found at other e = elim (numbers_apart at session) [
      | inl at_is ↦
          let named : named_in association ≡ Some other = sym (ap named_in placed) ∙ (rw at_is at e) in
          rw (at_is, ← (seat.names other named).0) (ap owner_in gets_here ∙ (seat.names other named).1)
      | inr apart ↦
          let owner : owner_of old other ≡ Some at = is.found at other (ap named_in (sym (apart_at at apart)) ∙ e) in
          elim (same_or_apart xids_total exact_xids other xid) [
            | inl same ↦ absurd (apart (seat.was at (rw same at owner)))
            | inr other_is ↦ ap owner_in (gets_there other other_is) ∙ owner
          ]
    ]

    both : (at : ℕ) (other : Xid) → owner_of new other ≡ Some at →
        (named_in (opened_at (slice_set opened session association) at) ≡ Some other)
        × (opened_at (slice_set opened session association) at ≡ association_in (phase_in new other) other)
    both at other e = elim (same_or_apart xids_total exact_xids other xid) [
      | inl same ↦
          let owner : owner_in found ≡ Some at = sym (ap owner_in gets_here) ∙ (rw same at e) in
          rw (← seat.owner at owner, same) (
            ap named_in placed ∙ (seat.owned at owner).0,
            placed ∙ (seat.owned at owner).1 ∙ ap (λ f. association_in (phase_of f) xid) (sym gets_here),
          )
      | inr other_is ↦
          let owner : owner_of old other ≡ Some at = sym (ap owner_in (gets_there other other_is)) ∙ e in
          let apart : at ≢ session =
          λ at_is. true≢false (sym (ap (λ x. same_xid x xid) (seat.only other (rw at_is at owner))
          ∙ same_itself xids_total exact_xids xid) ∙ other_is) in (
            ap named_in (apart_at at apart) ∙ is.listed at other owner,
            apart_at at apart ∙ is.phased at other owner ∙ ap (λ f. association_in (phase_of f) other)
                (sym (gets_there other other_is)),
          )
    ]

-- changing a branch that nobody owns, before and after, leaves the index of sessions right
pub indexed_apart :
    (opened : List Association) (nothing : Association) (old new : BranchMap) (xid : Xid) (found : Option BranchRecord)
    →
    ((other : Xid) → map.get new other ≡ found_with old xid found other) → owner_of old xid ≡ None
    → owner_in found ≡ None →
    IsIndexed opened nothing old → IsIndexed opened nothing new
indexed_apart opened nothing old new xid found gets before after is = record {
  free = is.free;
  found = λ at other e. owner other ∙ is.found at other e;
  listed = λ at other e. is.listed at other (sym (owner other) ∙ e);
  phased = λ at other e. is.phased at other (sym (owner other) ∙ e)
      ∙ ap (λ f. association_in (phase_of f) other) (sym (record_of at other e));
}
  where
    owner : (other : Xid) → owner_of new other ≡ owner_of old other
    owner other = elim (same_or_apart xids_total exact_xids other xid) [
      | inl same ↦ rw same (ap owner_in (gets xid ∙ here old xid found) ∙ after ∙ sym before)
      | inr apart ↦ ap owner_in (gets other ∙ there old xid found other apart)
    ]

    record_of : (at : ℕ) (other : Xid) → owner_of new other ≡ Some at → map.get new other ≡ map.get old other
    record_of at other e = elim (same_or_apart xids_total exact_xids other xid) [
      | inl same ↦ not_none at (sym before ∙ (rw same at (sym (owner other) ∙ e)))
      | inr apart ↦ gets other ∙ there old xid found other apart
    ]

-- if a session that has a place and owned nothing starts a branch that nobody owned, its place may be set to that
-- branch, ACTIVE (`IsSeat`)
pub seat_started :
    (opened : List Association) (old : BranchMap) (session : ℕ) (xid : Xid) (branch : BranchRecord) →
    session < length opened → owner_of old xid ≡ None → ((other : Xid) → owner_of old other ≢ Some session) →
    branch.owner ≡ Some session → Active xid ≡ association_in (Some branch.phase) xid →
    IsSeat opened old session xid (Some branch) (Active xid)
seat_started opened old session xid branch within nobodys none owner phase = record {
  within = within;
  was = λ at e. not_none at (sym nobodys ∙ e);
  only = λ other e. absurd (none other e);
  names = λ other e. (same_value xid other e, owner);
  owner = λ at e. same_value session at (sym owner ∙ e);
  owned = λ at e. (refl, phase);
}

module _ (opened : List Association) (nothing : Association) (old : BranchMap) (session : ℕ) (xid : Xid)
    (owner_is : owner_of old xid ≡ Some session)
    (is : IsIndexed opened nothing old) where
  -- the branch that the session owns is its only one
  only_own : (other : Xid) → owner_of old other ≡ Some session → other ≡ xid
  only_own other e = same_value other xid (sym (is.listed session other e) ∙ is.listed session xid owner_is)

  -- if the session's branch is changed to one without an owner, or is gone, the session's place may be set to nothing
  -- (`IsSeat`)
  pub seat_freed : (found : Option BranchRecord) → owner_in found ≡ None → IsSeat opened old session xid found Free
  seat_freed found none = record {
    within = owner_within opened nothing old session xid owner_is is;
    was = λ at e. same_value at session (sym e ∙ owner_is);
    only = only_own;
    names = λ other e. not_none other e;
    owner = λ at e. not_none at (sym none ∙ e);
    owned = λ at e. not_none at (sym none ∙ e);
  }

  -- if the session's branch keeps its owner and becomes IDLE, the session's place may be set to it, IDLE (`IsSeat`)
  pub seat_idle : (branch : BranchRecord) → branch.owner ≡ Some session
      → Idle xid ≡ association_in (Some branch.phase) xid
      → IsSeat opened old session xid (Some branch) (Idle xid)
  seat_idle branch owner phase = record {
    within = owner_within opened nothing old session xid owner_is is;
    was = λ at e. same_value at session (sym e ∙ owner_is);
    only = only_own;
    names = λ other e. (same_value xid other e, owner);
    owner = λ at e. same_value session at (sym owner ∙ e);
    owned = λ at e. (refl, phase);
  }

-- once a record is put in, a look-up finds it at its identifier, and elsewhere what was there
pub get-inserted : (old : BranchMap) (xid : Xid) (branch : BranchRecord) (other : Xid)
    → map.get (map.insert old xid branch) other ≡ found_with old xid (Some branch) other
get-inserted old xid branch other = elim (same_or_apart xids_total exact_xids other xid) [
  | inl is ↦ rw is (get_inserted xids_total exact_xids old xid branch ∙ sym (here old xid (Some branch)))
  | inr apart ↦ get_inserted_apart xids_total exact_xids old xid branch other apart
      ∙ sym (there old xid (Some branch) other apart)
]

-- once a record is taken out, a look-up finds none at its identifier, and elsewhere what was there
pub get-removed : (old : BranchMap) (xid : Xid) (other : Xid)
    → map.get (map.remove old xid) other ≡ found_with old xid None other
get-removed old xid other = elim (same_or_apart xids_total exact_xids other xid) [
  | inl is ↦ rw is (get_removed xids_total exact_xids old xid ∙ sym (here old xid None))
  | inr apart ↦ get_removed_apart xids_total exact_xids old xid other apart ∙ sym (there old xid None other apart)
]

-- once a record is changed, a look-up finds the changed one at its identifier, if there was one, and elsewhere what
-- was there
pub get-changed :
    (old : BranchMap) (xid other : Xid) (change : BranchRecord → BranchRecord) →
    map.get (with_record old xid change) other ≡ found_with old xid (option_map change (map.get old xid)) other
get-changed old xid other change = by (map.get old xid) refl
  where
    by : (found : Option BranchRecord) → map.get old xid ≡ found
        → map.get (option_map_or (λ branch. map.insert old xid (change branch)) found old) other
        ≡ found_with old xid (option_map change found) other
    by None e = elim (same_or_apart xids_total exact_xids other xid) [
      | inl is ↦ rw is (e ∙ sym (here old xid None))
      | inr apart ↦ sym (there old xid None other apart)
    ]
    by (Some branch) e = get-inserted old xid (change branch) other

-- a change of a record that leaves its owner leaves who owns the branch
pub same_owner : (change : BranchRecord → BranchRecord)
    → ((branch : BranchRecord) → (change branch).owner ≡ branch.owner) → (found : Option BranchRecord)
    → owner_in (option_map change found) ≡ owner_in found
same_owner change same None = refl
same_owner change same (Some branch) = same branch

-- changing one record leaves all owners if it leaves that record's owner, and all phases if it leaves its phase
module _ (old : BranchMap) (xid : Xid) (change : BranchRecord → BranchRecord) where
  -- a change of one record that leaves its owner leaves the owner of every branch
  pub owner_of-changed : ((branch : BranchRecord) → (change branch).owner ≡ branch.owner) → (other : Xid)
      → owner_of (with_record old xid change) other ≡ owner_of old other
  owner_of-changed same other =
      ap owner_in (get-changed old xid other change) ∙ elim (same_or_apart xids_total exact_xids other xid) [
        | inl is ↦ rw is (ap owner_in (here old xid (option_map change (map.get old xid)))
            ∙ same_owner change same (map.get old xid))
        | inr apart ↦ ap owner_in (there old xid (option_map change (map.get old xid)) other apart)
      ]

  -- a change of one record that leaves its phase leaves the phase of every branch
  pub phase_in-changed : ((branch : BranchRecord) → (change branch).phase ≡ branch.phase) → (other : Xid)
      → phase_in (with_record old xid change) other ≡ phase_in old other
  phase_in-changed same other =
      ap phase_of (get-changed old xid other change) ∙ elim (same_or_apart xids_total exact_xids other xid) [
        | inl is ↦ rw is (ap phase_of (here old xid (option_map change (map.get old xid))) ∙ by (map.get old xid))
        | inr apart ↦ ap phase_of (there old xid (option_map change (map.get old xid)) other apart)
      ]
    where
      by : (found : Option BranchRecord) → phase_of (option_map change found) ≡ phase_of found
      by None = refl
      by (Some branch) = ap Some (same branch)

-- a branch with an owner has a record, which names this owner
pub record_owned : (branches : BranchMap) (xid : Xid) (session : ℕ) → owner_of branches xid ≡ Some session
    → (branch : BranchRecord) × (map.get branches xid ≡ Some branch) × (branch.owner ≡ Some session)
record_owned branches xid session owner = by (map.get branches xid) refl
  where
    by : (found : Option BranchRecord) → map.get branches xid ≡ found
        → (branch : BranchRecord) × (map.get branches xid ≡ Some branch) × (branch.owner ≡ Some session)
    by None e = not_none session (sym (ap owner_in e) ∙ owner)
    by (Some branch) e = (branch, e, sym (ap owner_in e) ∙ owner)

-- if a change leaves every branch without an owner, a branch that was changed so has none
pub no_owner : (change : BranchRecord → BranchRecord) → ((branch : BranchRecord) → (change branch).owner ≡ None)
    → (found : Option BranchRecord)
    → owner_in (option_map change found) ≡ None
no_owner change frees None = refl
no_owner change frees (Some branch) = frees branch

module _ (opened : List Association) (nothing : Association) (old : BranchMap) (session : ℕ) (xid : Xid)
    (owner_is : owner_of old xid ≡ Some session)
    (is : IsIndexed opened nothing old) where
  -- the index stays right if the session's branch becomes IDLE, and the session's place is set to it, IDLE
  pub indexed_idle :
      (idle : BranchRecord → BranchRecord) → ((branch : BranchRecord) → (idle branch).owner ≡ branch.owner) →
      ((branch : BranchRecord) → (idle branch).phase ≡ Phase.Idle) →
      IsIndexed (slice_set opened session (Idle xid)) nothing (with_record old xid idle)
  indexed_idle idle owner phase = by (record_owned old xid session owner_is)
    where
      by : (branch : BranchRecord) × (map.get old xid ≡ Some branch) × (branch.owner ≡ Some session) →
          IsIndexed (slice_set opened session (Idle xid)) nothing (with_record old xid idle)
      by (branch, there, owned) =
          indexed_set opened nothing old (with_record old xid idle) session xid (Some (idle branch)) (Idle xid)
          (λ other. get-changed old xid other idle ∙ ap (λ found. found_with old xid
          (option_map idle found) other) there)
          (seat_idle opened nothing old session xid owner_is is (idle branch) (owner branch ∙ owned)
          (ap (λ p. association_in (Some p) xid) (sym (phase branch))))
          is

  -- the index stays right if the session's branch loses its owner, and the session's place is set to nothing
  pub indexed_freed :
      (change : BranchRecord → BranchRecord) → ((branch : BranchRecord) → (change branch).owner ≡ None) →
      IsIndexed (slice_set opened session Free) nothing (with_record old xid change)
  indexed_freed change frees =
      indexed_set opened nothing old (with_record old xid change) session xid (option_map change (map.get old xid)) Free
      (λ other. get-changed old xid other change)
      (seat_freed opened nothing old session xid owner_is is (option_map change (map.get old xid))
      (no_owner change frees (map.get old xid)))
      is

  -- the index stays right if the session's branch is removed, and the session's place is set to nothing
  pub indexed_removed : IsIndexed (slice_set opened session Free) nothing (map.remove old xid)
  indexed_removed =
      indexed_set opened nothing old (map.remove old xid) session xid None Free (λ other. get-removed old xid other)
      (seat_freed opened nothing old session xid owner_is is None refl)
      is

module _ (opened : List Association) (nothing : Association) (old : BranchMap) (xid : Xid)
    (nobodys : owner_of old xid ≡ None)
    (is : IsIndexed opened nothing old) where
  -- the index stays right if a branch that nobody owns is changed, and nobody owns it afterwards
  pub changed_apart :
      (change : BranchRecord → BranchRecord) → owner_in (option_map change (map.get old xid)) ≡ None
      → IsIndexed opened nothing (with_record old xid change)
  changed_apart change after =
      indexed_apart opened nothing old (with_record old xid change) xid (option_map change (map.get old xid))
      (λ other. get-changed old xid other change)
      nobodys after is

  -- the index stays right if a branch that nobody owns is removed
  pub removed_apart : IsIndexed opened nothing (map.remove old xid)
  removed_apart = indexed_apart opened nothing old (map.remove old xid) xid None
      (λ other. get-removed old xid other) nobodys refl is

-- the index stays right if a session that owned nothing starts a branch that nobody owned, and its place is set to
-- that branch, ACTIVE
pub indexed_started :
    (opened : List Association) (nothing : Association) (old : BranchMap) (session : ℕ) (xid : Xid)
    (branch : BranchRecord) →
    session < length opened → owner_of old xid ≡ None → ((other : Xid) → owner_of old other ≢ Some session) →
    branch.owner ≡ Some session → branch.phase ≡ Phase.Active → IsIndexed opened nothing old →
    IsIndexed (slice_set opened session (Active xid)) nothing (map.insert old xid branch)
indexed_started opened nothing old session xid branch within nobodys none owner phase is =
    indexed_set opened nothing old (map.insert old xid branch) session xid (Some branch) (Active xid)
    (λ other. get-inserted old xid branch other)
    (seat_started opened old session xid branch within nobodys none owner
    (ap (λ p. association_in (Some p) xid) (sym phase))) is

-- the owner that is named in the record which a look-up in the tree finds is the branch's owner
pub tree_owner : (table : BTreeMap Xid BranchRecord) (xid : Xid) (owner : Option ℕ)
    → owner ≡ owner_in (tree.get xid_cmp table xid)
    → owner_of (branches_in table) xid ≡ owner
tree_owner table xid owner is = ap owner_in (get_view xids_total exact_xids table xid) ∙ sym is
