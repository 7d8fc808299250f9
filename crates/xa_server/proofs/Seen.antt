-- What the state that records stand for has, by what the records have.
use Rattle.std.proofs.Common.{◌≡◌, ◌≢◌, ℕ, List, [], ◌∷◌, refl, ap, sym, ◌∙◌, Bool, true, false, inl, inr, eq-eqb}
use Rattle.std.specs.Prelude.{Option, Some, None, cond, ◌&&◌, ◌||◌, ◌==◌, is_some, is_none, find, filter, not}
use Rattle.std.specs.{Option.{option_map, option_map_or, option_and_then, unwrap_or}, List.list_any}
use Rattle.std.specs.FinMap.{contains_key-keys}
use mathlib.Core.Bool.{true≢false}
use Rattle.xa_xid.specs.{declared.xid.Xid.Xid, Xid.same_xid}
use Rattle.xa_xid.proofs.Orders.{xids_total, exact_xids, bytes_total, exact_texts}
use Rattle.xa_server.specs.{declared.branch.{Phase.Phase, BranchRecord.BranchRecord}, Recorded.RowRecord}
use Rattle.xa_server.specs.declared.association.Association.{Association, TheVariants.{Free, Active, Idle}}
use Rattle.xa_server.specs.State.{LockMode, Branch, is_known, phase_at, is_prepared_phase, is_prepared, owner_at, owns}
use Rattle.xa_server.specs.State.{own_xid, association_in, association_of, committed_value, write_at, value_within}
use Rattle.xa_server.specs.State.{prepared_xids}
use Rattle.xa_server.specs.Locks.{lock_at, holds, is_exclusive, is_another, is_held_against, is_locked_against}
use Rattle.xa_server.specs.Tables.{BranchMap, owner_of, phase_in as recorded_phase, named_in, prepared_among}
use Rattle.xa_server.specs.Rows.{RowMap, committed_of, lock_of, write_by, lock_by, held_against, locked_against}
use Rattle.xa_server.specs.{Rows.value_seen, View.{gather, branch_seen, state_of, times_in, times_listed, IsWhole}}
use Rattle.xa_server.proofs.{Maps.same_or_apart, Gathered.{get-gather, keys-mapped, get-mapped}, Index.not_none}
use Rattle.xa_server.proofs.Holders.{zero_or_one, mode_of, mode_of-lock, none_of, same_truth, both, any_witness}
use Rattle.xa_server.proofs.Holders.{any_some, held_against-lock, locked_against-lock, beside_there, beside_witness}
use Rattle.xa_server.proofs.Holders.{locked_there, locked_witness, unwritten}
use Rattle.std.specs.FinMap as map
use borrow.Author.Tests.{eqb-true}

-- the branch at an identifier of the state is that of its record, with writes and locks from the rows' records
pub get-branches : (branches : BranchMap) (rows : RowMap) (xid : Xid)
    → map.get (state_of branches rows).branches xid ≡ option_map (branch_seen rows xid) (map.get branches xid)
unfolding state_of
get-branches branches rows xid = get-mapped xids_total exact_xids (branch_seen rows) branches xid

-- the state has the branches of which there are records
pub keys-branches : (branches : BranchMap) (rows : RowMap)
    → map.keys (state_of branches rows).branches ≡ map.keys branches
unfolding state_of
keys-branches branches rows = keys-mapped xids_total exact_xids (branch_seen rows) branches

-- the committed value of a row in the state is that of its record
pub committed-seen : (branches : BranchMap) (rows : RowMap) (key : List ℕ)
    → committed_value (state_of branches rows) key ≡ committed_of (map.get rows key)
unfolding state_of
committed-seen branches rows key = get-gather bytes_total exact_texts (λ row. row.committed) rows key

-- what a branch has written to a row is what the row's record says
pub writes-seen : (rows : RowMap) (xid : Xid) (key : List ℕ)
    → map.get (gather (write_by xid) rows) key ≡ option_and_then (write_by xid) (map.get rows key)
writes-seen rows xid key = get-gather bytes_total exact_texts (write_by xid) rows key

-- how a branch has locked a row is what the row's record says
pub locks-seen : (rows : RowMap) (xid : Xid) (key : List ℕ)
    → map.get (gather (lock_by xid) rows) key ≡ option_and_then (lock_by xid) (map.get rows key)
locks-seen rows xid key = get-gather bytes_total exact_texts (lock_by xid) rows key

-- a branch's phase in the state is that of its record
phase_in : (rows : RowMap) (xid : Xid) (found : Option BranchRecord)
    → option_map (λ (b : Branch). b.phase) (option_map (branch_seen rows xid) found)
    ≡ option_map (λ (b : BranchRecord). b.phase) found
phase_in rows xid None = refl
phase_in rows xid (Some branch) = refl

-- the phase of the branch at an identifier is that of its record
pub phase_at-seen : (branches : BranchMap) (rows : RowMap) (xid : Xid)
    → phase_at (state_of branches rows) xid ≡ option_map (λ (b : BranchRecord). b.phase) (map.get branches xid)
phase_at-seen branches rows xid = ap (option_map (λ (b : Branch). b.phase)) (get-branches branches rows xid)
    ∙ phase_in rows xid (map.get branches xid)

-- a branch's owner in the state is that of its record
owner_in : (rows : RowMap) (xid : Xid) (found : Option BranchRecord)
    → option_and_then (λ (b : Branch). b.owner) (option_map (branch_seen rows xid) found)
    ≡ option_and_then (λ (b : BranchRecord). b.owner) found
owner_in rows xid None = refl
owner_in rows xid (Some branch) = refl

-- the owner of the branch at an identifier is that of its record
pub owner_at-seen : (branches : BranchMap) (rows : RowMap) (xid : Xid)
    → owner_at (state_of branches rows) xid ≡ owner_of branches xid
owner_at-seen branches rows xid = ap (option_and_then (λ (b : Branch). b.owner)) (get-branches branches rows xid)
    ∙ owner_in rows xid (map.get branches xid)

-- a branch is in the state exactly if it has a record
known_in : (rows : RowMap) (xid : Xid) (found : Option BranchRecord)
    → is_some (option_map (branch_seen rows xid) found) ≡ is_some found
known_in rows xid None = refl
known_in rows xid (Some branch) = refl

-- a branch is at an identifier of the state exactly if it has a record there
pub is_known-seen : (branches : BranchMap) (rows : RowMap) (xid : Xid)
    → is_known (state_of branches rows) xid ≡ is_some (map.get branches xid)
is_known-seen branches rows xid = ap is_some (get-branches branches rows xid) ∙ known_in rows xid (map.get branches xid)

-- a branch that the state knows has a record
pub known_record : (branches : BranchMap) (rows : RowMap) (xid : Xid) → is_known (state_of branches rows) xid ≡ true
    → is_some (map.get branches xid) ≡ true
known_record branches rows xid known = sym (is_known-seen branches rows xid) ∙ known

-- a branch is PREPARED in the state exactly if its record says so
pub is_prepared-seen : (branches : BranchMap) (rows : RowMap) (xid : Xid)
    → is_prepared (state_of branches rows) xid ≡ option_map_or is_prepared_phase
    (option_map (λ (b : BranchRecord). b.phase) (map.get branches xid)) false
is_prepared-seen branches rows xid = ap (λ p. option_map_or is_prepared_phase p false) (phase_at-seen branches rows xid)

-- ---- what a session has open

-- nothing is found if no element passes
pub find_none : {A : Type 0} (p : A → Bool) (xs : List A) → ((x : A) → p x ≡ false) → find p xs ≡ None
find_none p [] none = refl
find_none p (x ∷ xs) none = ap (λ b. cond b (Some x) (find p xs)) (none x) ∙ find_none p xs none

-- the element that alone passes is found, at the front or later
found_first : (p : Xid → Bool) (x xid : Xid) (rest : Option Xid) → rest ≡ Some xid
    → ((other : Xid) → p other ≡ true → xid ≡ other) → (b : Bool) → p x ≡ b
    → cond b (Some x) rest ≡ Some xid
found_first p x xid rest later only true is = ap Some (sym (only x is))
found_first p x xid rest later only false is = later

-- if one element of a list alone passes, it is found
pub find_one : (p : Xid → Bool) (xs : List Xid) (xid : Xid) → list_any (same_xid xid) xs ≡ true → p xid ≡ true
    → ((other : Xid) → p other ≡ true → xid ≡ other)
    → find p xs ≡ Some xid
find_one p [] xid there here only = absurd (true≢false (sym there))
find_one p (x ∷ xs) xid there here only = elim (same_or_apart xids_total exact_xids xid x) [
  | inl is ↦ ap (λ b. cond b (Some x) (find p xs)) (ap p (sym is) ∙ here) ∙ ap Some (sym is)
  | inr apart ↦ found_first p x xid (find p xs) (find_one p xs xid
      (sym (ap (λ b. b || list_any (same_xid xid) xs) apart) ∙ there) here only) only (p x) refl
]

-- a session owns a branch of the state exactly if the record names it as the owner
owns-seen : (branches : BranchMap) (rows : RowMap) (session : ℕ) (xid : Xid)
    → owns (state_of branches rows) session xid ≡ option_map_or (λ owner. owner == session)
    (owner_of branches xid) false
owns-seen branches rows session xid =
    ap (λ owner. option_map_or (λ owner. owner == session) owner false) (owner_at-seen branches rows xid)

-- the owner that passes the test for a session is that session
pub owned_is : (owner : Option ℕ) (session : ℕ) → option_map_or (λ owner. owner == session) owner false ≡ true
    → owner ≡ Some session
owned_is None session e = absurd (true≢false (sym e))
owned_is (Some owner) session e = ap Some (eqb-true owner session e)

-- who owns a branch in the state is named in its record
pub owns_owner : (branches : BranchMap) (rows : RowMap) (session : ℕ) (xid : Xid)
    → owns (state_of branches rows) session xid ≡ true
    → owner_of branches xid ≡ Some session
owns_owner branches rows session xid e = owned_is _ session (sym (owns-seen branches rows session xid) ∙ e)

-- the session that a branch's record names owns it in the state
pub owner_owns : (branches : BranchMap) (rows : RowMap) (session : ℕ) (xid : Xid) → owner_of branches xid ≡ Some session
    → owns (state_of branches rows) session xid ≡ true
owner_owns branches rows session xid e =
    owns-seen branches rows session xid ∙ ap (λ owner. option_map_or (λ owner. owner == session) owner false) e
    ∙ eq-eqb session session refl

-- if the owner isn't this session, the test for it fails
not_owned : (owner : Option ℕ) (session : ℕ) → (owner ≢ Some session)
    → option_map_or (λ owner. owner == session) owner false ≡ false
not_owned owner session none = by (option_map_or (λ owner. owner == session) owner false) refl
  where
    by : (b : Bool) → option_map_or (λ owner. owner == session) owner false ≡ b → b ≡ false
    by true e = absurd (none (owned_is owner session e))
    by false e = refl

-- a branch with an owner has a record
owner_known : (found : Option BranchRecord) (session : ℕ)
    → option_and_then (λ (b : BranchRecord). b.owner) found ≡ Some session → is_some found ≡ true
owner_known None session e = not_none session e
owner_known (Some branch) session e = refl

-- an identifier that has a record is among those of the state's branches
key_there : (branches : BranchMap) (rows : RowMap) (xid : Xid) → is_some (map.get branches xid) ≡ true
    → list_any (same_xid xid) (map.keys (state_of branches rows).branches) ≡ true
key_there branches rows xid there =
    ap (list_any (same_xid xid)) (keys-branches branches rows) ∙ sym (contains_key-keys branches xid) ∙ there

-- the one branch that a session owns by the records is the one that it owns in the state
pub own_xid-owned : (branches : BranchMap) (rows : RowMap) (session : ℕ) (xid : Xid) → IsWhole branches rows
    → owner_of branches xid ≡ Some session
    → own_xid (state_of branches rows) session ≡ Some xid
unfolding own_xid
own_xid-owned branches rows session xid whole owner =
    find_one (owns (state_of branches rows) session) (map.keys (state_of branches rows).branches) xid
    (key_there branches rows xid (owner_known (map.get branches xid) session owner))
    (owner_owns branches rows session xid owner)
    (λ other is. whole.one_owned session xid other owner (owns_owner branches rows session other is))

-- a session that no record names as an owner owns no branch in the state
pub own_xid-free : (branches : BranchMap) (rows : RowMap) (session : ℕ)
    → ((xid : Xid) → owner_of branches xid ≢ Some session)
    → own_xid (state_of branches rows) session ≡ None
unfolding own_xid
own_xid-free branches rows session free =
    find_none (owns (state_of branches rows) session) (map.keys (state_of branches rows).branches)
    (λ xid. owns-seen branches rows session xid ∙ not_owned (owner_of branches xid) session (free xid))

-- a session that owns a branch has it open, in the phase of its record
pub association-owned : (branches : BranchMap) (rows : RowMap) (session : ℕ) (xid : Xid) (phase : Option Phase)
    → IsWhole branches rows →
    owner_of branches xid ≡ Some session → option_map (λ (b : BranchRecord). b.phase) (map.get branches xid) ≡ phase
    → association_of (state_of branches rows) session ≡ association_in phase xid
unfolding association_of
association-owned branches rows session xid phase whole owner is =
    ap (λ own. option_map_or (λ xid. association_in (phase_at (state_of branches rows) xid) xid) own Free)
    (own_xid-owned branches rows session xid whole owner)
    ∙ ap (λ p. association_in p xid) (phase_at-seen branches rows xid ∙ is)

-- a session that owns no branch is free
pub association-free : (branches : BranchMap) (rows : RowMap) (session : ℕ)
    → ((xid : Xid) → owner_of branches xid ≢ Some session)
    → association_of (state_of branches rows) session ≡ Free
unfolding association_of
association-free branches rows session free =
    ap (λ own. option_map_or (λ xid. association_in (phase_at (state_of branches rows) xid) xid) own Free)
    (own_xid-free branches rows session free)

-- what the index says that a session has open, if it agrees with the records' owners and phases, is what it has open
-- in the state
pub association-opened : (branches : BranchMap) (rows : RowMap) (session : ℕ) (opened : Association)
    → IsWhole branches rows →
    ((xid : Xid) → named_in opened ≡ Some xid → owner_of branches xid ≡ Some session) →
    ((xid : Xid) → owner_of branches xid ≡ Some session → opened ≡ association_in (recorded_phase branches xid) xid)
    → opened ≡ association_of (state_of branches rows) session
association-opened branches rows session opened whole named owned = by opened refl
  where
    own : (xid : Xid) → owner_of branches xid ≡ Some session → opened ≡ association_of (state_of branches rows) session
    own xid owner = owned xid owner ∙ sym (association-owned branches rows session xid
        (recorded_phase branches xid) whole owner refl)

    none : opened ≡ Free → (xid : Xid) → owner_of branches xid ≢ Some session
    none free xid owner = at (map.get branches xid) refl
      where
        clash : (branch : BranchRecord) (phase : Phase) → branch.phase ≡ phase → map.get branches xid ≡ Some branch → ⊥
        clash branch Phase.Active p is =
            let e : Free ≡ Active xid = sym free ∙ owned xid owner
            ∙ ap (λ found. association_in (option_map (λ (b : BranchRecord). b.phase) found) xid) is
            ∙ ap (λ phase. association_in (Some phase) xid) p in cc
        clash branch Phase.Idle p is =
            let e : Free ≡ Idle xid = sym free ∙ owned xid owner
            ∙ ap (λ found. association_in (option_map (λ (b : BranchRecord). b.phase) found) xid) is
            ∙ ap (λ phase. association_in (Some phase) xid) p in cc
        clash branch Phase.Prepared p is =
            true≢false (sym (whole.attached xid branch is ∙ ap is_prepared_phase p)
            ∙ ap is_none (sym (ap (option_and_then (λ (b : BranchRecord). b.owner)) is) ∙ owner))

        at : (found : Option BranchRecord) → map.get branches xid ≡ found → ⊥
        at None is = not_none session (sym (ap (option_and_then (λ (b : BranchRecord). b.owner)) is) ∙ owner)
        at (Some branch) is = clash branch branch.phase refl is

    by : (a : Association) → opened ≡ a → opened ≡ association_of (state_of branches rows) session
    by Free is = is ∙ sym (association-free branches rows session (none is))
    by (Active xid) is = own xid (named xid (ap named_in is))
    by (Idle xid) is = own xid (named xid (ap named_in is))

-- ---- who holds a row

-- if a count that is 1 or 0 by a test is 0, the test fails
zero_only : (b : Bool) (n : ℕ) → n ≡ 0 → n ≡ cond b 1 0 → b ≡ false
zero_only true n z e = absurd (zero_or_one n z e)
zero_only false n z e = refl

-- a branch without a record holds nothing
pub unknown_holds : (branches : BranchMap) (rows : RowMap) (xid : Xid) (key : List ℕ) → IsWhole branches rows
    → map.get branches xid ≡ None
    → is_some (mode_of xid (map.get rows key)) ≡ false
unknown_holds branches rows xid key whole none = zero_only _ (times_listed branches xid key)
    (ap (λ (found : Option BranchRecord). option_map_or (λ (branch : BranchRecord). times_in key branch.held) found 0)
    none) (whole.listed_once xid key)

-- a branch that holds a row has a record
pub holder_known : (branches : BranchMap) (rows : RowMap) (xid : Xid) (key : List ℕ) → IsWhole branches rows
    → is_some (mode_of xid (map.get rows key)) ≡ true
    → is_some (map.get branches xid) ≡ true
holder_known branches rows xid key whole e = by (map.get branches xid) refl
  where
    by : (found : Option BranchRecord) → map.get branches xid ≡ found → is_some found ≡ true
    by None is = absurd (true≢false (sym e ∙ unknown_holds branches rows xid key whole is))
    by (Some branch) is = refl

-- how a known branch has locked a row is what the row's record says
mode_within : (rows : RowMap) (xid : Xid) (key : List ℕ) (found : Option BranchRecord) → is_some found ≡ true →
    option_and_then (λ (branch : Branch). map.get branch.locks key) (option_map (branch_seen rows xid) found)
    ≡ mode_of xid (map.get rows key)
mode_within rows xid key None there = absurd (true≢false (sym there))
mode_within rows xid key (Some branch) there = locks-seen rows xid key

-- a branch holds a row as the row's record says
pub lock_at-seen : (branches : BranchMap) (rows : RowMap) (xid : Xid) (key : List ℕ) → IsWhole branches rows
    → lock_at (state_of branches rows) xid key ≡ mode_of xid (map.get rows key)
lock_at-seen branches rows xid key whole =
    ap (option_and_then (λ (branch : Branch). map.get branch.locks key)) (get-branches branches rows xid)
    ∙ by (map.get branches xid) refl
  where
    by : (found : Option BranchRecord) → map.get branches xid ≡ found
        → option_and_then (λ (branch : Branch). map.get branch.locks key) (option_map (branch_seen rows xid) found)
        ≡ mode_of xid (map.get rows key)
    by (Some branch) e = mode_within rows xid key (Some branch) refl
    by None e = sym (none_of (mode_of xid (map.get rows key)) (unknown_holds branches rows xid key whole e))

-- a branch holds a row in the state exactly if the row's record names it
pub holds-seen : (branches : BranchMap) (rows : RowMap) (xid : Xid) (key : List ℕ) → IsWhole branches rows
    → holds (state_of branches rows) xid key ≡ is_some (mode_of xid (map.get rows key))
holds-seen branches rows xid key whole = ap is_some (lock_at-seen branches rows xid key whole)

-- if b holds exactly if, by the row's record, a branch that isn't the session's own holds the row in a way that
-- passes a test, then b says whether such a branch does in the state
against : (branches : BranchMap) (rows : RowMap) (association : Association) (key : List ℕ)
    (passes : Option LockMode → Bool) (b : Bool) → IsWhole branches rows
    → passes None ≡ false →
    (b ≡ true → (xid : Xid) × (passes (mode_of xid (map.get rows key)) ≡ true) × (is_another association xid ≡ true)) →
    ((xid : Xid) → passes (mode_of xid (map.get rows key)) ≡ true → is_another association xid ≡ true → b ≡ true) →
    list_any (λ xid. is_another association xid && passes (lock_at (state_of branches rows) xid key))
    (map.keys (state_of branches rows).branches) ≡ b
against branches rows association key passes b whole nothing witness there = same_truth _ b
    (λ e.
    let found =
    any_witness (λ xid. is_another association xid && passes (lock_at (state_of branches rows) xid key))
    (map.keys (state_of branches rows).branches) e in
    let parts = both (is_another association found.0) (passes (lock_at (state_of branches rows) found.0 key)) found.2 in
    there found.0 (ap passes (sym (lock_at-seen branches rows found.0 key whole)) ∙ parts.1) parts.0)
    (λ e.
    let found = witness e in
    any_some (λ xid. is_another association xid && passes (lock_at (state_of branches rows) xid key))
    (map.keys (state_of branches rows).branches) found.0
    (key_there branches rows found.0 (holder_known branches rows found.0 key whole
    (something (mode_of found.0 (map.get rows key)) found.1)))
    (ap (λ a. a && passes (lock_at (state_of branches rows) found.0 key)) found.2
    ∙ ap passes (lock_at-seen branches rows found.0 key whole) ∙ found.1))
  where
    something : (mode : Option LockMode) → passes mode ≡ true → is_some mode ≡ true
    something None e = absurd (true≢false (sym e ∙ nothing))
    something (Some mode) e = refl

-- a row is held against a session exactly if its record says that another branch holds it
pub held_against-seen : (branches : BranchMap) (rows : RowMap) (association : Association) (key : List ℕ)
    → IsWhole branches rows
    → is_held_against (state_of branches rows) association key ≡ held_against association (map.get rows key)
unfolding is_held_against
held_against-seen branches rows association key whole =
    against branches rows association key is_some (held_against association (map.get rows key)) whole refl
    (λ e. let found = beside_witness association (lock_of (map.get rows key))
    (sym (held_against-lock association (map.get rows key)) ∙ e) in
    (found.0, ap is_some (mode_of-lock found.0 (map.get rows key)) ∙ found.1, found.2))
    (λ xid e f. held_against-lock association (map.get rows key)
    ∙ beside_there association (lock_of (map.get rows key)) xid
    (sym (ap is_some (mode_of-lock xid (map.get rows key))) ∙ e) f)

-- a row is locked against a session exactly if its record says that another branch holds it exclusively
pub locked_against-seen : (branches : BranchMap) (rows : RowMap) (association : Association) (key : List ℕ)
    → IsWhole branches rows
    → is_locked_against (state_of branches rows) association key ≡ locked_against association (map.get rows key)
unfolding is_locked_against
locked_against-seen branches rows association key whole =
    against branches rows association key is_exclusive (locked_against association (map.get rows key)) whole refl
    (λ e. let found = locked_witness association (lock_of (map.get rows key))
    (sym (locked_against-lock association (map.get rows key)) ∙ e) in
    (found.0, ap is_exclusive (mode_of-lock found.0 (map.get rows key)) ∙ found.1, found.2))
    (λ xid e f. locked_against-lock association (map.get rows key)
    ∙ locked_there association (lock_of (map.get rows key)) xid
    (sym (ap is_exclusive (mode_of-lock xid (map.get rows key))) ∙ e) f)

-- a row that isn't held against a session is held by no other branch
not_beside : (association : Association) (found : Option RowRecord) (xid : Xid) → held_against association found ≡ false
    → is_another association xid ≡ true
    → is_some (mode_of xid found) ≡ false
not_beside association found xid e another = by (is_some (mode_of xid found)) refl
  where
    by : (b : Bool) → is_some (mode_of xid found) ≡ b → b ≡ false
    by true held =
        absurd (true≢false (sym (held_against-lock association found
        ∙ beside_there association (lock_of found) xid (sym (ap is_some (mode_of-lock xid found)) ∙ held) another) ∙ e))
    by false none = refl

-- if a row isn't held against a free session, its record names no branch
pub unheld_row : (branches : BranchMap) (rows : RowMap) (key : List ℕ) → IsWhole branches rows
    → is_held_against (state_of branches rows) Free key ≡ false
    → (xid : Xid) → mode_of xid (map.get rows key) ≡ None
unheld_row branches rows key whole e xid =
    none_of (mode_of xid (map.get rows key)) (not_beside Free (map.get rows key) xid
    (sym (held_against-seen branches rows Free key whole) ∙ e) refl)

-- if a row isn't held against a session with an ACTIVE branch, its record names no other branch
pub free_row : (branches : BranchMap) (rows : RowMap) (own : Xid) (key : List ℕ) → IsWhole branches rows
    → is_held_against (state_of branches rows) (Active own) key ≡ false →
    (other : Xid) → same_xid other own ≡ false → is_some (mode_of other (map.get rows key)) ≡ false
free_row branches rows own key whole e other apart =
    not_beside (Active own) (map.get rows key) other (sym (held_against-seen branches rows (Active own) key whole) ∙ e)
    (ap not apart)

-- ---- what a branch sees

-- what a known branch has written to a row is what the row's record says
write_in : (rows : RowMap) (xid : Xid) (key : List ℕ) (found : Option BranchRecord) → is_some found ≡ true →
    option_and_then (λ (branch : Branch). map.get branch.writes key) (option_map (branch_seen rows xid) found)
    ≡ option_and_then (write_by xid) (map.get rows key)
write_in rows xid key None there = absurd (true≢false (sym there))
write_in rows xid key (Some branch) there = writes-seen rows xid key

-- if the branch at an identifier is known, what it has written to a row is what the row's record says
pub write_at-known : (branches : BranchMap) (rows : RowMap) (xid : Xid) (key : List ℕ)
    → is_some (map.get branches xid) ≡ true
    → write_at (state_of branches rows) xid key ≡ option_and_then (write_by xid) (map.get rows key)
write_at-known branches rows xid key there =
    ap (option_and_then (λ (branch : Branch). map.get branch.writes key)) (get-branches branches rows xid)
    ∙ write_in rows xid key (map.get branches xid) there

-- if the records are whole, what the branch at an identifier has written to a row is what the row's record says
pub write_at-seen : (branches : BranchMap) (rows : RowMap) (xid : Xid) (key : List ℕ) → IsWhole branches rows
    → write_at (state_of branches rows) xid key ≡ option_and_then (write_by xid) (map.get rows key)
write_at-seen branches rows xid key whole = by (map.get branches xid) refl
  where
    by : (found : Option BranchRecord) → map.get branches xid ≡ found
        → write_at (state_of branches rows) xid key ≡ option_and_then (write_by xid) (map.get rows key)
    by (Some branch) e = write_at-known branches rows xid key (ap is_some e)
    by None e =
        ap (option_and_then (λ (branch : Branch). map.get branch.writes key))
        (get-branches branches rows xid ∙ ap (option_map (branch_seen rows xid)) e)
        ∙ sym (unwritten xid (map.get rows key) (unknown_holds branches rows xid key whole e))

-- the value that a branch sees in a row is the one that the row's record says
pub value_within-seen : (branches : BranchMap) (rows : RowMap) (xid : Xid) (key : List ℕ) → IsWhole branches rows
    → value_within (state_of branches rows) xid key ≡ value_seen xid (map.get rows key)
value_within-seen branches rows xid key whole =
    λ i. unwrap_or (write_at-seen branches rows xid key whole i) (committed-seen branches rows key i)

-- the PREPARED branches of the state are those whose records say so
pub prepared-seen : (branches : BranchMap) (rows : RowMap)
    → prepared_xids (state_of branches rows) ≡ prepared_among branches
unfolding prepared_xids
prepared-seen branches rows = λ i. filter (λ xid. is_prepared-seen branches rows xid i) (keys-branches branches rows i)
