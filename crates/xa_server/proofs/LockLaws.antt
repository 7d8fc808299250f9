-- The state that the records stand for keeps the lock law.
use Rattle.std.proofs.Common.{◌≡◌, ℕ, refl, ap, sym, ◌∙◌, Bool, true, false}
use Rattle.std.specs.Prelude.{Option, Some, None, is_some, is_none}
use Rattle.std.specs.Option.{option_map, option_map_or, option_and_then}
use mathlib.Core.Bool.{true≢false}
use Rattle.xa_xid.specs.declared.xid.Xid.{Xid}
use Rattle.xa_server.specs.{declared.branch.BranchRecord.BranchRecord, Recorded.RowRecord, Tables.BranchMap}
use Rattle.xa_server.specs.{State.{is_known, is_prepared, is_prepared_phase, owner_at}, Locks.{LockLaw, is_exclusive}}
use Rattle.xa_server.specs.{Rows.{RowMap, lock_of, write_by}, View.{state_of, IsWhole}}
use Rattle.xa_server.proofs.{Holders.{mode_of, mode_of-lock, alone_in, writes_in}, Seen.{lock_at-seen, holds-seen}}
use Rattle.xa_server.proofs.Seen.{is_known-seen, is_prepared-seen, owner_at-seen, owns_owner, write_at-seen}
use Rattle.std.specs.FinMap as map

-- whether a branch has a record that says PREPARED
is_prepared_in : Option BranchRecord → Bool
is_prepared_in found = option_map_or is_prepared_phase (option_map (λ (b : BranchRecord). b.phase) found) false

-- an owner that tests as none is none
nobody : (owner : Option ℕ) → is_none owner ≡ true → owner ≡ None
nobody None e = refl
nobody (Some owner) e = absurd (true≢false (sym e))

-- an owner that doesn't test as none is there
somebody : (owner : Option ℕ) → is_none owner ≡ false → is_some owner ≡ true
somebody None e = absurd (true≢false e)
somebody (Some owner) e = refl

-- a PREPARED branch has no owner
detached : (branches : BranchMap) (rows : RowMap) → IsWhole branches rows → (xid : Xid)
    → is_prepared (state_of branches rows) xid ≡ true
    → owner_at (state_of branches rows) xid ≡ None
unfolding is_prepared_in
detached branches rows whole xid e =
    owner_at-seen branches rows xid ∙ by (map.get branches xid) refl (sym (is_prepared-seen branches rows xid) ∙ e)
  where
    by : (found : Option BranchRecord) → map.get branches xid ≡ found → is_prepared_in found ≡ true
        → option_and_then (λ (b : BranchRecord). b.owner) found ≡ None
    by None is e = absurd (true≢false (sym e))
    by (Some branch) is e = nobody branch.owner (whole.attached xid branch is ∙ e)

-- a branch that is ACTIVE or IDLE has an owner
attached : (branches : BranchMap) (rows : RowMap) → IsWhole branches rows → (xid : Xid)
    → is_known (state_of branches rows) xid ≡ true
    → is_prepared (state_of branches rows) xid ≡ false →
    is_some (owner_at (state_of branches rows) xid) ≡ true
unfolding is_prepared_in
attached branches rows whole xid known e =
    ap is_some (owner_at-seen branches rows xid)
    ∙ by (map.get branches xid) refl (sym (is_known-seen branches rows xid) ∙ known)
    (sym (is_prepared-seen branches rows xid) ∙ e)
  where
    by : (found : Option BranchRecord) → map.get branches xid ≡ found → is_some found ≡ true
        → is_prepared_in found ≡ false
        → is_some (option_and_then (λ (b : BranchRecord). b.owner) found) ≡ true
    by None is there e = absurd (true≢false (sym there))
    by (Some branch) is there e = somebody branch.owner (whole.attached xid branch is ∙ e)

-- who holds a row exclusively holds it alone
alone : (xid other : Xid) (found : Option RowRecord) → is_exclusive (mode_of xid found) ≡ true
    → is_some (mode_of other found) ≡ true → xid ≡ other
alone xid other found e f =
    alone_in xid other (lock_of found) (sym (ap is_exclusive (mode_of-lock xid found)) ∙ e)
    (sym (ap is_some (mode_of-lock other found)) ∙ f)

-- who writes a row holds it exclusively
writes : (xid : Xid) (found : Option RowRecord) → is_some (option_and_then (write_by xid) found) ≡ true
    → is_exclusive (mode_of xid found) ≡ true
writes xid None e = absurd (true≢false (sym e))
writes xid (Some row) e = writes_in xid row.lock e

-- the state that whole records stand for keeps the lock law
pub lock_law : (branches : BranchMap) (rows : RowMap) → IsWhole branches rows → LockLaw (state_of branches rows)
lock_law branches rows whole = record {
  one_holder = λ xid other key e f. alone xid other (map.get rows key)
      (sym (ap is_exclusive (lock_at-seen branches rows xid key whole)) ∙ e)
      (sym (holds-seen branches rows other key whole) ∙ f);
  one_branch = λ session xid other e f. whole.one_owned session xid other (owns_owner branches rows session xid e)
      (owns_owner branches rows session other f);
  detached = detached branches rows whole;
  attached = attached branches rows whole;
  held_writes =
      λ xid key e. ap is_exclusive (lock_at-seen branches rows xid key whole)
      ∙ writes xid (map.get rows key) (sym (ap is_some (write_at-seen branches rows xid key whole)) ∙ e);
}
