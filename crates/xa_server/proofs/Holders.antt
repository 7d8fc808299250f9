-- What the lock of a row says of the branches.
use Rattle.std.proofs.Common.{◌≡◌, ℕ, List, [], ◌∷◌, refl, ap, sym, ◌∙◌, Bool, true, false, inl, inr, arith}
use Rattle.std.specs.{Prelude.{Option, Some, None, cond, ◌&&◌, ◌||◌, is_some, not}, Option.option_and_then}
use Rattle.std.specs.{List.list_any, FinSet.{contains-items, contains-empty, contains-insert, contains-remove}}
use mathlib.Core.Bool.{true≢false}
use Rattle.xa_xid.{specs.{declared.xid.Xid.Xid, Xid.{xid_cmp, same_xid}}, proofs.Orders.{xids_total, exact_xids}}
use Rattle.xa_server.specs.declared.lock.Lock.{Lock, TheVariants.{Exclusive as HeldBy, Shared as SharedBy}}
use Rattle.xa_server.specs.{declared.association.Association.{Association, TheVariants.Active}, Recorded.RowRecord}
use Rattle.xa_server.specs.{State.{Write, LockMode, Shared, Exclusive}, Locks.{is_another, is_exclusive}, Rows.lock_of}
use Rattle.xa_server.specs.Rows.{write_of, write_in, write_by, mode_in, lock_by, held_beside, locked_beside}
use Rattle.xa_server.specs.Rows.{held_against, locked_against, with_sharer, freed_lock}
use Rattle.xa_server.proofs.Maps.{same_or_apart, same_itself, same_is}
use Rattle.std.specs.FinSet as set

-- ---- tests

-- an option that is Some where a test holds, and else None, is Some as the test says
pub some_if : (b : Bool) (mode : LockMode) → is_some (cond b (Some mode) None) ≡ b
some_if true mode = refl
some_if false mode = refl

-- how a row is held, by a test that says whether exclusively or not at all, is exclusive if the test holds
pub exclusive_if : (b : Bool) → is_exclusive (cond b (Some Exclusive) None) ≡ b
exclusive_if true = refl
exclusive_if false = refl

-- a row that is held shared or not at all isn't held exclusively
pub share_only : (b : Bool) → is_exclusive (cond b (Some Shared) None) ≡ false
share_only true = refl
share_only false = refl

-- a row that is held exclusively is held
pub exclusive_some : (mode : Option LockMode) → is_exclusive mode ≡ true → is_some mode ≡ true
exclusive_some None e = e
exclusive_some (Some mode) e = refl

-- an option that isn't Some is None
pub none_of : {A : Type 0} (found : Option A) → is_some found ≡ false → found ≡ None
none_of None e = refl
none_of (Some x) e = absurd (true≢false e)

-- a number can't be 0 and 1
pub zero_or_one : (n : ℕ) → n ≡ 0 → n ≡ 1 → ⊥
zero_or_one n zero one = omega (arith, zero, one)

-- two tests, each of which is true where the other is, are equal
pub same_truth : (a b : Bool) → (a ≡ true → b ≡ true) → (b ≡ true → a ≡ true) → a ≡ b
same_truth true b to from = sym (to refl)
same_truth false true to from = from refl
same_truth false false to from = refl

-- if both of two tests hold, each does
pub both : (a b : Bool) → (a && b) ≡ true → (a ≡ true) × (b ≡ true)
both true b e = (refl, e)
both false b e = absurd (true≢false (sym e))

-- an identifier is equal to itself by the test
pub itself : (xid : Xid) → same_xid xid xid ≡ true
itself xid = same_itself xids_total exact_xids xid

-- identifiers that are equal by the test are the same
pub one_xid : (xid other : Xid) → same_xid xid other ≡ true → xid ≡ other
one_xid xid other e = same_is xids_total exact_xids xid other e

-- if two identifiers test as different, they do so in the other order too
pub turned_apart : (xid other : Xid) → same_xid other xid ≡ false → same_xid xid other ≡ false
turned_apart xid other apart = by (same_xid xid other) refl
  where
    by : (b : Bool) → same_xid xid other ≡ b → b ≡ false
    by true e = absurd (true≢false (sym (ap (λ x. same_xid x xid) (sym (one_xid xid other e)) ∙ itself xid) ∙ apart))
    by false e = refl

-- ---- lists of identifiers

-- one of two tests holds if the second does
later : (b c : Bool) → c ≡ true → (b || c) ≡ true
later true c e = refl
later false c e = e

-- if some identifier of a list passes, there is one in it that does
pub any_witness : (p : Xid → Bool) (xs : List Xid) → list_any p xs ≡ true
    → (x : Xid) × (list_any (same_xid x) xs ≡ true) × (p x ≡ true)
any_witness p [] e = absurd (true≢false (sym e))
any_witness p (x ∷ xs) e = by (p x) refl e (any_witness p xs)
  where
    by : (b : Bool) → p x ≡ b → (b || list_any p xs) ≡ true
        → (list_any p xs ≡ true → (y : Xid) × (list_any (same_xid y) xs ≡ true) × (p y ≡ true)) →
        (y : Xid) × (list_any (same_xid y) (x ∷ xs) ≡ true) × (p y ≡ true)
    by true is e rest = (x, ap (λ b. b || list_any (same_xid x) xs) (itself x), is)
    by false is e rest =
        let found = rest e in (found.0, later (same_xid found.0 x) (list_any (same_xid found.0) xs) found.1, found.2)

-- if an identifier of a list passes a test, some identifier of the list does
pub any_some : (p : Xid → Bool) (xs : List Xid) (xid : Xid) → list_any (same_xid xid) xs ≡ true → p xid ≡ true
    → list_any p xs ≡ true
any_some p [] xid there here = there
any_some p (x ∷ xs) xid there here = elim (same_or_apart xids_total exact_xids xid x) [
  | inl is ↦ ap (λ b. b || list_any p xs) (ap p (sym is) ∙ here)
  | inr apart ↦ later (p x) (list_any p xs) (any_some p xs xid
      (sym (ap (λ b. b || list_any (same_xid xid) xs) apart) ∙ there) here)
]

-- lists with the same members pass the same tests
pub same_any : (p : Xid → Bool) (xs ys : List Xid) → ((x : Xid) → list_any (same_xid x) xs ≡ list_any (same_xid x) ys)
    → list_any p xs ≡ list_any p ys
same_any p xs ys same = same_truth (list_any p xs) (list_any p ys)
    (λ e. let found = any_witness p xs e in any_some p ys found.0 (sym (same found.0) ∙ found.1) found.2)
    (λ e. let found = any_witness p ys e in any_some p xs found.0 (same found.0 ∙ found.1) found.2)

-- a set with no members passes no test
pub none_passes : (p : Xid → Bool) → list_any p (set.items (set.empty {R = xid_cmp})) ≡ false
none_passes p = same_any p (set.items (set.empty {R = xid_cmp})) []
    (λ x. sym (contains-items (set.empty {R = xid_cmp}) x) ∙ contains-empty xid_cmp x)

-- ---- one row's record

-- how the branch holds the row of a record
abbrev pub mode_of : Xid → Option RowRecord → Option LockMode
mode_of xid found = option_and_then (lock_by xid) found

-- how a branch holds a row depends on the row's lock alone, which is nobody's if the row has no record
pub mode_of-lock : (xid : Xid) (found : Option RowRecord) → mode_of xid found ≡ mode_in xid (lock_of found)
mode_of-lock xid None = sym (ap (λ b. cond b (Some Shared) None) (contains-empty xid_cmp xid))
mode_of-lock xid (Some row) = refl

-- whether a row is held against a session depends on its lock alone
pub held_against-lock : (association : Association) (found : Option RowRecord)
    → held_against association found ≡ held_beside association (lock_of found)
held_against-lock association None = sym (none_passes (is_another association))
held_against-lock association (Some row) = refl

-- whether a row is locked against a session depends on its lock alone
pub locked_against-lock : (association : Association) (found : Option RowRecord)
    → locked_against association found ≡ locked_beside association (lock_of found)
locked_against-lock association None = refl
locked_against-lock association (Some row) = refl

-- who holds a row exclusively holds it alone
pub alone_in : (xid other : Xid) (lock : Lock) → is_exclusive (mode_in xid lock) ≡ true
    → is_some (mode_in other lock) ≡ true → xid ≡ other
alone_in xid other (HeldBy holder change) e f =
    sym (one_xid holder xid (sym (exclusive_if (same_xid holder xid)) ∙ e))
    ∙ one_xid holder other (sym (some_if (same_xid holder other) Exclusive) ∙ f)
alone_in xid other (SharedBy sharers) e f = absurd (true≢false (sym e ∙ share_only (set.contains sharers xid)))

-- who writes a row holds it exclusively
pub writes_in : (xid : Xid) (lock : Lock) → is_some (write_in xid lock) ≡ true → is_exclusive (mode_in xid lock) ≡ true
writes_in xid (HeldBy holder change) e = exclusive_if (same_xid holder xid) ∙ by (same_xid holder xid) e
  where
    by : (b : Bool) → is_some (cond b (Some (write_of change)) None) ≡ true → b ≡ true
    by true e = refl
    by false e = e
writes_in xid (SharedBy sharers) e = absurd (true≢false (sym e))

-- if a branch that isn't the session's own holds the row of a lock, the lock is held beside the session's own branch
pub beside_there : (association : Association) (lock : Lock) (xid : Xid) → is_some (mode_in xid lock) ≡ true
    → is_another association xid ≡ true
    → held_beside association lock ≡ true
beside_there association (HeldBy holder change) xid e f =
    ap (is_another association) (one_xid holder xid (sym (some_if (same_xid holder xid) Exclusive) ∙ e)) ∙ f
beside_there association (SharedBy sharers) xid e f =
    any_some (is_another association) (set.items sharers) xid
    (sym (contains-items sharers xid) ∙ sym (some_if (set.contains sharers xid) Shared) ∙ e) f

-- if a lock is held beside a session's own branch, there is another branch that holds it
pub beside_witness : (association : Association) (lock : Lock) → held_beside association lock ≡ true
    → (xid : Xid) × (is_some (mode_in xid lock) ≡ true) × (is_another association xid ≡ true)
beside_witness association (HeldBy holder change) e =
    (holder, some_if (same_xid holder holder) Exclusive ∙ itself holder, e)
beside_witness association (SharedBy sharers) e =
    let found = any_witness (is_another association) (set.items sharers) e in
    (found.0, some_if (set.contains sharers found.0) Shared ∙ contains-items sharers found.0 ∙ found.1, found.2)

-- if a branch that isn't the session's own holds the row of a lock exclusively, the row is locked beside the
-- session's own branch
pub locked_there : (association : Association) (lock : Lock) (xid : Xid) → is_exclusive (mode_in xid lock) ≡ true
    → is_another association xid ≡ true
    → locked_beside association lock ≡ true
locked_there association (HeldBy holder change) xid e f =
    ap (is_another association) (one_xid holder xid (sym (exclusive_if (same_xid holder xid)) ∙ e)) ∙ f
locked_there association (SharedBy sharers) xid e f =
    absurd (true≢false (sym e ∙ share_only (set.contains sharers xid)))

-- if a lock is exclusive beside a session's own branch, there is another branch that has it so
pub locked_witness : (association : Association) (lock : Lock) → locked_beside association lock ≡ true
    → (xid : Xid) × (is_exclusive (mode_in xid lock) ≡ true) × (is_another association xid ≡ true)
locked_witness association (HeldBy holder change) e = (holder, exclusive_if (same_xid holder holder) ∙ itself holder, e)
locked_witness association (SharedBy sharers) e = absurd (true≢false (sym e))

-- a branch that doesn't hold a row has no write of it
pub unwritten : (xid : Xid) (found : Option RowRecord) → is_some (mode_of xid found) ≡ false
    → option_and_then (write_by xid) found ≡ None
unwritten xid None e = refl
unwritten xid (Some row) e = by (write_in xid row.lock) refl
  where
    by : (write : Option Write) → write_in xid row.lock ≡ write → write ≡ None
    by None is = refl
    by (Some write) is =
        absurd (true≢false (sym (exclusive_some (mode_in xid row.lock) (writes_in xid row.lock (ap is_some is))) ∙ e))

-- ---- a row that comes to be shared

-- a branch that comes to share a row that no branch holds exclusively, itself included, holds it shared
pub sharer_there : (xid : Xid) (lock : Lock) → is_exclusive (mode_in xid lock) ≡ false
    → locked_beside (Active xid) lock ≡ false
    → mode_in xid (with_sharer xid lock) ≡ Some Shared
sharer_there xid (HeldBy holder change) unheld free =
    absurd (true≢false (sym (ap not (sym (exclusive_if (same_xid holder xid)) ∙ unheld)) ∙ free))
sharer_there xid (SharedBy sharers) unheld free =
    ap (λ b. cond b (Some Shared) None) (contains-insert xids_total sharers xid xid
    ∙ ap (λ b. b || set.contains sharers xid) (itself xid))

-- one sharer more leaves how other branches have locked the row
pub sharer_beside : (xid other : Xid) (lock : Lock) → same_xid other xid ≡ false
    → mode_in other (with_sharer xid lock) ≡ mode_in other lock
sharer_beside xid other (HeldBy holder change) apart = refl
sharer_beside xid other (SharedBy sharers) apart =
    ap (λ b. cond b (Some Shared) None) (contains-insert xids_total sharers xid other
    ∙ ap (λ b. b || set.contains sharers other) apart)

-- one sharer more leaves every write as it was: who shares a row writes nothing
pub sharer_writes : (xid other : Xid) (lock : Lock) → write_in other (with_sharer xid lock) ≡ write_in other lock
sharer_writes xid other (HeldBy holder change) = refl
sharer_writes xid other (SharedBy sharers) = refl

-- ---- a row that a branch lets go

-- after a branch's lock was freed it holds the row no more
pub freed_own : (xid : Xid) (lock : Lock) → mode_in xid (freed_lock xid lock) ≡ None
freed_own xid (HeldBy holder change) = by (same_xid holder xid) refl
  where
    by : (b : Bool) → same_xid holder xid ≡ b → mode_in xid (cond b (SharedBy set.empty) (HeldBy holder change)) ≡ None
    by true e = ap (λ b. cond b (Some Shared) None) (contains-empty xid_cmp xid)
    by false e = ap (λ b. cond b (Some Exclusive) None) e
freed_own xid (SharedBy sharers) =
    ap (λ b. cond b (Some Shared) None) (contains-remove xids_total sharers xid xid
    ∙ ap (λ b. not b && set.contains sharers xid) (itself xid))

-- after a branch's lock was freed the others have locked the row as before
pub freed_beside : (xid other : Xid) (lock : Lock) → same_xid other xid ≡ false
    → mode_in other (freed_lock xid lock) ≡ mode_in other lock
freed_beside xid other (HeldBy holder change) apart = by (same_xid holder xid) refl
  where
    by : (b : Bool) → same_xid holder xid ≡ b
        → mode_in other (cond b (SharedBy set.empty) (HeldBy holder change))
        ≡ cond (same_xid holder other) (Some Exclusive) None
    by true e = ap (λ b. cond b (Some Shared) None) (contains-empty xid_cmp other)
        ∙ sym (ap (λ b. cond b (Some Exclusive) None) (ap (λ x. same_xid x other) (one_xid holder xid e)
        ∙ turned_apart xid other apart))
    by false e = refl
freed_beside xid other (SharedBy sharers) apart =
    ap (λ b. cond b (Some Shared) None) (contains-remove xids_total sharers xid other
    ∙ ap (λ b. not b && set.contains sharers other) apart)

-- after a branch's lock was freed the others' writes are as before
pub freed_writes : (xid other : Xid) (lock : Lock) → same_xid other xid ≡ false
    → write_in other (freed_lock xid lock) ≡ write_in other lock
freed_writes xid other (HeldBy holder change) apart = by (same_xid holder xid) refl
  where
    by : (b : Bool) → same_xid holder xid ≡ b
        → write_in other (cond b (SharedBy set.empty) (HeldBy holder change))
        ≡ cond (same_xid holder other) (Some (write_of change)) None
    by true e = sym (ap (λ b. cond b (Some (write_of change)) None)
        (ap (λ x. same_xid x other) (one_xid holder xid e) ∙ turned_apart xid other apart))
    by false e = refl
freed_writes xid other (SharedBy sharers) apart = refl
