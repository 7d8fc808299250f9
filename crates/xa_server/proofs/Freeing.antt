-- What ending a branch does to the records of rows; and what it does to them that a branch comes to hold or to
-- share a row.
use Rattle.std.proofs.Common.{◌≡◌, ℕ, List, [], ◌∷◌, ◌++◌, refl, ap, sym, ◌∙◌, Bool, true, false, inl, inr}
use Rattle.std.{proofs.lemmas.List.Folds.list_any-append, specs.{List.list_any, Ordering.eq_by_cmp}}
use Rattle.std.specs.{Prelude.{Option, Some, None, cond, not, ◌&&◌, ◌||◌, is_some, MatchOption}, Option.unwrap_or}
use Rattle.std.specs.{BTreeMap.{BTreeMap, Updates}, FinMap.same_map, FinSet.{contains-empty, contains-remove, same_set}}
use Rattle.xa_xid.specs.{declared.xid.Xid.Xid, Xid.{Text, bytes_cmp, xid_cmp, same_xid}}
use Rattle.xa_xid.proofs.Orders.{xids_total, exact_xids, bytes_total, exact_texts}
use Rattle.xa_server.specs.{declared.lock.{Change.Change, Lock.Lock}, Recorded.RowRecord}
use Rattle.xa_server.specs.{declared.lock.Lock.TheVariants.{Exclusive as HeldBy, Shared as SharedBy}, Rows.RowMap}
use Rattle.xa_server.specs.Rows.{Sharing, write_of, write_in, held_row, with_sharer, shared_row, freed_lock, freed_row}
use Rattle.xa_server.{specs.Rows.{is_needed, kept, freed, Frees}, proofs.Maps.{get_view, same_or_apart, same_itself}}
use Rattle.xa_server.proofs.Maps.{get_inserted, get_inserted_apart, get_removed, get_removed_apart}
use Rattle.xa_server.proofs.{Index.{same_value, not_none}, Holders.{none_of, itself}}
use mathlib.Core.Bool.{true≢false}
use Rattle.std.specs.BTreeMap as tree
use Rattle.std.specs.FinMap as map
use Rattle.std.specs.FinSet as set

-- taking a branch that doesn't share the row out of its sharers changes nothing
pub not_there : (sharers : Sharing) (xid : Xid) → set.contains sharers xid ≡ false → set.remove sharers xid ≡ sharers
not_there sharers xid none =
    same_set xids_total exact_xids _ _ (λ other. contains-remove xids_total sharers xid other
    ∙ (elim (same_or_apart xids_total exact_xids other xid) [
      | inl is ↦ by (same_xid other xid) (set.contains sharers other) (ap (set.contains sharers) is ∙ none)
      | inr apart ↦ ap (λ b. not b && set.contains sharers other) apart
    ]))
  where
    by : (b c : Bool) → c ≡ false → (not b && c) ≡ c
    by true c e = sym e
    by false c e = refl

-- letting a row's lock go twice for one branch is letting it go once
freed_lock_twice : (xid : Xid) (lock : Lock) → freed_lock xid (freed_lock xid lock) ≡ freed_lock xid lock
freed_lock_twice xid (HeldBy holder change) = by (same_xid holder xid) refl
  where
    by : (b : Bool) → same_xid holder xid ≡ b
        → freed_lock xid (cond b (SharedBy set.empty) (HeldBy holder change))
        ≡ cond b (SharedBy set.empty) (HeldBy holder change)
    by true e = ap SharedBy (not_there set.empty xid (contains-empty xid_cmp xid))
    by false e = ap (λ b. cond b (SharedBy set.empty) (HeldBy holder change)) e
freed_lock_twice xid (SharedBy sharers) =
    ap SharedBy (not_there (set.remove sharers xid) xid (contains-remove xids_total sharers xid xid
    ∙ ap (λ b. not b && set.contains sharers xid) (itself xid)))

-- a lock that was freed of a branch has no write of it
freed_unwritten : (xid : Xid) (lock : Lock) → write_in xid (freed_lock xid lock) ≡ None
freed_unwritten xid (HeldBy holder change) = by (same_xid holder xid) refl
  where
    by : (b : Bool) → same_xid holder xid ≡ b → write_in xid (cond b (SharedBy set.empty) (HeldBy holder change)) ≡ None
    by true e = refl
    by false e = ap (λ b. cond b (Some (write_of change)) None) e
freed_unwritten xid (SharedBy sharers) = refl

-- letting a row go twice for one branch is letting it go once
freed_row_twice : (commits : Bool) (xid : Xid) (row : RowRecord)
    → freed_row commits xid (freed_row commits xid row) ≡ freed_row commits xid row
freed_row_twice commits xid row = λ i. record { committed = again i; lock = freed_lock_twice xid row.lock i }
  where
    same : (b : Bool) (value : Option Text) → cond b value value ≡ value
    same true value = refl
    same false value = refl

    again : cond commits (unwrap_or (write_in xid (freed_lock xid row.lock)) (freed_row commits xid row).committed)
        (freed_row commits xid row).committed
        ≡ (freed_row commits xid row).committed
    again =
        ap (λ write. cond commits (unwrap_or write (freed_row commits xid row).committed)
        (freed_row commits xid row).committed) (freed_unwritten xid row.lock)
        ∙ same commits (freed_row commits xid row).committed

-- freeing a row of a branch twice is freeing it once
pub freed_twice : (commits : Bool) (xid : Xid) (found : Option RowRecord)
    → freed commits xid (freed commits xid found) ≡ freed commits xid found
freed_twice commits xid None = refl
freed_twice commits xid (Some row) =
    by (freed_row commits xid row) (freed_row_twice commits xid row) (is_needed (freed_row commits xid row)) refl
  where
    by : (ended : RowRecord) → freed_row commits xid ended ≡ ended → (needed : Bool) → is_needed ended ≡ needed
        → freed commits xid (kept ended) ≡ kept ended
    by ended twice true e = rw e (ap kept twice ∙ rw e refl)
    by ended twice false e = rw e refl

-- to choose by `b || false` is to choose by `b`
any_one : (b : Bool) {A : Type 0} (x y : A) → cond (b || false) x y ≡ cond b x y
any_one true x y = refl
any_one false x y = refl

-- if one key's record is freed, and dropped where it isn't needed, and all others are as before, the records are as
-- `Frees` says for the list of that key alone
pub frees_one :
    (commits : Bool) (xid : Xid) (key : List ℕ) (old new : RowMap) →
    map.get new key ≡ freed commits xid (map.get old key) →
    ((other : List ℕ) → eq_by_cmp bytes_cmp other key ≡ false → map.get new other ≡ map.get old other) →
    Frees commits xid (key ∷ []) old new
frees_one commits xid key old new at apart other = elim (same_or_apart bytes_total exact_texts other key) [
  | inl is ↦ rw is (at ∙ sym
      (any_one (eq_by_cmp bytes_cmp key key) (freed commits xid (map.get old key)) (map.get old key)
      ∙ ap (λ b. cond b (freed commits xid (map.get old key)) (map.get old key))
      (same_itself bytes_total exact_texts key)))
  | inr is ↦ apart other is
      ∙ sym (any_one (eq_by_cmp bytes_cmp other key) (freed commits xid (map.get old other)) (map.get old other)
      ∙ ap (λ b. cond b (freed commits xid (map.get old other)) (map.get old other)) is)
]

-- what the loop over the keys keeps: freeing the rows of the keys that are left, from the records as they are now,
-- gives what freeing all of the keys gives from the old records
pub record IsFreed (commits : Bool) (xid : Xid) (all rest : List (List ℕ)) (old now : RowMap) : Type 0 where
  pub left : (key : List ℕ) →
      cond (list_any (eq_by_cmp bytes_cmp key) rest) (freed commits xid (map.get now key)) (map.get now key)
      ≡ cond (list_any (eq_by_cmp bytes_cmp key) all) (freed commits xid (map.get old key)) (map.get old key)

-- if doing something twice is doing it once, then to do it if one test holds, and then if another does, is to do it
-- once if either holds
any_more : (b c : Bool) (f : Option RowRecord → Option RowRecord) (x : Option RowRecord) → f (f x) ≡ f x
    → cond b (f (cond (c || false) (f x) x)) (cond (c || false) (f x) x) ≡ cond (b || (c || false)) (f x) x
any_more true true f x twice = twice
any_more true false f x twice = refl
any_more false true f x twice = refl
any_more false false f x twice = refl

-- the loop over a branch's keys goes on: if the last of the keys that are left is freed now, what the loop keeps
-- holds with the others left
pub freed_one_more : (commits : Bool) (xid : Xid) (all rest : List (List ℕ)) (key : List ℕ) (old now next : RowMap) →
    IsFreed commits xid all (rest ++ key ∷ []) old now → Frees commits xid (key ∷ []) now next
    → IsFreed commits xid all rest old next
freed_one_more commits xid all rest key old now next is frees = record {
  left = λ other.
      ap (λ found. cond (list_any (eq_by_cmp bytes_cmp other) rest) (freed commits xid found) found) (frees other)
      ∙ any_more (list_any (eq_by_cmp bytes_cmp other) rest) (eq_by_cmp bytes_cmp other key) (freed commits xid)
      (map.get now other)
      (freed_twice commits xid (map.get now other))
      ∙ sym (ap (λ b. cond b (freed commits xid (map.get now other)) (map.get now other))
      (list_any-append (eq_by_cmp bytes_cmp other) rest (key ∷ [])))
      ∙ is.left other;
}
