-- Which branches of a list are of a coordinator's naming.
use Rattle.std.proofs.Common.{◌≡◌, ◌<◌, ◌+◌, ◌^◌, ℕ, Bool, true, false, List, [], ◌∷◌, ◌++◌, length, take, drop, get_or}
use Rattle.std.proofs.Common.{zero, suc, refl, ap, sym, ◌∙◌, subst, inl, inr, Some, add-one, length-append}
use Rattle.std.proofs.lemmas.List.{Elements.{All-push, All-weaker}, Folds.list_any_none}
use Rattle.std.proofs.{lemmas.{Nat.from_be_bytes-to_be_bytes_8, Option.slice_get-get_or}, Math.Seq.drop-append_seam}
use Rattle.std.specs.{Prelude.{All, slice_get, ◌||◌, ◌&&◌, ◌⊎◌}, List.list_any, Int.{w64, to_be_bytes, from_be_bytes}}
use Rattle.xa_xid.{specs.{declared.xid.Xid.Xid, Xid.same_xid}, proofs.Orders.{xids_total, exact_xids}}
use Rattle.xa_server.{proofs.{Maps.{same_or_apart, same_itself}, Listing.prepared_exactly}, specs.State.is_prepared}
use Rattle.xa_session.specs.{Replay.state_after, View.SessionView}
use Rattle.xa_coordinator.specs.{Branch.{branch_xid, IsBranchOf}, Recovery.{IsNamed, ListsPrepared, NoneLeft}}

-- the first place + 1 identifiers are the first `place` and the one at the place
pub take_next : (xs : List Xid) (place : ℕ) (x : Xid) → slice_get xs place ≡ Some x
    → take (place + 1) xs ≡ take place xs ++ x ∷ []
take_next xs place x is = ap (λ n. take n xs) (add-one place) ∙ by xs place is
  where
    by : (ys : List Xid) (n : ℕ) → slice_get ys n ≡ Some x → take (suc n) ys ≡ take n ys ++ x ∷ []
    by [] n e = absurd (cc)
    by (y ∷ ys) zero e = let same : y ≡ x = cc in ap (λ z. z ∷ []) same
    by (y ∷ ys) (suc n) e = ap (λ rest. y ∷ rest) (by ys n e)

-- what the program reads at an index within the list stands there
pub at_index : (xs : List Xid) (place : ℕ) (x : Xid) → x ≡ get_or xs place x → place < length xs
    → slice_get xs place ≡ Some x
at_index xs place x is below = slice_get-get_or xs place x below ∙ ap Some (sym is)

-- an identifier of a list that passes a test is found by it
pub any_there : (p : Xid → Bool) (xs : List Xid) (place : ℕ) (x : Xid) → slice_get xs place ≡ Some x → p x ≡ true
    → list_any p xs ≡ true
any_there p [] place x there is = absurd (cc)
any_there p (y ∷ ys) zero x there is = let same : y ≡ x = cc in ap (λ b. b || list_any p ys) (ap p same ∙ is)
any_there p (y ∷ ys) (suc place) x there is = ap (λ b. p y || b) (any_there p ys place x there is) ∙ or_true (p y)
  where
    or_true : (b : Bool) → (b || true) ≡ true
    or_true true = refl
    or_true false = refl

-- an identifier that is that of a number's branch in a store is equal to the one that the coordinator gives that branch
pub same_branch : (name : List ℕ) (number store : ℕ) (xid : Xid) → IsBranchOf name number store xid
    → same_xid (branch_xid name number store) xid ≡ true
same_branch name number store xid is = ap (same_xid (branch_xid name number store)) is.is
    ∙ same_itself xids_total exact_xids (branch_xid name number store)

-- an identifier that isn't of the coordinator's naming isn't equal to that of any branch of it in the store
apart_branch : (name : List ℕ) (number store : ℕ) → number < 2 ^ 64 → (xid : Xid) → (IsNamed name store xid → ⊥)
    → same_xid (branch_xid name number store) xid ≡ false
apart_branch name number store fits xid out =
    elim (same_or_apart xids_total exact_xids (branch_xid name number store) xid) [
      | inl same ↦ absurd (out (number, record { fits = fits; is = sym same }))
      | inr apart ↦ apart
    ]

-- if no identifier of a list is of a coordinator's naming, none of its branches is in the list
pub none_named_in : (name : List ℕ) (store : ℕ) (xids : List Xid) → All (λ xid. IsNamed name store xid → ⊥) xids
    → (number : ℕ) → number < 2 ^ 64
    → list_any (same_xid (branch_xid name number store)) xids ≡ false
none_named_in name store xids none number fits =
    list_any_none (same_xid (branch_xid name number store)) xids
    (All-weaker (λ xid. IsNamed name store xid → ⊥) (λ xid. same_xid (branch_xid name number store) xid ≡ false)
    (apart_branch name number store fits) xids none)

-- if none of the first `place` identifiers is of the coordinator's naming, nor the next one, none up to that one is
pub none_more : (name : List ℕ) (store : ℕ) (xids : List Xid) (place : ℕ) (xid : Xid) → slice_get xids place ≡ Some xid
    → (IsNamed name store xid → ⊥)
    → All (λ x. IsNamed name store x → ⊥) (take place xids) →
    All (λ x. IsNamed name store x → ⊥) (take (place + 1) xids)
none_more name store xids place xid there out none =
    subst (All (λ x. IsNamed name store x → ⊥)) (sym (take_next xids place xid there))
    (All-push (λ x. IsNamed name store x → ⊥) (take place xids) xid none out)

-- a branch is prepared, after all that the session has seen, exactly if the list that XA RECOVER answered has it
pub listed_prepared : (xids : List Xid) (place : ℕ) (old new : SessionView) → ListsPrepared xids place old new
    → (xid : Xid)
    → is_prepared (state_after new.base new.known.seen) xid ≡ list_any (same_xid xid) xids
listed_prepared xids place old new is xid =
    sym (ap (list_any (same_xid xid)) is.list ∙ prepared_exactly (state_after new.base new.known.seen) xid)

-- if the list that XA RECOVER answered has no branch of the coordinator's naming, none is prepared in the store
pub none_left_there : (name : List ℕ) (store : ℕ) (xids : List Xid) (place : ℕ) (old new : SessionView)
    → ListsPrepared xids place old new
    → ((number : ℕ) → number < 2 ^ 64 → list_any (same_xid (branch_xid name number store)) xids ≡ false) →
    NoneLeft name store new
none_left_there name store xids place old new is none =
    λ number fits. listed_prepared xids place old new is (branch_xid name number store) ∙ none number fits

-- ---- reading the number of a name

-- if three tests don't hold together, one of them fails
pub one_fails : (x y z : Bool) → (x && (y && z)) ≡ false → (x ≡ false) ⊎ ((y ≡ false) ⊎ (z ≡ false))
one_fails true true true is = absurd (cc)
one_fails true true false is = inr (inr refl)
one_fails true false z is = inr (inl refl)
one_fails false y z is = inl refl

-- in the identifier of a transaction's branch, the 8 bytes behind the name spell the transaction's number
pub number_behind_is : (name : List ℕ) (number store : ℕ) (xid : Xid) → IsBranchOf name number store xid
    → (length xid.gtrid.items ≡ length name + 8) × (from_be_bytes w64 (drop (length name) xid.gtrid.items) ≡ number)
unfolding branch_xid
number_behind_is name number store xid is =
    let text : xid.gtrid.items ≡ name ++ to_be_bytes w64 number = ap (λ (x : Xid). x.gtrid.items) is.is in (
      ap length text ∙ length-append name (to_be_bytes w64 number) ∙ ap (λ n. length name + n) (eight number),
      ap (λ list. from_be_bytes w64 (drop (length name) list)) text
          ∙ ap (from_be_bytes w64) (drop-append_seam name (to_be_bytes w64 number))
          ∙ from_be_bytes-to_be_bytes_8 number is.fits,
    )
  where
    eight : (n : ℕ) → length (to_be_bytes w64 n) ≡ 8
    eight n = refl
