-- The list of the stores whose branch wasn't known, as it grows.
use Rattle.std.proofs.Common.{◌≡◌, ◌<◌, ◌≤◌, ◌+◌, ℕ, Bool, true, false, List, [], ◌∷◌, ◌++◌, length, refl, ap, sym, ◌∙◌}
use Rattle.std.proofs.Common.{subst, inl, inr, arith, ne_eqb, eq-eqb, length-append}
use Rattle.std.proofs.lemmas.List.Elements.{All-nil, All-push, All-head, All-tail, All-weaker}
use Rattle.std.{proofs.lemmas.List.Folds.{list_any-append, list_any_none}, specs.Prelude.{All, nat_eq, ◌||◌, Option}}
use Rattle.xa_session.specs.View.{SessionView}
use Rattle.xa_coordinator.specs.declared.{participants.Participants.Participants, closing.Closing.Closing}
use Rattle.xa_coordinator.specs.declared.{transaction.Transaction.Transaction, branches.OpenBranch.OpenBranch}
use Rattle.xa_coordinator.specs.{Participants.takes_part, Stores.{AtStore, EachStore, ChangesAt}, Told.IsMissing}
use Rattle.xa_coordinator.specs.Outcomes.{Ascends, lists_store, branch_of, finish_statement, ends_in, IsClosed, Settles}
use Rattle.xa_coordinator.specs.{Outcomes.SettlesIn, Parts.ClosesNext}
use Rattle.xa_coordinator.proofs.Walk.{Reached, reached_skip, reached_next, reached_weaker, at_weaker}

-- the stores listed so far: participants below this place, ascending
pub record IsListed (participants : Participants) (place : ℕ) (stores : List ℕ) : Type 0 where
  pub below : All (λ store. store < place) stores
  pub ascending : Ascends stores
  pub participate : All (λ store. takes_part participants store ≡ true) stores
  pub short : length stores ≤ place

-- the loop over stores: if the stores listed so far are below this place, they are below the next one
pub listed_skip : (participants : Participants) (place : ℕ) (stores : List ℕ) → IsListed participants place stores
    → IsListed participants (place + 1) stores
listed_skip participants place stores is = record {
  below = All-weaker (λ store. store < place) (λ store. store < place + 1) (λ store less. omega arith) stores is.below;
  ascending = is.ascending;
  participate = is.participate;
  short = omega (arith, is.short);
}

-- an ascending list with a number behind it that is greater than all of its own ascends
ascends_last : (stores : List ℕ) (last : ℕ) → Ascends stores → All (λ store. store < last) stores
    → Ascends (stores ++ last ∷ [])
ascends_last [] last ascending below = (All-nil (λ later. last < later), tt)
ascends_last (store ∷ stores) last ascending below = (
  All-push (λ later. store < later) stores last ascending.0 (All-head (λ s. s < last) store stores below),
  ascends_last stores last ascending.1 (All-tail (λ s. s < last) store stores below),
)

-- the loop over stores: a participant whose branch wasn't known is listed
pub listed_more : (participants : Participants) (place : ℕ) (stores : List ℕ) → IsListed participants place stores
    → takes_part participants place ≡ true
    → IsListed participants (place + 1) (stores ++ place ∷ [])
listed_more participants place stores is takes = record {
  below =
      All-push (λ store. store < place + 1) stores place
      (All-weaker (λ store. store < place) (λ store. store < place + 1) (λ store less. omega arith) stores is.below)
      (omega arith);
  ascending = ascends_last stores place is.ascending is.below;
  participate = All-push (λ store. takes_part participants store ≡ true) stores place is.participate takes;
  short = omega (arith, is.short, length-append stores (place ∷ []));
}

-- if the stores listed so far are below this place, the store at this place isn't listed
not_listed : (participants : Participants) (place : ℕ) (stores : List ℕ) → IsListed participants place stores
    → lists_store stores place ≡ false
unfolding lists_store
not_listed participants place stores is =
    list_any_none (nat_eq place) stores
    (All-weaker (λ store. store < place) (λ store. nat_eq place store ≡ false)
    (λ store less. ne_eqb place store (λ same. absurd (omega arith))) stores is.below)

-- the store that was listed last is listed
last_listed : (stores : List ℕ) (place : ℕ) → lists_store (stores ++ place ∷ []) place ≡ true
unfolding lists_store
last_listed stores place =
    list_any-append (nat_eq place) stores (place ∷ []) ∙ ap (λ b. list_any' stores place || (b || false))
    (eq-eqb place place refl)
    ∙ or_true (list_any' stores place)
  where
    list_any' : List ℕ → ℕ → Bool
    list_any' stores place = lists_store stores place

    or_true : (b : Bool) → (b || true) ≡ true
    or_true true = refl
    or_true false = refl

-- listing a store changes nothing about which earlier ones are listed
same_listed : (stores : List ℕ) (place store : ℕ) → store < place
    → lists_store (stores ++ place ∷ []) store ≡ lists_store stores store
unfolding lists_store
same_listed stores place store less =
    list_any-append (nat_eq store) stores (place ∷ []) ∙ ap (λ b. lists_store stores store || (b || false))
    (ne_eqb store place (λ same. absurd (omega arith)))
    ∙ or_false (lists_store stores store)
  where
    or_false : (b : Bool) → (b || false) ≡ b
    or_false true = refl
    or_false false = refl

-- what finishing did in a store that it has passed, if the list of stores whose branch wasn't known is this one
abbrev pub SettledBy : List (Option OpenBranch) → Transaction → Closing → List ℕ → ℕ → SessionView → SessionView
    → Type 0
SettledBy branches transaction closing stores store =
    SettlesIn branches transaction closing store (lists_store stores store)

module _ {S : Type 0} (view : S → SessionView) (branches : List (Option OpenBranch)) (transaction : Transaction)
    (closing : Closing) (stores : List ℕ)
    (place : ℕ) where
  -- the loop over stores passes one that takes no part: nothing was to be done there
  pub settled_skip : (old now : List S) → takes_part transaction.participants place ≡ false
      → Reached view (SettledBy branches transaction closing stores) place old now
      → Reached view (SettledBy branches transaction closing stores) (place + 1) old now
  settled_skip old now out so_far =
      reached_skip view (SettledBy branches transaction closing stores) place old now so_far
      (λ a. subst (λ takes. Settles (ends_in branches transaction closing place)
      (finish_statement closing (branch_of transaction place))
      (branch_of transaction place) takes (lists_store stores place) a a) (sym out) refl)

  -- what finishing did in a participant, with its branch known or not, is what `SettledBy` says by another list, if
  -- that list has the participant exactly if its branch wasn't known
  settled_as : (stores' : List ℕ) (listed : Bool) → takes_part transaction.participants place ≡ true
      → lists_store stores' place ≡ listed
      → (a b : SessionView) →
      Settles (ends_in branches transaction closing place) (finish_statement closing (branch_of transaction place))
      (branch_of transaction place) true listed a b
      → SettledBy branches transaction closing stores' place a b
  settled_as stores' listed takes is a b settled =
      subst (λ t. Settles (ends_in branches transaction closing place)
      (finish_statement closing (branch_of transaction place)) (branch_of transaction place) t
      (lists_store stores' place) a b) (sym takes)
      (subst (λ l. Settles (ends_in branches transaction closing place)
      (finish_statement closing (branch_of transaction place))
      (branch_of transaction place) true l a b) (sym is) settled)

  -- the loop over stores: one more participant's branch was finished, and the list stays as it is
  settled_closed : (old now next : List S) → takes_part transaction.participants place ≡ true
      → IsListed transaction.participants place stores
      → Reached view (SettledBy branches transaction closing stores) place old now → ChangesAt place now next →
      AtStore view place (IsClosed (ends_in branches transaction closing place)
      (finish_statement closing (branch_of transaction place))
      (branch_of transaction place)) now next →
      Reached view (SettledBy branches transaction closing stores) (place + 1) old next
  settled_closed old now next takes listed so_far changes is =
      reached_next view (SettledBy branches transaction closing stores) place old now next so_far changes
      (at_weaker view place (IsClosed (ends_in branches transaction closing place)
      (finish_statement closing (branch_of transaction place))
      (branch_of transaction place)) (SettledBy branches transaction closing stores place)
      (settled_as stores false takes (not_listed transaction.participants place stores listed)) now next is)

  -- the loop over stores: one more participant's branch wasn't known, and the store goes to the end of the list
  settled_missing : (old now next : List S) → takes_part transaction.participants place ≡ true
      → Reached view (SettledBy branches transaction closing stores) place old now → ChangesAt place now next →
      AtStore view place (IsMissing (ends_in branches transaction closing place)
      (finish_statement closing (branch_of transaction place))
      (branch_of transaction place)) now next →
      Reached view (SettledBy branches transaction closing (stores ++ place ∷ [])) (place + 1) old next
  settled_missing old now next takes so_far changes is =
      reached_next view (SettledBy branches transaction closing (stores ++ place ∷ [])) place old now next
      (reached_weaker view (SettledBy branches transaction closing stores)
      (SettledBy branches transaction closing (stores ++ place ∷ [])) place old now
      (λ store less a b settled. subst (λ l. SettlesIn branches transaction closing store l a b)
      (sym (same_listed stores place store less)) settled) so_far)
      changes
      (at_weaker view place (IsMissing (ends_in branches transaction closing place)
      (finish_statement closing (branch_of transaction place))
      (branch_of transaction place)) (SettledBy branches transaction closing (stores ++ place ∷ []) place)
      (settled_as (stores ++ place ∷ []) true takes (last_listed stores place)) now next is)

  -- the loop over stores: one more participant's branch was finished, or wasn't known and is listed
  pub settled_next : (stores' : List ℕ) (old now next : List S) → takes_part transaction.participants place ≡ true
      → IsListed transaction.participants place stores → Reached view
      (SettledBy branches transaction closing stores) place old now → ChangesAt place now next →
      ClosesNext view (ends_in branches transaction closing place)
      (finish_statement closing (branch_of transaction place))
      (branch_of transaction place) place stores stores' now next →
      IsListed transaction.participants (place + 1) stores'
      × Reached view (SettledBy branches transaction closing stores') (place + 1) old next
  settled_next stores' old now next takes listed so_far changes (inl (same, is)) =
      let P : List ℕ → Type 0 =
      λ list. IsListed transaction.participants (place + 1) list
      × Reached view (SettledBy branches transaction closing list) (place + 1) old next in
      subst P (sym same) (
        listed_skip transaction.participants place stores listed,
        settled_closed old now next takes listed so_far changes
            is,
      )
  settled_next stores' old now next takes listed so_far changes (inr (more, is)) =
      let P : List ℕ → Type 0 =
      λ list. IsListed transaction.participants (place + 1) list
      × Reached view (SettledBy branches transaction closing list) (place + 1) old next in
      subst P (sym more) (
        listed_more transaction.participants place stores listed takes,
        settled_missing old now next takes so_far changes
            is,
      )

-- an empty list of stores lists no store
pub none_listed : (stores : List ℕ) (store : ℕ) → length stores ≡ 0 → lists_store stores store ≡ false
unfolding lists_store
none_listed [] store none = refl
none_listed (x ∷ stores) store none = absurd (omega arith)

-- if no store is listed as a hazard, every participant's branch was finished as the transaction closes
pub settled_none : {S : Type 0} (view : S → SessionView) (branches : List (Option OpenBranch))
    (transaction : Transaction) (closing : Closing) (stores : List ℕ)
    (old new : List S) → length stores ≡ 0 →
    EachStore view (SettledBy branches transaction closing stores) old new
    → EachStore view (λ store. SettlesIn branches transaction closing store false) old new
settled_none view branches transaction closing stores old new none is store =
    at_weaker view store (SettledBy branches transaction closing stores store)
    (SettlesIn branches transaction closing store false)
    (λ a b settled. subst (λ l. SettlesIn branches transaction closing store l a b)
    (none_listed stores store none) settled) old new (is store)
