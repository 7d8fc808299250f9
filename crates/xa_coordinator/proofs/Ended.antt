-- The store of the only participant, when its work has ended.
use Rattle.std.proofs.Common.{◌≡◌, ◌≢◌, ℕ, Bool, true, false, List, sym, subst, refl}
use Rattle.xa_xid.specs.declared.statement.Statement.TheVariants.{End}
use Rattle.xa_session.specs.View.{SessionView}
use Rattle.xa_coordinator.specs.{declared.transaction.Transaction.Transaction, Participants.{takes_part, OnlyTakesPart}}
use Rattle.xa_coordinator.specs.{Stores.{AtStore, EachStore, ChangesAt}, Told.IsDone, Outcomes.{branch_of, IsEnded}}
use Rattle.xa_coordinator.proofs.{Telling.each_alone, Walk.{at_weaker, only_at}}

-- if only one store takes part, another doesn't
others_out : (transaction : Transaction) (store other : ℕ) → OnlyTakesPart transaction.participants store
    → other ≢ store
    → takes_part transaction.participants other ≡ false
others_out transaction store other only apart = by (takes_part transaction.participants other) refl
  where
    by : (b : Bool) → takes_part transaction.participants other ≡ b → b ≡ false
    by true is = absurd (apart (only.others other is))
    by false is = refl

-- if only one store takes part and its branch has ended, each participant's branch has ended
pub ended_each : {S : Type 0} (view : S → SessionView) (transaction : Transaction) (store : ℕ) (old new : List S)
    → OnlyTakesPart transaction.participants store
    → ChangesAt store old new →
    AtStore view store (IsDone (End (branch_of transaction store))) old new
    → EachStore view (λ other. IsEnded (branch_of transaction other)
    (takes_part transaction.participants other)) old new
ended_each view transaction store old new only changes is =
    only_at view (λ other. IsEnded (branch_of transaction other)
    (takes_part transaction.participants other)) store old new changes
    (at_weaker view store (IsDone (End (branch_of transaction store)))
    (IsEnded (branch_of transaction store) (takes_part transaction.participants store))
    (λ a b done. subst (λ takes. IsEnded (branch_of transaction store) takes a b)
    (sym only.in_it) (each_alone (End (branch_of transaction store)) a b done)) old new is)
    (λ other apart a. subst (λ takes. IsEnded (branch_of transaction other) takes a a)
    (sym (others_out transaction store other only apart)) refl)
