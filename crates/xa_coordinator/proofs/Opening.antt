-- What a coordinator has open, before and after calls.
use Rattle.std.proofs.Common.{◌≡◌, ◌≤◌, ◌+◌, ℕ, true, false, List, Option, Some, None, refl, ap, sym, ◌∙◌, arith}
use Rattle.std.{proofs.lemmas.Bool.eqb-true, specs.Prelude.{slice_get, ◌&&◌, ◌==◌}}
use Rattle.xa_coordinator.specs.{declared.branches.{OpenBranch.OpenBranch, Phase.Phase}, Stores.ChangesAt}
use Rattle.xa_coordinator.specs.{declared.participants.Participants.Participants, Participants.takes_part}
use Rattle.xa_coordinator.specs.OpenBranches.{is_active, works_for, has_working_branch, IsWorking, KeepsOpen}

-- what a coordinator keeps of a branch that it has open: its transaction's number and its phase
abbrev branch_with : ℕ → Phase → OpenBranch
branch_with number phase = record { number = number; phase = phase }

-- if `has_working_branch` is true of a store and a number, what is open there is the branch of that number, ACTIVE
pub working : (branches : List (Option OpenBranch)) (store number : ℕ) → has_working_branch branches store number ≡ true
    → IsWorking branches store number
unfolding has_working_branch
working branches store number is = by (slice_get branches store) refl is
  where
    of_phase : (phase : Phase) (n : ℕ) → (is_active phase && (n == number)) ≡ true
        → branch_with n phase ≡ branch_with number Phase.Active
    of_phase Phase.Active n e = ap (λ m. branch_with m Phase.Active) (eqb-true n number e)
    of_phase Phase.Idle n e = absurd (cc)

    by : (found : Option (Option OpenBranch)) → slice_get branches store ≡ found → works_for number found ≡ true
        → IsWorking branches store number
    by None there e = absurd (cc)
    by (Some None) there e = absurd (cc)
    by (Some (Some branch)) there e =
        there ∙ ap (λ (b : OpenBranch). Some (Some b)) (of_phase branch.phase branch.number e)

-- if the coordinator has open in a store what it had, whether that is the number's branch, ACTIVE, is as before
pub working_kept : (old new : List (Option OpenBranch)) (store number : ℕ) → slice_get new store ≡ slice_get old store
    → has_working_branch new store number ≡ has_working_branch old store number
unfolding has_working_branch
working_kept old new store number same = ap (works_for number) same

-- if what is open is as before in the stores that take no part and in those from a place on, it is so from each later
-- place on, too
pub keeps_farther : (participants : Participants) (place farther : ℕ) (old new : List (Option OpenBranch))
    → place ≤ farther
    → KeepsOpen participants place old new → KeepsOpen participants farther old new
keeps_farther participants place farther old new less keeps =
    record { apart = keeps.apart; behind = λ store from. keeps.behind store (omega arith) }

-- if what is open is as before in the stores that take no part and in those from a place on, and then only the store
-- at that place changes, which takes part, the same holds from the next place on
pub keeps_next : (participants : Participants) (place : ℕ) (old now next : List (Option OpenBranch))
    → KeepsOpen participants place old now
    → takes_part participants place ≡ true → ChangesAt place now next →
    KeepsOpen participants (place + 1) old next
keeps_next participants place old now next keeps takes changes = record {
  apart =
      λ store out. changes.others store (λ (same : store ≡ place). absurd
      (true_is_false (sym takes ∙ ap (takes_part participants) (sym same) ∙ out)))
      ∙ keeps.apart store out;
  behind = λ store from. changes.others store (omega arith) ∙ keeps.behind store (omega arith);
}
  where
    true_is_false : true ≡ false → ⊥
    true_is_false e = cc
