-- How numbers stand, before and after a decision.
use Rattle.std.proofs.Common.{◌≡◌, ◌≢◌, ◌<◌, ◌≤◌, ◌+◌, ◌-◌, ℕ, zero, suc, Bool, true, false, List, [], ◌∷◌, ◌++◌, take}
use Rattle.std.proofs.Common.{drop, get_or, add-one, append-nil, sym, length, refl, ap, ◌∙◌, Option, Some, None, cond}
use Rattle.std.proofs.{Common.{arith, ne_eqb, subst, inl, inr}, lemmas.Bool.{eqb-false, Decides.eqb_tells}}
use Rattle.std.{proofs.lemmas.{Option.slice_get_within, List.take_all}, specs.Prelude.{◌==◌, slice_get, slice_set, map}}
use Rattle.std.specs.Option.{option_map}
use Rattle.xa_coordinator.specs.declared.decisions.Decision.{Decision, TheVariants.{Undecided, Decided, Closed}}
use Rattle.xa_coordinator.specs.Decisions.{decision_of, is_not_closed, decides, may_be_decided, is_decided}
use Rattle.xa_coordinator.{specs.Decisions.{with_decided, closed_of}, proofs.Places.{get_set_same, get_set_other}}

-- a number that was given has its place in the list
pub record HasPlace (decisions : List Decision) (number : ℕ) : Type 0 where
  pub first : 0 < number
  pub within : number - 1 < length decisions

-- a place that has a decision which isn't closed is within the list
in_list : (decisions : List Decision) (place : ℕ) (found : Option Decision) → slice_get decisions place ≡ found
    → is_not_closed found ≡ true
    → place < length decisions
in_list decisions place None is given = absurd (cc)
in_list decisions place (Some decision) is given = slice_get_within decisions place decision is

-- a number that may be decided was given: it has a place
pub given : (decisions : List Decision) (number : ℕ) → may_be_decided decisions number ≡ true
    → HasPlace decisions number
unfolding decision_of
given decisions number is = by (number == 0) refl is
  where
    by : (b : Bool) → (number == 0) ≡ b → is_not_closed (cond b None (slice_get decisions (number - 1))) ≡ true
        → HasPlace decisions number
    by true zeroth none = absurd (cc)
    by false other there =
        let apart = eqb-false number 0 other in
        record {
          first = omega (arith, apart);
          within = in_list decisions (number - 1)
              (slice_get decisions (number - 1)) refl there;
        }

-- a number that is recorded as decided is decided
pub decided_after : (decisions : List Decision) (place number : ℕ) → place + 1 ≡ number → place < length decisions
    → is_decided (slice_set decisions place Decided) number ≡ true
unfolding decision_of
decided_after decisions place number is below =
    ap (λ b. decides (cond b None (slice_get (slice_set decisions place Decided) (number - 1))))
    (ne_eqb number 0 (λ same. absurd (omega arith)))
    ∙ ap (λ at. decides (slice_get (slice_set decisions place Decided) at)) (omega arith)
    ∙ ap decides (get_set_same decisions place Decided below)

-- number n stands at place n - 1, and recording a decision sets it there
pub with_decided-at : (decisions : List Decision) (place number : ℕ) → place + 1 ≡ number
    → slice_set decisions place Decided ≡ with_decided decisions number
unfolding with_decided
with_decided-at decisions place number is = ap (λ at. slice_set decisions at Decided) (omega arith)

-- a place at which Decided stands is within the list
decided_in : (decisions : List Decision) (place : ℕ) (found : Option Decision) → slice_get decisions place ≡ found
    → decides found ≡ true
    → place < length decisions
decided_in decisions place None is decided = absurd (cc)
decided_in decisions place (Some decision) is decided = slice_get_within decisions place decision is

-- a number that is decided is still decided after a decision was recorded at any place
pub decided_kept : (decisions : List Decision) (place other : ℕ) → is_decided decisions other ≡ true
    → is_decided (slice_set decisions place Decided) other ≡ true
unfolding decision_of
decided_kept decisions place other is = by (other == 0) is
  where
    by : (b : Bool) → decides (cond b None (slice_get decisions (other - 1))) ≡ true
        → decides (cond b None (slice_get (slice_set decisions place Decided) (other - 1))) ≡ true
    by true was = was
    by false was = elim (eqb_tells (other - 1) place) [
      | inl (_, here) ↦
          ap (λ at. decides (slice_get (slice_set decisions place Decided) at)) here
          ∙ ap decides (get_set_same decisions place Decided
          (subst (λ at. at < length decisions) here (decided_in decisions (other - 1)
          (slice_get decisions (other - 1)) refl was)))
      | inr (_, apart) ↦ ap decides (get_set_other decisions place (other - 1) Decided apart) ∙ was
    ]

-- the loop that closes undecided numbers: if the first `place` are closed and the list has one there, closing that one
-- leaves the first `place + 1` closed
pub closed_next : (xs now : List Decision) (place : ℕ) (d : Decision)
    → now ≡ map closed_of (take place xs) ++ drop place xs → place < length now →
    slice_set now place (closed_of (get_or now place d)) ≡ map closed_of (take (place + 1) xs) ++ drop (place + 1) xs
closed_next xs now place d is below =
    ap (λ list. slice_set list place (closed_of (get_or list place d))) is
    ∙ by xs place (subst (λ (list : List Decision). place < length list) is below)
    ∙ ap (λ n. map closed_of (take n xs) ++ drop n xs) (sym (add-one place))
  where
    by : (ys : List Decision) (n : ℕ) → n < length (map closed_of (take n ys) ++ drop n ys) →
        slice_set (map closed_of (take n ys) ++ drop n ys) n
        (closed_of (get_or (map closed_of (take n ys) ++ drop n ys) n d))
        ≡ map closed_of (take (suc n) ys) ++ drop (suc n) ys
    by [] zero less = absurd (omega arith)
    by [] (suc n) less = absurd (omega arith)
    by (y ∷ ys) zero less = refl
    by (y ∷ ys) (suc n) less = ap (λ rest. closed_of y ∷ rest) (by ys n (omega arith))

-- the loop that closes undecided numbers has closed all at its end
pub closed_all : (xs now : List Decision) (place : ℕ) → now ≡ map closed_of (take place xs) ++ drop place xs
    → length xs ≤ place → now ≡ map closed_of xs
closed_all xs now place is whole =
    is ∙ ap (λ list. map closed_of list ++ drop place xs) (take_all place xs whole)
    ∙ ap (λ list. map closed_of xs ++ list) (drop_all place xs whole)
    ∙ append-nil (map closed_of xs)
  where
    drop_all : (n : ℕ) (ys : List Decision) → length ys ≤ n → drop n ys ≡ []
    drop_all zero [] less = refl
    drop_all (suc n) [] less = refl
    drop_all zero (y ∷ ys) less = absurd (omega arith)
    drop_all (suc n) (y ∷ ys) less = drop_all n ys (omega arith)

-- ---- what closing makes of how numbers stand

-- closing every decision of a list closes the one at each place
get_closed : (xs : List Decision) (place : ℕ) → slice_get (map closed_of xs) place
    ≡ option_map closed_of (slice_get xs place)
get_closed [] place = refl
get_closed (x ∷ xs) zero = refl
get_closed (x ∷ xs) (suc place) = get_closed xs place

-- after undecided numbers were closed, the state of each number is the one that `closed_of` makes of its state before
closed_decision : (decisions : List Decision) (number : ℕ)
    → decision_of (map closed_of decisions) number ≡ option_map closed_of (decision_of decisions number)
unfolding decision_of
closed_decision decisions number = by (number == 0) (get_closed decisions (number - 1))
  where
    by : (b : Bool) → slice_get (map closed_of decisions) (number - 1)
        ≡ option_map closed_of (slice_get decisions (number - 1)) →
        cond b None (slice_get (map closed_of decisions) (number - 1))
        ≡ option_map closed_of (cond b None (slice_get decisions (number - 1)))
    by true e = refl
    by false e = e

-- a recovery closes undecided numbers, and decides none
pub closed_decides : (decisions : List Decision) (number : ℕ)
    → is_decided (map closed_of decisions) number ≡ is_decided decisions number
closed_decides decisions number = ap decides (closed_decision decisions number) ∙ by (decision_of decisions number)
  where
    by : (found : Option Decision) → decides (option_map closed_of found) ≡ decides found
    by None = refl
    by (Some Undecided) = refl
    by (Some Decided) = refl
    by (Some Closed) = refl

-- after a recovery closed the undecided numbers, no number is undecided
pub closed_none : (decisions : List Decision) (number : ℕ)
    → decision_of (map closed_of decisions) number ≢ Some Undecided
closed_none decisions number is = by (decision_of decisions number) (sym (closed_decision decisions number) ∙ is)
  where
    by : (found : Option Decision) → option_map closed_of found ≡ Some Undecided → ⊥
    by None e = cc
    by (Some Undecided) e = cc
    by (Some Decided) e = cc
    by (Some Closed) e = cc
