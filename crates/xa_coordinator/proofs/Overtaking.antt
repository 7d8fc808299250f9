-- A walk over how numbers stand: which is undecided first, and that none behind it is closed so far.
use Rattle.std.proofs.Common.{◌≡◌, ◌≢◌, ◌<◌, ◌≤◌, ◌+◌, ◌-◌, ℕ, zero, suc, Bool, true, false, List, Option, Some, None}
use Rattle.std.proofs.Common.{length, refl, ap, ◌∙◌, sym, arith, cond, ne_eqb, subst, get_or, inl, inr}
use Rattle.std.proofs.{Math.Nat.lt_of_not-le, lemmas.{Bool.cases_eq, Option.{slice_get-get_or, slice_get_within}}}
use Rattle.std.specs.Prelude.{◌==◌, slice_get}
use Rattle.xa_coordinator.specs.declared.decisions.Decision.{Decision, TheVariants.{Undecided, Closed}}
use Rattle.xa_coordinator.specs.Decisions.{decision_of, IsOvertaken}

-- the first `count` numbers were looked at: `undecided` is the first undecided one, and none behind it is closed
pub record Walked (decisions : List Decision) (count : ℕ) (undecided : Option ℕ) : Type 0 where
  pub first : (number : ℕ) → undecided ≡ Some number → (decision_of decisions number ≡ Some Undecided)
      × (number ≤ count)
  pub least : (number earlier : ℕ) → undecided ≡ Some number → decision_of decisions earlier ≡ Some Undecided
      → number ≤ earlier
  pub none : undecided ≡ None → (number : ℕ) → number ≤ count → decision_of decisions number ≢ Some Undecided
  pub behind : (number later : ℕ) → number < later → later ≤ count → decision_of decisions number ≡ Some Undecided
      → decision_of decisions later ≢ Some Closed

-- place n has number n + 1
at_place : (decisions : List Decision) (place : ℕ) (found : Option Decision) → slice_get decisions place ≡ found
    → decision_of decisions (place + 1) ≡ found
unfolding decision_of
at_place decisions place found is =
    ap (λ b. cond b None (slice_get decisions (place + 1 - 1))) (ne_eqb (place + 1) 0 (λ same. absurd (omega arith)))
    ∙ ap (slice_get decisions) (omega arith) ∙ is

-- equal numbers that were found are equal
some_number : (one other : ℕ) → Some one ≡ Some other → one ≡ other
some_number one other is = cc

-- something isn't nothing
pub some_is_none : (one : ℕ) → Some one ≢ None
some_is_none one is = cc

-- equal decisions that were found are equal
some_same : (one other : Decision) → Some one ≡ Some other → one ≡ other
some_same one other is = cc

-- a number that has a decision is at most the length of the list
within_list : (decisions : List Decision) (number : ℕ) (decision : Decision)
    → decision_of decisions number ≡ Some decision → number ≤ length decisions
unfolding decision_of
within_list decisions number decision is = by (number == 0) refl is
  where
    by : (b : Bool) → (number == 0) ≡ b → cond b None (slice_get decisions (number - 1)) ≡ Some decision
        → number ≤ length decisions
    by true zeroth none = absurd (cc)
    by false other there = omega (arith, slice_get_within decisions (number - 1) decision there)

-- before the walk no number was looked at
pub walked_none : (decisions : List Decision) → Walked decisions 0 None
unfolding decision_of
walked_none decisions = record {
  first = λ number is. absurd (cc);
  least = λ number earlier is given. absurd (cc);
  none = λ is number within given. absurd (no number within given);
  behind = λ number later less within. absurd (omega arith);
}
  where
    no : (number : ℕ) → number ≤ 0 → decision_of decisions number ≢ Some Undecided
    no zero less given = cc
    no (suc number) less given = absurd (omega arith)

module _ (decisions : List Decision) (place : ℕ) (undecided : Option ℕ)
    (walked : Walked decisions place undecided) where
  -- if the walk has met an undecided number and a closed one comes next, the undecided one is overtaken
  pub overtaken_at : (first : ℕ) → undecided ≡ Some first → slice_get decisions place ≡ Some Closed
      → IsOvertaken decisions first
  overtaken_at first is closed = record {
    undecided = (walked.first first is).0;
    later = place + 1;
    behind = omega (arith, (walked.first first is).1);
    closed = at_place decisions place (Some Closed) closed;
  }

  -- the walk goes on by the next number, with `now` as the first undecided one (None: there is none), if `now` is
  -- right up to there, and the next number is closed only if the walk has met no undecided one
  step : (decision : Decision) (now : Option ℕ) → slice_get decisions place ≡ Some decision
      → ((number : ℕ) → now ≡ Some number → (decision_of decisions number ≡ Some Undecided) × (number ≤ place + 1))
      → ((number earlier : ℕ) → now ≡ Some number → decision_of decisions earlier ≡ Some Undecided → number ≤ earlier)
      → (now ≡ None → (undecided ≡ None) × (decision ≢ Undecided))
      → (decision ≡ Closed → undecided ≡ None) → Walked decisions (place + 1) now
  step decision now is kept least lacks closed =
      record { first = kept; least = least; none = none_now; behind = behind_now }
    where
      none_now : now ≡ None → (number : ℕ) → number ≤ place + 1 → decision_of decisions number ≢ Some Undecided
      none_now none number within given = elim (cases_eq number (place + 1)) [
        | inl here ↦ (lacks none).1 (some_same _ _ (sym (at_place decisions place (Some decision) is)
            ∙ ap (decision_of decisions) (sym here) ∙ given))
        | inr apart ↦ walked.none (lacks none).0 number (omega (arith, apart, within)) given
      ]

      behind_now : (number later : ℕ) → number < later → later ≤ place + 1
          → decision_of decisions number ≡ Some Undecided → decision_of decisions later ≢ Some Closed
      behind_now number later less within given shut = elim (cases_eq later (place + 1)) [
        | inl here ↦
            walked.none (closed (some_same _ _ (sym (at_place decisions place (Some decision) is)
            ∙ ap (decision_of decisions) (sym here) ∙ shut))) number
            (omega (arith, here, less)) given
        | inr apart ↦ walked.behind number later less (omega (arith, apart, within)) given shut
      ]

  -- if the walk has looked at all numbers, none is overtaken
  pub walked_all : length decisions ≤ place → (number : ℕ) → IsOvertaken decisions number → ⊥
  walked_all all number it =
      walked.behind number it.later it.behind (omega (arith, all, within_list decisions it.later Closed it.closed))
      it.undecided it.closed

  module _ (fallback : Decision) (below : place < length decisions) where
    -- what the program reads at a place within the list stands there
    read : (decision : Decision) → get_or decisions place fallback ≡ decision
        → slice_get decisions place ≡ Some decision
    read decision is = slice_get-get_or decisions place fallback below ∙ ap Some is

    -- if the walk has met an undecided number and the program reads a closed one next, the undecided one is overtaken
    pub overtaken_here : (first : ℕ) → undecided ≡ Some first → get_or decisions place fallback ≡ Closed
        → IsOvertaken decisions first
    overtaken_here first is closed = overtaken_at first is (read Closed closed)

    -- the walk goes on by an undecided number, if it has met none before: this is the first
    pub step_first : undecided ≡ None → get_or decisions place fallback ≡ Undecided
        → Walked decisions (place + 1) (Some (place + 1))
    step_first none is = step Undecided (Some (place + 1)) (read Undecided is)
        (λ number same. (
          subst (λ n. decision_of decisions n ≡ Some Undecided) (some_number _ _ same)
              (at_place decisions place (Some Undecided) (read Undecided is)),
          omega (arith, some_number _ _ same),
        ))
        (λ number earlier same given. subst (λ n. n ≤ earlier) (some_number _ _ same) (behind earlier given))
        (λ lacks. absurd (cc)) (λ closed. absurd (cc))
      where
        behind : (earlier : ℕ) → decision_of decisions earlier ≡ Some Undecided → place + 1 ≤ earlier
        behind earlier given = omega (
          arith,
          lt_of_not-le {n = earlier} {m = place}
              (λ within. walked.none none earlier within given),
        )

    -- the walk goes on by any other number: one that is undecided only if one was met before, and closed only if none
    -- was
    pub step_on : (decision : Decision) → get_or decisions place fallback ≡ decision
        → (decision ≡ Undecided → undecided ≢ None) → (decision ≡ Closed → undecided ≡ None)
        → Walked decisions (place + 1) undecided
    step_on decision is one other = step decision undecided (read decision is)
        (λ number same. ((walked.first number same).0, omega (arith, (walked.first number same).1)))
        walked.least
        (λ lacks. (lacks, λ same. one same lacks)) other
