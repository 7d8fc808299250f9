use Rattle.std.proofs.{Common.{◌≡◌, Some, subst, inl, inr, arith, rules, tests}, lemmas.Bool.cases_lt}
use Rattle.std.specs.Prelude.{slice_get}
use Rattle.xa_judge.proofs.{KeyVerdicts.within_of, ForeseenLists.unknown_at}
use Rattle.xa_judge.proofs.hints.are_unknown.Goals as goal

pub loop-number-preserved : goal.loop-number-preserved
loop-number-preserved c = λ at entry below there.
    elim (cases_lt at c.loop-number.number) [
      | inl less ↦ c.loop-number.invariant at entry less there
      | inr over ↦
          let is : at ≡ c.loop-number.number = omega (arith, below, over) in
          c.is_no_return_at.ensures (search (rules, tests)) entry
          (subst (λ n. slice_get c.args.places.now n ≡ Some entry) is there)
    ]

pub returns : goal.returns
returns c = λ e session.
    unknown_at c.args.events.now c.args.places.now session
    (λ o there. c.loop-number.invariant session o
    (omega (arith, c.loop-number-test.false, within_of c.args.places.now session o there)) there)
