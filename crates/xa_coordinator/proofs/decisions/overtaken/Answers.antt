use Rattle.std.proofs.Common.{arith, ◌+◌, sym, ◌∙◌, subst}
use Rattle.xa_coordinator.proofs.decisions.overtaken.Goals.{in-Closed-None, in-Undecided-Some, in-Undecided-None}
use Rattle.xa_coordinator.proofs.{decisions.overtaken.Goals.in-Decided-default, Overtaking.{Walked, some_is_none}}
use Rattle.xa_coordinator.proofs.Overtaking.{walked_none, overtaken_here, walked_all, step_first, step_on}
use Rattle.xa_coordinator.specs.declared.decisions.Decision.TheVariants.{Undecided, Decided, Closed}
use Rattle.xa_coordinator.proofs.decisions.overtaken.Goals as goal

pub loop-place-init : goal.loop-place-init
loop-place-init c = walked_none c.args.list.now

pub returns-in-Closed-Some-clause-some : goal.returns-in-Closed-Some-clause-some
returns-in-Closed-Some-clause-some c =
    overtaken_here c.args.list.now c.loop-place.place c.loop-place.undecided c.loop-place.invariant _
    c.loop-place-test.true c.in-Closed-Some.first
    c.in-Closed-Some.is-1 c.in-Closed-Some.is-0

pub returns-in-Closed-Some-clause-first : goal.returns-in-Closed-Some-clause-first
returns-in-Closed-Some-clause-first c = λ other it.
    c.loop-place.invariant.least c.in-Closed-Some.first other c.in-Closed-Some.is-1 it.undecided

pub loop-place-preserved : goal.loop-place-preserved
loop-place-preserved c = elim c.match-decision.branch [
  | in-Closed-None w ↦ subst (Walked c.args.list.now (c.loop-place.place + 1)) (sym w.undecided-is)
      (step_on c.args.list.now c.loop-place.place c.loop-place.undecided c.loop-place.invariant _ c.loop-place-test.true
      Closed w.in-Closed-None.is-0
      (λ same. absurd (cc)) (λ same. w.in-Closed-None.is-1))
  | in-Undecided-Some w ↦ subst (Walked c.args.list.now (c.loop-place.place + 1)) (sym w.undecided-is)
      (step_on c.args.list.now c.loop-place.place c.loop-place.undecided c.loop-place.invariant _ c.loop-place-test.true
      Undecided w.in-Undecided-Some.is-0
      (λ same none. some_is_none _ (sym w.in-Undecided-Some.is-1 ∙ none)) (λ same. absurd (cc)))
  | in-Undecided-None w ↦ subst (Walked c.args.list.now (c.loop-place.place + 1)) (sym w.undecided-is)
      (step_first c.args.list.now c.loop-place.place c.loop-place.undecided c.loop-place.invariant _
      c.loop-place-test.true
      w.in-Undecided-None.is-1 w.in-Undecided-None.is-0)
  | in-Decided-default w ↦ subst (Walked c.args.list.now (c.loop-place.place + 1)) (sym w.undecided-is)
      (step_on c.args.list.now c.loop-place.place c.loop-place.undecided c.loop-place.invariant _ c.loop-place-test.true
      Decided w.in-Decided-default.is-0
      (λ same. absurd (cc)) (λ same. absurd (cc)))
]

pub returns-clause-none : goal.returns-clause-none
returns-clause-none c = walked_all c.args.list.now c.loop-place.place c.loop-place.undecided c.loop-place.invariant
    (omega (arith, c.loop-place-test.false))
