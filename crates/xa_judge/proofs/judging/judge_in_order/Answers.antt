use Rattle.xa_judge.{specs.Told.no_pass, proofs.Told.{passes_on, told_on}}
use Rattle.xa_judge.proofs.judging.judge_in_order.Goals as goal

pub loop-way-init : goal.loop-way-init
loop-way-init g c = no_pass

pub returns-in-Some-clause-told : goal.returns-in-Some-clause-told
returns-in-Some-clause-told g c =
    told_on c.loop-way.invariant (rw c.in-Some.is at c.in_ok-verdict.ensures.told)

pub loop-way-preserved : goal.loop-way-preserved
loop-way-preserved g c =
    passes_on c.loop-way.invariant (rw c.in_default.is at c.in_ok-verdict.ensures.told)
