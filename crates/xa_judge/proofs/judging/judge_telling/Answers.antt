use Rattle.xa_judge.proofs.Told.{verdict_on}
use Rattle.xa_judge.proofs.judging.judge_telling.Goals as goal

pub returns-in-None-clause-told : goal.returns-in-None-clause-told
returns-in-None-clause-told g c =
    verdict_on c.args.base.now c.args.events.now c.judge_in_breadth.new.progress c.judge_in_breadth.result
    (rw c.in-None.is at c.in_ok-verdict.ensures.told) c.judge_in_breadth.ensures.told
