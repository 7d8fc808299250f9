use Rattle.xa_judge.proofs.Told.{found_on}
use Rattle.xa_judge.proofs.near.judge_later.Goals as goal

pub returns-in-None-clause-told : goal.returns-in-None-clause-told
returns-in-None-clause-told g c =
    found_on c.args.events.now c.judge_later_kept.new.progress c.judge_later_kept.result
    (rw c.in-None.is at c.tell_verdict.ensures.told) c.judge_later_kept.ensures.told
