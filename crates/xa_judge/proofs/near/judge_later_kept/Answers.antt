use Rattle.xa_judge.proofs.Told.{told_found, later_told}
use Rattle.xa_judge.proofs.near.judge_later_kept.Goals as goal

pub returns-clause-told : goal.returns-clause-told
returns-clause-told g c =
    told_found c.args.events.now c.in_ok-whole.whole c.in_ok-whole.ensures.seen
    (later_told c.args.events.now c.args.first.now c.args.later.now c.requires.parts c.in_ok-found.ensures.told)
