use Rattle.xa_judge.proofs.ForeseenSteps.{told_none}
use Rattle.xa_judge.proofs.quiet.is_outside.Goals as goal

pub returns : goal.returns
returns c = λ e. told_none c.args.server.now c.args.session _ c.in_ok-answer.answer c.in_ok-answer.ensures
    (c.says_none.ensures e)
