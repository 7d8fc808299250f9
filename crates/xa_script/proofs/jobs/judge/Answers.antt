use Rattle.std.proofs.lemmas.Result.{MatchResult-from_both}
use Rattle.xa_script.proofs.jobs.judge.Goals as goal

pub returns : goal.returns
returns g c = MatchResult-from_both c.judge_read.result _ _ c.judge_read.ensures.judged c.judge_read.ensures.fault
