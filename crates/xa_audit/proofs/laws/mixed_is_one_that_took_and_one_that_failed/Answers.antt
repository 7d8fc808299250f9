use Rattle.xa_audit.proofs.Verdicts.{mixed_iff}
use Rattle.xa_audit.proofs.laws.mixed_is_one_that_took_and_one_that_failed.Goals as goal

pub returns : goal.returns
returns c = λ branches. mixed_iff branches
