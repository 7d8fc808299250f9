use Rattle.decision_log.proofs.MachineLaw.{mine_is_own}
use Rattle.decision_log.proofs.laws.mine_is_the_own_part_of_seen.Goals as goal

pub returns : goal.returns
returns c = mine_is_own
