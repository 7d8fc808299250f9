use Rattle.decision_log.proofs.TurnHistory.{look_sees}
use Rattle.decision_log.proofs.laws.each_look_sees_the_history.Goals as goal

pub returns : goal.returns
returns c = look_sees
