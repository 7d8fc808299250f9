use Rattle.decision_log.proofs.TurnHistory.{turn_log}
use Rattle.decision_log.proofs.laws.turn_keeps_the_history.Goals as goal

pub returns : goal.returns
returns c sizes words views views' rule turn = turn_log sizes words views views' rule turn
