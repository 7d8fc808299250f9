use Rattle.decision_log.proofs.TurnHistory.{stored_log}
use Rattle.decision_log.proofs.laws.store_keeps_the_history.Goals as goal

pub returns : goal.returns
returns c sizes words views views' rule id pass index word = stored_log sizes words views views' rule id pass index word
