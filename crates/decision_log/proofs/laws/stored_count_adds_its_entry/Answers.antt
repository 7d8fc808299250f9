use Rattle.decision_log.proofs.TurnHistory.{counted_log}
use Rattle.decision_log.proofs.laws.stored_count_adds_its_entry.Goals as goal

pub returns : goal.returns
returns c sizes words views views' rule id pass entry = counted_log sizes words views views' rule id pass entry
