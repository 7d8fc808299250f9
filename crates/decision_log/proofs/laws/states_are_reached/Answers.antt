use Rattle.decision_log.proofs.MachineReach.{reached}
use Rattle.decision_log.proofs.laws.states_are_reached.Goals as goal

pub returns : goal.returns
returns c = reached
