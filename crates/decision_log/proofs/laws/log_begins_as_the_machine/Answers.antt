use Rattle.decision_log.proofs.StepsOfSeats.{begins_so}
use Rattle.decision_log.proofs.laws.log_begins_as_the_machine.Goals as goal

pub returns : goal.returns
returns c = begins_so
