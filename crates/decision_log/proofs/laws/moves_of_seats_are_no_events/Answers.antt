use Rattle.decision_log.proofs.StepsOfSeats.{moves_stand}
use Rattle.decision_log.proofs.laws.moves_of_seats_are_no_events.Goals as goal

pub returns : goal.returns
returns c = moves_stand
