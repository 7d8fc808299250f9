use Rattle.decision_log.proofs.TurnEvents.{turn_meets}
use Rattle.decision_log.proofs.laws.meeting_is_an_event.Goals as goal

pub returns : goal.returns
returns c sizes words views before id first second seen after =
    turn_meets sizes words views before id first second seen after
