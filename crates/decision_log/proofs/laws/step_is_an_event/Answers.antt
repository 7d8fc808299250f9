use Rattle.decision_log.proofs.TurnEvents.{turn_steps}
use Rattle.decision_log.proofs.laws.step_is_an_event.Goals as goal

pub returns : goal.returns
returns c sizes words words' views before id step found old new after =
    turn_steps sizes words views before words' id step found old new after
