use Rattle.decision_log.proofs.TurnSeats.{keeps_seats}
use Rattle.decision_log.proofs.turn_log.calls.TurnLogDecisionLog.meet.Goals as goal

pub meet-count-requires-clause-rule : goal.meet-count-requires-clause-rule
meet-count-requires-clause-rule c = keeps_seats
