use Rattle.decision_log.proofs.TurnSeats.{opens}
use Rattle.decision_log.proofs.turn_log.TurnLog.open.Goals as goal

pub open_seats-requires-clause-rule : goal.open_seats-requires-clause-rule
open_seats-requires-clause-rule c = opens _
