use Rattle.decision_log.{specs.Seats.pass_view_of, proofs.TurnSteps.look_step}
use Rattle.decision_log.proofs.turn_log.TurnLog.load_count.Goals as goal

pub load-requires-clause-allowed : goal.load-requires-clause-allowed
load-requires-clause-allowed c =
    look_step c.args.self.now.table.inner.shared.key c.args.self.now.table.inner.shared.table_id.slots
    c.args.seat.now.id (pass_view_of c.args.seat.now.me.0)
