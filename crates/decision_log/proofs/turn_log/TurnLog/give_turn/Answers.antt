use Rattle.decision_log.{specs.Seats.pass_view_of, proofs.TurnStores.release_step}
use Rattle.decision_log.proofs.turn_log.TurnLog.give_turn.Goals as goal

pub store-requires-clause-allowed : goal.store-requires-clause-allowed
store-requires-clause-allowed c =
    release_step c.args.self.now.table.inner.shared.key c.args.self.now.table.inner.shared.table_id.slots
    c.args.seat.now.id
    (pass_view_of c.args.seat.now.me.0) c.requires.fresh
