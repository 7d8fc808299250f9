use Rattle.std.proofs.Common.{arith}
use Rattle.decision_log.specs.Seats.{pass_view_of}
use Rattle.chain_log.proofs.RingStores.{name_step}
use Rattle.chain_log.proofs.ring.RingLog.store_name.Goals as goal

pub store-requires-clause-allowed : goal.store-requires-clause-allowed
store-requires-clause-allowed c =
    name_step c.args.self.now.table.inner.shared.key c.args.self.now.table.inner.shared.table_id.slots
    c.args.seat.now.id c.args.start c.args.name
    (pass_view_of c.args.seat.now.me.0) (omega (arith, c.requires.own)) c.requires.name
