use Rattle.std.proofs.Common.{◌+◌, ap}
use Rattle.decision_log.specs.Seats.{pass_view_of}
use Rattle.chain_log.proofs.RingStores.{find_step}
use Rattle.chain_log.proofs.ring.RingLog.find_word.Goals as goal

pub load-requires-clause-allowed : goal.load-requires-clause-allowed
load-requires-clause-allowed c =
    find_step c.args.self.now.table.inner.shared.key c.args.self.now.table.inner.shared.table_id.slots
    c.args.seat.now.id
    (c.args.start + c.args.index) c.args.index (pass_view_of c.args.seat.now.me.0)
    (ap (λ n. n + c.args.index) c.requires.own) c.requires.turn c.requires.behind c.requires.along c.requires.index
