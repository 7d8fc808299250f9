use Rattle.std.proofs.Common.{arith}
use Rattle.decision_log.specs.Seats.{pass_view_of}
use Rattle.chain_log.proofs.RingSteps.{check_step}
use Rattle.chain_log.proofs.ring.RingLog.check_name.Goals as goal

pub load-requires-clause-allowed : goal.load-requires-clause-allowed
load-requires-clause-allowed c =
    let behind = c.requires.start.behind in
    check_step c.args.self.now.table.inner.shared.key c.args.self.now.table.inner.shared.table_id.slots
    c.args.seat.now.id c.args.start
    (pass_view_of c.args.seat.now.me.0) (λ e. omega arith)
