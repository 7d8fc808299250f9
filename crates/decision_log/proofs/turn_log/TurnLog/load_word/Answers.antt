use Rattle.std.proofs.Common.{arith}
use Rattle.decision_log.{specs.Seats.pass_view_of, proofs.TurnSteps.read_step}
use Rattle.decision_log.proofs.turn_log.TurnLog.load_word.Goals as goal

pub load-requires-clause-allowed : goal.load-requires-clause-allowed
load-requires-clause-allowed c =
    let low =
    c.requires.word.0 in read_step c.args.self.now.table.inner.shared.key
    c.args.self.now.table.inner.shared.table_id.slots c.args.seat.now.id c.args.word
    (pass_view_of c.args.seat.now.me.0) (λ e. omega arith)
