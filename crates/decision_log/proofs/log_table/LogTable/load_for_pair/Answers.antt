use Rattle.decision_log.{specs.Seats.{pass_view_of, second_of}, proofs.SeatSteps.at_meet}
use Rattle.decision_log.proofs.log_table.LogTable.load_for_pair.Goals as goal

pub load-requires : goal.load-requires
load-requires g c = (
  c.requires.seat.table,
  c.args.self.now.some,
  at_meet c.requires.rule c.args.self.now.inner.shared.key c.args.self.now.inner.shared.table_id.slots
      c.args.seat.now.id (pass_view_of c.args.seat.now.me.0)
      (second_of c.args.seat.now.me.0) c.args.seat.now.me c.requires.seat.held,
)
