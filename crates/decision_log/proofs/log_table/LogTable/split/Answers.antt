use Rattle.decision_log.{specs.Seats.{pass_view_of, second_of}, proofs.SeatSteps.at_split}
use Rattle.decision_log.proofs.log_table.LogTable.split.Goals as goal

pub split_seat-requires : goal.split_seat-requires
split_seat-requires g c = (
  c.requires.seat.table,
  c.args.self.now.some,
  at_split c.args.seat.now.me c.requires.seat.held
      (c.requires.rule.split c.args.self.now.inner.shared.key c.args.seat.now.id (pass_view_of c.args.seat.now.me.0)
      (second_of c.args.seat.now.me.0)),
)
