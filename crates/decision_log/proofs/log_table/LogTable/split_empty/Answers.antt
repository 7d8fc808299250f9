use Rattle.decision_log.{specs.Seats.pass_view_of, proofs.SeatSteps.at_spare}
use Rattle.decision_log.proofs.log_table.LogTable.split_empty.Goals as goal

pub split_seat-requires : goal.split_seat-requires
split_seat-requires g c = (
  c.requires.seat.table,
  c.args.self.now.some,
  at_spare c.args.seat.now.me c.requires.seat.held
      (c.requires.rule.split_empty c.args.self.now.inner.shared.key c.args.seat.now.id
      (pass_view_of c.args.seat.now.me.0)),
)
