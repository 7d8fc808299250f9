use Rattle.std.proofs.Common.{ap}
use Rattle.decision_log.{specs.Seats.pass_view_of, proofs.SeatSteps.at_join}
use Rattle.decision_log.proofs.log_table.LogTable.join.Goals as goal

pub join_seat-requires : goal.join_seat-requires
join_seat-requires g c = (
  c.requires.seat.table,
  c.requires.other.table,
  ap (λ me. me.1) c.requires.other.held,
  c.args.self.now.some,
  at_join c.args.seat.now.me c.args.other.me c.requires.seat.held c.requires.other.held
      (c.requires.rule.join c.args.self.now.inner.shared.key c.args.seat.now.id c.args.other.id
      (pass_view_of c.args.seat.now.me.0)
      (pass_view_of c.args.other.me.0)),
)
