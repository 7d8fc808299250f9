use Rattle.std.proofs.Common.{◌≡◌, length}
use Rattle.decision_log.specs.Seats.{pass_view}
use Rattle.chain_log.{specs.{Cells.name_before, ChainSeat.IsSeat}, proofs.KeptColumns.IsFilling}
use Rattle.chain_log.proofs.chain.ChainLog.fill.Given as goal

abbrev pub invariant-loop-row : goal.invariant-loop-row
invariant-loop-row l = record {
  seat : IsSeat l.self l.seat;
  same : pass_view l.seat ≡ pass_view l.fn.seat;
  count : l.count ≡ length (pass_view l.fn.seat).known.seen;
  name : l.name ≡ name_before (pass_view l.fn.seat).sessions (pass_view l.fn.seat).known.seen l.row;
  filling : IsFilling (pass_view l.fn.seat).capacity l.first l.row (pass_view l.fn.seat).known.seen l.columns.items;
}
