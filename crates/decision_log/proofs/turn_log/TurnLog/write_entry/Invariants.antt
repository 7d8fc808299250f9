use Rattle.std.proofs.Common.{◌≡◌, take}
use Rattle.decision_log.specs.{Draft.with_draft, Seats.pass_view, TurnSeat.IsSeat}
use Rattle.decision_log.proofs.turn_log.TurnLog.write_entry.Given as goal

abbrev pub invariant-loop-index : goal.invariant-loop-index
invariant-loop-index l = record {
  seat : IsSeat l.self l.seat;
  drafted : pass_view l.seat ≡ with_draft (pass_view l.fn.seat) (take l.index l.words);
}
