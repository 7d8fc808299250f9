use Rattle.std.proofs.Common.{◌≡◌, ◌∷◌, take}
use Rattle.decision_log.specs.Seats.{pass_view}
use Rattle.chain_log.specs.{RingTransitions.with_words, RingSeat.IsSeat}
use Rattle.chain_log.proofs.ring.RingLog.write_cell.Given as goal

abbrev pub invariant-loop-index : goal.invariant-loop-index
invariant-loop-index l = record {
  seat : IsSeat l.self l.seat;
  drafted : pass_view l.seat ≡ with_words (pass_view l.fn.seat) (l.name ∷ l.link ∷ take l.index l.words);
}
