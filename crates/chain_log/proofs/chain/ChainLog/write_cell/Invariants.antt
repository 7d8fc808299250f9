use Rattle.std.proofs.Common.{◌≡◌, ◌∷◌, take}
use Rattle.decision_log.specs.{Draft.with_draft, Seats.pass_view}
use Rattle.chain_log.specs.ChainSeat.{IsSeat}
use Rattle.chain_log.proofs.chain.ChainLog.write_cell.Given as goal

abbrev pub invariant-loop-index : goal.invariant-loop-index
invariant-loop-index l = record {
  seat : IsSeat l.self l.seat;
  drafted : pass_view l.seat ≡ with_draft (pass_view l.fn.seat) (l.link ∷ take l.index l.words);
}
