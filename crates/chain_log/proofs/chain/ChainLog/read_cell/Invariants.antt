use Rattle.std.{proofs.Common.{◌≡◌, ◌+◌, ◌<◌, ℕ, Some, get_or, length}, specs.Prelude.slice_get}
use Rattle.xa_words.specs.{Entry.{Entry, IsEntry}, Words.words_of}
use Rattle.decision_log.specs.Seats.{pass_view}
use Rattle.chain_log.specs.{Cells.name_before, ChainSeat.IsSeat}
use Rattle.chain_log.proofs.chain.ChainLog.read_cell.Given as goal

abbrev pub invariant-loop-index : goal.invariant-loop-index
invariant-loop-index l = record {
  seat : IsSeat l.self l.seat;
  sized : length l.words ≡ 21;
  same : pass_view l.seat ≡ pass_view l.fn.seat;
  read : (row : ℕ) (entry : Entry) → l.name ≡ name_before (pass_view l.fn.seat).sessions
      (pass_view l.fn.seat).known.seen (row + 1)
      → slice_get (pass_view l.fn.seat).known.seen row ≡ Some entry
      → (0 < l.index → IsEntry entry) × ((k : ℕ) → k < l.index → get_or l.words k 0 ≡ get_or (words_of entry) k 0);
}
