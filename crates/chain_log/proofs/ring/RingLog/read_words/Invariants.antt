use Rattle.std.proofs.Common.{◌≡◌, ◌<◌, ◌≤◌, ℕ, get_or, length}
use Rattle.xa_words.specs.{Entry.{Entry, IsEntry}, Words.words_of}
use Rattle.decision_log.specs.{declared.view.Turn.TheVariants.Won, Seats.pass_view}
use Rattle.chain_log.specs.{RingTransitions.KeepsWatch, RingSeat.{IsSeat, ReadsCell}}
use Rattle.chain_log.proofs.ring.RingLog.read_words.Given as goal

abbrev pub invariant-loop-index : goal.invariant-loop-index
invariant-loop-index l = record {
  seat : IsSeat l.self l.seat;
  sized : length l.words ≡ 21;
  keeps : KeepsWatch (pass_view l.fn.seat) (pass_view l.seat);
  below : (place : ℕ) → place < l.from → get_or l.words place 0 ≡ get_or l.fn.words place 0;
  above : (place : ℕ) → l.end ≤ place → get_or l.words place 0 ≡ get_or l.fn.words place 0;
  read : (place : ℕ) (entry : Entry) → ReadsCell l.start place entry (pass_view l.fn.seat)
      → (pass_view l.seat).turn ≡ Won → (word : ℕ) → l.from ≤ word
      → word < l.index
      → IsEntry entry × (get_or l.words word 0 ≡ get_or (words_of entry) word 0);
}
