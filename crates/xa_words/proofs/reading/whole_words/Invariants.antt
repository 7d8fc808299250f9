use Rattle.std.proofs.Common.{◌≡◌, ◌<◌, ◌*◌, ℕ, length, get_or}
use Rattle.xa_words.specs.Words.{byte_of}
use Rattle.xa_words.proofs.reading.whole_words.Given as goal

abbrev pub invariant-loop-index : goal.invariant-loop-index
invariant-loop-index l = record {
  size : length l.text.items ≡ 8 * l.index;
  bytes : (place : ℕ) → place < length l.text.items → get_or l.text.items place 0 ≡ byte_of l.words place;
}
