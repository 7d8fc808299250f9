use Rattle.std.proofs.Common.{◌≡◌, ◌≤◌, ◌++◌, length, drop}
use Rattle.xa_script.specs.Texts.{texts_from, with_texts}
use Rattle.xa_script.proofs.text_line.text_line.Given as goal

abbrev pub invariant-loop-byte : goal.invariant-loop-byte
invariant-loop-byte l = record {
  written : l.so_far.text.items ++ texts_from l.so_far.word.items (drop l.byte-index l.line) ≡ with_texts l.line;
  word : length l.so_far.word.items ≤ l.byte-index;
}
