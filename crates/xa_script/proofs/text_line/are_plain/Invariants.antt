use Rattle.std.proofs.Common.{◌≡◌, drop}
use Rattle.xa_script.specs.Texts.{are_printable}
use Rattle.xa_script.proofs.text_line.are_plain.Given as goal

abbrev pub invariant-loop-byte : goal.invariant-loop-byte
invariant-loop-byte l = are_printable l.bytes ≡ are_printable (drop l.byte-index l.bytes)
