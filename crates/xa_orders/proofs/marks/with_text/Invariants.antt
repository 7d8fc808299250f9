use Rattle.std.{proofs.Common.{◌≡◌, length, take}, specs.Prelude.fold}
use Rattle.xa_orders.specs.Marks.{with_word}
use Rattle.xa_orders.proofs.marks.with_text.Given as goal

-- of the bytes before the place
abbrev pub invariant-loop-byte : goal.invariant-loop-byte
invariant-loop-byte l = l.longer ≡ fold with_word (with_word l.fn.mark (length l.text)) (take l.byte-index l.text)
