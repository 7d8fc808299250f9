use Rattle.std.proofs.Common.{◌≡◌, ◌++◌, drop}
use Rattle.xa_script.specs.Texts.{between_quotes}
use Rattle.xa_script.proofs.text_line.put_between.Given as goal

abbrev pub invariant-loop-byte : goal.invariant-loop-byte
invariant-loop-byte l =
    l.text.items ++ between_quotes (drop l.byte-index l.bytes) ≡ l.fn.text.items ++ between_quotes l.bytes
