use Rattle.std.{proofs.Common.{◌≡◌, length, take}, specs.Prelude.fold}
use Rattle.xa_judge.specs.Marks.{with_word}
use Rattle.xa_judge.proofs.fingerprints.Fingerprint.with_text.Given as goal

-- of the items before the place
abbrev pub invariant-loop-byte : goal.invariant-loop-byte
invariant-loop-byte l =
    l.fingerprint.number ≡ fold with_word (with_word l.fn.self.number (length l.text)) (take l.byte-index l.text)
