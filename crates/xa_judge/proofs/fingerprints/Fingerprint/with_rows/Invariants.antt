use Rattle.std.{proofs.Common.{◌≡◌, length, take}, specs.Prelude.fold}
use Rattle.xa_judge.specs.Marks.{with_word, with_row}
use Rattle.xa_judge.proofs.fingerprints.Fingerprint.with_rows.Given as goal

-- of the rows before the place
abbrev pub invariant-loop-row : goal.invariant-loop-row
invariant-loop-row l =
    l.fingerprint.number ≡ fold with_row (with_word l.fn.self.number (length l.rows)) (take l.row-index l.rows)
