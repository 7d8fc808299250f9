use Rattle.std.proofs.Common.{◌≡◌, ◌+◌, ◌≤◌, length}
use Rattle.xa_lines.specs.Script.{lines_of}
use Rattle.xa_record.specs.{Reading.{no_notes, noted_lines}, Kept.notes_kept}
use Rattle.xa_record.proofs.reading.read_notes.Given as goal

abbrev pub invariant-loop-rest : goal.invariant-loop-rest
invariant-loop-rest l = record {
  read : noted_lines l.strict no_notes 1 (lines_of l.text)
      ≡ noted_lines l.strict (notes_kept l.notes) (l.number + 1) (lines_of l.rest);
  short : l.number + length l.rest ≤ length l.text;
}

abbrev pub decreases-loop-rest : goal.decreases-loop-rest
decreases-loop-rest l = length l.rest
