use Rattle.std.proofs.Common.{◌≡◌, ◌++◌, drop}
use Rattle.xa_lines.specs.Script.{lines_of}
use Rattle.xa_record.specs.Shrinking.{chosen_text}
use Rattle.xa_record.proofs.chosen_lines.chosen_text.Given as goal

abbrev pub invariant-loop-kept : goal.invariant-loop-kept
invariant-loop-kept l =
    chosen_text l.keeps (lines_of l.text) ≡ l.out.items ++ chosen_text (drop l.kept-index l.keeps) (lines_of l.rest)
