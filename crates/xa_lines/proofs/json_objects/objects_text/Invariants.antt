use Rattle.std.proofs.Common.{◌≡◌, ◌++◌, length}
use Rattle.xa_lines.specs.{Script.lines_of, Objects.objects_of}
use Rattle.xa_lines.proofs.json_objects.objects_text.Given as goal

abbrev pub invariant-loop-rest : goal.invariant-loop-rest
invariant-loop-rest l = objects_of (lines_of l.text) ≡ l.objects.items ++ objects_of (lines_of l.rest)

abbrev pub decreases-loop-rest : goal.decreases-loop-rest
decreases-loop-rest l = length l.rest
