use Rattle.std.proofs.Common.{◌≡◌, ◌++◌, length}
use Rattle.xa_lines.specs.{Script.lines_of, Uncommented.bare_lines}
use Rattle.xa_lines.proofs.comments.without_comments.Given as goal

abbrev pub invariant-loop-rest : goal.invariant-loop-rest
invariant-loop-rest l = bare_lines (lines_of l.script) ≡ l.text.items ++ bare_lines (lines_of l.rest)

abbrev pub decreases-loop-rest : goal.decreases-loop-rest
decreases-loop-rest l = length l.rest
