use Rattle.std.proofs.Common.{◌≡◌, length}
use Rattle.xa_lines.specs.{Script.lines_of, Uncommented.begins_commented}
use Rattle.xa_lines.proofs.comments.begins_with_comment.Given as goal

abbrev pub invariant-loop-rest : goal.invariant-loop-rest
invariant-loop-rest l = begins_commented (lines_of l.script) ≡ begins_commented (lines_of l.rest)

abbrev pub decreases-loop-rest : goal.decreases-loop-rest
decreases-loop-rest l = length l.rest
