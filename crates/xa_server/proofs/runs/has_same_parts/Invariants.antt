use Rattle.std.proofs.Common.{◌≡◌, length}
use Rattle.xa_server.proofs.runs.has_same_parts.Given as goal

-- where what is left of both is the same, both are
abbrev pub invariant-loop-part : goal.invariant-loop-part
invariant-loop-part l = l.left ≡ l.rest → l.parts ≡ l.others

abbrev pub decreases-loop-part : goal.decreases-loop-part
decreases-loop-part l = length l.left
