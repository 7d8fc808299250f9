use Rattle.std.proofs.Common.{◌≡◌, length}
use Rattle.xa_server.proofs.run.has_same_rows.Given as goal

-- where what is left of both is the same, both are
abbrev pub invariant-loop-row : goal.invariant-loop-row
invariant-loop-row l = l.left ≡ l.rest → l.fn.rows ≡ l.fn.others

abbrev pub decreases-loop-row : goal.decreases-loop-row
decreases-loop-row l = length l.left
