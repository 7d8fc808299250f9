use Rattle.std.proofs.Common.{◌≡◌, length}
use Rattle.xa_server.proofs.part.has_same_runs.Given as goal

-- where what is left of both is the same, both are
abbrev pub invariant-loop-run : goal.invariant-loop-run
invariant-loop-run l = l.left ≡ l.rest → l.list ≡ l.others

abbrev pub decreases-loop-run : goal.decreases-loop-run
decreases-loop-run l = length l.left
