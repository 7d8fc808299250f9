use Rattle.std.proofs.Common.{◌≡◌, length}
use Rattle.xa_record.proofs.state_branches.take_branches.Given as goal

abbrev pub invariant-loop-rest : goal.invariant-loop-rest
invariant-loop-rest l = l.server.rows ≡ l.fn.server.rows

abbrev pub decreases-loop-rest : goal.decreases-loop-rest
decreases-loop-rest l = length l.rest
