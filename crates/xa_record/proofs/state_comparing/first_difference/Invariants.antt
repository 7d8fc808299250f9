use Rattle.std.proofs.Common.{length}
use Rattle.xa_record.proofs.state_comparing.first_difference.Given as goal

abbrev pub decreases-loop-left_rest : goal.decreases-loop-left_rest
decreases-loop-left_rest l = length l.left_rest
