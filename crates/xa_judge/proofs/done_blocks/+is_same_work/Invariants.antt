use Rattle.std.proofs.Common.{length}
use Rattle.xa_judge.proofs.done_blocks.+is_same_work.Given as goal

abbrev pub decreases-is_same_work : goal.decreases-is_same_work
decreases-is_same_work l = length l.left.now
