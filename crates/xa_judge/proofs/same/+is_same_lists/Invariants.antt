use Rattle.std.proofs.Common.{length}
use Rattle.xa_judge.proofs.same.+is_same_lists.Given as goal

abbrev pub decreases-is_same_lists : goal.decreases-is_same_lists
decreases-is_same_lists l = length l.left.now
