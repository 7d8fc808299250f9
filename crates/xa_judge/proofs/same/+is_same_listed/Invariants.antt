use Rattle.std.proofs.Common.{length}
use Rattle.xa_judge.proofs.same.+is_same_listed.Given as goal

abbrev pub decreases-is_same_listed : goal.decreases-is_same_listed
decreases-is_same_listed l = length l.left.now
