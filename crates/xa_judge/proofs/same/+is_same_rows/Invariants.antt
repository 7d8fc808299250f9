use Rattle.std.proofs.Common.{length}
use Rattle.xa_judge.proofs.same.+is_same_rows.Given as goal

abbrev pub decreases-is_same_rows : goal.decreases-is_same_rows
decreases-is_same_rows l = length l.left.now
