use Rattle.std.proofs.Common.{length}
use Rattle.xa_judge.proofs.by_keys.+judge_rows.Given as goal

-- the rows that are left
abbrev pub decreases-judge_rows : goal.decreases-judge_rows
decreases-judge_rows l = length l.keys.now
