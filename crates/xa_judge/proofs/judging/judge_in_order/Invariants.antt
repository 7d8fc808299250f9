use Rattle.std.proofs.Common.{length}
use Rattle.xa_judge.specs.Told.{ArePasses}
use Rattle.xa_judge.proofs.judging.judge_in_order.Given as goal

-- the ways before this one found nothing, and reported passes alone
abbrev pub invariant-loop-way : goal.invariant-loop-way
invariant-loop-way g l = ArePasses g.P.Progress.judged_gives (length l.events) l.initial.progress l.progress
