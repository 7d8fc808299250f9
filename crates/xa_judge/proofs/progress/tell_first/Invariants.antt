use Rattle.std.proofs.Common.{length}
use Rattle.xa_judge.specs.Told.{AreReports, IsSize}
use Rattle.xa_judge.proofs.progress.tell_first.Given as goal

-- the events before the place were told
abbrev pub invariant-loop-place : goal.invariant-loop-place
invariant-loop-place g l =
    AreReports g.P.Progress.judged_gives IsSize 0 (length l.events) l.initial.progress l.place l.progress
