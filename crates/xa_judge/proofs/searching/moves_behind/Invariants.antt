use Rattle.std.proofs.Common.{◌+◌, length}
use Rattle.xa_judge.specs.Told.{ArePasses}
use Rattle.xa_judge.proofs.searching.moves_behind.Given as goal

-- the events were reported in passes
abbrev pub invariant-loop-width : goal.invariant-loop-width
invariant-loop-width g l =
    ArePasses g.P.Progress.judged_gives (l.before + length l.events) l.initial.progress l.progress
