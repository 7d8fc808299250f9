use Rattle.std.proofs.Common.{◌≡◌, ◌<◌, ◌+◌, length}
use Rattle.xa_judge.specs.Told.{AreReports, IsSize}
use Rattle.xa_judge.proofs.searching.moves_within.Given as goal

-- something is kept, at first one configuration; all that was seen was reported before
abbrev pub invariant-loop-place : goal.invariant-loop-place
invariant-loop-place g l = record {
  some : 0 < length l.beam.known.items;
  one : l.place ≡ 0 → length l.beam.known.items ≡ 1;
  told :
      AreReports g.P.Progress.judged_gives IsSize l.before (l.before + length l.events) l.initial.progress l.place
      l.progress;
}
