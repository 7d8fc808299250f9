use Rattle.std.{proofs.Common.{◌≡◌, ◌<◌, ◌+◌, take, length}, specs.List.All}
use Rattle.xa_judge.specs.{Explained.Config, Late.IsKept, Found.{Has, Reaches}}
use Rattle.xa_judge.specs.Told.{AreReports, IsComplete, IsSizeOfKept}
use Rattle.xa_judge.proofs.ways.judge_in_breadth.Given as goal

-- what was seen leads to each of the list, by acts as late as they can be, and what is still explained goes on from
-- it; all that was seen was reported before
abbrev pub invariant-loop-place : goal.invariant-loop-place
invariant-loop-place g l = record {
  some : 0 < length l.known.items;
  one : l.place ≡ 0 → length l.known.items ≡ 1;
  reach : All (Reaches l.base (take l.place l.events) l.trunk.items) l.known.items;
  complete : IsComplete l.base (take l.place l.events) l.known.items;
  kept : (config : Config) → Has l.known.items config → IsKept l.base l.events l.place config;
  told :
      AreReports g.P.Progress.judged_gives (IsSizeOfKept l.base l.events) l.before (l.before + length l.events)
      l.initial.progress l.place l.progress;
}
