use Rattle.std.proofs.Common.{◌≤◌, ◌-◌}
use Rattle.xa_judge.specs.{Explained.Config, Late.IsReachedFrom, Found.{Has, Grows, IsClosedBelow}}
use Rattle.xa_judge.proofs.closing.close.Given as goal

-- the list has grown, only by acts that count, and is closed before the place
abbrev pub invariant-loop-place : goal.invariant-loop-place
invariant-loop-place l = record {
  grows : Grows l.initial.known.items l.known.items;
  closed : IsClosedBelow l.place l.returning l.known.items;
  within : l.place ≤ l.known.len;
  only : (config : Config) → Has l.known.items config → IsReachedFrom (Has l.initial.known.items) l.returning config;
}

abbrev pub decreases-loop-place : goal.decreases-loop-place
decreases-loop-place l = 18446744073709551615 - l.place
