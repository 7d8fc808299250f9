use Rattle.std.proofs.Common.{◌≡◌, length}
use Rattle.xa_store_tests.proofs.trying.tries.Given as goal

abbrev pub decreases-loop-rt : goal.decreases-loop-rt
decreases-loop-rt g l = length l.rest

abbrev pub invariant-loop-rt : goal.invariant-loop-rt
invariant-loop-rt g l = record {
  first : g.L.DecisionLog.belongs_to l.first ≡ g.L.DecisionLog.belongs_to l.fn.first;
  second : g.L.DecisionLog.belongs_to l.second ≡ g.L.DecisionLog.belongs_to l.fn.second;
}
