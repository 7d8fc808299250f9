use Rattle.std.proofs.Common.{◌≡◌, length}
use Rattle.xa_store_tests.proofs.playing.first_difference.Given as goal

abbrev pub decreases-loop-rest : goal.decreases-loop-rest
decreases-loop-rest g l = length l.rest

abbrev pub invariant-loop-rest : goal.invariant-loop-rest
invariant-loop-rest g l = record {
  first : g.L.DecisionLog.belongs_to l.first.pass ≡ g.L.DecisionLog.belongs_to l.fn.first.pass;
  second : g.L.DecisionLog.belongs_to l.second.pass ≡ g.L.DecisionLog.belongs_to l.fn.second.pass;
}
