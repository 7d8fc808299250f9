use Rattle.std.proofs.Common.{◌≡◌}
use Rattle.xa_store_tests.proofs.adders.add.Given as goal

abbrev pub invariant-loop : goal.invariant-loop
invariant-loop g l = record {
  belongs : g.L.DecisionLog.belongs_to l.pass ≡ g.L.DecisionLog.belongs_to l.fn.pass;
  identity : g.L.DecisionLog.belongs_to l.pass ≡ g.L.DecisionLog.identity l.log;
  number : (g.L.DecisionLog.known l.pass).number ≡ (g.L.DecisionLog.known l.fn.pass).number;
}
