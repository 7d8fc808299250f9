use Rattle.std.proofs.Common.{◌≡◌}
use Rattle.xa_store_tests.proofs.adders.add_each.Given as goal

abbrev pub invariant-loop-step : goal.invariant-loop-step
invariant-loop-step g l = record {
  belongs : g.L.DecisionLog.belongs_to l.pass ≡ g.L.DecisionLog.identity l.log;
  number : l.session ≡ (g.L.DecisionLog.known l.pass).number;
}
