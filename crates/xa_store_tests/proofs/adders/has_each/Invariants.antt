use Rattle.std.proofs.Common.{◌≡◌, length}
use Rattle.xa_store_tests.proofs.adders.has_each.Given as goal

abbrev pub invariant-loop-at : goal.invariant-loop-at
invariant-loop-at g l = record {
  belongs : g.L.DecisionLog.belongs_to l.pass ≡ g.L.DecisionLog.belongs_to l.fn.pass;
  identity : g.L.DecisionLog.belongs_to l.pass ≡ g.L.DecisionLog.identity l.log;
  known : g.L.DecisionLog.known l.pass ≡ g.L.DecisionLog.known l.fn.pass;
  end : l.at-end ≡ length (g.L.DecisionLog.known l.fn.pass).seen;
}
