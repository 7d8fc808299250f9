use Rattle.std.proofs.Common.{◌≡◌, length}
use Rattle.xa_store_tests.proofs.playing.has_history.Given as goal

abbrev pub invariant-loop-at : goal.invariant-loop-at
invariant-loop-at g l = record {
  belongs : g.L.DecisionLog.belongs_to l.session.pass ≡ g.L.DecisionLog.belongs_to l.fn.session.pass;
  end : l.at-end ≡ length (g.L.DecisionLog.known l.session.pass).seen;
}
