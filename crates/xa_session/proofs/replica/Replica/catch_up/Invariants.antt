use Rattle.std.proofs.Common.{◌≡◌, ◌≤◌}
use Rattle.xa_session.specs.Replay.{Stands}
use Rattle.xa_session.proofs.replica.Replica.catch_up.Given as goal

abbrev pub invariant-loop : goal.invariant-loop
invariant-loop g l = record {
  belongs : g.L.DecisionLog.belongs_to l.pass ≡ g.L.DecisionLog.belongs_to l.fn.pass;
  known : g.L.DecisionLog.known l.pass ≡ g.L.DecisionLog.known l.fn.pass;
  stands : Stands l.base (g.L.DecisionLog.known l.pass).seen l.self;
  folds : l.fn.self.replayed ≤ l.self.replayed;
  replayed : l.self.replayed ≡ l.counter;
}
