use Rattle.std.proofs.Common.{◌≤◌, ◌+◌}
use Rattle.xa_session.specs.{Answer.IsUnanswered, Stays.Stays}
use Rattle.xa_session.proofs.session.Session.execute.Given as goal

abbrev pub invariant-loop : goal.invariant-loop
invariant-loop g l = record {
  can : (goal.iterator-loop g).can_next l.iterator';
  finite : (goal.iterator-loop g).is_finite l.iterator';
  stays : Stays l.fn.self l.self;
  unanswered : IsUnanswered (g.L.DecisionLog.known l.fn.self.pass) (g.L.DecisionLog.known l.self.pass);
  looks : (g.L.DecisionLog.known l.self.pass).tries + (g.L.DecisionLog.known l.fn.self.pass).looks
      ≤ (g.L.DecisionLog.known l.self.pass).looks + (g.L.DecisionLog.known l.fn.self.pass).tries;
}
