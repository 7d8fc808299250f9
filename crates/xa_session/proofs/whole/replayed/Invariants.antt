use Rattle.std.proofs.Common.{◌≡◌}
use Rattle.xa_session.specs.Replay.{Stands}
use Rattle.xa_session.proofs.whole.replayed.Given as goal

abbrev pub invariant-loop-at : goal.invariant-loop-at
invariant-loop-at g l =
    (g.L.DecisionLog.belongs_to l.pass ≡ g.L.DecisionLog.belongs_to l.fn.pass)
    × (g.L.DecisionLog.known l.pass ≡ g.L.DecisionLog.known l.fn.pass)
    × (l.replica.replayed ≡ l.at)
    × Stands l.base (g.L.DecisionLog.known l.fn.pass).seen l.replica
