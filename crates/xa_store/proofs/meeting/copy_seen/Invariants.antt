use Rattle.std.proofs.Common.{◌≡◌, take}
use Rattle.xa_store.proofs.meeting.copy_seen.Given as goal

abbrev pub invariant-loop-at : goal.invariant-loop-at
invariant-loop-at g l =
    (l.session.base.now ≡ l.fn.session.base.now)
    × (g.L.DecisionLog.belongs_to l.session.pass ≡ g.L.DecisionLog.belongs_to l.fn.session.pass)
    × (g.L.DecisionLog.known l.session.pass ≡ g.L.DecisionLog.known l.fn.session.pass)
    × (l.list.items ≡ take l.at (g.L.DecisionLog.known l.fn.session.pass).seen)
