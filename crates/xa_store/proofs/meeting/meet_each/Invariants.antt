use Rattle.std.{proofs.Common.{◌≡◌, length, vec_capacity}, specs.List.All}
use Rattle.decision_log.specs.Calls.{MeetsFirst}
use Rattle.xa_store.proofs.Gathering.{Round}
use Rattle.xa_store.proofs.meeting.meet_each.Given as goal

abbrev pub invariant-loop-index : goal.invariant-loop-index
invariant-loop-index g l =
    Round (λ session. g.L.DecisionLog.known session.pass)
    (λ old new. (new.base.now ≡ old.base.now) × (g.L.DecisionLog.belongs_to new.pass
    ≡ g.L.DecisionLog.belongs_to old.pass)
    × MeetsFirst (g.L.DecisionLog.known old.pass) (g.L.DecisionLog.known new.pass))
    l.fn.others.items l.others.items (g.L.DecisionLog.known l.fn.last.pass) (g.L.DecisionLog.known l.last.pass) l.index
    × All (λ session. g.L.DecisionLog.belongs_to session.pass ≡ g.L.DecisionLog.belongs_to l.last.pass) l.others.items
    × (l.last.base.now ≡ l.fn.last.base.now)
    × (g.L.DecisionLog.belongs_to l.last.pass ≡ g.L.DecisionLog.belongs_to l.fn.last.pass)
    × (length l.others.items ≡ length l.fn.others.items)
    × (vec_capacity l.others ≡ vec_capacity l.fn.others)
