use Rattle.std.proofs.Common.{◌≡◌, ◌≤◌, take, length, vec_len, vec_capacity}
use Rattle.xa_store.{specs.Legal.LetsIn, proofs.Legality.IsOnTheWay}
use Rattle.xa_store.proofs.answering.answers_to.Given as goal

abbrev pub invariant-loop-index : goal.invariant-loop-index
invariant-loop-index g l =
    (l.session.base.now ≡ l.fn.session.base.now)
    × (g.L.DecisionLog.belongs_to l.session.pass ≡ g.L.DecisionLog.belongs_to l.fn.session.pass)
    × IsOnTheWay l.fn.session.base.now (g.L.DecisionLog.known l.fn.session.pass) (g.L.DecisionLog.known l.session.pass)
    (take l.index l.lines) l.answers.items
    × (vec_len l.answers ≡ l.index)
    × (length l.lines ≤ vec_capacity l.answers)
    × LetsIn (g.G.Gate.may_answer l.fn.gate) (g.L.DecisionLog.known l.fn.session.pass).number l.index
