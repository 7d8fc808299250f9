use Rattle.std.proofs.Common.{◌++◌, ◌∙◌, List, ℕ, sym, ap, append-nil, decimal}
use Rattle.xa_orders.{specs.Scripts.sessions_text, proofs.Scripts.{sessions_step, sessions_end}}
use Rattle.xa_orders.proofs.explored_text.push_sessions.Goals as goal

pub loop-session-preserved : goal.loop-session-preserved
loop-session-preserved c =
    sessions_step c.args.order.now c.loop-session.session-index c.session-item.result
    (c.args.text.now.items ++ sessions_text c.args.order.now)
    c.loop-session.text.items c.extend_from_slice.new.self.items c.push_number.new.text.items c.loop-session-test.true
    c.session-item.is
    c.in_ok-extend_from_slice.ensures.items
    (c.in_ok-push_number.ensures ∙ ap (λ n. c.extend_from_slice.new.self.items ++ decimal n) c.get.ensures.value)
    c.loop-session.invariant

pub returns : goal.returns
returns c =
    sym
    (c.loop-session.invariant
    ∙ ap (λ (t : List ℕ). c.loop-session.text.items ++ t)
    (sessions_end c.args.order.now c.loop-session.session-index c.loop-session-test.false)
    ∙ append-nil c.loop-session.text.items)
