use Rattle.std.proofs.Common.{◌≡◌, ◌++◌, drop}
use Rattle.xa_orders.specs.Scripts.{sessions_text}
use Rattle.xa_orders.proofs.explored_text.push_sessions.Given as goal

abbrev pub invariant-loop-session : goal.invariant-loop-session
invariant-loop-session l =
    l.initial.text.items ++ sessions_text l.order ≡ l.text.items ++ sessions_text (drop l.session-index l.order)
