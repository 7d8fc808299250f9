use Rattle.std.proofs.Common.{◌≡◌, ◌+◌, ◌++◌, drop}
use Rattle.xa_orders.specs.Scripts.{outcomes_text}
use Rattle.xa_orders.proofs.explored_text.push_outcomes.Given as goal

abbrev pub invariant-loop-place : goal.invariant-loop-place
invariant-loop-place l =
    l.initial.text.items ++ outcomes_text 1 l.outcomes ≡ l.text.items
    ++ outcomes_text (l.place + 1) (drop l.place l.outcomes)
