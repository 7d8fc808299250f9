-- Servers that are kept as the statements that lead to them.
use Rattle.std.specs.Prelude.{List, fold}
use Rattle.xa_server.specs.{State.State, Step.after}
use Rattle.xa_orders.specs.declared.done.Done.{Done}

-- the state after a statement that was carried out
abbrev pub state_after : State → Done → State
state_after state done = after state done.session done.statement

-- the state after all statements of the list were carried out in this state, in order
abbrev pub state_since : State → List Done → State
state_since state since = fold state_after state since
