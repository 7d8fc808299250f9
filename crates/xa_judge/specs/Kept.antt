-- Servers that are kept as the requests that they carried out.
use Rattle.std.specs.Prelude.{List, fold}
use Rattle.xa_server.specs.State.{State}
use Rattle.xa_judge.specs.{declared.done.Done.Done, Explained.next_state}

-- the state after a request that was carried out
abbrev pub state_after : State → Done → State
state_after state done = next_state state done.session done.request

-- the state after all of the requests, in order
abbrev pub state_since : State → List Done → State
state_since state since = fold state_after state since

-- the state after the requests of all blocks, in order
abbrev pub state_past : State → List (List Done) → State
state_past state blocks = fold state_since state blocks
