use Rattle.std.proofs.Common.{drop}
use Rattle.xa_judge.specs.{Explained.Config, Found.Has, Foreseen.{hints_of, GoesOn}}
use Rattle.xa_judge.proofs.foreseen.sweep_on.Given as goal

-- where moves go on to an end from what was kept, some go on from what is kept through the events from the place on, to
-- the same answers
abbrev pub invariant-loop-place : goal.invariant-loop-place
invariant-loop-place l = (end : Config)
    → GoesOn (hints_of l.events l.fn.front.places.items) (Has l.fn.front.known.items) (drop l.from l.events) end
    → GoesOn (hints_of l.events l.places.items) (Has l.known.items) (drop l.place l.events) end
