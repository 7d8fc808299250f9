use Rattle.std.{proofs.Common.take, specs.List.All}
use Rattle.xa_judge.specs.Near.{named_in, CallsNamed}
use Rattle.xa_judge.proofs.near.all_named.Given as goal

-- so it is with those before the place
abbrev pub invariant-loop-event : goal.invariant-loop-event
invariant-loop-event l = All (CallsNamed (named_in l.keys)) (take l.event-index l.events)
