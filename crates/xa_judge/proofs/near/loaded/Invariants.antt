use Rattle.std.proofs.Common.{◌≡◌, List, ◌++◌, length}
use Rattle.xa_judge.specs.{declared.event.Event.Event, Near.{named_in, AreNear, IsLoadedTo}}
use Rattle.xa_judge.proofs.near.loaded.Given as goal

-- what was seen leads to the full server, and the other is near it
abbrev pub invariant-loop-rest : goal.invariant-loop-rest
invariant-loop-rest l =
    (seen : List Event) × (l.first ≡ seen ++ l.rest) × IsLoadedTo l.base seen l.full
    × AreNear (named_in l.keys) l.full l.near

abbrev pub decreases-loop-rest : goal.decreases-loop-rest
decreases-loop-rest l = length l.rest
