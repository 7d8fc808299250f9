use Rattle.std.proofs.Common.{◌≡◌, ◌++◌, drop}
use Rattle.xa_judge.specs.Keys.{picked}
use Rattle.xa_judge.proofs.parts.pick.Given as goal

-- those before the place are picked
abbrev pub invariant-loop-place : goal.invariant-loop-place
invariant-loop-place l =
    l.part.items ++ picked l.wanted (drop l.place l.sides) (drop l.place l.events) ≡ picked l.wanted l.sides l.events
