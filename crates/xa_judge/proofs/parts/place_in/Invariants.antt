use Rattle.std.proofs.Common.{◌≡◌, ◌≤◌, take}
use Rattle.xa_judge.specs.Keys.{count_in}
use Rattle.xa_judge.proofs.parts.place_in.Given as goal

-- those before the place are counted
abbrev pub invariant-loop-place : goal.invariant-loop-place
invariant-loop-place l = (l.count ≡ count_in l.wanted (take l.place l.sides)) × (l.count ≤ l.place)
