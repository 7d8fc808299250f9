use Rattle.std.proofs.Common.{◌≡◌, ◌≤◌, take}
use Rattle.xa_judge.specs.Keys.{count_in}
use Rattle.xa_judge.proofs.parts.count_before.Given as goal

-- those before the place are counted
abbrev pub invariant-loop-index : goal.invariant-loop-index
invariant-loop-index l = (l.count ≡ count_in l.wanted (take l.index l.sides)) × (l.count ≤ l.index)
