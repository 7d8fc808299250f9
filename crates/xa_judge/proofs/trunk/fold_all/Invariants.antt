use Rattle.std.proofs.Common.{◌≡◌}
use Rattle.xa_judge.proofs.trunk.fold_all.Given as goal

-- each stands as it did
abbrev pub invariant-loop-place : goal.invariant-loop-place
invariant-loop-place l = l.known.items ≡ l.initial.known.items
