use Rattle.std.proofs.Common.{◌≡◌, length}
use Rattle.xa_judge.proofs.hints.no_places.Given as goal

-- so many
abbrev pub invariant-loop : goal.invariant-loop
invariant-loop l = length l.places.items ≡ l.counter
