use Rattle.std.{proofs.Common.{◌≡◌, length, None}, specs.List.All}
use Rattle.xa_races.proofs.assembling.empty_places.Given as goal

abbrev pub invariant-loop : goal.invariant-loop
invariant-loop l = (length l.places.items ≡ l.counter) × All (λ place. place ≡ None) l.places.items
