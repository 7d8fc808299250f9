use Rattle.std.proofs.Common.{◌≡◌, ℕ, ◌<◌, get_or, None}
use Rattle.xa_races.specs.declared.racer.Raced.{Raced}
use Rattle.xa_races.proofs.parting.first_fault.Given as goal

abbrev pub invariant-loop-one : goal.invariant-loop-one
invariant-loop-one l = (k : ℕ) (d : Raced) → k < l.one-index → (get_or l.raced k d).fault ≡ None
