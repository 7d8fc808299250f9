use Rattle.std.{proofs.Common.{◌≡◌, ℕ, ◌-◌, suc, length, get_or}, specs.Prelude.None}
use Rattle.xa_audit.proofs.owned.make_place.Given as goal

-- each session owns what it owned
abbrev pub invariant-loop-session : goal.invariant-loop-session
invariant-loop-session l = (at : ℕ) → get_or l.places.items at None ≡ get_or l.fn.places.items at None

abbrev pub decreases-loop-session : goal.decreases-loop-session
decreases-loop-session l = suc l.session - length l.places.items
