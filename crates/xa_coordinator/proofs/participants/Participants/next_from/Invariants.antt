use Rattle.std.proofs.Common.{◌≡◌, ◌<◌, ◌≤◌, ℕ, false}
use Rattle.xa_coordinator.specs.Participants.{takes_part}
use Rattle.xa_coordinator.proofs.participants.Participants.next_from.Given as goal

abbrev pub invariant-loop-store : goal.invariant-loop-store
invariant-loop-store l = (other : ℕ) → l.from ≤ other → other < l.store → takes_part l.self other ≡ false
