-- Marks of the stores that take part.
use Rattle.std.proofs.{Common.{◌≡◌, ◌≤◌, ℕ, false, length, ap, arith}, lemmas.Option.slice_get_past}
use Rattle.std.specs.Prelude.{unwrap_or}
use Rattle.xa_coordinator.specs.{declared.participants.Participants.Participants, Participants.takes_part}

-- no store from the sixteenth on takes part: there are at most 16
pub beyond : (participants : Participants) (store : ℕ) → 16 ≤ store → length participants.members ≡ 16
    → takes_part participants store ≡ false
unfolding takes_part
beyond participants store past sixteen =
    ap (λ found. unwrap_or found false) (slice_get_past participants.members store (omega arith))
