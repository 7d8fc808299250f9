-- Before anything has begun.
use Rattle.std.proofs.Common.{◌≡◌, ℕ, [], false, None, arith}
use Rattle.xa_coordinator.specs.Decisions.{decision_of, is_decided}
use Rattle.xa_manager.specs.Ledger.{stage_of}

-- before the first BEGIN no transaction has a stage
pub none_begun : (number : ℕ) → stage_of [] number ≡ None
unfolding stage_of
none_begun number = grind arith

-- before the first BEGIN no number is decided
pub none_decided : (number : ℕ) → is_decided [] number ≡ false
unfolding decision_of
none_decided number = grind arith
