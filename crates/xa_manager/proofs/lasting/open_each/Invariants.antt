use Rattle.std.proofs.Common.{◌≡◌, ◌≤◌, ◌<◌, ◌-◌, ◌^◌, ℕ, All, length, vec_len}
use Rattle.xa_coordinator.specs.Lasting.{own_view, other_alone}
use Rattle.xa_manager.specs.{Limits.Passes, Whole.IsPair}
use Rattle.xa_manager.proofs.lasting.open_each.Given as goal

abbrev pub invariant-loop-alloc : goal.invariant-loop-alloc
invariant-loop-alloc l = record {
  within : vec_len l.sessions ≤ l.count;
  nobody : vec_len l.nobody ≡ vec_len l.sessions;
  pairs : All (λ session. IsPair (own_view session.inner) (other_alone session.inner)) l.sessions.items;
  passes : (store : ℕ) → store < length l.sessions.items → Passes store (2 ^ 64 - 1) l.sessions.items;
}

abbrev pub decreases-loop-alloc : goal.decreases-loop-alloc
decreases-loop-alloc l = l.count - vec_len l.sessions
