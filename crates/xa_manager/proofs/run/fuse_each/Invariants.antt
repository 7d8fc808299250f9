use Rattle.std.proofs.Common.{◌≡◌, ◌<◌, ◌-◌, ◌^◌, ℕ, vec_len, length, map}
use Rattle.xa_manager.specs.Limits.{Passes}
use Rattle.xa_manager.proofs.run.fuse_each.Given as goal

abbrev pub invariant-loop-session : goal.invariant-loop-session
invariant-loop-session g l = record {
  count : vec_len l.fused ≡ length l.yielded;
  within : map (λ session. session.inner) l.fused.items ≡ l.yielded;
  passes : (store : ℕ) → store < length l.fused.items → Passes store (2 ^ 64 - 1) l.fused.items;
}
