use Rattle.std.proofs.Common.{◌≡◌, ◌≤◌, length, map, vec_len, vec_capacity}
use Rattle.xa_store.proofs.leaving.leave_all.Given as goal

abbrev pub invariant-loop-session : goal.invariant-loop-session
invariant-loop-session l =
    (l.passes.items ≡ map (λ session. session.pass) l.yielded)
    × (vec_len l.passes ≡ length l.yielded)
    × (length l.fn.sessions.items ≤ vec_capacity l.passes)
