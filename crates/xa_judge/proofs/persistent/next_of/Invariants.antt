use Rattle.std.proofs.Common.{ℕ, ◌<◌}
use Rattle.xa_judge.specs.{Explained.IsSession, Persistent.IsIn}
use Rattle.xa_judge.proofs.persistent.next_of.Given as goal

-- those of the set with smaller numbers are done
abbrev pub invariant-loop-number : goal.invariant-loop-number
invariant-loop-number l = (session : ℕ) → session < l.number → IsSession session → IsIn l.all session
    → IsIn l.done session
