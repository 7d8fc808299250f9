use Rattle.std.proofs.Common.{◌≡◌}
use Rattle.xa_script.proofs.watch.Watch.look_at_each.Given as goal

abbrev pub invariant-loop-byte : goal.invariant-loop-byte
invariant-loop-byte g l = l.self.inner ≡ l.fn.self.inner
