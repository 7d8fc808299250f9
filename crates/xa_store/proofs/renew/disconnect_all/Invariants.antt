use Rattle.std.proofs.Common.{◌≡◌}
use Rattle.xa_store.specs.Renewal.{disconnected}
use Rattle.xa_store.proofs.renew.disconnect_all.Given as goal

abbrev pub invariant-loop-index : goal.invariant-loop-index
invariant-loop-index l = l.server ≡ disconnected l.index l.fn.server
