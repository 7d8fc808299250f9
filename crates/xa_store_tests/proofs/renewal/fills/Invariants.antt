use Rattle.std.proofs.Common.{◌≡◌}
use Rattle.xa_store.specs.Passes.{log_of}
use Rattle.xa_store_tests.proofs.renewal.fills.Given as goal

abbrev pub invariant-loop-place : goal.invariant-loop-place
invariant-loop-place g l = log_of l.session.pass ≡ log_of l.fn.session.pass
