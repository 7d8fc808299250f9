use Rattle.std.proofs.Common.{length}
use Rattle.xa_store_tests.proofs.sweeps.replies.Given as goal

abbrev pub decreases-loop-rt : goal.decreases-loop-rt
decreases-loop-rt g l = length l.rest
