use Rattle.std.proofs.Common.{length}
use Rattle.xa_store_tests.proofs.runs.lines_of.Given as goal

abbrev pub decreases-loop-rest : goal.decreases-loop-rest
decreases-loop-rest g l = length l.rest
