use Rattle.std.proofs.Common.{All, length}
use Rattle.xa_manager.specs.Calls.{IsWritten}
use Rattle.xa_manager.proofs.stops.read_calls.Given as goal

abbrev pub invariant-loop-rest : goal.invariant-loop-rest
invariant-loop-rest l = All IsWritten l.calls.items

abbrev pub decreases-loop-rest : goal.decreases-loop-rest
decreases-loop-rest l = length l.rest
