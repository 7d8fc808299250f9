use Rattle.std.proofs.Common.{length}
use Rattle.xa_record.specs.States.{NamesAllRows}
use Rattle.xa_record.proofs.state_rows.take_rows.Given as goal

abbrev pub invariant-loop-rest : goal.invariant-loop-rest
invariant-loop-rest l = NamesAllRows l.fn.keys.items l.fn.server → NamesAllRows l.keys.items l.server

abbrev pub decreases-loop-rest : goal.decreases-loop-rest
decreases-loop-rest l = length l.rest
