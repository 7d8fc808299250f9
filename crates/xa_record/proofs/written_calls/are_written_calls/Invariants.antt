use Rattle.std.{proofs.Common.take, specs.List.All}
use Rattle.xa_record.specs.Replaying.{IsWrittenCall}
use Rattle.xa_record.proofs.written_calls.are_written_calls.Given as goal

abbrev pub invariant-loop-event : goal.invariant-loop-event
invariant-loop-event l = All IsWrittenCall (take l.event-index l.events)
