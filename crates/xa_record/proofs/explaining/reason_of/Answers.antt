use Rattle.std.proofs.Common.{take}
use Rattle.xa_record.proofs.Reasons.{found_lead}
use Rattle.xa_record.proofs.explaining.reason_of.Goals as goal

pub reason_by-requires-clause-lead : goal.reason_by-requires-clause-lead
reason_by-requires-clause-lead g c =
    found_lead c.args.base.now c.in_ok-found.found (take c.args.place c.args.events.now) c.args.asked.limit
    c.in-Some.moves c.as_slice.result.now c.in_ok-found.ensures c.in-Some.is c.as_slice.ensures.value
