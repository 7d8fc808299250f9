use Rattle.chain_log.proofs.RingEvents.{ring_meets}
use Rattle.chain_log.proofs.ring_laws.meeting_is_an_event.Goals as goal

pub returns : goal.returns
returns c sizes words views before id first second seen =
    ring_meets sizes words views before id first second seen
