use Rattle.chain_log.proofs.RingEvents.{ring_steps}
use Rattle.chain_log.proofs.ring_laws.step_is_an_event.Goals as goal

pub returns : goal.returns
returns c sizes words words' views before id old new =
    ring_steps sizes words views before id old words' new
