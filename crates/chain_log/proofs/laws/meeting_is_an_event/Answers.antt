use Rattle.chain_log.proofs.ChainEvents.{chain_meets}
use Rattle.chain_log.proofs.laws.meeting_is_an_event.Goals as goal

pub returns : goal.returns
returns c sizes words views before id first second seen after =
    chain_meets sizes words views before id first second seen after
