use Rattle.chain_log.proofs.ChainEvents.{chain_steps}
use Rattle.chain_log.proofs.laws.step_is_an_event.Goals as goal

pub returns : goal.returns
returns c sizes words words' views before id step found old new after =
    chain_steps sizes words views before words' id step found old new after
