use Rattle.chain_log.proofs.RingLaws.{named_log}
use Rattle.chain_log.proofs.ring_laws.stored_name_keeps_the_history.Goals as goal

pub returns : goal.returns
returns c sizes words views rule = named_log rule
