use Rattle.chain_log.proofs.RingLaws.{won_log}
use Rattle.chain_log.proofs.ring_laws.won_exchange_adds_its_entry.Goals as goal

pub returns : goal.returns
returns c sizes words views rule = won_log rule
