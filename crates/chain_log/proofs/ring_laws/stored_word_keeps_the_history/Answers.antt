use Rattle.chain_log.proofs.RingStores.{next_keeps}
use Rattle.chain_log.proofs.ring_laws.stored_word_keeps_the_history.Goals as goal

pub returns : goal.returns
returns c sizes words views rule = next_keeps rule
