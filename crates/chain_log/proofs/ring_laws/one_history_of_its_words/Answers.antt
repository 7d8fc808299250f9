use Rattle.chain_log.proofs.RingLaws.{one_length_of, one_history}
use Rattle.chain_log.proofs.ring_laws.one_history_of_its_words.Goals as goal

pub returns : goal.returns
returns c sizes words views views' one other = (one_length_of one other, one_history one other)
