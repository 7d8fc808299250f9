use Rattle.chain_log.proofs.RingLaws.{spelled_last}
use Rattle.chain_log.proofs.ring_laws.words_spell_the_last_entries.Goals as goal

pub returns : goal.returns
returns c sizes words views rule = spelled_last rule
