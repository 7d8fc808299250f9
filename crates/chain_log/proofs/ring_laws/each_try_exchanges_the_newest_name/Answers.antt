use Rattle.decision_log.proofs.Counting.{try_is}
use Rattle.chain_log.specs.RingRule.{try_word, newest_for}
use Rattle.chain_log.proofs.ring_laws.each_try_exchanges_the_newest_name.Goals as goal

pub returns : goal.returns
returns c = try_is newest_for try_word
