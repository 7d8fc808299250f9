use Rattle.chain_log.proofs.Chains.{one_chain}
use Rattle.chain_log.proofs.laws.one_history_of_its_words.Goals as goal

pub returns : goal.returns
returns c = one_chain
