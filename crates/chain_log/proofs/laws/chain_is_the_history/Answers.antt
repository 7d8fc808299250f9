use Rattle.chain_log.proofs.Chains.{chain_of}
use Rattle.chain_log.proofs.laws.chain_is_the_history.Goals as goal

pub returns : goal.returns
returns c = chain_of
