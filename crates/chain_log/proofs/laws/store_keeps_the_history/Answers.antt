use Rattle.chain_log.proofs.ChainStores.{stored_log}
use Rattle.chain_log.proofs.laws.store_keeps_the_history.Goals as goal

pub returns : goal.returns
returns c sizes words views views' rule id pass index word = stored_log rule views' id pass index word
