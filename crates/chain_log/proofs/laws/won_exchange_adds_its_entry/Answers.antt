use Rattle.chain_log.proofs.ChainStores.{won_log}
use Rattle.chain_log.proofs.laws.won_exchange_adds_its_entry.Goals as goal

pub returns : goal.returns
returns c sizes words views views' rule id pass entry = won_log rule views' id pass entry
