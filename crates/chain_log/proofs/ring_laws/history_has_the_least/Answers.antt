use Rattle.chain_log.proofs.RingSteps.{least_low}
use Rattle.chain_log.proofs.ring_laws.history_has_the_least.Goals as goal

pub returns : goal.returns
returns c sizes words views rule = least_low rule
