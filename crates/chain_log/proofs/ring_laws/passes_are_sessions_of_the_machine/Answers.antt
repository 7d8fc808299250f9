use Rattle.decision_log.proofs.LogRules.{has_machine}
use Rattle.chain_log.proofs.ring_laws.passes_are_sessions_of_the_machine.Goals as goal

pub returns : goal.returns
returns c sizes words views rule = has_machine rule
