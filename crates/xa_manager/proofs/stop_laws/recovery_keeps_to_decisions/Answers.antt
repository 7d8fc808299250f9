use Rattle.xa_manager.proofs.Recovering.{keeps_to_decisions}
use Rattle.xa_manager.proofs.stop_laws.recovery_keeps_to_decisions.Goals as goal

pub returns : goal.returns
returns c = keeps_to_decisions
