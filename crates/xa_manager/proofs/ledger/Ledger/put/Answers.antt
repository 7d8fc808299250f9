use Rattle.std.proofs.Common.{refl}
use Rattle.xa_manager.proofs.Stages.{with_stage-absent}
use Rattle.xa_manager.proofs.ledger.Ledger.put.Goals as goal

pub returns-in_default : goal.returns-in_default
returns-in_default c = with_stage-absent _ _ _ (c.in_default.ensures.absent refl)
