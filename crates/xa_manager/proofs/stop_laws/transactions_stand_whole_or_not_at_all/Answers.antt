use Rattle.xa_manager.proofs.Standing.{all_or_none}
use Rattle.xa_manager.proofs.stop_laws.transactions_stand_whole_or_not_at_all.Goals as goal

pub returns : goal.returns
returns c = all_or_none
