use Rattle.xa_manager.proofs.Changing.{rows_keep}
use Rattle.xa_manager.proofs.stop_laws.commits_change_rows.Goals as goal

pub returns : goal.returns
returns c = rows_keep
