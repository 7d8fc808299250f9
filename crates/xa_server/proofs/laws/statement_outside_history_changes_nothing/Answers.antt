use Rattle.xa_server.proofs.Entering.{unentered_leaves}
use Rattle.xa_server.proofs.laws.statement_outside_history_changes_nothing.Goals as goal

pub returns : goal.returns
returns c = unentered_leaves
