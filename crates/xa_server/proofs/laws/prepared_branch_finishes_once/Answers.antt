use Rattle.xa_server.proofs.Finishing.{prepared_between}
use Rattle.xa_server.proofs.laws.prepared_branch_finishes_once.Goals as goal

pub returns : goal.returns
returns c = prepared_between
