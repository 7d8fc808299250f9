use Rattle.xa_server.proofs.Others.{others_left}
use Rattle.xa_server.proofs.laws.statement_leaves_other_sessions.Goals as goal

pub returns : goal.returns
returns c = others_left
