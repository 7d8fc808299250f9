use Rattle.std.proofs.Common.{sym, ◌∙◌}
use Rattle.xa_xid.proofs.Orders.{xids_total, exact_xids}
use Rattle.xa_server.proofs.Maps.{same_is}
use Rattle.xa_judge.proofs.same.is_same_xid.Goals as goal

pub returns-clause-same : goal.returns-clause-same
returns-clause-same c = λ e. same_is xids_total exact_xids _ _ (sym c.is_one.ensures ∙ e)
