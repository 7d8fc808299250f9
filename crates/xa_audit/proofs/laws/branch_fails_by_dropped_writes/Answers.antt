use Rattle.xa_audit.{specs.Deeds.{deeds_in, deeds_about}, proofs.Failing.fails_iff}
use Rattle.xa_audit.proofs.laws.branch_fails_by_dropped_writes.Goals as goal

pub returns : goal.returns
returns c = λ store history xid. fails_iff (deeds_about xid (deeds_in history))
