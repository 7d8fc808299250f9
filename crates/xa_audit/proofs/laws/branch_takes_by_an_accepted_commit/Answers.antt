use Rattle.xa_audit.{specs.Deeds.{deeds_in, deeds_about}, proofs.Taking.took_by}
use Rattle.xa_audit.proofs.laws.branch_takes_by_an_accepted_commit.Goals as goal

pub returns : goal.returns
returns c = λ history xid. took_by (deeds_about xid (deeds_in history))
