use Rattle.std.proofs.Common.{subst}
use Rattle.xa_xid.specs.declared.statement.Statement.TheVariants.{End}
use Rattle.xa_coordinator.specs.{Stores.AtStore, Parts.IsToldAs}
use Rattle.xa_coordinator.proofs.coordinator.Coordinator.end_branch.Goals as goal

pub returns-clause-says : goal.returns-clause-says
returns-clause-says g c =
    subst (λ xid. AtStore g.S.Speak.view c.args.store (IsToldAs
    (End xid) c.execute_at.result) c.args.self.now.stores.items c.execute_at.new.self.stores.items)
    c.branch-self.ensures c.execute_at.ensures.says
