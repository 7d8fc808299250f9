use Rattle.std.proofs.Common.{subst, ap, ◌∙◌}
use Rattle.xa_xid.specs.declared.statement.Statement.{Statement}
use Rattle.xa_coordinator.specs.{Branch.branch_xid, Outcomes.finish_statement, Parts.{SaysAs, IsToldAs}, Stores.AtStore}
use Rattle.xa_coordinator.proofs.Walk.{at_weaker}
use Rattle.xa_coordinator.proofs.coordinator.Coordinator.finish_branch.Goals as goal

pub returns-clause-finishes : goal.returns-clause-finishes
returns-clause-finishes g c =
    let statement : Statement = finish_statement c.args.closing
    (branch_xid c.args.self.now.name.items c.args.number c.args.store) in
    at_weaker g.S.Speak.view c.args.store (IsToldAs statement c.execute_at.result) (SaysAs statement c.found.result)
    (c.found.ensures.says statement) c.args.self.now.stores.items c.execute_at.new.self.stores.items
    (subst (λ s. AtStore g.S.Speak.view c.args.store (IsToldAs s c.execute_at.result) c.args.self.now.stores.items
    c.execute_at.new.self.stores.items)
    (c.statement-statement.ensures ∙ ap (finish_statement c.args.closing) c.branch-self.ensures)
    c.execute_at.ensures.says)
