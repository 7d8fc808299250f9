use Rattle.xa_coordinator.{specs.Outcomes.branch_of, proofs.Works.{works_add, work_agrees_each}}
use Rattle.xa_coordinator.proofs.coordinator.Coordinator.work.Goals as goal

pub returns-clause-adds : goal.returns-clause-adds
returns-clause-adds g c =
    let me = c.args.self.now in
    let transaction = c.args.transaction.now in
    works_add g.S.Speak.view me.branches c.work_at.new.self.branches transaction c.work_at.new.transaction c.args.store
    c.args.statement.now c.work_at.result
    me.stores.items c.work_at.new.self.stores.items c.work_at.ensures.works

pub returns-clause-agrees : goal.returns-clause-agrees
returns-clause-agrees g c = λ decisions.
    let me = c.args.self.now in
    let transaction = c.args.transaction.now in
    work_agrees_each g.S.Speak.view decisions me.name.items c.args.store
    (branch_of transaction c.args.store) c.args.statement.now c.requires.row me.stores.items
    c.work_at.new.self.stores.items c.work_at.ensures.frame
    (works_add g.S.Speak.view me.branches c.work_at.new.self.branches transaction c.work_at.new.transaction c.args.store
    c.args.statement.now c.work_at.result
    me.stores.items c.work_at.new.self.stores.items c.work_at.ensures.works)
