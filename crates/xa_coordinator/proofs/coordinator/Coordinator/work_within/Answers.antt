use Rattle.std.proofs.Common.{ℕ, List, sym, subst}
use Rattle.xa_coordinator.specs.{Branch.branch_xid, Stores.AtStore, Work.IsReplied}
use Rattle.xa_coordinator.proofs.coordinator.Coordinator.work_within.Goals as goal

pub returns-in-Ok-clause-works : goal.returns-in-Ok-clause-works
returns-in-Ok-clause-works g c =
    subst (λ (name : List ℕ). AtStore g.S.Speak.view c.args.store
    (IsReplied c.args.statement.now c.in-Ok.reply (branch_xid name c.args.transaction.now.number c.args.store))
    c.args.self.now.stores.items
    c.execute_row.new.self.stores.items)
    (sym c.requires.name) c.in-Ok.ensures.replied
