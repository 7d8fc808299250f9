use Rattle.std.proofs.Common.{subst}
use Rattle.xa_xid.specs.{Xid.Text, declared.{xid.Xid.Xid, statement.Statement.TheVariants.{End, Prepare}}}
use Rattle.xa_coordinator.specs.{Branch.branch_xid, Parts.{PreparesAs, IsToldAs}, Stores.AtStore, Told.IsDone}
use Rattle.xa_coordinator.proofs.{Walk.at_then, Closings.prepared_behind}
use Rattle.xa_coordinator.proofs.coordinator.Coordinator.prepare_branch.Goals as goal

pub returns-clause-prepares : goal.returns-clause-prepares
returns-clause-prepares g c =
    let xid : Xid = branch_xid c.args.self.now.name.items c.args.number c.args.store in
    at_then g.S.Speak.view c.args.store (IsDone (End xid)) (IsToldAs (Prepare xid) c.prepare_ended.result)
    (PreparesAs xid c.prepare_ended.result)
    (prepared_behind xid c.prepare_ended.result)
    c.args.self.now.stores.items c.end_branch.new.self.stores.items c.prepare_ended.new.self.stores.items
    c.in_ok-end_branch.ensures.frame.count
    c.in_ok-end_branch.ensures.says
    (subst (λ (name : Text). AtStore g.S.Speak.view c.args.store
    (IsToldAs (Prepare (branch_xid name.items c.args.number c.args.store)) c.prepare_ended.result)
    c.end_branch.new.self.stores.items
    c.prepare_ended.new.self.stores.items)
    c.in_ok-end_branch.ensures.name c.prepare_ended.ensures.says)
