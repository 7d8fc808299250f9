use Rattle.std.proofs.Common.{true, subst}
use Rattle.xa_xid.specs.{Xid.Text, declared.{xid.Xid.Xid, statement.Statement.TheVariants.End}}
use Rattle.xa_coordinator.specs.{declared.closing.Closing.TheVariants.RollBack, Branch.branch_xid}
use Rattle.xa_coordinator.specs.{Outcomes.finish_statement, Parts.{SaysAs, ClosesAs}, Stores.AtStore, Told.IsDone}
use Rattle.xa_coordinator.proofs.{Walk.at_then, Closings.said_behind}
use Rattle.xa_coordinator.proofs.coordinator.Coordinator.end_and_roll_back.Goals as goal

pub returns-clause-closes : goal.returns-clause-closes
returns-clause-closes g c =
    let xid : Xid = branch_xid c.args.self.now.name.items c.args.number c.args.store in
    at_then g.S.Speak.view c.args.store (IsDone (End xid))
    (SaysAs (finish_statement RollBack xid) c.finish_branch.result)
    (ClosesAs true (finish_statement RollBack xid) xid c.finish_branch.result)
    (said_behind (finish_statement RollBack xid) xid c.finish_branch.result)
    c.args.self.now.stores.items c.end_branch.new.self.stores.items c.finish_branch.new.self.stores.items
    c.in_ok-end_branch.ensures.frame.count
    c.in_ok-end_branch.ensures.says
    (subst (λ (name : Text). AtStore g.S.Speak.view c.args.store
    (SaysAs (finish_statement RollBack (branch_xid name.items c.args.number c.args.store)) c.finish_branch.result)
    c.end_branch.new.self.stores.items
    c.finish_branch.new.self.stores.items)
    c.in_ok-end_branch.ensures.name c.finish_branch.ensures.finishes)
