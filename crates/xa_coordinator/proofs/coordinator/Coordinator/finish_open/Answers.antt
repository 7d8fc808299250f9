use Rattle.std.proofs.Common.{◌≡◌, Bool, true, false, ap, sym, ◌∙◌, subst}
use Rattle.xa_xid.specs.declared.xid.Xid.{Xid}
use Rattle.xa_coordinator.specs.{declared.closing.Closing.Closing, Branch.branch_xid, OpenBranches.has_working_branch}
use Rattle.xa_coordinator.specs.{Stores.AtStore, Outcomes.{finish_statement, ends_first}, Parts.{SaysAs, ClosesAs}}
use Rattle.xa_coordinator.proofs.{Walk.at_weaker, Closings.{said_alone, ends_roll_back}}
use Rattle.xa_coordinator.proofs.coordinator.Coordinator.finish_open.Goals as goal

pub returns-then-ends-clause-closes : goal.returns-then-ends-clause-closes
returns-then-ends-clause-closes g c =
    let me = c.args.self.now in
    let xid : Xid = branch_xid me.name.items c.args.number c.args.store in
    let first : ends_first c.args.closing (has_working_branch me.branches c.args.store c.args.number) ≡ true =
    ap (ends_first c.args.closing) (sym c.is_working.ensures) ∙ sym c.ends_first-ends.ensures ∙ c.if-ends.true in
    let rolls : c.args.closing ≡ Closing.RollBack = ends_roll_back c.args.closing _ first in
    subst (λ (b : Bool). AtStore g.S.Speak.view c.args.store
    (ClosesAs b (finish_statement c.args.closing xid) xid c.end_and_roll_back.result) me.stores.items
    c.end_and_roll_back.new.self.stores.items) (sym first)
    (subst (λ (closing : Closing). AtStore g.S.Speak.view c.args.store
    (ClosesAs true (finish_statement closing xid) xid c.end_and_roll_back.result) me.stores.items
    c.end_and_roll_back.new.self.stores.items) (sym rolls)
    c.end_and_roll_back.ensures.closes)

pub returns-clause-closes : goal.returns-clause-closes
returns-clause-closes g c =
    let me = c.args.self.now in
    let xid : Xid = branch_xid me.name.items c.args.number c.args.store in
    let first : ends_first c.args.closing (has_working_branch me.branches c.args.store c.args.number) ≡ false =
    ap (ends_first c.args.closing) (sym c.is_working.ensures) ∙ sym c.ends_first-ends.ensures ∙ c.if-ends.false in
    subst (λ (b : Bool). AtStore g.S.Speak.view c.args.store
    (ClosesAs b (finish_statement c.args.closing xid) xid c.finish_branch.result) me.stores.items
    c.finish_branch.new.self.stores.items) (sym first)
    (at_weaker g.S.Speak.view c.args.store (SaysAs (finish_statement c.args.closing xid) c.finish_branch.result)
    (ClosesAs false (finish_statement c.args.closing xid) xid c.finish_branch.result)
    (said_alone (finish_statement c.args.closing xid) xid c.finish_branch.result) me.stores.items
    c.finish_branch.new.self.stores.items
    c.finish_branch.ensures.finishes)
