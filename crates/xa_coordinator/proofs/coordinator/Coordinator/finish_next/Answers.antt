use Rattle.std.proofs.Common.{inl, inr, refl, subst, Ok}
use Rattle.xa_coordinator.specs.{Branch.branch_xid, OpenBranches.has_working_branch}
use Rattle.xa_coordinator.specs.{Outcomes.{finish_statement, ends_first}, Parts.ClosesAs, Stores.AtStore}
use Rattle.xa_coordinator.proofs.coordinator.Coordinator.finish_next.Goals as goal

pub returns-in-Closed-clause-closed : goal.returns-in-Closed-clause-closed
returns-in-Closed-clause-closed g c =
    inl (
      refl,
      subst (λ found. AtStore g.S.Speak.view c.args.store
          (ClosesAs (ends_first c.args.closing (has_working_branch c.args.self.now.branches c.args.store c.args.number))
          (finish_statement c.args.closing (branch_xid c.args.self.now.name.items c.args.number c.args.store))
          (branch_xid c.args.self.now.name.items c.args.number c.args.store)
          (Ok found)) c.args.self.now.stores.items c.finish_open.new.self.stores.items)
          c.in-Closed.is c.in_ok-finish_open.ensures.closes,
    )

pub returns-in-Missing-clause-closed : goal.returns-in-Missing-clause-closed
returns-in-Missing-clause-closed g c =
    inr (
      c.push.ensures.items,
      subst (λ found. AtStore g.S.Speak.view c.args.store
          (ClosesAs (ends_first c.args.closing (has_working_branch c.args.self.now.branches c.args.store c.args.number))
          (finish_statement c.args.closing (branch_xid c.args.self.now.name.items c.args.number c.args.store))
          (branch_xid c.args.self.now.name.items c.args.number c.args.store)
          (Ok found)) c.args.self.now.stores.items c.finish_open.new.self.stores.items)
          c.in-Missing.is c.in_ok-finish_open.ensures.closes,
    )
