use Rattle.std.{proofs.Common.{◌≡◌, ℕ, List, Some, refl, sym, subst}, specs.Prelude.slice_get}
use Rattle.xa_xid.specs.declared.statement.Statement.TheVariants.{End}
use Rattle.xa_coordinator.specs.{Branch.branch_xid, declared.branches.Phase.TheVariants.Idle, Stores.AtStore}
use Rattle.xa_coordinator.{specs.Told.IsDone, proofs.Ended.ended_each}
use Rattle.xa_coordinator.proofs.coordinator.Coordinator.end_alone.Goals as goal

pub returns-in-Ok-clause-vote : goal.returns-in-Ok-clause-vote
returns-in-Ok-clause-vote g c = (
  refl,
  (c.args.store, c.requires.only),
  ended_each g.S.Speak.view c.args.transaction c.args.store c.args.self.now.stores.items
      c.end_branch.new.self.stores.items c.requires.only
      c.in-Ok.ensures.frame
      (subst (λ (name : List ℕ). AtStore g.S.Speak.view c.args.store
      (IsDone (End (branch_xid name c.args.transaction.number c.args.store))) c.args.self.now.stores.items
      c.end_branch.new.self.stores.items)
      (sym c.requires.name) c.in-Ok.ensures.says),
)

pub returns-in-Ok-clause-cut : goal.returns-in-Ok-clause-cut
returns-in-Ok-clause-cut g c other takes =
    subst (λ (store : ℕ). slice_get c.end_branch.new.self.branches store
    ≡ Some (Some (record { number = c.args.transaction.number; phase = Idle })))
    (sym (c.requires.only.others other takes)) c.in-Ok.ensures.mark
