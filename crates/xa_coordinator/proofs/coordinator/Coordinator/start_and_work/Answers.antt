use Rattle.std.{proofs.Common.{ℕ, List, Option, inr, refl, ap, sym, ◌∙◌, subst}, specs.Prelude.slice_get}
use Rattle.xa_xid.specs.declared.statement.Statement.TheVariants.{Start}
use Rattle.xa_coordinator.specs.{Branch.branch_xid, declared.branches.OpenBranch.OpenBranch, Stores.AtStore}
use Rattle.xa_coordinator.{specs.Told.{IsDone, IsUndone}, proofs.Works.{works_started, never_started, unsaid_adds}}
use Rattle.xa_coordinator.proofs.coordinator.Coordinator.start_and_work.Goals as goal

pub returns-in-Ok-clause-works : goal.returns-in-Ok-clause-works
returns-in-Ok-clause-works g c =
    let transaction = c.args.transaction.now in
    works_started g.S.Speak.view c.args.self.now.branches c.work_within.new.self.branches transaction
    c.work_within.new.transaction c.args.store
    c.args.statement.now c.work_within.result
    c.args.self.now.stores.items c.start_branch.new.self.stores.items c.work_within.new.self.stores.items
    c.in-Ok.ensures.frame.count
    (subst (λ (name : List ℕ). AtStore g.S.Speak.view c.args.store
    (IsDone (Start (branch_xid name transaction.number c.args.store))) c.args.self.now.stores.items
    c.start_branch.new.self.stores.items)
    (sym c.requires.name) c.in-Ok.ensures.says)
    c.work_within.ensures.part
    (ap (λ (list : List (Option OpenBranch)). slice_get list c.args.store) c.work_within.ensures.marks
    ∙ c.in-Ok.ensures.mark) c.work_within.ensures.works

pub returns-in-Err-Session-clause-works : goal.returns-in-Err-Session-clause-works
returns-in-Err-Session-clause-works g c =
    let transaction = c.args.transaction.now in
    inr (
      refl,
      c.in-Err-Session.ensures.unsaid,
      c.requires.idle,
      subst (λ cause. AtStore g.S.Speak.view c.args.store
          (IsUndone (Start (branch_xid transaction.name.items transaction.number c.args.store)) cause)
          c.args.self.now.stores.items
          c.start_branch.new.self.stores.items)
          c.in-Err-Session.field-0-is
          (subst (λ (name : List ℕ). AtStore g.S.Speak.view c.args.store
          (IsUndone (Start (branch_xid name transaction.number c.args.store)) c.in-Err-Session.field-0)
          c.args.self.now.stores.items
          c.start_branch.new.self.stores.items)
          (sym c.requires.name) c.in-Err-Session.ensures.says),
    )

pub returns-in-Err-Refused-clause-works : goal.returns-in-Err-Refused-clause-works
returns-in-Err-Refused-clause-works g c =
    let transaction = c.args.transaction.now in (
      refl,
      c.in-Err-Refused.ensures.unsaid,
      c.requires.idle,
      subst (λ cause. AtStore g.S.Speak.view c.args.store
          (IsUndone (Start (branch_xid transaction.name.items transaction.number c.args.store)) cause)
          c.args.self.now.stores.items
          c.start_branch.new.self.stores.items)
          c.in-Err-Refused.field-0-is
          (subst (λ (name : List ℕ). AtStore g.S.Speak.view c.args.store
          (IsUndone (Start (branch_xid name transaction.number c.args.store)) c.in-Err-Refused.field-0)
          c.args.self.now.stores.items
          c.start_branch.new.self.stores.items)
          (sym c.requires.name) c.in-Err-Refused.ensures.says),
    )

pub returns-in-Ok-clause-again : goal.returns-in-Ok-clause-again
returns-in-Ok-clause-again g c has =
    let me = c.args.self.now in
    never_started g.S.Speak.view g.met.S.Speak.lawful g.met.S.Speak.own_part c.args.store
    (branch_xid me.name.items c.args.transaction.now.number c.args.store) has.branch me.name.items c.args.statement.now
    me.stores.items
    c.start_branch.new.self.stores.items c.work_within.new.self.stores.items c.in-Ok.ensures.frame.count
    (λ s is_s. me.open_there c.args.store s has.branch is_s has.there) c.in-Ok.ensures.says

pub returns-in-Err-Session-clause-again : goal.returns-in-Err-Session-clause-again
returns-in-Err-Session-clause-again g c has =
    let me = c.args.self.now in
    unsaid_adds g.S.Speak.view c.args.store c.args.statement.now
    (Start (branch_xid me.name.items c.args.transaction.now.number c.args.store))
    c.in-Err-Session.field-0 me.stores.items c.start_branch.new.self.stores.items c.in-Err-Session.ensures.says

pub returns-in-Err-Refused-clause-again : goal.returns-in-Err-Refused-clause-again
returns-in-Err-Refused-clause-again g c has =
    let me = c.args.self.now in
    unsaid_adds g.S.Speak.view c.args.store c.args.statement.now
    (Start (branch_xid me.name.items c.args.transaction.now.number c.args.store))
    c.in-Err-Refused.field-0 me.stores.items c.start_branch.new.self.stores.items c.in-Err-Refused.ensures.says
