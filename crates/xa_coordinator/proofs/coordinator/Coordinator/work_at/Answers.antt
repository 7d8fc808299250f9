use Rattle.std.{proofs.Common.{◌≡◌, ℕ, List, Option, refl, ap, sym, ◌∙◌, subst}, specs.Prelude.slice_get}
use Rattle.xa_server.specs.declared.association.Association.TheVariants.{Active}
use Rattle.xa_coordinator.specs.{Branch.branch_xid, OpenBranches.{association_seen, IsWorking}, Outcomes.branch_of}
use Rattle.xa_coordinator.specs.declared.branches.{OpenBranch.OpenBranch, Phase.TheVariants.Active as PhaseActive}
use Rattle.xa_coordinator.proofs.{Opening.working, Works.{works_open, within_adds}}
use Rattle.xa_coordinator.proofs.coordinator.Coordinator.work_at.Goals as goal

pub returns-then-is_working-clause-works : goal.returns-then-is_working-clause-works
returns-then-is_working-clause-works g c =
    let me = c.args.self.now in
    let transaction = c.args.transaction.now in
    let mark : IsWorking me.branches c.args.store transaction.number =
    working me.branches c.args.store transaction.number (sym c.if-is_working.ensures) in
    works_open g.S.Speak.view me.branches c.work_within.new.self.branches transaction c.work_within.new.transaction
    c.args.store c.args.statement.now
    c.work_within.result
    me.stores.items c.work_within.new.self.stores.items
    (λ s is_s. subst (λ (name : List ℕ). association_seen (g.S.Speak.view s)
    ≡ Active (branch_xid name transaction.number c.args.store)) (sym c.requires.name)
    (me.open_there c.args.store s (record { number = transaction.number; phase = PhaseActive }) is_s mark))
    c.work_within.ensures.part
    (ap (λ (list : List (Option OpenBranch)). slice_get list c.args.store) c.work_within.ensures.marks
    ∙ mark) c.work_within.ensures.works

pub work_within-requires-clause-working : goal.work_within-requires-clause-working
work_within-requires-clause-working g c =
    working c.args.self.now.branches c.args.store c.args.transaction.now.number (sym c.if-is_working.ensures)

pub returns-then-is_working-clause-lost : goal.returns-then-is_working-clause-lost
returns-then-is_working-clause-lost g c part none =
    absurd (none (record {
      branch = record { number = c.args.transaction.now.number; phase = PhaseActive };
      there = working c.args.self.now.branches c.args.store c.args.transaction.now.number (sym c.if-is_working.ensures);
      is = refl;
    }))

pub returns-then-is_working-clause-again : goal.returns-then-is_working-clause-again
returns-then-is_working-clause-again g c part =
    within_adds g.S.Speak.view c.args.store (branch_of c.args.transaction.now c.args.store) c.args.statement.now
    c.work_within.result
    c.args.self.now.stores.items c.work_within.new.self.stores.items c.work_within.ensures.works
