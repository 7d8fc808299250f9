use Rattle.std.proofs.{Common.{◌≡◌, ℕ, Bool, List, ap, sym, ◌∙◌, subst, arith, length}, lemmas.Bool.eqb-true}
use Rattle.xa_xid.specs.Xid.{Text}
use Rattle.xa_coordinator.specs.{Branch.branch_xid, OpenBranches.has_working_branch, Stores.AtStore, Parts.ClosesNext}
use Rattle.xa_coordinator.specs.Outcomes.{branch_of, finish_statement, ends_first, ends_in, commits, lists_store}
use Rattle.xa_coordinator.{specs.Told.IsUnfinished, proofs.Opening.{working_kept, keeps_next, keeps_farther}}
use Rattle.xa_coordinator.proofs.Walk.{ended_at, reached_all, reached_weaker}
use Rattle.xa_coordinator.proofs.Hazards.{SettledBy, settled_next, settled_none}
use Rattle.xa_coordinator.proofs.coordinator.Coordinator.finish_each.Goals as goal

pub returns-in-Err-clause-elsewhere : goal.returns-in-Err-clause-elsewhere
returns-in-Err-clause-elsewhere g c =
    keeps_next c.args.transaction.now.participants c.loop-store.store c.args.self.now.branches
    c.loop-store.self.branches c.finish_next.new.self.branches
    c.loop-store.invariant.keeps (sym (c.if-not-has.ensures)) c.in-Err.ensures.marks

pub returns-in-Err-clause-ends : goal.returns-in-Err-clause-ends
returns-in-Err-clause-ends g c =
    let transaction = c.args.transaction.now in
    let branches = c.args.self.now.branches in
    let store : ℕ = c.loop-store.store in
    let closing = c.args.closing in
    let view = g.S.Speak.view in
    let names : c.loop-store.self.name.items ≡ transaction.name.items =
    ap (λ (name : Text). name.items) c.loop-store.invariant.name ∙ sym c.requires.name in
    let same : has_working_branch c.loop-store.self.branches store transaction.number
    ≡ has_working_branch branches store transaction.number =
    working_kept branches c.loop-store.self.branches store transaction.number
    (c.loop-store.invariant.keeps.behind store (omega arith)) in (
      sym (c.if-not-has.ensures),
      ended_at view _ store (IsUnfinished (ends_in branches transaction closing store)
          (finish_statement closing (branch_of transaction store))
          (branch_of transaction store) c.in-Err.cause)
          c.args.self.now.stores.items c.loop-store.self.stores.items c.finish_next.new.self.stores.items
          (reached_weaker view (SettledBy branches transaction closing c.loop-store.missing.items) _ store
          c.args.self.now.stores.items
          c.loop-store.self.stores.items
          (λ other less a b settled. (lists_store c.loop-store.missing.items other, settled))
          c.loop-store.invariant.reached)
          c.in-Err.ensures.frame
          (subst (λ (working : Bool).
          AtStore view store (IsUnfinished (ends_first closing working)
          (finish_statement closing (branch_of transaction store))
          (branch_of transaction store) c.in-Err.cause) c.loop-store.self.stores.items
          c.finish_next.new.self.stores.items) same
          (subst (λ (name : List ℕ).
          AtStore view store (IsUnfinished (ends_first closing
          (has_working_branch c.loop-store.self.branches store transaction.number))
          (finish_statement closing (branch_xid name transaction.number store))
          (branch_xid name transaction.number store) c.in-Err.cause)
          c.loop-store.self.stores.items c.finish_next.new.self.stores.items) names c.in-Err.ensures.stopped)),
    )

pub loop-store-preserved : goal.loop-store-preserved
loop-store-preserved g c =
    let transaction = c.args.transaction.now in
    let branches = c.args.self.now.branches in
    let store : ℕ = c.loop-store.store in
    let closing = c.args.closing in
    let view = g.S.Speak.view in
    let names : c.loop-store.self.name.items ≡ transaction.name.items =
    ap (λ (name : Text). name.items) c.loop-store.invariant.name ∙ sym c.requires.name in
    let same : has_working_branch c.loop-store.self.branches store transaction.number
    ≡ has_working_branch branches store transaction.number =
    working_kept branches c.loop-store.self.branches store transaction.number
    (c.loop-store.invariant.keeps.behind store (omega arith)) in
    let next = settled_next view branches transaction closing c.loop-store.missing.items store
    c.finish_next.new.missing.items
    c.args.self.now.stores.items c.loop-store.self.stores.items c.finish_next.new.self.stores.items
    (sym (c.if-not-has.ensures)) c.loop-store.invariant.listed c.loop-store.invariant.reached c.in_default.ensures.frame
    (subst (λ (working : Bool).
    ClosesNext view (ends_first closing working) (finish_statement closing (branch_of transaction store))
    (branch_of transaction store) store c.loop-store.missing.items c.finish_next.new.missing.items
    c.loop-store.self.stores.items
    c.finish_next.new.self.stores.items) same
    (subst (λ (name : List ℕ).
    ClosesNext view (ends_first closing (has_working_branch c.loop-store.self.branches store transaction.number))
    (finish_statement closing (branch_xid name transaction.number store))
    (branch_xid name transaction.number store) store
    c.loop-store.missing.items c.finish_next.new.missing.items c.loop-store.self.stores.items
    c.finish_next.new.self.stores.items)
    names c.in_default.ensures.closed)) in
    record {
      name = c.in_default.ensures.name ∙ c.loop-store.invariant.name;
      keeps =
          keeps_next transaction.participants store branches c.loop-store.self.branches c.finish_next.new.self.branches
          c.loop-store.invariant.keeps
          (sym (c.if-not-has.ensures)) c.in_default.ensures.marks;
      listed = next.0;
      reached = next.1;
    }

pub returns-in-InTwoPhases-clause-elsewhere : goal.returns-in-InTwoPhases-clause-elsewhere
returns-in-InTwoPhases-clause-elsewhere g c =
    keeps_farther c.args.transaction.now.participants c.loop-store.store 16 c.args.self.now.branches
    c.loop-store.self.branches
    (omega (arith, c.requires.stores, c.loop-store-test.false, c.args.self.now.sized)) c.loop-store.invariant.keeps

pub returns-in-InTwoPhases-clause-ends : goal.returns-in-InTwoPhases-clause-ends
returns-in-InTwoPhases-clause-ends g c =
    let transaction = c.args.transaction.now in (
      ap commits c.in-InTwoPhases.is,
      settled_none g.S.Speak.view c.args.self.now.branches transaction c.args.closing c.loop-store.missing.items
          c.args.self.now.stores.items
          c.loop-store.self.stores.items
          (eqb-true (length c.loop-store.missing.items) 0 (sym (c.if-not-is_empty.ensures)))
          (reached_all g.S.Speak.view
          (SettledBy c.args.self.now.branches transaction c.args.closing c.loop-store.missing.items) c.loop-store.store
          c.args.self.now.stores.items
          c.loop-store.self.stores.items c.loop-store.invariant.reached
          (omega (arith, c.requires.stores, c.loop-store-test.false))),
    )

pub returns-in-InOnePhase-clause-elsewhere : goal.returns-in-InOnePhase-clause-elsewhere
returns-in-InOnePhase-clause-elsewhere g c =
    keeps_farther c.args.transaction.now.participants c.loop-store.store 16 c.args.self.now.branches
    c.loop-store.self.branches
    (omega (arith, c.requires.stores, c.loop-store-test.false, c.args.self.now.sized)) c.loop-store.invariant.keeps

pub returns-in-InOnePhase-clause-ends : goal.returns-in-InOnePhase-clause-ends
returns-in-InOnePhase-clause-ends g c =
    let transaction = c.args.transaction.now in (
      ap commits c.in-InOnePhase.is,
      settled_none g.S.Speak.view c.args.self.now.branches transaction c.args.closing c.loop-store.missing.items
          c.args.self.now.stores.items
          c.loop-store.self.stores.items
          (eqb-true (length c.loop-store.missing.items) 0 (sym (c.if-not-is_empty.ensures)))
          (reached_all g.S.Speak.view
          (SettledBy c.args.self.now.branches transaction c.args.closing c.loop-store.missing.items) c.loop-store.store
          c.args.self.now.stores.items
          c.loop-store.self.stores.items c.loop-store.invariant.reached
          (omega (arith, c.requires.stores, c.loop-store-test.false))),
    )

pub returns-in-RollBack-clause-elsewhere : goal.returns-in-RollBack-clause-elsewhere
returns-in-RollBack-clause-elsewhere g c =
    keeps_farther c.args.transaction.now.participants c.loop-store.store 16 c.args.self.now.branches
    c.loop-store.self.branches
    (omega (arith, c.requires.stores, c.loop-store-test.false, c.args.self.now.sized)) c.loop-store.invariant.keeps

pub returns-in-RollBack-clause-ends : goal.returns-in-RollBack-clause-ends
returns-in-RollBack-clause-ends g c =
    let transaction = c.args.transaction.now in (
      ap commits c.in-RollBack.is,
      settled_none g.S.Speak.view c.args.self.now.branches transaction c.args.closing c.loop-store.missing.items
          c.args.self.now.stores.items
          c.loop-store.self.stores.items
          (eqb-true (length c.loop-store.missing.items) 0 (sym (c.if-not-is_empty.ensures)))
          (reached_all g.S.Speak.view
          (SettledBy c.args.self.now.branches transaction c.args.closing c.loop-store.missing.items) c.loop-store.store
          c.args.self.now.stores.items
          c.loop-store.self.stores.items c.loop-store.invariant.reached
          (omega (arith, c.requires.stores, c.loop-store-test.false))),
    )
