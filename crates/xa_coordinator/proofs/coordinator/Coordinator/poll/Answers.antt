use Rattle.std.proofs.Common.{◌≡◌, ℕ, List, ap, sym, ◌∙◌, subst, true, Err, arith}
use Rattle.xa_xid.specs.{Xid.Text, declared.statement.Statement.TheVariants.Prepare}
use Rattle.xa_coordinator.{specs.{Branch.branch_xid, Participants.takes_part, Stores.AtStore}, proofs.Walk.ended_at}
use Rattle.xa_coordinator.specs.{Outcomes.{branch_of, IsVoted}, Parts.PreparesAs, Told.IsStopped}
use Rattle.xa_coordinator.proofs.Opening.{keeps_next, keeps_farther}
use Rattle.xa_coordinator.proofs.coordinator.Coordinator.poll.Goals as goal

pub returns-in-Err-clause-elsewhere : goal.returns-in-Err-clause-elsewhere
returns-in-Err-clause-elsewhere g c =
    keeps_next c.args.transaction.now.participants c.loop-store.store c.args.self.now.branches
    c.loop-store.self.branches c.prepare_branch.new.self.branches
    c.loop-store.invariant.keeps (sym (c.if-not-has.ensures)) c.in-Err.ensures.marks

pub returns-clause-elsewhere : goal.returns-clause-elsewhere
returns-clause-elsewhere g c =
    keeps_farther c.args.transaction.now.participants c.loop-store.store 16 c.args.self.now.branches
    c.loop-store.self.branches
    (omega (arith, c.requires.stores, c.loop-store-test.false, c.args.self.now.sized)) c.loop-store.invariant.keeps

pub returns-in-Err-clause-polls : goal.returns-in-Err-clause-polls
returns-in-Err-clause-polls g c =
    let transaction = c.args.transaction.now in
    let store : ℕ = c.loop-store.store in
    let cause = c.in-Err.cause in
    let names : c.loop-store.self.name.items ≡ transaction.name.items =
    ap (λ (name : Text). name.items) c.loop-store.invariant.name ∙ sym c.requires.name in (
      sym (c.if-not-has.ensures),
      ended_at g.S.Speak.view (λ other. IsVoted (branch_of transaction other)
          (takes_part transaction.participants other)) store
          (IsStopped true (Prepare (branch_of transaction store)) (branch_of transaction store) cause)
          c.args.self.now.stores.items c.loop-store.self.stores.items c.prepare_branch.new.self.stores.items
          c.loop-store.invariant.reached
          c.in-Err.ensures.frame
          (subst (λ (name : List ℕ). AtStore g.S.Speak.view store
          (PreparesAs (branch_xid name transaction.number store)
          (Err cause)) c.loop-store.self.stores.items c.prepare_branch.new.self.stores.items)
          names c.in-Err.ensures.prepares),
    )
