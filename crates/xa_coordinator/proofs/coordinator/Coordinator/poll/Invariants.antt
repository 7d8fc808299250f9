use Rattle.std.proofs.Common.{◌≡◌}
use Rattle.xa_coordinator.specs.{OpenBranches.KeepsOpen, Participants.takes_part, Outcomes.{branch_of, IsVoted}}
use Rattle.xa_coordinator.proofs.Walk.{Reached}
use Rattle.xa_coordinator.proofs.coordinator.Coordinator.poll.Given as goal

abbrev pub invariant-loop-store : goal.invariant-loop-store
invariant-loop-store g l = record {
  name : l.self.name ≡ l.fn.self.name;
  keeps : KeepsOpen l.transaction.participants l.store l.fn.self.branches l.self.branches;
  reached : Reached g.S.Speak.view
      (λ store. IsVoted (branch_of l.transaction store) (takes_part l.transaction.participants store)) l.store
      l.fn.self.stores.items l.self.stores.items;
}
