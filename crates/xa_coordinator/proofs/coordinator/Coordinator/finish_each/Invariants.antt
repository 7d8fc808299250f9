use Rattle.std.proofs.Common.{◌≡◌}
use Rattle.xa_coordinator.{specs.OpenBranches.KeepsOpen, proofs.{Walk.Reached, Hazards.{IsListed, SettledBy}}}
use Rattle.xa_coordinator.proofs.coordinator.Coordinator.finish_each.Given as goal

abbrev pub invariant-loop-store : goal.invariant-loop-store
invariant-loop-store g l = record {
  name : l.self.name ≡ l.fn.self.name;
  keeps : KeepsOpen l.transaction.participants l.store l.fn.self.branches l.self.branches;
  listed : IsListed l.transaction.participants l.store l.missing.items;
  reached : Reached g.S.Speak.view (SettledBy l.fn.self.branches l.transaction l.closing l.missing.items) l.store
      l.fn.self.stores.items l.self.stores.items;
}
