use Rattle.std.{proofs.Common.{◌≡◌, ◌≤◌, ◌*◌}, specs.Prelude.{vec_capacity, vec_len}}
use Rattle.xa_coordinator.proofs.Recovering.{FreesOpen, RecoversBelow}
use Rattle.xa_coordinator.proofs.coordinator.Coordinator.recover_each.Given as goal

abbrev pub invariant-loop-store : goal.invariant-loop-store
invariant-loop-store g l = record {
  name : l.self.name ≡ l.fn.self.name;
  frees : FreesOpen l.store l.fn.self.branches l.self.branches;
  recovers : RecoversBelow g.S.Speak.view l.decisions l.fn.self.name.items l.store l.report l.fn.self.stores.items
      l.self.stores.items;
  length : vec_len l.report.fronts ≡ l.store;
  room : vec_len l.fn.self.stores ≤ vec_capacity l.report.fronts;
  committed : l.report.committed ≤ l.store * 18446744073709551616;
  rolled_back : l.report.rolled_back ≤ l.store * 18446744073709551616;
  missing : l.report.missing ≤ l.store * 18446744073709551616;
}
