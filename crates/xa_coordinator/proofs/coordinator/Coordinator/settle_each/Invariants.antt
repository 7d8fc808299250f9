use Rattle.std.{proofs.Common.{◌≡◌, ◌≤◌, ◌+◌, Some, None, take}, specs.Prelude.slice_get}
use Rattle.xa_coordinator.specs.{Stores.{AtStore, ChangesAt}, Recovery.Settled, Parts.{added_at, total}}
use Rattle.xa_coordinator.proofs.coordinator.Coordinator.settle_each.Given as goal

abbrev pub invariant-loop-xid : goal.invariant-loop-xid
invariant-loop-xid g l = record {
  name : l.self.name ≡ l.fn.self.name;
  frame : ChangesAt l.store l.fn.self.stores.items l.self.stores.items;
  marks : ChangesAt l.store l.fn.self.branches l.self.branches;
  free : slice_get l.self.branches l.store ≡ Some None;
  few : total l.tally ≤ l.xid-index;
  added : added_at g.S.Speak.view l.self.stores.items l.store ≤ added_at g.S.Speak.view l.fn.self.stores.items l.store
      + total l.tally;
  settled : AtStore g.S.Speak.view l.store
      (λ old new. Settled l.decisions l.fn.self.name.items l.store old
      (take l.xid-index l.xids) l.tally new) l.fn.self.stores.items l.self.stores.items;
}
