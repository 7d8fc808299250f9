use Rattle.std.proofs.Common.{◌≡◌, ◌≤◌, vec_len, vec_capacity}
use Rattle.xa_coordinator.proofs.Walk.{Reached}
use Rattle.xa_manager.specs.{Beside.{within, LeavesAlone}, Said.IsListed}
use Rattle.xa_manager.proofs.beside.listed_beside.Given as goal

abbrev pub invariant-loop-store : goal.invariant-loop-store
invariant-loop-store g l = record {
  name : l.coordinator.name ≡ l.fn.coordinator.name;
  branches : l.coordinator.branches ≡ l.fn.coordinator.branches;
  listed : Reached (within g.S.Beside.other) (IsListed l.answers.items) l.store l.fn.coordinator.stores.items
      l.coordinator.stores.items;
  alone : LeavesAlone g.S.Speak.view l.fn.coordinator.stores.items l.coordinator.stores.items;
  count : vec_len l.answers ≡ l.store;
  room : vec_len l.fn.coordinator.stores ≤ vec_capacity l.answers;
}
