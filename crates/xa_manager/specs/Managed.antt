-- A transaction manager, as contracts see it.
use Rattle.std.specs.Prelude.{vec_len}
use Rattle.xa_coordinator.specs.declared.speak.Speak.{Ghosts as SpeakOf}
use Rattle.xa_manager.specs.{Carried.WholeManager, declared.manager.Manager.Manager}

-- a manager as definitions see it: how many stores it has, and all else as it is
abbrev pub whole_of : {C T : Type 0} {session : SpeakOf C} {other_client : SpeakOf T} → Manager C T session other_client
    → WholeManager C T
whole_of manager = record {
  stores = vec_len manager.coordinator.stores;
  decisions = manager.decisions;
  stages = manager.ledger;
  branches = manager.coordinator.branches;
  sessions = manager.coordinator.stores.items;
  other_clients = manager.other_clients.items;
}
