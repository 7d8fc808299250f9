use Rattle.std.{proofs.Common.take, specs.Prelude.All}
use Rattle.xa_coordinator.specs.Recovery.{IsNamed}
use Rattle.xa_coordinator.proofs.coordinator.Coordinator.own_number.Given as goal

abbrev pub invariant-loop-xid : goal.invariant-loop-xid
invariant-loop-xid g l = All (λ xid. IsNamed l.self.name.items l.store xid → ⊥) (take l.xid-index l.xids)
