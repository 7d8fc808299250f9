use Rattle.std.proofs.Common.{◌≡◌, ◌<◌, ◌-◌, ◌^◌, ℕ, map}
use Rattle.xa_coordinator.specs.declared.fused.Fused.{Fused}
use Rattle.xa_manager.specs.Limits.{Passes}
use Rattle.xa_manager.proofs.answer.allow_all.Given as goal

abbrev pub invariant-loop-store : goal.invariant-loop-store
invariant-loop-store g l =
    (l.coordinator.name ≡ l.fn.coordinator.name)
    × (map (λ (session : Fused g.row.S.Denot). session.inner) l.coordinator.stores.items
    ≡ map (λ (session : Fused g.row.S.Denot). session.inner) l.fn.coordinator.stores.items)
    × ((other : ℕ) → other < l.store → Passes other (2 ^ 64 - 1) l.coordinator.stores.items)
