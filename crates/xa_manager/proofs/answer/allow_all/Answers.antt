use Rattle.std.proofs.Common.{◌∙◌, ◌-◌, ◌^◌}
use Rattle.xa_manager.proofs.Limits.{passes_grown}
use Rattle.xa_manager.proofs.answer.allow_all.Goals as goal

pub loop-store-preserved : goal.loop-store-preserved
loop-store-preserved g c = (
  c.allow.ensures.name ∙ c.loop-store.invariant.0,
  c.allow.ensures.sessions ∙ c.loop-store.invariant.1,
  passes_grown c.loop-store.store
      (2 ^ 64 - 1) c.loop-store.coordinator.stores.items c.allow.new.self.stores.items c.loop-store.invariant.2
      c.allow.ensures.left c.allow.ensures.others,
)
