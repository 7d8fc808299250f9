use Rattle.std.{proofs.Common.{◌<◌, length}, specs.Prelude.IfSome}
use Rattle.xa_endless.proofs.store.EndlessStore.best.Given as goal

abbrev pub invariant-loop-index : goal.invariant-loop-index
invariant-loop-index l = IfSome l.best (λ index. index < length l.self.checkpoints.items)
