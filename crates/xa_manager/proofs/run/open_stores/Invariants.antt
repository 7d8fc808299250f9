use Rattle.std.proofs.Common.{◌≡◌, ◌≤◌, ◌-◌, vec_len, All}
use Rattle.xa_store.specs.Passes.{identity_of}
use Rattle.xa_manager.specs.Passes.{AreOf, AreNew}
use Rattle.xa_manager.proofs.run.open_stores.Given as goal

abbrev pub invariant-loop-alloc : goal.invariant-loop-alloc
invariant-loop-alloc l = record {
  within : vec_len l.stores ≤ l.count;
  first : AreOf l.stores.items l.firsts.items;
  second : AreOf l.stores.items l.seconds.items;
  capacity : All (λ store. (identity_of store.log).capacity ≡ l.capacity) l.stores.items;
  new : AreNew l.stores.items l.firsts.items l.seconds.items;
}

abbrev pub decreases-loop-alloc : goal.decreases-loop-alloc
decreases-loop-alloc l = l.count - vec_len l.stores
