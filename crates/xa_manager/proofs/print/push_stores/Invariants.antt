use Rattle.std.proofs.Common.{◌≡◌, ◌++◌, take}
use Rattle.xa_manager.specs.Texts.{stores_text}
use Rattle.xa_manager.proofs.print.push_stores.Given as goal

abbrev pub invariant-loop-store : goal.invariant-loop-store
invariant-loop-store l = l.text.items ≡ l.initial.text.items ++ stores_text (take l.store-index l.stores)
