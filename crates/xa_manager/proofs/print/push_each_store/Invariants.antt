use Rattle.std.proofs.Common.{◌≡◌, ◌++◌, take}
use Rattle.xa_manager.specs.Texts.{stores_shown_text}
use Rattle.xa_manager.proofs.print.push_each_store.Given as goal

abbrev pub invariant-loop-store : goal.invariant-loop-store
invariant-loop-store l = l.text.items ≡ l.initial.text.items ++ stores_shown_text 0 (take l.store l.answers)
