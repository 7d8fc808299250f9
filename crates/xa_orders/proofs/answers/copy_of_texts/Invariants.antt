use Rattle.std.proofs.Common.{◌≡◌, take}
use Rattle.xa_orders.proofs.answers.copy_of_texts.Given as goal

abbrev pub invariant-loop-text : goal.invariant-loop-text
invariant-loop-text l = l.copy.items ≡ take l.text-index l.texts
