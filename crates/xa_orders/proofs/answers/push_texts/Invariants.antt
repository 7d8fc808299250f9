use Rattle.std.{proofs.Common.{◌≡◌, ◌++◌, drop}, specs.List.concat}
use Rattle.xa_orders.proofs.answers.push_texts.Given as goal

abbrev pub invariant-loop-text : goal.invariant-loop-text
invariant-loop-text l = l.initial.out.items ++ concat l.texts ≡ l.out.items ++ concat (drop l.text-index l.texts)
