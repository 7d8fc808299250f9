use Rattle.std.proofs.Common.{◌≡◌, replicate, []}
use Rattle.xa_orders.proofs.answers.Answers.new.Given as goal

abbrev pub invariant-loop : goal.invariant-loop
invariant-loop l = l.texts.items ≡ replicate l.counter []
