use Rattle.std.proofs.Common.{◌≡◌, replicate}
use Rattle.xa_judge.specs.declared.turn.Turn.TheVariants.{Nobody}
use Rattle.xa_judge.proofs.parts.nobody.Given as goal

abbrev pub invariant-loop : goal.invariant-loop
invariant-loop l = l.turns.items ≡ replicate l.counter Nobody
