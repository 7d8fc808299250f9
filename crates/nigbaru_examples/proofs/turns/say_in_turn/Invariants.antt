use Rattle.std.proofs.Common.{◌≡◌}
use Rattle.nigbaru.specs.store.Passes.{log_of}
use Rattle.nigbaru_examples.proofs.turns.say_in_turn.Given as goal

abbrev pub invariant-loop-text : goal.invariant-loop-text
invariant-loop-text g l = log_of l.first.pass ≡ log_of l.second.pass
