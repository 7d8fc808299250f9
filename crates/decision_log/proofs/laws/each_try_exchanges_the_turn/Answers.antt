use Rattle.decision_log.{proofs.Counting.try_is, specs.TurnRule.{turn_word, count_for}}
use Rattle.decision_log.proofs.laws.each_try_exchanges_the_turn.Goals as goal

pub returns : goal.returns
returns c = try_is count_for turn_word
