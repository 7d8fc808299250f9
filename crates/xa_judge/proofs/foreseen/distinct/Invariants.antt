use Rattle.std.{proofs.Common.take, specs.List.Contains}
use Rattle.xa_judge.specs.declared.answer.Answer.{Answer}
use Rattle.xa_judge.proofs.foreseen.distinct.Given as goal

-- those before the place
abbrev pub invariant-loop-answer : goal.invariant-loop-answer
invariant-loop-answer l = (answer : Answer) → Contains (take l.answer-index l.answers) answer
    → Contains l.once.items answer
