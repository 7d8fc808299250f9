use Rattle.std.{proofs.Common.take, specs.List.All}
use Rattle.xa_judge.specs.Verdicts.{IsAnswerAfter}
use Rattle.xa_judge.proofs.refuting.are_given.Given as goal

-- those before the place
abbrev pub invariant-loop-answer : goal.invariant-loop-answer
invariant-loop-answer l = All (IsAnswerAfter l.base l.events l.session) (take l.answer-index l.answers)
