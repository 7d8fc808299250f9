use Rattle.std.{proofs.Common.{◌≡◌, false, take}, specs.List.All}
use Rattle.xa_judge.specs.Explained.{shows_answer}
use Rattle.xa_judge.proofs.refuting.shows_none.Given as goal

-- those before the place
abbrev pub invariant-loop-answer : goal.invariant-loop-answer
invariant-loop-answer l = All (λ answer. shows_answer l.seen answer ≡ false) (take l.answer-index l.answers)
