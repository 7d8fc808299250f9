use Rattle.std.specs.List.{All}
use Rattle.xa_judge.{specs.Found.IsAnsweredIn, proofs.Loops.HasAnswersBefore}
use Rattle.xa_judge.proofs.closing.answers_in.Given as goal

-- the answers are those of the configurations before the place
abbrev pub invariant-loop-one : goal.invariant-loop-one
invariant-loop-one l = record {
  each : All (IsAnsweredIn l.known l.session) l.answers.items;
  all : HasAnswersBefore l.one-index l.known l.session l.answers.items;
}
