use Rattle.std.proofs.Common.{arith, rules, tests}
use Rattle.xa_judge.{specs.Verdicts.IsAnswerAfter, proofs.RefutedReturns.{all_more, all_end}}
use Rattle.xa_judge.proofs.refuting.are_given.Goals as goal

pub loop-answer-preserved : goal.loop-answer-preserved
loop-answer-preserved c =
    all_more (IsAnswerAfter c.args.base.now c.args.events.now c.args.session) c.args.answers.now
    c.loop-answer.answer-index c.answer-item.result (omega (arith, c.loop-answer-test.true)) c.answer-item.is
    c.loop-answer.invariant (c.in_ok-is_given.ensures (search (rules, tests)))

pub returns : goal.returns
returns c = λ e.
    all_end (IsAnswerAfter c.args.base.now c.args.events.now c.args.session) c.args.answers.now
    c.loop-answer.answer-index
    (omega (arith, c.loop-answer-test.false)) c.loop-answer.invariant
