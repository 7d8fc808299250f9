use Rattle.xa_judge.proofs.Loops.{contained_more, contained_end}
use Rattle.xa_judge.proofs.foreseen.distinct.Goals as goal

pub loop-answer-preserved : goal.loop-answer-preserved
loop-answer-preserved c =
    contained_more c.args.answers.now c.loop-answer.answer-index c.answer-item.result c.loop-answer.once.items
    c.add_answer.new.answers.items c.loop-answer-test.true c.answer-item.is c.in_ok-add_answer.ensures.keeps
    c.in_ok-add_answer.ensures.has c.loop-answer.invariant

pub returns : goal.returns
returns c =
    contained_end c.args.answers.now c.loop-answer.answer-index c.loop-answer.once.items c.loop-answer-test.false
    c.loop-answer.invariant
