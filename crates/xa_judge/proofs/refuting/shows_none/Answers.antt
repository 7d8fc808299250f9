use Rattle.std.proofs.Common.{◌≡◌, false, ap, sym, ◌∙◌, arith}
use Rattle.xa_judge.{specs.Explained.shows_answer, proofs.RefutedReturns.{all_more, all_end}}
use Rattle.xa_judge.proofs.refuting.shows_none.Goals as goal

pub loop-answer-preserved : goal.loop-answer-preserved
loop-answer-preserved c =
    all_more (λ answer. shows_answer c.args.seen.now answer ≡ false) c.args.answers.now c.loop-answer.answer-index
    c.answer-item.result (omega (arith, c.loop-answer-test.true)) c.answer-item.is c.loop-answer.invariant
    (sym (ap (shows_answer c.args.seen.now) c.kept.ensures) ∙ sym c.shows_kept.ensures ∙ c.if-shows_kept.false)

pub returns : goal.returns
returns c = λ e.
    all_end (λ answer. shows_answer c.args.seen.now answer ≡ false) c.args.answers.now c.loop-answer.answer-index
    (omega (arith, c.loop-answer-test.false)) c.loop-answer.invariant
