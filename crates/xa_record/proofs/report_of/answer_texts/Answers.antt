use Rattle.std.proofs.Common.{ℕ, Vec, Global}
use Rattle.xa_record.proofs.Texts.{texts-none, texts-more}
use Rattle.xa_record.proofs.report_of.answer_texts.Goals as goal

pub loop-answer-init : goal.loop-answer-init
loop-answer-init c =
    texts-none (λ (t : Vec ℕ Global). t.items) c.new-texts.result.keys c.args.answers.now c.new-texts.ensures.empty

pub loop-answer-preserved : goal.loop-answer-preserved
loop-answer-preserved c =
    texts-more (λ (t : Vec ℕ Global). t.items) c.loop-answer.texts.keys c.insert.new.self.keys c.in_ok-text.text
    c.args.answers.now c.loop-answer.answer-index
    c.answer-item.result c.loop-answer-test.true c.answer-item.is
    c.loop-answer.invariant c.in_ok-text.ensures c.in_ok-insert.ensures.keys
