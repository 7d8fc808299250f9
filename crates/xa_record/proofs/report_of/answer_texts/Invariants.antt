use Rattle.std.proofs.Common.{◌≡◌, map, take}
use Rattle.xa_record.specs.VerdictText.{texts_of}
use Rattle.xa_record.proofs.report_of.answer_texts.Given as goal

abbrev pub invariant-loop-answer : goal.invariant-loop-answer
invariant-loop-answer l = map (λ text. text.items) l.texts.keys ≡ texts_of (take l.answer-index l.answers)
