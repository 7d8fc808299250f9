use Rattle.std.proofs.Common.{◌≡◌, ◌++◌, map}
use Rattle.xa_record.specs.VerdictText.{answers_text}
use Rattle.xa_record.proofs.plain_text.push_texts.Given as goal

abbrev pub invariant-loop-text : goal.invariant-loop-text
invariant-loop-text l =
    l.fn.out.items ++ answers_text (map (λ text. text.items) l.texts.keys) ≡ l.out.items
    ++ answers_text (map (λ text. text.items) l.text-iterator)
