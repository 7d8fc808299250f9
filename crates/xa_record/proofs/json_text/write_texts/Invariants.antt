use Rattle.std.proofs.Common.{◌≡◌, ◌++◌, map}
use Rattle.json.specs.Tree.{json_tokens, items_tokens}
use Rattle.xa_record.specs.Forms.{texts_value, values_of}
use Rattle.xa_record.proofs.json_text.write_texts.Given as goal

abbrev pub invariant-loop-text : goal.invariant-loop-text
invariant-loop-text l = record {
  tokens :
      l.fn.writer.tokens ++ json_tokens (texts_value (map (λ text. text.items) l.texts.keys))
      ≡ l.writer.tokens ++ items_tokens (values_of (map (λ text. text.items) l.text-iterator));
  before : l.writer.before ≡ l.fn.writer.before;
}
