use Rattle.std.proofs.Common.{◌≡◌, ◌++◌, length}
use Rattle.json.specs.Tree.{json_tokens, items_tokens}
use Rattle.xa_lines.specs.Script.{lines_of}
use Rattle.xa_record.specs.Forms.{texts_value, values_of}
use Rattle.xa_record.proofs.json_text.write_lines.Given as goal

abbrev pub invariant-loop-rest : goal.invariant-loop-rest
invariant-loop-rest l = record {
  tokens : l.fn.writer.tokens ++ json_tokens (texts_value (lines_of l.text)) ≡ l.writer.tokens
      ++ items_tokens (values_of (lines_of l.rest));
  before : l.writer.before ≡ l.fn.writer.before;
}

abbrev pub decreases-loop-rest : goal.decreases-loop-rest
decreases-loop-rest l = length l.rest
