use Rattle.std.proofs.Common.{sym, ◌∙◌}
use Rattle.xa_lines.specs.Script.{lines_of}
use Rattle.xa_record.proofs.JsonTexts.{lines-none, array-ended-ok}
use Rattle.xa_record.proofs.json_text.write_lines.Goals as goal

pub returns-clause-tokens : goal.returns-clause-tokens
returns-clause-tokens c =
    array-ended-ok c.end_array.result _ c.loop-rest.writer.tokens c.end_array.new.self.tokens
    (lines_of c.loop-rest.rest.now) c.loop-rest.invariant.tokens
    (lines-none c.loop-rest.rest.now (sym c.is_empty.ensures ∙ c.loop-rest-test.false)) c.end_array.ensures.ok
