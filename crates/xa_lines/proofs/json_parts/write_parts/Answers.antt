use Rattle.std.proofs.Common.{rules, ◌≡◌, ◌∙◌, ◌++◌, sym, ap}
use Rattle.xa_lines.specs.{Objects.{part_tokens_as, mark_of, parts_tokens, left_as}, Script.lines_of}
use Rattle.xa_lines.proofs.JsonWritten.{members_more, members_end}
use Rattle.xa_lines.proofs.json_parts.write_parts.Goals as goal

pub loop-parts-preserved : goal.loop-parts-preserved
loop-parts-preserved c =
    let part = c.split_line.result.0.now in
    let written : c.write_part.new.writer.tokens ≡ c.loop-parts.writer.tokens ++ part_tokens_as (mark_of part) part
    c.loop-parts.text.now = search rules in
    let left : c.left_behind-text.result.now ≡ left_as (mark_of part) c.loop-parts.text.now = search rules in
    record {
      tokens =
          members_more _ c.loop-parts.writer.tokens c.write_part.new.writer.tokens part c.loop-parts.parts.now
          c.loop-parts.text.now
          (lines_of c.split_line.result.1.now) c.split_line.ensures.lines c.loop-parts.invariant.tokens written
          ∙ ap (λ text. c.write_part.new.writer.tokens ++ parts_tokens (lines_of c.split_line.result.1.now) text) (sym
          left);
      before = search rules;
    }

pub returns-clause-tokens : goal.returns-clause-tokens
returns-clause-tokens c =
    members_end _ c.loop-parts.writer.tokens c.loop-parts.parts.now c.loop-parts.text.now (sym c.is_empty.ensures
    ∙ c.loop-parts-test.false)
    c.loop-parts.invariant.tokens
