use Rattle.std.proofs.Common.{sym, ◌∙◌, drop, arith}
use Rattle.xa_lines.specs.Script.{lines_of}
use Rattle.xa_record.{specs.Shrinking.chosen_text, proofs.Chosen.{chosen_more, chosen_end, chosen_out, no_bytes}}
use Rattle.xa_record.proofs.chosen_lines.chosen_text.Goals as goal

pub returns-then-is_empty : goal.returns-then-is_empty
returns-then-is_empty c =
    chosen_end (chosen_text c.args.keeps.now (lines_of c.args.text.now)) c.loop-kept.out.items c.loop-kept.rest.now
    (drop c.loop-kept.kept-index c.args.keeps.now)
    (no_bytes c.loop-kept.rest.now (sym c.is_empty.ensures ∙ c.if-is_empty.true)) c.loop-kept.invariant

pub loop-kept-preserved : goal.loop-kept-preserved
loop-kept-preserved c =
    chosen_more (chosen_text c.args.keeps.now (lines_of c.args.text.now)) c.loop-kept.out.items
    c.push_if.new.out.items c.args.keeps.now c.loop-kept.kept-index c.loop-kept.rest.now c.split_line.result.0.now
    c.split_line.result.1.now c.loop-kept-test.true c.split_line.ensures.lines c.loop-kept.invariant
    c.in_ok-push_if.ensures

pub returns : goal.returns
returns c =
    chosen_out (chosen_text c.args.keeps.now (lines_of c.args.text.now)) c.loop-kept.out.items c.loop-kept.rest.now
    c.args.keeps.now c.loop-kept.kept-index (omega (arith, c.loop-kept-test.false, c.loop-kept.auto.kept-index-end))
    c.loop-kept.invariant
