use Rattle.std.proofs.Common.{◌+◌, ap, sym, ◌∙◌, arith}
use Rattle.xa_lines.specs.Script.{lines_of}
use Rattle.xa_record.specs.{Reading.{Notes, noted_lines, notes_by, ended_by}, Kept.notes_kept}
use Rattle.xa_record.proofs.NotedLines.{noted_lines-line, noted_lines-end}
use Rattle.xa_record.proofs.reading.read_notes.Goals as goal

pub loop-rest-preserved : goal.loop-rest-preserved
loop-rest-preserved c =
    let number = c.loop-rest.number + 1 in
    record {
      read =
          c.loop-rest.invariant.read
          ∙ noted_lines-line c.args.strict
          (notes_kept c.loop-rest.notes) number c.loop-rest.rest.now c.split_line.result.0.now
          c.split_line.result.1.now
          c.split_line.ensures.lines
          ∙ ap (λ (n : Notes). noted_lines c.args.strict n (number + 1) (lines_of c.split_line.result.1.now))
          (sym c.in_ok-take.ensures);
      short = omega (arith, c.loop-rest.invariant.short, c.split_line.ensures.shorter);
    }

pub returns : goal.returns
unfolding notes_by
returns c =
    let whole =
    c.loop-rest.invariant.read
    ∙ noted_lines-end c.args.strict (notes_kept c.loop-rest.notes) (c.loop-rest.number + 1) c.loop-rest.rest.now
    (sym c.is_empty.ensures ∙ c.loop-rest-test.false) in
    c.in_ok-end.ensures ∙ ap (λ (n : Notes). ended_by n.awaited n) (sym whole)
