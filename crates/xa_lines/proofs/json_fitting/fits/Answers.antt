use Rattle.std.proofs.Common.{rules, ◌≡◌, ◌∙◌, sym, ap, true, false}
use Rattle.xa_lines.specs.{Objects.{part_fits_as, mark_of, parts_fit, left_as}, Script.lines_of}
use Rattle.xa_lines.proofs.JsonWritten.{fit_more, fit_fails, fit_ends}
use Rattle.xa_lines.proofs.json_fitting.fits.Goals as goal

pub returns-then-not-part_fits : goal.returns-then-not-part_fits
returns-then-not-part_fits c =
    let is : part_fits_as (mark_of c.split_line.result.0.now) c.split_line.result.0.now c.loop-parts.text.now ≡ false =
    search rules in
    sym (c.loop-parts.invariant
    ∙ fit_fails c.split_line.result.0.now c.loop-parts.parts.now c.loop-parts.text.now (lines_of
    c.split_line.result.1.now) c.split_line.ensures.lines is)

pub loop-parts-preserved : goal.loop-parts-preserved
loop-parts-preserved c =
    let is : part_fits_as (mark_of c.split_line.result.0.now) c.split_line.result.0.now c.loop-parts.text.now ≡ true =
    search rules in
    let left : c.left_behind-text.result.now ≡ left_as (mark_of c.split_line.result.0.now) c.loop-parts.text.now =
    search rules in
    c.loop-parts.invariant
    ∙ fit_more c.split_line.result.0.now c.loop-parts.parts.now c.loop-parts.text.now (lines_of
    c.split_line.result.1.now) c.split_line.ensures.lines is
    ∙ ap (λ text. parts_fit (lines_of c.split_line.result.1.now) text) (sym left)

pub returns : goal.returns
returns c =
    c.is_empty-2.ensures
    ∙ sym (c.loop-parts.invariant ∙ fit_ends c.loop-parts.parts.now c.loop-parts.text.now (sym c.is_empty.ensures
    ∙ c.loop-parts-test.false))
