use Rattle.std.proofs.Common.{◌∙◌, sym, arith}
use Rattle.xa_lines.proofs.JsonWritten.{form_here, form_next, form_none}
use Rattle.xa_lines.proofs.json_forms.form_of.Goals as goal

pub returns-then-fits : goal.returns-then-fits
returns-then-fits c =
    form_here _ c.args.line.now c.loop-form.form-index _ (omega (arith, c.loop-form-test.true)) c.loop-form.invariant
    (sym c.fits.ensures ∙ c.if-fits.true)

pub loop-form-preserved : goal.loop-form-preserved
loop-form-preserved c =
    form_next _ c.args.line.now c.loop-form.form-index _ (omega (arith, c.loop-form-test.true)) c.loop-form.invariant
    (sym c.fits.ensures ∙ c.if-fits.false)

pub returns : goal.returns
returns c = form_none _ c.args.line.now c.loop-form.form-index (omega (arith, c.loop-form-test.false))
    c.loop-form.invariant
