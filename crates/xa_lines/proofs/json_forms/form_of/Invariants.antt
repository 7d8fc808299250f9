use Rattle.std.proofs.Common.{◌≡◌, drop, map}
use Rattle.xa_lines.specs.Objects.{form_for, first_fit}
use Rattle.xa_lines.proofs.json_forms.form_of.Given as goal

abbrev pub invariant-loop-form : goal.invariant-loop-form
invariant-loop-form l = form_for l.line ≡ first_fit (map (λ form. form.now) (drop l.form-index l.form-items)) l.line
