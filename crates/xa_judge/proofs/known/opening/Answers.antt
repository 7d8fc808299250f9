use Rattle.std.proofs.Common.{ap, ◌∙◌, ◌++◌, ◌∷◌, []}
use Rattle.xa_judge.proofs.known.opening.Goals as goal

pub returns : goal.returns
returns c = (
  c.in_ok-opening.field-0,
  c.in_ok-push.ensures.items ∙ ap (λ l. l ++ c.in_ok-opening.field-0 ∷ []) c.new-known.ensures.items,
  c.in_ok-opening.ensures.config,
  c.in_ok-opening.ensures.path,
)
