use Rattle.std.proofs.Common.{◌∷◌, [], ◌++◌, ap, ◌∙◌}
use Rattle.xa_orders.proofs.searching.opening_ways.Goals as goal

pub returns : goal.returns
returns c = (
  c.in_ok-opening.field-0,
  c.in_ok-push.ensures.items ∙ ap (λ l. l ++ c.in_ok-opening.field-0 ∷ []) c.new-ways.ensures.items,
  c.in_ok-opening.ensures.config,
  c.in_ok-opening.ensures.order,
)
