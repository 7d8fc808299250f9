use Rattle.xa_orders.{proofs.Lists.any_weaker, specs.{declared.outcome.Outcome.Outcome, Orders.AtMost}}
use Rattle.std.proofs.Common.{◌≡◌}
use Rattle.xa_races.proofs.Law.{came_given, came_outcome}
use Rattle.xa_races.proofs.counted_laws.race_gives_an_outcome.Goals as goal

pub returns-clause-given : goal.returns-clause-given
returns-clause-given c = came_given

pub returns-clause-listed : goal.returns-clause-listed
returns-clause-listed c = λ parts outcomes text explored came.
    let found = came_outcome parts outcomes text explored came in
    any_weaker (λ (one : Outcome). (one.text.items ≡ text) × AtMost one.order.items found.0)
    (λ (one : Outcome). one.text.items ≡ text)
    (λ one both. both.0) outcomes found.1
