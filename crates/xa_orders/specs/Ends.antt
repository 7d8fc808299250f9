-- What ways come to after the later lines are carried out.
use Rattle.std.specs.{Prelude.{◌≡◌, ◌≢◌, ◌⊎◌, ℕ, List, [], ◌∷◌, ◌++◌}, List.{All, concat}}
use Rattle.xa_orders.specs.declared.{way.Way.Way, outcome.Outcome.Outcome}
use Rattle.xa_orders.specs.Orders.{Told, told_text, AtMost, Pairwise, Any, IsAscending}

-- what all lines are answered on the way, if those before were answered with this text
abbrev pub text_from : List ℕ → List Told → Way → List ℕ
text_from first later way = first ++ concat way.answers ++ told_text way.server later

-- the list has an outcome with this text, and is as it was; or it had none, and has this outcome in addition
abbrev pub IsOutcomeAdded : List ℕ → List ℕ → List Outcome → List Outcome → Type 0
IsOutcomeAdded order text old new =
    (Any (λ one. one.text.items ≡ text) old × (new ≡ old))
    ⊎ ((next : Outcome) × (next.order.items ≡ order) × (next.text.items ≡ text) × All (λ one. one.text.items ≢ text) old
    × (new ≡ old ++ next ∷ []))

-- each outcome is that of a way; each way has one with an order that is at most its own; none is there twice; and the
-- orders ascend
pub record AreOutcomes (text_of : Way → List ℕ) (ways : List Way) (outcomes : List Outcome) : Type 0 where
  pub each : All (λ one. Any (λ way. (one.order.items ≡ way.order.items) × (one.text.items ≡ text_of way)) ways)
      outcomes
  pub all : All (λ way. Any (λ one. (one.text.items ≡ text_of way) × AtMost one.order.items way.order.items) outcomes)
      ways
  pub once : Pairwise (λ one other. one.text.items ≢ other.text.items) outcomes
  pub ascending : IsAscending (λ one. one.order.items) outcomes
