use Rattle.std.{proofs.Common.{◌≡◌, ◌+◌, ℕ, Some, length}, specs.{Prelude.slice_get, List.All}}
use Rattle.decision_log.specs.{AtTable.{KnowsRest, identity_at}, Known.newcomer, Seats.{pass_view, newcomer_view}}
use Rattle.decision_log.proofs.opening.deal_all.Given as goal

abbrev pub invariant-loop-index : goal.invariant-loop-index
invariant-loop-index g l = record {
  rest : KnowsRest l.table.inner.shared.table_id l.rest;
  next : pass_view l.rest ≡ newcomer_view l.sizes.sessions l.sizes.capacity (l.index + 1);
  count : length l.passes.items ≡ l.index;
  belongs : All (λ pass. g.P.SeatedPass.belongs_to pass ≡ identity_at l.table.inner.shared.table_id l.sizes)
      l.passes.items;
  numbers : (index : ℕ) (pass : _) → slice_get l.passes.items index ≡ Some pass
      → g.P.SeatedPass.known pass ≡ newcomer (index + 1);
}
