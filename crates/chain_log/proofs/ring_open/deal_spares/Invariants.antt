use Rattle.std.{proofs.Common.{◌≡◌, ◌+◌, ℕ, Some, length}, specs.{Prelude.slice_get, List.All}}
use Rattle.decision_log.specs.{AtTable.KnowsRest, Known.newcomer, Seats.{pass_view, newcomer_view}}
use Rattle.chain_log.specs.{declared.spare.RingSpare.RingSpare, RingPass.identity_of}
use Rattle.chain_log.specs.RingSpare.{spare_log_of, spare_known_of}
use Rattle.chain_log.proofs.ring_open.deal_spares.Given as goal

abbrev pub invariant-loop-index : goal.invariant-loop-index
invariant-loop-index l = record {
  rest : KnowsRest l.log.table.inner.shared.table_id l.rest;
  next : pass_view l.rest ≡ newcomer_view l.log.columns l.log.capacity (l.log.sessions + l._index + 1);
  count : length l.spares.items ≡ l._index;
  belongs : All (λ spare. spare_log_of spare ≡ identity_of l.log) l.spares.items;
  numbers : (index : ℕ) (spare : RingSpare) → slice_get l.spares.items index ≡ Some spare
      → spare_known_of spare ≡ newcomer (l.log.sessions + index + 1);
}
