use Rattle.std.{proofs.Common.{◌≡◌, ◌+◌, ◌≤◌, ℕ, Some, length}, specs.{Prelude.slice_get, List.All}}
use Rattle.decision_log.specs.{AtTable.KnowsRest, Known.newcomer, Seats.{pass_view, newcomer_view}}
use Rattle.chain_log.specs.{declared.ring_pass.RingPass.RingPass, RingPass.{identity_of, log_of, known_of}}
use Rattle.chain_log.proofs.ring_open.deal_all.Given as goal

abbrev pub invariant-loop-index : goal.invariant-loop-index
invariant-loop-index l = record {
  rest : KnowsRest l.log.table.inner.shared.table_id l.rest;
  next : pass_view l.rest ≡ newcomer_view l.log.columns l.log.capacity (l.index + 1);
  count : length l.passes.items ≡ l.index;
  belongs : All (λ pass. log_of pass ≡ identity_of l.log) l.passes.items;
  numbers : (index : ℕ) (pass : RingPass) → slice_get l.passes.items index ≡ Some pass
      → known_of pass ≡ newcomer (index + 1);
  low : All (λ pass. (known_of pass).number ≤ l.log.sessions) l.passes.items;
}
