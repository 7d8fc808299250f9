use Rattle.std.proofs.Common.{◌≡◌, ◌≤◌, length, vec_len, vec_capacity}
use Rattle.xa_coordinator.proofs.Walk.{Reached}
use Rattle.xa_manager.specs.Said.{IsListed}
use Rattle.xa_manager.proofs.answer.listed_by_each.Given as goal

abbrev pub invariant-loop-store : goal.invariant-loop-store
invariant-loop-store g l = record {
  listed : Reached g.T.Speak.view (IsListed l.answers.items) l.store l.fn.other_clients l.other_clients;
  count : vec_len l.answers ≡ l.store;
  room : length l.fn.other_clients ≤ vec_capacity l.answers;
}
