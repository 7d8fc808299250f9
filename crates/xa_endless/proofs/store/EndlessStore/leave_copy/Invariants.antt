use Rattle.std.proofs.Common.{◌≡◌}
use Rattle.xa_endless.proofs.store.EndlessStore.leave_copy.Given as goal

abbrev pub invariant-loop-step : goal.invariant-loop-step
invariant-loop-step l = record {
  member : l.member ≡ l.fn.member;
  copy : l.shared.value ≡ l.fn.member.replica;
  own : l.own ≡ l.fn.member.replica;
}
