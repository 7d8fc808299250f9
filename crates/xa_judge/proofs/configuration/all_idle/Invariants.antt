use Rattle.std.proofs.Common.{◌≡◌, replicate}
use Rattle.xa_judge.specs.declared.client_state.ClientState.TheVariants.{Idle}
use Rattle.xa_judge.proofs.configuration.all_idle.Given as goal

abbrev pub invariant-loop : goal.invariant-loop
invariant-loop l = l.all.items ≡ replicate l.counter Idle
