use Rattle.std.{proofs.Common.◌≡◌, specs.List.All}
use Rattle.xa_races.proofs.counted_lines.enter_all.Given as goal

abbrev pub invariant-loop-index : goal.invariant-loop-index
invariant-loop-index l = All (λ session. session.store.value ≡ l.store.value) l.sessions.items
