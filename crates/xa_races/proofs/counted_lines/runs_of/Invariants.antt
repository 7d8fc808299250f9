use Rattle.std.{proofs.Common.◌≡◌, specs.List.All}
use Rattle.xa_races.proofs.counted_lines.runs_of.Given as goal

abbrev pub invariant-loop-session : goal.invariant-loop-session
invariant-loop-session l = All (λ run. run.session.store.value ≡ l.store.value) l.runs.items
