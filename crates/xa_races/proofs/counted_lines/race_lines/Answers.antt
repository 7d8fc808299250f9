use Rattle.xa_races.proofs.NewRuns.{sessions_mine}
use Rattle.xa_races.proofs.counted_lines.race_lines.Goals as goal

pub invariant_of-result : goal.invariant_of-result
invariant_of-result g c = record {
  mine =
      sessions_mine c.args.opened.store.value c.in_ok-runs.runs.items c.in-Ok.outcome.sessions.items
      c.in_ok-runs.ensures c.in-Ok.ensures.outcome.sessions;
}
