use Rattle.std.proofs.{Common.map, lemmas.Result.{IfOk-weaker, IfErr-weaker}}
use Rattle.xa_races.proofs.NewRuns.{new_mine, long_race, blames_race}
use Rattle.xa_races.proofs.long_racing.hold_long_race.Goals as goal

pub race_on-requires-after_bounds : goal.race_on-requires-after_bounds
race_on-requires-after_bounds g c κs within =
    new_mine c.in-Ok.store.value 1 (map (λ list. list.items) c.args.lists.items) c.in_ok-runs.runs.items
    c.in_ok-runs.ensures

pub returns-clause-outcome : goal.returns-clause-outcome
returns-clause-outcome g c =
    IfOk-weaker c.race_on.result _ _
    (λ outcome is.
    long_race (g.G.Gate.may_answer c.args.gate.now) c.args.rows c.max.result c.in-Ok.store.value
    (map (λ list. list.items) c.args.lists.items)
    c.in_ok-runs.runs.items outcome c.in-Ok.ensures.ok c.in_ok-runs.ensures is)
    c.race_on.ensures.outcome

pub returns-clause-fault : goal.returns-clause-fault
returns-clause-fault g c =
    IfErr-weaker c.race_on.result _ _
    (λ fault is.
    blames_race (g.G.Gate.may_answer c.args.gate.now) c.in-Ok.store.value
    (map (λ list. list.items) c.args.lists.items) c.in_ok-runs.runs.items fault
    c.in_ok-runs.ensures is)
    c.race_on.ensures.fault
