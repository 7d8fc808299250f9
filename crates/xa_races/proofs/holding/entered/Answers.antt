use Rattle.std.proofs.{Common.{◌≡◌, ◌≤◌, length, map, max, take, ap, sym, ◌∙◌, arith}, lemmas.List.length-take}
use Rattle.std.specs.Prelude.{slice_get}
use Rattle.xa_store.specs.Passes.{identity_of}
use Rattle.xa_races.proofs.RaceRuns.{get_taken, passes_of, runs_from, runs_belong, runs_count}
use Rattle.xa_races.proofs.holding.entered.Goals as goal

pub returns-clause-belongs : goal.returns-clause-belongs
returns-clause-belongs c =
    let identity = identity_of c.in-Ok.store.log in
    let greatest = c.args.greatest in
    let passes = c.in-Ok.passes.items in
    let taken = c.truncate.new.self.items in
    let lists = c.args.lists.items in
    let runs = c.in_ok-runs.runs.items in
    let opened = c.in-Ok.ensures.ok in
    let kept : length passes ≡ max greatest 1 = omega (arith, opened.count, c.max.ensures) in
    let front : length taken ≡ length (take greatest passes) = ap length c.truncate.ensures.items in
    let enough : length taken ≤ length lists =
    omega (arith, front, length-take greatest passes, c.requires.all, c.requires.within, c.args.lists.ok.0) in
    let are : map (λ run. run.pass) runs ≡ taken = passes_of runs taken lists c.in_ok-runs.ensures enough in
    runs_belong identity greatest passes taken runs opened.belongs c.truncate.ensures.items are

pub returns-clause-sessions : goal.returns-clause-sessions
returns-clause-sessions c =
    let identity = identity_of c.in-Ok.store.log in
    let greatest = c.args.greatest in
    let passes = c.in-Ok.passes.items in
    let taken = c.truncate.new.self.items in
    let lists = c.args.lists.items in
    let runs = c.in_ok-runs.runs.items in
    let opened = c.in-Ok.ensures.ok in
    let kept : length passes ≡ max greatest 1 = omega (arith, opened.count, c.max.ensures) in
    let front : length taken ≡ length (take greatest passes) = ap length c.truncate.ensures.items in
    let enough : length taken ≤ length lists =
    omega (arith, front, length-take greatest passes, c.requires.all, c.requires.within, c.args.lists.ok.0) in
    let are : map (λ run. run.pass) runs ≡ taken = passes_of runs taken lists c.in_ok-runs.ensures enough in
    let count : length runs ≡ greatest = runs_count greatest passes taken runs kept c.truncate.ensures.items are in
    omega (arith, opened.sessions_is, c.max.ensures, count)

pub returns-clause-runs : goal.returns-clause-runs
returns-clause-runs c = λ lines last given.
    let identity = identity_of c.in-Ok.store.log in
    let greatest = c.args.greatest in
    let passes = c.in-Ok.passes.items in
    let taken = c.truncate.new.self.items in
    let lists = c.args.lists.items in
    let runs = c.in_ok-runs.runs.items in
    let opened = c.in-Ok.ensures.ok in
    let kept : length passes ≡ max greatest 1 = omega (arith, opened.count, c.max.ensures) in
    let front : length taken ≡ length (take greatest passes) = ap length c.truncate.ensures.items in
    let enough : length taken ≤ length lists =
    omega (arith, front, length-take greatest passes, c.requires.all, c.requires.within, c.args.lists.ok.0) in
    let are : map (λ run. run.pass) runs ≡ taken = passes_of runs taken lists c.in_ok-runs.ensures enough in
    let count : length runs ≡ greatest = runs_count greatest passes taken runs kept c.truncate.ensures.items are in
    record {
      count = count ∙ last;
      each = runs_from 1 lines runs taken lists c.in_ok-runs.ensures
          (λ index pass is. opened.numbers index pass
          (get_taken greatest passes index pass (ap (λ list. slice_get list index) (sym c.truncate.ensures.items)
          ∙ is))) given;
    }
