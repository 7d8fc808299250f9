use Rattle.std.proofs.Common.{List, [], ◌∷◌, ◌++◌, map, sym, subst, arith}
use Rattle.std.proofs.lemmas.List.{length-append, length-map, map-append}
use Rattle.xa_xid.specs.declared.statement.Statement.{Statement}
use Rattle.xa_races.{specs.{LongRace.AreNewRuns, declared.long_run.LongRun.LongRun}, proofs.NewRuns.new_more}
use Rattle.xa_races.proofs.long_entering.enter_all.Goals as goal

pub loop-lines-preserved : goal.loop-lines-preserved
loop-lines-preserved c =
    let inv = c.loop-lines.invariant in
    let yielded = c.loop-lines.yielded in
    let before = map (λ list. list.items) yielded in
    let long = length-map yielded (λ list. list.items) in (
      subst (λ (l : List (List Statement)). AreNewRuns c.args.store.now.value 1 l c.push.new.self.items)
          (sym (map-append (λ list. list.items) yielded (c.in-Some.lines ∷ [])))
          (subst (λ (l : List LongRun). AreNewRuns c.args.store.now.value 1 (before ++ c.in-Some.lines.items ∷ []) l)
          (sym c.in_ok-push.ensures.items)
          (new_more c.args.store.now.value 1 _ before c.loop-lines.runs.items c.in-Some.lines.items c.in_ok-run.run'
          inv.0 (omega (arith, long, inv.1))
          c.in_ok-run.ensures)),
      (let more = length-append yielded (c.in-Some.lines ∷ []) in omega (arith, more, inv.1, c.in_ok-push.ensures.len)),
    )
