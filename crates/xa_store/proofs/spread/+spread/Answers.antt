use Rattle.std.{proofs.Common.{◌≡◌, Err, refl, ap, sym, ◌∙◌, subst, inl, inr, ⊎_elim}, specs.Result.{IfOk, IfErr}}
use Rattle.std.proofs.lemmas.{Result.{IfOk-weaker, IfErr-weaker}, Slice.Zip.all_zipped_more}
use Rattle.xa_store.proofs.{Spreading.{when_ok, when_err, stopped_before, stopped_last}, Telling.told_more}
use Rattle.xa_store.specs.declared.race_fault.RaceFault.TheVariants.{ThreadRefused}
use Rattle.xa_store.proofs.spread.+spread.Goals as goal

pub returns-in-Ok-clause-ok : goal.returns-in-Ok-clause-ok
returns-in-Ok-clause-ok g t c =
    let task = c.in-Some.task in
    let same : c.in-Ok.thread.promise.0.value ≡ task = ap (λ p. p.0.value) c.in-Ok.ensures.ok ∙ c.of.ensures in
    let kept : IfOk c.join.result (g.T.Task.gains task) =
    subst (λ one. IfOk c.join.result (g.T.Task.gains one)) same c.join.ensures.0 in
    IfOk-weaker c.join_task.result _ _
    (λ all is.
    let rest = when_ok c.spread-others.result _ is.0 c.spread-others.ensures.ok is.2 in
    let one = when_ok c.join.result _ is.1 kept is.3 in
    rw (c.in-Some.ensures.items, is.4)
    (all_zipped_more _ c.pop.new.self.items is.0.items task is.1 rest one))
    c.join_task.ensures.ok

pub returns-in-Ok-clause-err : goal.returns-in-Ok-clause-err
returns-in-Ok-clause-err g t c =
    let task = c.in-Some.task in
    let same : c.in-Ok.thread.promise.0.value ≡ task = ap (λ p. p.0.value) c.in-Ok.ensures.ok ∙ c.of.ensures in
    let kept : IfErr c.join.result (g.T.Task.stops task) =
    subst (λ one. IfErr c.join.result (g.T.Task.stops one)) same c.join.ensures.1 in
    IfErr-weaker c.join_task.result _ _
    (λ first_fault is.
    ⊎_elim
    (λ others.
    ⊎_elim (λ memory. inl memory)
    (λ rest. ⊎_elim (λ refused. inr (inl refused))
    (λ at. inr (inr (stopped_before c.pop.new.self.items task _ _ first_fault.fault (sym c.in-Some.ensures.items) at)))
    rest)
    (when_err c.spread-others.result _ first_fault c.spread-others.ensures.err others))
    (λ rest. ⊎_elim
    (λ ended. inr (inr (stopped_last c.pop.new.self.items task _ _ first_fault.fault (sym c.in-Some.ensures.items)
    (when_err c.join.result _ first_fault.fault kept ended))))
    (λ memory. inl memory) rest)
    is)
    c.join_task.ensures.err

pub returns-clause-err : goal.returns-clause-err
returns-clause-err g t c =
    let task = c.in-Some.task in
    IfErr-weaker c.join_task-in-Err.result _ _
    (λ first_fault is.
    ⊎_elim
    (λ others.
    ⊎_elim (λ memory. inl memory)
    (λ rest. ⊎_elim (λ refused. inr (inl refused))
    (λ at. inr (inr (stopped_before c.pop.new.self.items task _ _ first_fault.fault (sym c.in-Some.ensures.items) at)))
    rest)
    (when_err c.spread-others.result _ first_fault c.spread-others.ensures.err others))
    (λ rest. ⊎_elim (λ refused. inr (inl (cc refused))) (λ memory. inl memory) rest)
    is)
    c.join_task-in-Err.ensures.err

pub returns-in-Ok-clause-lowest : goal.returns-in-Ok-clause-lowest
returns-in-Ok-clause-lowest g t c =
    let task = c.in-Some.task in
    let same : c.in-Ok.thread.promise.0.value ≡ task = ap (λ p. p.0.value) c.in-Ok.ensures.ok ∙ c.of.ensures in
    let does : IfOk c.join.result (g.T.Task.gains task) =
    subst (λ one. IfOk c.join.result (g.T.Task.gains one)) same c.join.ensures.0 in
    let stopped : IfErr c.join.result (g.T.Task.stops task) =
    subst (λ one. IfErr c.join.result (g.T.Task.stops one)) same c.join.ensures.1 in
    IfErr-weaker c.join_task.result _ _
    (λ told is.
    told_more g.T.Task.number_of g.T.Task.gains g.T.Task.stops c.pop.new.self.items task c.args.tasks.items
    (sym c.in-Some.ensures.items)
    c.spread-others.result c.join.result told c.get-number.result
    (c.get-number.ensures.value ∙ c.number.ensures) c.get-number.ensures.in_range.1
    c.spread-others.ensures.ok c.spread-others.ensures.lowest does
    (IfErr-weaker c.join.result _ _ (λ fault stops. inr stops) stopped) is)
    c.join_task.ensures.lowest

pub returns-clause-lowest : goal.returns-clause-lowest
returns-clause-lowest g t c =
    let task = c.in-Some.task in
    IfErr-weaker c.join_task-in-Err.result _ _
    (λ told is.
    told_more g.T.Task.number_of g.T.Task.gains g.T.Task.stops c.pop.new.self.items task c.args.tasks.items
    (sym c.in-Some.ensures.items)
    c.spread-others.result (Err ThreadRefused) told c.get-number.result
    (c.get-number.ensures.value ∙ c.number.ensures) c.get-number.ensures.in_range.1
    c.spread-others.ensures.ok c.spread-others.ensures.lowest tt (inl refl) is)
    c.join_task-in-Err.ensures.lowest
