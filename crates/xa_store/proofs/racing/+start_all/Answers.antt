use Rattle.std.proofs.{Common.{◌≡◌, Some, rules}, lemmas.{List.Elements.All-pop, Result.IfOk-weaker}}
use Rattle.std.proofs.lemmas.Slice.Zip.{all_zipped_more}
use Rattle.xa_store.{specs.Passes.{identity_of, log_of}, proofs.Spreading.when_ok}
use Rattle.xa_store.proofs.racing.+start_all.Goals as goal

pub start-requires : goal.start-requires
start-requires g t c =
    (All-pop (λ run. log_of run.pass ≡ identity_of c.args.store.now.log) c.args.runs.items c.pop.new.self.items
    (Some c.in-Some.run')
    c.in-Some.ensures.items c.requires).1

pub returns : goal.returns
returns g t c =
    IfOk-weaker c.and_last.result _ _
    (λ all is.
    let one = when_ok c.start.result _ is.1 c.start.ensures is.3 in
    rw (c.in-Some.ensures.items, is.4)
    (all_zipped_more _ c.pop.new.self.items is.0.items c.in-Some.run' is.1
    (when_ok c.start_all-others.result _ is.0 c.start_all-others.ensures is.2)
    (one.0, one.1, one.2, one.3)))
    c.and_last.ensures

pub start_all-others-requires : goal.start_all-others-requires
start_all-others-requires g t c =
    let both =
    All-pop (λ run. log_of run.pass ≡ identity_of c.args.store.now.log) c.args.runs.items c.pop.new.self.items
    (Some c.in-Some.run') c.in-Some.ensures.items
    c.requires in
    λ κs within. (search rules, (search rules, both.0))
