use Rattle.xa_judge.{specs.Foreseen.hints_of, proofs.ForeseenAdvances.goes_first}
use Rattle.xa_judge.proofs.foreseen.opened.Goals as goal

pub returns : goal.returns
returns c = λ events moves end runs.
    goes_first c.args.base.now (hints_of events c.in_ok-no_places.field-0.items) c.in_ok-opening.field-0.items
    events moves end c.in_ok-opening.ensures c.keeps_lock_law.ensures runs
