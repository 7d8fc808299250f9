use Rattle.std.proofs.Common.{◌≢◌, List, Some, ap, sym, ◌∙◌, subst}
use Rattle.xa_coordinator.specs.{declared.decisions.Decision.Decision, Decisions.{decision_of, is_decided}}
use Rattle.xa_coordinator.proofs.{DecisionsOf.{closed_none, closed_decides}, Recovering.ends_as}
use Rattle.xa_coordinator.proofs.coordinator.Coordinator.recover.Goals as goal

pub returns-in_err-fronts-clause-none_undecided : goal.returns-in_err-fronts-clause-none_undecided
returns-in_err-fronts-clause-none_undecided g c = λ number.
    subst (λ (list : List Decision). decision_of list number ≢ Some Decision.Undecided) (sym c.close_all.ensures)
    (closed_none c.args.decisions.now number)

pub returns-in_err-fronts-clause-kept : goal.returns-in_err-fronts-clause-kept
returns-in_err-fronts-clause-kept g c =
    λ number. ap (λ (list : List Decision). is_decided list number) c.close_all.ensures
    ∙ closed_decides c.args.decisions.now number

pub returns-clause-none_undecided : goal.returns-clause-none_undecided
returns-clause-none_undecided g c = λ number.
    subst (λ (list : List Decision). decision_of list number ≢ Some Decision.Undecided) (sym c.close_all.ensures)
    (closed_none c.args.decisions.now number)

pub returns-clause-kept : goal.returns-clause-kept
returns-clause-kept g c = λ number. ap (λ (list : List Decision). is_decided list number) c.close_all.ensures
    ∙ closed_decides c.args.decisions.now number

pub returns-clause-agrees : goal.returns-clause-agrees
returns-clause-agrees g c =
    ends_as g.S.Speak.view c.close_all.new.self c.args.self.now.name.items c.recover_each.result
    c.args.self.now.branches
    c.recover_each.new.self.branches c.args.self.now.stores.items
    c.recover_each.new.self.stores.items c.recover_each.ensures.recovers c.recover_each.ensures.breaks
