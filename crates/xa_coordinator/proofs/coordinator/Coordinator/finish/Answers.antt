use Rattle.std.proofs.Common.{ℕ, List, ap, ◌∙◌, subst}
use Rattle.xa_coordinator.specs.{Agreement.Agrees, Decisions.is_decided, Stores.EachStore}
use Rattle.xa_coordinator.{specs.Outcomes.{EndsAs, finish_for}, proofs.Agreeing.{ending_agrees, allows_for}}
use Rattle.xa_coordinator.proofs.coordinator.Coordinator.finish.Goals as goal

pub returns-clause-agrees : goal.returns-clause-agrees
returns-clause-agrees g c =
    let decisions = c.args.decisions.now in
    let transaction = c.args.prepared.transaction in
    let vote_kind = c.args.prepared.vote_kind in
    subst (λ (name : List ℕ). EachStore g.S.Speak.view (Agrees decisions name) c.args.self.now.stores.items
    c.finish_each.new.self.stores.items) c.requires.name
    (ending_agrees g.S.Speak.view decisions transaction c.args.self.now.branches
    (finish_for (is_decided decisions transaction.number) vote_kind) c.finish_each.result c.args.self.now.stores.items
    c.finish_each.new.self.stores.items
    (allows_for decisions transaction.number vote_kind)
    (subst (λ closing. EndsAs g.S.Speak.view c.args.self.now.branches transaction closing c.finish_each.result
    c.args.self.now.stores.items
    c.finish_each.new.self.stores.items)
    (c.finish_for-closing.ensures ∙ ap (λ decided. finish_for decided vote_kind) c.is_decided.ensures)
    c.finish_each.ensures.ends))
