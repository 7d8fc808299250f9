use Rattle.std.proofs.Common.{ℕ, List, subst}
use Rattle.xa_coordinator.{specs.{Agreement.Agrees, Stores.EachStore}, proofs.Agreeing.vote_agrees}
use Rattle.xa_coordinator.proofs.coordinator.Coordinator.prepare.Goals as goal

pub returns-in-Single-clause-agrees : goal.returns-in-Single-clause-agrees
returns-in-Single-clause-agrees g c = λ decisions.
    subst (λ (name : List ℕ). EachStore g.S.Speak.view (Agrees decisions name) c.args.self.now.stores.items
    c.end_alone.new.self.stores.items) c.requires.name
    (vote_agrees g.S.Speak.view decisions c.args.transaction c.end_alone.result c.args.self.now.stores.items
    c.end_alone.new.self.stores.items
    c.end_alone.ensures.vote)

pub returns-in-Several-clause-agrees : goal.returns-in-Several-clause-agrees
returns-in-Several-clause-agrees g c = λ decisions.
    subst (λ (name : List ℕ). EachStore g.S.Speak.view (Agrees decisions name) c.args.self.now.stores.items
    c.prepare_each.new.self.stores.items)
    c.requires.name
    (vote_agrees g.S.Speak.view decisions c.args.transaction c.prepare_each.result c.args.self.now.stores.items
    c.prepare_each.new.self.stores.items
    c.prepare_each.ensures.vote)
