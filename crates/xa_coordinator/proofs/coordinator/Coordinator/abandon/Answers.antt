use Rattle.std.proofs.Common.{ℕ, List, subst}
use Rattle.xa_coordinator.specs.{Agreement.Agrees, Stores.EachStore, declared.closing.Closing.TheVariants.RollBack}
use Rattle.xa_coordinator.proofs.Agreeing.{ending_agrees}
use Rattle.xa_coordinator.proofs.coordinator.Coordinator.abandon.Goals as goal

pub returns-clause-agrees : goal.returns-clause-agrees
returns-clause-agrees g c = λ decisions undecided.
    subst (λ (name : List ℕ). EachStore g.S.Speak.view (Agrees decisions name) c.args.self.now.stores.items
    c.finish_each.new.self.stores.items) c.requires.name
    (ending_agrees g.S.Speak.view decisions c.args.transaction c.args.self.now.branches RollBack c.finish_each.result
    c.args.self.now.stores.items
    c.finish_each.new.self.stores.items undecided c.finish_each.ensures.ends)
