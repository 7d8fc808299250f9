use Rattle.std.{proofs.Common.{ap, ◌∙◌}, specs.Prelude.slice_set}
use Rattle.xa_coordinator.specs.{Decisions.is_decided, declared.decisions.Decision.TheVariants.Decided}
use Rattle.xa_coordinator.proofs.DecisionsOf.{decided_after, decided_kept, with_decided-at}
use Rattle.xa_coordinator.proofs.decisions.Decisions.decide.Goals as goal

pub returns-clause-ok : goal.returns-clause-ok
returns-clause-ok c =
    let number = c.args.prepared.now.transaction.number in
    ap (λ list. slice_set list c.in-Some.place Decided) c.self.view_is
    ∙ with_decided-at c.args.self.now c.in-Some.place number (c.in-Some.ensures.some.0 ∙ c.number.ensures)

pub returns-clause-decided : goal.returns-clause-decided
returns-clause-decided c =
    let number = c.args.prepared.now.transaction.number in
    ap (λ list. is_decided (slice_set list c.in-Some.place Decided) number) c.self.view_is
    ∙ decided_after c.args.self.now c.in-Some.place number
    (c.in-Some.ensures.some.0 ∙ c.number.ensures) c.in-Some.ensures.some.1

pub returns-clause-kept : goal.returns-clause-kept
returns-clause-kept c = λ other was.
    ap (λ list. is_decided (slice_set list c.in-Some.place Decided) other) c.self.view_is
    ∙ decided_kept c.args.self.now c.in-Some.place other was
