use Rattle.std.proofs.Common.{subst}
use Rattle.xa_judge.{specs.Following.Leads, proofs.Told.passes_of}
use Rattle.xa_judge.proofs.ways.judge_by_search.Goals as goal

pub returns-then-branch-clause-verdict : goal.returns-then-branch-clause-verdict
returns-then-branch-clause-verdict g c =
    subst (λ moves. Leads c.args.base.now c.args.events.now moves) c.as_slice.ensures.value
    (c.in_ok-follows-in-Some.ensures.0 c.if-branch.true)

pub returns-else-branch-clause-told : goal.returns-else-branch-clause-told
returns-else-branch-clause-told g c = passes_of (rw c.in-Some.is at c.in_ok-moves_through.ensures)
