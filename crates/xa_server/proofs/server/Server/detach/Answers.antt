use Rattle.std.proofs.Common.{refl, ap, ◌∙◌, None}
use Rattle.xa_server.specs.declared.branch.{BranchRecord.BranchRecord, Phase.TheVariants.Prepared as PhasePrepared}
use Rattle.xa_server.{specs.{State.Branch, Step.with_changed, View.state_of}, proofs.Index.not_none}
use Rattle.xa_server.proofs.Steps
use Rattle.xa_server.proofs.Whole
use Rattle.xa_server.proofs.server.Server.detach.Goals as goal

-- the record of the branch, PREPARED and nobody's
detached : BranchRecord → BranchRecord
detached branch = record branch { phase = PhasePrepared; owner = None }

-- the branch, PREPARED and nobody's
detached_branch : Branch → Branch
detached_branch branch = record branch { phase = PhasePrepared; owner = None }

pub invariant_of-self : goal.invariant_of-self
unfolding detached
invariant_of-self c =
    rw c.detach.ensures
    (Whole.whole_changed c.self.inside.branches c.self.inside.rows c.args.xid.now detached
    (λ branch is. refl) (λ branch session e. not_none session e) (λ branch. refl) c.self.invariant)

pub returns : goal.returns
unfolding detached detached_branch
returns c =
    ap (λ b. state_of b c.self.inside.rows) c.detach.ensures
    ∙ Steps.seen_changed c.self.inside.branches c.self.inside.rows c.args.xid.now detached detached_branch
    (λ branch. refl)
    ∙ ap (λ s. with_changed s c.args.xid.now detached_branch) c.self.view_is
