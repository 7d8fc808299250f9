use Rattle.std.{proofs.Common.{◌≡◌, take}, specs.Prelude.fold}
use Rattle.xa_judge.specs.Marks.{with_branch}
use Rattle.xa_judge.proofs.fingerprints.Fingerprint.with_branches.Given as goal

-- of the items before the place
abbrev pub invariant-loop-branch : goal.invariant-loop-branch
invariant-loop-branch l =
    l.fingerprint.number ≡ fold (with_branch l.server) l.fn.self.number (take l.branch-index l.branch-items)
