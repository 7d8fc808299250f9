use Rattle.std.{proofs.Common.{◌≡◌, ◌++◌, take}, specs.List.flat_map}
use Rattle.xa_lines.specs.Listing.{branch_lines}
use Rattle.xa_lines.proofs.listing.with_branches.Given as goal

abbrev pub invariant-loop-branch : goal.invariant-loop-branch
invariant-loop-branch l =
    l.longer.items ≡ l.initial.longer.items ++ flat_map (branch_lines l.server) (take l.branch-index l.branches)
