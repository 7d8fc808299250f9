use Rattle.std.proofs.Common.{◌≡◌, ◌++◌, ◌+◌, length}
use Rattle.xa_xid.specs.Xid.{bytes_cmp}
use Rattle.xa_server.specs.{Layers.{kept_write, gathered}, Merging.merged}
use Rattle.xa_server.proofs.run.merge.Given as goal

-- the rows so far, and those of what is left of both lists, are those of both
abbrev pub invariant-loop-older : goal.invariant-loop-older
invariant-loop-older l =
    l.rows ++ gathered (kept_write l.is_last) (merged bytes_cmp l.newer l.older)
    ≡ gathered (kept_write l.is_last) (merged bytes_cmp l.fn.newer l.fn.older)

abbrev pub decreases-loop-older : goal.decreases-loop-older
decreases-loop-older l = length l.newer + length l.older
