use Rattle.std.{proofs.Common.{◌≡◌, true, length}, specs.FinMap.{find, is_sorted}}
use Rattle.xa_xid.specs.Xid.{bytes_cmp}
use Rattle.xa_server.proofs.run.find_in.Given as goal

-- the row is among those that are left, if it is there at all
abbrev pub invariant-loop-left : goal.invariant-loop-left
invariant-loop-left l = record {
  sorted : is_sorted bytes_cmp l.left ≡ true;
  same : find bytes_cmp l.key l.left ≡ find bytes_cmp l.key l.fn.rows;
}

abbrev pub decreases-loop-left : goal.decreases-loop-left
decreases-loop-left l = length l.left
