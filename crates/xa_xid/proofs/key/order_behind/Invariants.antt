use Rattle.std.proofs.Common.{◌≡◌, ◌-◌, ◌≤◌, min, length}
use Rattle.xa_xid.proofs.Heads.{AtRests}
use Rattle.xa_xid.proofs.key.order_behind.Given as goal

abbrev pub invariant-loop-place : goal.invariant-loop-place
invariant-loop-place l =
    (l.place-end ≡ min (length l.left) (length l.right)) × (l.place ≤ l.place-end) × AtRests l.left l.right l.place

abbrev pub decreases-loop-place : goal.decreases-loop-place
decreases-loop-place l = l.place-end - l.place
