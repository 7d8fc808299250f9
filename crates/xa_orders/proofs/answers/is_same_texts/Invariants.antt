use Rattle.std.proofs.Common.{◌≡◌, take}
use Rattle.xa_orders.proofs.answers.is_same_texts.Given as goal

abbrev pub invariant-loop-place : goal.invariant-loop-place
invariant-loop-place l = take l.place l.left ≡ take l.place l.right
