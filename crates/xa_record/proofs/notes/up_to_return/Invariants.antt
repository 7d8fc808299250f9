use Rattle.std.proofs.Common.{◌≡◌, ◌≤◌, map, take, length}
use Rattle.xa_record.specs.{Reading.up_to_return, Kept.numbered_kept}
use Rattle.xa_record.proofs.notes.up_to_return.Given as goal

abbrev pub invariant-loop-place : goal.invariant-loop-place
invariant-loop-place l = record {
  left : up_to_return l.session (map numbered_kept l.numbered)
      ≡ up_to_return l.session (map numbered_kept (take l.place l.numbered));
  within : l.place ≤ length l.numbered;
}

abbrev pub decreases-loop-place : goal.decreases-loop-place
decreases-loop-place l = l.place
