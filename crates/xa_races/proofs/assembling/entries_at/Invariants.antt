use Rattle.std.proofs.Common.{◌≡◌, map, Some}
use Rattle.xa_races.proofs.assembling.entries_at.Given as goal

abbrev pub invariant-loop-place : goal.invariant-loop-place
invariant-loop-place l = map Some l.entries.items ≡ l.yielded
