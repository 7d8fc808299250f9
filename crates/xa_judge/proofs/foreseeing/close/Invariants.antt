use Rattle.std.proofs.Common.{◌≤◌, ◌-◌}
use Rattle.xa_judge.specs.{Foreseen.{hints_of, ExtendsBy}, Persistent.AreClosedFor}
use Rattle.xa_judge.proofs.foreseeing.close.Given as goal

-- the list has grown, and is closed before the place
abbrev pub invariant-loop-place : goal.invariant-loop-place
invariant-loop-place l = record {
  grows : ExtendsBy l.initial.known.items l.known.items;
  closed : AreClosedFor (hints_of l.events l.places) l.session l.place l.known.items;
  within : l.place ≤ l.known.len;
}

abbrev pub decreases-loop-place : goal.decreases-loop-place
decreases-loop-place l = 18446744073709551615 - l.place
