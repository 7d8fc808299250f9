use Rattle.std.proofs.Common.{◌≡◌, map, take}
use Rattle.xa_record.specs.{Allowances.no_kinds, Events.AreEvents, Kept.numbered_kept}
use Rattle.xa_record.proofs.EventLists.{kinds_through}
use Rattle.xa_record.proofs.events.events_of.Given as goal

abbrev pub invariant-loop-one : goal.invariant-loop-one
invariant-loop-one l = record {
  are : AreEvents l.allowances (map numbered_kept (take l.one-index l.numbered)) l.events.items;
  kinds : l.asked.kinds ≡ kinds_through l.events.items no_kinds;
}
