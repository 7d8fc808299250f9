use Rattle.std.{proofs.Common.{◌≡◌, ◌+◌, ◌%◌, ◌<◌, ◌≤◌, ℕ, length}, specs.Prelude.slice_index}
use Rattle.decision_log.specs.Seats.{pass_view}
use Rattle.chain_log.specs.{Cells.{name_at, session_at}, RingSeat.{IsSeat, KeepsPass}, Windows.HasWindow}
use Rattle.chain_log.proofs.ring.RingLog.walk.Given as goal

abbrev pub invariant-loop-place : goal.invariant-loop-place
invariant-loop-place l = record {
  seat : IsSeat l.self l.seat;
  keeps : KeepsPass (pass_view l.fn.seat) (pass_view l.seat);
  name : l.name ≡ name_at l.self.columns l.place (session_at (pass_view l.fn.seat).known.seen l.place);
  kept : HasWindow l.self.rows l.place (length (pass_view l.fn.seat).known.seen)
      (pass_view l.fn.seat).known.seen l.columns.items;
  beside : (place : ℕ) → place < l.stop → length (pass_view l.fn.seat).known.seen ≤ place + l.self.rows
      → slice_index l.columns.items (place % l.self.rows) ≡ slice_index l.fn.columns.items (place % l.self.rows);
}
