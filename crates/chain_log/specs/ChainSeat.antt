-- A seat at a chain.
use Rattle.std.specs.Prelude.{◌≡◌, ◌≤◌, length}
use Rattle.atomic_table.specs.declared.shared.Seat.{Seat}
use Rattle.xa_words.specs.Entry.{Entry}
use Rattle.decision_log.specs.{declared.view.{SeatView.SeatView, PassView.PassView}, Known.AllOf, AtTable.KnowsOne}
use Rattle.chain_log.specs.declared.chain.ChainLog.{ChainLog}

-- the seat is one of this log, and knows one pass
abbrev pub IsSeat : ChainLog → Seat Entry SeatView → Type 0
IsSeat log seat = KnowsOne log.table.inner.shared.table_id seat

-- what holds of the view of each of the log's passes, also within a call: it has the log's sizes and a number of one of
-- its sessions, and has seen no more entries than the log can have, each of one of its sessions
pub record IsOurs (log : ChainLog) (pass_view : PassView) : Type 0 where
  pub sessions : pass_view.sessions ≡ log.sessions
  pub capacity : pass_view.capacity ≡ log.capacity
  pub first : 1 ≤ pass_view.known.number
  pub last : pass_view.known.number ≤ pass_view.sessions
  pub within : length pass_view.known.seen ≤ pass_view.capacity
  pub among : AllOf pass_view.sessions pass_view.known.seen
