-- A seat at a log with a turn.
use Rattle.atomic_table.specs.declared.shared.Seat.{Seat}
use Rattle.xa_words.specs.Entry.{Entry}
use Rattle.decision_log.specs.{declared.{view.SeatView.SeatView, turn_log.TurnLog.TurnLog}, AtTable.KnowsOne}

-- the seat is one of this log, and knows one pass
abbrev pub IsSeat : TurnLog → Seat Entry SeatView → Type 0
IsSeat log seat = KnowsOne log.table.inner.shared.table_id seat
