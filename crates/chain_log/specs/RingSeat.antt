-- A seat at a ring.
-- Here `h` is a pass's view: what a seat of the log knows of that pass.
use Rattle.std.specs.Prelude.{◌≡◌, ◌<◌, ◌≤◌, ◌+◌, ℕ, length, slice_get, Some}
use Rattle.atomic_table.specs.declared.shared.Seat.{Seat}
use Rattle.xa_words.specs.Entry.{Entry}
use Rattle.decision_log.specs.{declared.view.{SeatView.SeatView, PassView.PassView}, Known.AllOf, AtTable.KnowsOne}
use Rattle.chain_log.specs.{Cells.name_at, Places.cell_of, RingRule.{watched_word, watched_name}}
use Rattle.chain_log.specs.declared.ring.RingLog.{RingLog}

-- the seat is one of this ring, and knows one pass
abbrev pub IsSeat : RingLog → Seat Entry SeatView → Type 0
IsSeat log seat = KnowsOne log.table.inner.shared.table_id seat

-- the 23 words from here on are words of this log, after word 0
pub record IsStart (log : RingLog) (start : ℕ) : Type 0 where
  pub behind : 1 ≤ start
  pub within : start + 22 < log.table.inner.shared.table_id.words

-- what holds of the view of each of the ring's passes, also within a call: it has the ring's sizes and a number of one
-- of its columns, and has seen no more entries than the ring can have, each of one of these numbers
pub record IsOurs (log : RingLog) (pass_view : PassView) : Type 0 where
  pub sessions : pass_view.sessions ≡ log.columns
  pub capacity : pass_view.capacity ≡ log.capacity
  pub first : 1 ≤ pass_view.known.number
  pub last : pass_view.known.number ≤ pass_view.sessions
  pub within : length pass_view.known.seen ≤ pass_view.capacity
  pub among : AllOf pass_view.sessions pass_view.known.seen

-- all that contracts see of the pass (`known`) and the log's sizes stay; its draft and what it reads may change
pub record KeepsPass (old new : PassView) : Type 0 where
  pub known : new.known ≡ old.known
  pub sessions : new.sessions ≡ old.sessions
  pub capacity : new.capacity ≡ old.capacity

-- the pass has seen this entry at this place, and its notes say that it found the entry's name in the entry's cell,
-- which begins at `start`
pub record ReadsCell (start place : ℕ) (entry : Entry) (h : PassView) : Type 0 where
  pub seen : slice_get h.known.seen place ≡ Some entry
  pub cell : start ≡ cell_of h.capacity place entry.session
  pub word : watched_word h ≡ start
  pub name : watched_name h ≡ name_at h.sessions place entry.session
