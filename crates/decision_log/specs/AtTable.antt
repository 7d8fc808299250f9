-- A seat at the words of a log, whatever the log is.
use Rattle.std.specs.Prelude.{◌≡◌, ◌<◌, ◌≤◌, ℕ, List, [], length, slice_index}
use Rattle.atomic_table.specs.{Seated.TableId, Table.{State, Allows, Splits, Joins, opening}, declared.shared.Seat.Seat}
use Rattle.xa_words.specs.Entry.{Entry}
use Rattle.decision_log.specs.{declared.view.{PassView.PassView, SeatView.SeatView}, Known.LogIdentity}
use Rattle.decision_log.specs.declared.{view.SeatView.TheVariants.{Empty, Single, Pair, Unissued}, sizes.Sizes.Sizes}
use Rattle.decision_log.specs.Seats.{pass_view_of, second_of, pass_view, seated, seated_two, seated_rest, spent}
use Rattle.decision_log.specs.{Seats.{all_passes, following}, Atomic.Meets}

-- a seat at this table that knows one pass
pub record KnowsOne (table_id : TableId) (seat : Seat Entry SeatView) : Type 0 where
  pub table : seat.table_id ≡ table_id
  pub held : seat.me ≡ seated (pass_view_of seat.me.0)

-- a seat at this table that knows two passes
pub record KnowsTwo (table_id : TableId) (seat : Seat Entry SeatView) : Type 0 where
  pub table : seat.table_id ≡ table_id
  pub held : seat.me ≡ seated_two (pass_view_of seat.me.0) (second_of seat.me.0)

-- a seat at this table that knows the passes that weren't issued
pub record KnowsRest (table_id : TableId) (seat : Seat Entry SeatView) : Type 0 where
  pub table : seat.table_id ≡ table_id
  pub held : seat.me ≡ seated_rest (pass_view_of seat.me.0)

-- a seat at this table that knows no pass
pub record KnowsNone (table_id : TableId) (seat : Seat Entry SeatView) : Type 0 where
  pub table : seat.table_id ≡ table_id
  pub held : seat.me ≡ spent

-- a log's table and its sizes
abbrev pub identity_at : TableId → Sizes → LogIdentity
identity_at table_id sizes = record { table = table_id; sessions = sizes.sessions; capacity = sizes.capacity }

-- of which log the pass at a seat is: the seat's table, and the log's sizes, as the seat knows them
abbrev pub belongs_at : Seat Entry SeatView → LogIdentity
belongs_at seat =
    record { table = seat.table_id; sessions = (pass_view seat).sessions; capacity = (pass_view seat).capacity }

-- the rule holds after each of these steps if it held before: an empty seat is split off, two seats are joined or split
-- again, a pass is issued (only if there is a number left), two passes meet by a load of word 0
pub record KeepsSeats (holds : Sizes → State Entry SeatView → Type 0) (newest : PassView → ℕ) : Type 0 where
  pub split_empty : (sizes : Sizes) (id : ℕ) (pass : PassView)
      → Splits (holds sizes) id (Single pass) (Single pass) Empty
  pub join : (sizes : Sizes) (id other : ℕ) (first second : PassView)
      → Joins (holds sizes) id (Single first) other (Single second) (Pair first second) Empty
  pub split : (sizes : Sizes) (id : ℕ) (first second : PassView)
      → Splits (holds sizes) id (Pair first second) (Single first) (Single second)
  pub issue : (sizes : Sizes) (id : ℕ) (pass : PassView) → pass.known.number ≤ pass.sessions
      → Splits (holds sizes) id (Unissued pass) (Unissued (following pass)) (Single pass)
  pub meet : (sizes : Sizes) (slots id : ℕ) (first second : PassView)
      → Allows (holds sizes) slots id (seated_two first second) 0 (λ n. n) (Meets newest first second)

-- there is a word; if the words are so many, and word 0 is 0, the rule holds with no slot and with one seat that
-- knows all passes; and the rule is kept as `KeepsSeats` says
pub record OpensSeats (holds : Sizes → State Entry SeatView → Type 0) (first : Sizes → SeatView) (newest : PassView → ℕ)
    (sizes : Sizes)
    (word_count : ℕ) : Type 0 where
  pub some : 0 < word_count
  pub all : first sizes ≡ all_passes sizes
  pub zeros : (words : List ℕ) → length words ≡ word_count → slice_index words 0 ≡ 0
      → holds sizes (opening words [] (first sizes))
  pub keeps : KeepsSeats holds newest
