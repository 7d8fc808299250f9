-- The rule of a log, which holds between any two steps: what is the same in every log, whatever its words are.
use Rattle.std.specs.Prelude.{◌≡◌, ◌<◌, ◌≤◌, ◌+◌, ℕ, List, length, slice_get, Some}
use Rattle.xa_words.specs.Entry.{Entry, IsEntry}
use Rattle.decision_log.specs.declared.{view.{PassView.PassView, SeatView.SeatView}, sizes.Sizes.Sizes}
use Rattle.decision_log.specs.{History.{Begins, entries_of}, Seats.Seats}

-- the pass knows the log's sizes, a prefix of its history with all entries of its own number, and of the words what
-- `KnowsWords` says
pub record KnowsLog (KnowsWords : List ℕ → List Entry → PassView → Type 0) (sizes : Sizes) (words : List ℕ)
    (log : List Entry)
    (pass_view : PassView) : Type 0 where
  pub sessions : pass_view.sessions ≡ sizes.sessions
  pub capacity : pass_view.capacity ≡ sizes.capacity
  pub seen : Begins pass_view.known.seen log
  pub mine : entries_of pass_view.known.number log ≡ pass_view.known.mine
  pub part : entries_of pass_view.known.number pass_view.known.seen ≡ pass_view.known.mine
  pub own : KnowsWords words log pass_view

-- the words spell a history with room in the log, each entry is of a number below `next`, and what all seats know is
-- true. Passes with numbers below `next` were issued; `home` gives the seat of each of them, and for 0 the seat of the
-- passes not yet issued
pub record LogRule (Spells : Sizes → List ℕ → List Entry → Type 0)
    (KnowsWords : List ℕ → List Entry → PassView → Type 0) (sizes : Sizes) (words : List ℕ)
    (views : List SeatView) : Type 0 where
  pub log : List Entry
  pub home : ℕ → ℕ
  pub next : ℕ
  pub room : length log ≤ sizes.capacity
  pub spelled : Spells sizes words log
  pub entries : (place : ℕ) (entry : Entry) → slice_get log place ≡ Some entry → IsEntry entry × (entry.session < next)
  pub begun : 0 < next
  pub within : next ≤ sizes.sessions + 1
  pub seats : Seats (KnowsLog KnowsWords sizes words log) home next views
