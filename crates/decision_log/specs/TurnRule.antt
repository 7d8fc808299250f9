-- The rule of a log with a turn, which holds between any two steps.
use Rattle.std.specs.Prelude.{◌≡◌, ◌+◌, ◌*◌, ℕ, List, [], length, slice_get, slice_index, Some}
use Rattle.xa_words.specs.{Entry.Entry, Words.words_of}
use Rattle.decision_log.specs.declared.{view.{PassView.PassView, SeatView.SeatView, Turn.Turn}, sizes.Sizes.Sizes}
use Rattle.decision_log.specs.{Draft.HasWordsAt, LogRule.{KnowsLog, LogRule}}

-- the first word of the row of a place
abbrev pub row_at : ℕ → ℕ
row_at place = 2 + place * 21

-- the word of the turn, which comes after the count
abbrev pub turn_word : ℕ
turn_word = 1

-- what the count of entries, word 0, is if the pass has seen the whole history
abbrev pub count_for : PassView → ℕ
count_for pass_view = length pass_view.known.seen

-- the count is how many entries there are, and each entry's words are in its row
pub record HasRows (sizes : Sizes) (words : List ℕ) (log : List Entry) : Type 0 where
  pub wide : length words ≡ row_at sizes.capacity
  pub count : slice_index words 0 ≡ length log
  pub rows : (place : ℕ) (entry : Entry) → slice_get log place ≡ Some entry
      → HasWordsAt words (row_at place) (words_of entry)

-- `Without` the turn there is no draft; `Won`, just taken, there is none either, and the turn's word is the pass's
-- number; `Fresh`, the turn's word is the pass's number, and the pass has seen the whole history
abbrev pub HasTurn : List ℕ → List Entry → PassView → Turn → Type 0
HasTurn words log pass_view Turn.Without = pass_view.draft ≡ []
HasTurn words log pass_view Turn.Won = (pass_view.draft ≡ []) × (slice_index words 1 ≡ pass_view.known.number)
HasTurn words log pass_view Turn.Fresh = (pass_view.known.seen ≡ log) × (slice_index words 1 ≡ pass_view.known.number)

-- a pass's draft is in the row after the history, and what the pass knows of the turn is true
pub record HasDraft (words : List ℕ) (log : List Entry) (pass_view : PassView) : Type 0 where
  pub draft : HasWordsAt words (row_at (length log)) pass_view.draft
  pub turn : HasTurn words log pass_view pass_view.turn

-- what a pass's view says of the log is true
abbrev pub Knows : Sizes → List ℕ → List Entry → PassView → Type 0
Knows sizes words log pass_view = KnowsLog HasDraft sizes words log pass_view

-- the words spell the log, whose entries are of sessions that were given out, and what all seats know is true
abbrev pub TurnRule : Sizes → List ℕ → List SeatView → Type 0
TurnRule sizes words views = LogRule HasRows HasDraft sizes words views
