-- The rule of a chain, which holds between any two steps.
use Rattle.std.specs.Prelude.{◌≡◌, ◌<◌, ◌≤◌, ℕ, List, ◌∷◌, length, slice_get, slice_index, Some}
use Rattle.xa_words.specs.{Entry.Entry, Words.words_of}
use Rattle.decision_log.specs.declared.{view.{PassView.PassView, SeatView.SeatView}, sizes.Sizes.Sizes}
use Rattle.decision_log.specs.{Draft.HasWordsAt, LogRule.{KnowsLog, LogRule}}
use Rattle.chain_log.specs.Cells.{word_count, name_at, cell_at, name_before, newest_of}

-- the first word of the pass's own cell, which it fills: in its own column, in the row after all that it has seen
abbrev pub own_cell : PassView → ℕ
own_cell pass_view = cell_at (name_at pass_view.sessions (length pass_view.known.seen) pass_view.known.number)

-- the word of the newest cell's name, at which passes also look
abbrev pub try_word : ℕ
try_word = 0

-- the name of the last cell that the pass has seen, which is the newest if it has seen the whole history
abbrev pub newest_for : PassView → ℕ
newest_for pass_view = newest_of pass_view.sessions pass_view.known.seen

-- word 0 names the newest cell, and each entry's cell is in its row, in its session's column, and links to the cell of
-- the row below
pub record HasCells (sizes : Sizes) (words : List ℕ) (log : List Entry) : Type 0 where
  pub wide : length words ≡ word_count sizes.sessions sizes.capacity
  pub newest : slice_index words 0 ≡ newest_of sizes.sessions log
  pub cells : (row : ℕ) (entry : Entry) → slice_get log row ≡ Some entry
      → HasWordsAt words (cell_at (name_at sizes.sessions row entry.session))
      (name_before sizes.sessions log row ∷ words_of entry)

-- a pass's draft, of at most 22 words, is what its own cell begins with; a pass with a draft has one of the log's
-- numbers
pub record HasDraft (words : List ℕ) (log : List Entry) (pass_view : PassView) : Type 0 where
  pub short : length pass_view.draft ≤ 22
  pub column : 0 < length pass_view.draft → pass_view.known.number ≤ pass_view.sessions
  pub draft : HasWordsAt words (own_cell pass_view) pass_view.draft

-- what a pass's view says of the chain is true
abbrev pub Knows : Sizes → List ℕ → List Entry → PassView → Type 0
Knows sizes words log pass_view = KnowsLog HasDraft sizes words log pass_view

-- the words spell the log, whose entries are of sessions that were given out, and what all seats know is true
abbrev pub ChainRule : Sizes → List ℕ → List SeatView → Type 0
ChainRule sizes words views = LogRule HasCells HasDraft sizes words views
