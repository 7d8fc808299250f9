-- The rule of a ring, which holds between any two steps.
--     watched_word, watched_name, beyond      what a pass that reads a cell keeps in place of a draft
--     Notes, HasNotes what a pass keeps as its draft is true of the words, by its `turn`
-- Here `h` is a pass's view: what a seat of the log knows of that pass.
use Rattle.std.specs.Prelude.{◌≡◌, ◌≢◌, ◌<◌, ◌≤◌, ◌+◌, ℕ, List, length, slice_get, slice_index, Some}
use Rattle.xa_words.specs.Entry.{Entry}
use Rattle.decision_log.specs.declared.{view.{PassView.PassView, SeatView.SeatView, Turn.Turn}, sizes.Sizes.Sizes}
use Rattle.decision_log.specs.{Draft.HasWordsAt, LogRule.{KnowsLog, LogRule}}
use Rattle.chain_log.specs.{Cells.{name_at, newest_of}, Places.{rows_of, word_count, cell_of, cell_words}}

-- the name of the pass's next entry: of the place after all that it has seen, and of its session
abbrev pub own_name : PassView → ℕ
own_name h = name_at h.sessions (length h.known.seen) h.known.number

-- the pass's own cell, which it fills: in its own column, in the row of the place after all that it has seen
abbrev pub own_cell : PassView → ℕ
own_cell h = cell_of h.capacity (length h.known.seen) h.known.number

-- the word of the newest entry's name, at which passes also look
abbrev pub try_word : ℕ
try_word = 0

-- the name of the last entry that the pass has seen
abbrev pub newest_for : PassView → ℕ
newest_for h = newest_of h.sessions h.known.seen

-- the first word of the cell that the pass reads
abbrev pub watched_word : PassView → ℕ
watched_word h = slice_index h.draft 0

-- the name that the pass found there
abbrev pub watched_name : PassView → ℕ
watched_name h = slice_index h.draft 1

-- how many entries the history had, when the pass noted this, beyond those that it has seen
abbrev pub beyond : PassView → ℕ
beyond h = slice_index h.draft 2

-- how many entries beyond those that it has seen a pass knows of: what it noted, if it reads a cell; else 0
abbrev pub beyond_in : PassView → Turn → ℕ
beyond_in h Turn.Without = 0
beyond_in h Turn.Won = beyond h
beyond_in h Turn.Fresh = beyond h

-- the length that the history has at least: what the pass has seen, and the entries that it noted beyond that
abbrev pub least : PassView → ℕ
least h = length h.known.seen + beyond_in h h.turn

-- word 0 names the newest entry (`newest`); if an entry's cell has the entry's name, it has its link and its words
-- (`cells`); and it has that name while the history has fewer entries from the entry's place on than there are rows
-- (`fresh`)
pub record HasCells (sizes : Sizes) (words : List ℕ) (log : List Entry) : Type 0 where
  pub some : 0 < rows_of sizes.capacity
  pub wide : length words ≡ word_count sizes.sessions (rows_of sizes.capacity)
  pub newest : slice_index words 0 ≡ newest_of sizes.sessions log
  pub cells : (place : ℕ) (entry : Entry) → slice_get log place ≡ Some entry
      → slice_index words (cell_of sizes.capacity place entry.session) ≡ name_at sizes.sessions place entry.session
      → HasWordsAt words (cell_of sizes.capacity place entry.session) (cell_words sizes.sessions log place entry)
  pub fresh : (place : ℕ) (entry : Entry) → slice_get log place ≡ Some entry
      → length log < place + rows_of sizes.capacity
      → slice_index words (cell_of sizes.capacity place entry.session) ≡ name_at sizes.sessions place entry.session

-- a pass's draft, of at most 23 words, is what its own cell begins with; its first word is the own name, and a pass
-- with a draft has one of the log's numbers
pub record IsDraft (words : List ℕ) (h : PassView) : Type 0 where
  pub short : length h.draft ≤ 23
  pub column : 0 < length h.draft → h.known.number ≤ h.sessions
  pub named : 0 < length h.draft → slice_index h.draft 0 ≡ own_name h
  pub draft : HasWordsAt words (own_cell h) h.draft

-- if the pass found the name of an entry that it has seen, in that entry's cell, another name is there now
abbrev pub IsBroken : List ℕ → PassView → Type 0
IsBroken words h =
    (place : ℕ) (entry : Entry) → slice_get h.known.seen place ≡ Some entry
    → watched_word h ≡ cell_of h.capacity place entry.session
    → watched_name h ≡ name_at h.sessions place entry.session → slice_index words (watched_word h) ≢ watched_name h

-- by the turn, in which a ring keeps how the pass reads: `Without`, it reads no cell, and its draft is in its own cell;
-- `Won`, it reads a cell, and the history is at least as long as what it has seen and noted beyond that; `Fresh`, so it
-- is too, and the cell has another name now, if it found an entry's there (`IsBroken`)
abbrev pub Notes : List ℕ → List Entry → PassView → Turn → Type 0
Notes words log h Turn.Without = IsDraft words h
Notes words log h Turn.Won = length h.known.seen + beyond h ≤ length log
Notes words log h Turn.Fresh = (length h.known.seen + beyond h ≤ length log) × IsBroken words h

-- what the pass keeps as its draft is true, as `Notes` says for its `turn`
pub record HasNotes (words : List ℕ) (log : List Entry) (h : PassView) : Type 0 where
  pub notes : Notes words log h h.turn

-- what a pass's view says of the ring is true
abbrev pub Knows : Sizes → List ℕ → List Entry → PassView → Type 0
Knows sizes words log h = KnowsLog HasNotes sizes words log h

-- the rule: the words spell the last entries of the log, these are of sessions that were given out, and what all
-- seats know is true
abbrev pub RingRule : Sizes → List ℕ → List SeatView → Type 0
RingRule sizes words views = LogRule HasCells HasNotes sizes words views
