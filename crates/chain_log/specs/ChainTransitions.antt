-- How each step of a chain changes the pass that takes it, and what the pass learns.
--     with_look, won, lost    the pass after a step
--     Sees, Reads, Finds, Drafts, Exchanges      the steps, each by its word, its operands, the pass before, what was
--                                                found and the pass after
-- Here `h` is a pass's view: what a seat of the log knows of that pass.
use Rattle.std.specs.Prelude.{◌≡◌, ◌≢◌, ◌<◌, ◌+◌, ◌-◌, ℕ, List, [], ◌∷◌, ◌++◌, length, slice_get, slice_index, Some}
use mathlib.Core.Option.{Option, none, some}
use Rattle.xa_words.specs.{Entry.{Entry, IsEntry}, Words.words_of}
use Rattle.decision_log.specs.{declared.view.PassView.PassView, Draft.drafted, Observed.HistoryIs}
use Rattle.chain_log.specs.Cells.{name_at, cell_at, name_before, newest_of}
use Rattle.chain_log.specs.ChainRule.{own_cell, try_word, newest_for}

-- the pass after a look that saw this history: its own cell may be another one now, so its draft is empty
abbrev pub with_look : PassView → List Entry → PassView
with_look h seen = record {
  known =
      record {
        number = h.known.number;
        seen = seen;
        mine = h.known.mine;
        looks = h.known.looks
            + 1;
        tries = h.known.tries;
        since = h.known.since + 1;
      };
  sessions = h.sessions;
  capacity = h.capacity;
  draft = [];
  turn = h.turn;
}

-- the pass after an exchange that won: its entry is appended and seen; one more try, no look since, and no draft
abbrev pub won : PassView → Entry → PassView
won h entry = record {
  known =
      record {
        number = h.known.number;
        seen = h.known.seen ++ entry ∷ [];
        mine = h.known.mine ++ entry ∷ [];
        looks = h.known.looks;
        tries = h.known.tries + 1;
        since = 0;
      };
  sessions = h.sessions;
  capacity = h.capacity;
  draft = [];
  turn = h.turn;
}

-- the pass after an exchange that lost: one more try, no look since, no draft, and this history seen
abbrev pub lost : PassView → List Entry → PassView
lost h seen = record {
  known = record {
    number = h.known.number;
    seen = seen;
    mine = h.known.mine;
    looks = h.known.looks;
    tries = h.known.tries
        + 1;
    since = 0;
  };
  sessions = h.sessions;
  capacity = h.capacity;
  draft = [];
  turn = h.turn;
}

-- a load of word 0, which finds the newest cell's name: the pass has looked, and sees the history up to that cell
abbrev pub Sees : ℕ → PassView → ℕ → PassView → Type 0
Sees word old found new =
    (word ≡ 0) × (seen : List Entry) × (new ≡ with_look old seen) × (found ≡ newest_of old.sessions seen)
    × HistoryIs old seen

-- a load of a word after word 0, which changes nothing: in the cell of an entry that the pass has seen, it finds the
-- cell's link or the entry's word
abbrev pub Reads : ℕ → PassView → ℕ → PassView → Type 0
Reads word old found new =
    (word ≢ 0) × (new ≡ old)
    × ((row index : ℕ) (entry : Entry) → word ≡ cell_at (name_at old.sessions row entry.session) + index → index < 22
    → slice_get old.known.seen row ≡ Some entry
    → IsEntry entry × (found ≡ slice_index (name_before old.sessions old.known.seen row ∷ words_of entry) index))

-- a load of a word of the own cell: a 0 that it finds becomes the draft's word there, as after a store, so no store is
-- needed; any other value changes nothing
abbrev pub Finds : ℕ → PassView → ℕ → PassView → Type 0
Finds word old found new =
    (word ≢ 0) × (found ≡ 0 → new ≡ drafted old (word - own_cell old) 0) × (found ≢ 0 → new ≡ old)

-- a store of a word into the own cell: the draft is cut at the word's place there, and ends with it
abbrev pub Drafts : ℕ → ℕ → PassView → ℕ → PassView → Type 0
Drafts word value old found new = new ≡ drafted old (word - own_cell old) value

-- an exchange of word 0 from the last name that was seen to the own cell's, which is a try: if that name was found, the
-- announced entry is appended; otherwise more was seen
abbrev pub Exchanges : ℕ → ℕ → ℕ → Option Entry → PassView → ℕ → PassView → Type 0
Exchanges word from to none old found new = ⊥
Exchanges word from to (some entry) old found new =
    (word ≡ try_word) × (from ≡ newest_for old) × (to ≡ name_at old.sessions (length old.known.seen) old.known.number)
    × (found ≡ from → new ≡ won old entry)
    × (found ≢ from → (seen : List Entry) × (new ≡ lost old seen) × (found ≡ newest_of old.sessions seen)
    × HistoryIs old seen
    × (length old.known.seen < length seen))
