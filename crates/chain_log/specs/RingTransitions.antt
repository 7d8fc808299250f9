-- What each step of a ring does to the pass that takes it, and what the pass learns.
--     with_look, won, lost, with_words, stored, noted     the pass after a step
--     Sees, Checks, Reads, Finds, Drafts, Exchanges      the steps, each by its word, its operands, the pass before,
--                                                        what was found and the pass after
-- Here `h` is a pass's view: what a seat of the log knows of that pass. A ring keeps in its `turn` how the pass reads:
-- `Without` it reads no cell, `Won` it reads one, `Fresh` it reads one that is another entry's by now.
use Rattle.std.specs.Prelude.{◌≡◌, ◌≢◌, ◌<◌, ◌≤◌, ◌+◌, ◌-◌, ℕ, List, [], ◌∷◌, ◌++◌, length, take, slice_get}
use Rattle.std.specs.Prelude.{slice_index, Some}
use mathlib.Core.Option.{Option, none, some}
use Rattle.xa_words.specs.Entry.{Entry, IsEntry}
use Rattle.decision_log.specs.{declared.view.{PassView.PassView, Turn.Turn}, Observed.HistoryIs}
use Rattle.chain_log.specs.{Cells.{name_at, newest_of}, Places.{rows_of, cell_of, cell_words}}
use Rattle.chain_log.specs.RingRule.{own_name, own_cell, try_word, newest_for, watched_word, watched_name, least}

-- the pass after a look that saw this history: its own cell may be another one now, so its draft is empty
abbrev pub with_look : PassView → List Entry → PassView
with_look h seen = record {
  known =
      record {
        number = h.known.number;
        seen = seen;
        mine = h.known.mine;
        looks = h.known.looks
            + 1;
        tries = h.known.tries;
        since = h.known.since + 1;
      };
  sessions = h.sessions;
  capacity = h.capacity;
  draft = [];
  turn = Turn.Without;
}

-- the pass after an exchange that won: its entry is appended and seen; one more try, no look since, and no draft
abbrev pub won : PassView → Entry → PassView
won h entry = record {
  known =
      record {
        number = h.known.number;
        seen = h.known.seen ++ entry ∷ [];
        mine = h.known.mine ++ entry ∷ [];
        looks = h.known.looks;
        tries = h.known.tries + 1;
        since = 0;
      };
  sessions = h.sessions;
  capacity = h.capacity;
  draft = [];
  turn = Turn.Without;
}

-- the pass after an exchange that lost: one more try, no look since, and this history seen
abbrev pub lost : PassView → List Entry → PassView
lost h seen = record {
  known = record {
    number = h.known.number;
    seen = seen;
    mine = h.known.mine;
    looks = h.known.looks;
    tries = h.known.tries
        + 1;
    since = 0;
  };
  sessions = h.sessions;
  capacity = h.capacity;
  draft = [];
  turn = Turn.Without;
}

-- the pass with these words stored in its own cell
abbrev pub with_words : PassView → List ℕ → PassView
with_words h words =
    record { known = h.known; sessions = h.sessions; capacity = h.capacity; draft = words; turn = Turn.Without }

-- the pass after a store of the word of this index in its own cell: its draft is what was stored before that word, and
-- the word
abbrev pub stored : PassView → ℕ → ℕ → PassView
stored h index word = with_words h (take index h.draft ++ word ∷ [])

-- the pass after it found `name` in a cell's first word, `word`, when the history had `more` entries beyond those that
-- the pass has seen; it keeps the three in place of a draft
abbrev pub noted : PassView → ℕ → ℕ → ℕ → Turn → PassView
noted h word name more turn =
    record {
      known = h.known;
      sessions = h.sessions;
      capacity = h.capacity;
      draft = word ∷ name ∷ more
          ∷ [];
      turn = turn;
    }

-- the pass knows what it knew, and if it reads a cell, it still reads the same one; if it still takes the cell for the
-- entry's (`Won`), it did so before
pub record KeepsWatch (old new : PassView) : Type 0 where
  pub known : new.known ≡ old.known
  pub sessions : new.sessions ≡ old.sessions
  pub capacity : new.capacity ≡ old.capacity
  pub word : watched_word new ≡ watched_word old
  pub name : watched_name new ≡ watched_name old
  pub reads : old.turn ≢ Turn.Without → new.turn ≢ Turn.Without
  pub whole : new.turn ≡ Turn.Won → old.turn ≡ Turn.Won

-- a load of word 0, which finds the newest entry's name: the pass has looked, and sees the history up to that entry, no
-- shorter than the pass knew it to be (`least`)
abbrev pub Sees : ℕ → PassView → ℕ → PassView → Type 0
Sees word old found new =
    (word ≡ 0) × (seen : List Entry) × (new ≡ with_look old seen) × (found ≡ newest_of old.sessions seen)
    × HistoryIs old seen
    × (least old ≤ length seen)

-- a load of the first word of a cell: the pass notes the name that it found there, and how many entries beyond those
-- seen the history has at least. Take any seen entry whose cell it is. If another name than the entry's is found, the
-- history has at least as many entries from the entry's place on as there are rows. If the entry's is found, and the
-- pass's last notes say that it was found before, the words read between were the entry's: the pass hadn't come to know
-- that they are another's (`Fresh`)
abbrev pub Checks : ℕ → PassView → ℕ → PassView → Type 0
Checks word old found new =
    (word ≢ 0) × (more : ℕ) × (new ≡ noted old word found more Turn.Won)
    × ((place : ℕ) (entry : Entry) → slice_get old.known.seen place ≡ Some entry
    → word ≡ cell_of old.capacity place entry.session
    → found ≢ name_at old.sessions place entry.session
    → place + rows_of old.capacity ≤ length old.known.seen + more)
    × ((place : ℕ) (entry : Entry) → slice_get old.known.seen place ≡ Some entry
    → word ≡ cell_of old.capacity place entry.session
    → found ≡ name_at old.sessions place entry.session
    → watched_word old ≡ word → watched_name old ≡ found → old.turn ≢ Turn.Fresh)

-- a load of one of the 23 words of the cell that the pass reads: it is the entry's, or the pass knows that the cell is
-- another's
abbrev pub Reads : ℕ → PassView → ℕ → PassView → Type 0
Reads word old found new =
    (word ≢ 0) × KeepsWatch old new
    × (new.turn ≡ Turn.Won
    → (place index : ℕ) (entry : Entry) → slice_get old.known.seen place ≡ Some entry
    → watched_word old ≡ cell_of old.capacity place entry.session
    → watched_name old ≡ name_at old.sessions place entry.session
    → word ≡ watched_word old + index → index < 23
    → IsEntry entry × (found ≡ slice_index (cell_words old.sessions old.known.seen place entry) index))

-- a load of a word of the own cell: what it finds becomes the draft's word there, as after a store, so a word that is
-- there already needs no store
abbrev pub Finds : ℕ → PassView → ℕ → PassView → Type 0
Finds word old found new = (word ≢ 0) × (new ≡ stored old (word - own_cell old) found)

-- a store of a word into the own cell: the draft is cut at the word's place there, and ends with it
abbrev pub Drafts : ℕ → ℕ → PassView → ℕ → PassView → Type 0
Drafts word value old found new = new ≡ stored old (word - own_cell old) value

-- an exchange of word 0 from the last name that was seen to the own one, which is a try: the announced entry is added
-- only if that name was found, and else the pass sees a longer history
abbrev pub Exchanges : ℕ → ℕ → ℕ → Option Entry → PassView → ℕ → PassView → Type 0
Exchanges word from to none old found new = ⊥
Exchanges word from to (some entry) old found new =
    (word ≡ try_word) × (from ≡ newest_for old) × (to ≡ own_name old) × (found ≡ from → new ≡ won old entry)
    × (found ≢ from → (seen : List Entry) × (new ≡ lost old seen) × (found ≡ newest_of old.sessions seen)
    × HistoryIs old seen
    × (length old.known.seen < length seen))
