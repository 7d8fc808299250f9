-- How each step of a log with a turn changes the pass that takes it, and what the pass learns.
--     with_look, tried, published, released   the pass after a step
--     Sees, Reads, Takes, Drafts, Publishes, Releases     the steps, each by its word, its operands, the pass before,
--                                                         what was found and the pass after
-- Here `h` is a pass's view: what a seat of the log knows of that pass.
use Rattle.std.specs.Prelude.{◌≡◌, ◌≢◌, ◌<◌, ◌+◌, ◌-◌, ℕ, List, [], ◌∷◌, ◌++◌, length, slice_get, slice_index, Some}
use mathlib.Core.Option.{Option}
use Rattle.xa_words.specs.{Entry.{Entry, IsEntry}, Words.words_of}
use Rattle.decision_log.specs.declared.view.{PassView.PassView, Turn.{Turn, TheVariants.{Without, Won, Fresh}}}
use Rattle.decision_log.specs.{Draft.drafted, Observed.HistoryIs, TurnRule.{row_at, turn_word}}

-- a pass's turn after a look: a pass that has the turn is fresh then; without the turn nothing changes
abbrev pub looked_turn : Turn → Turn
looked_turn Without = Without
looked_turn Won = Fresh
looked_turn Fresh = Fresh

-- the pass after a look that saw this history
abbrev pub with_look : PassView → List Entry → PassView
with_look h seen = record {
  known =
      record {
        number = h.known.number;
        seen = seen;
        mine = h.known.mine;
        looks = h.known.looks
            + 1;
        tries = h.known.tries;
        since = h.known.since + 1;
      };
  sessions = h.sessions;
  capacity = h.capacity;
  draft = h.draft;
  turn = looked_turn h.turn;
}

-- the pass after a try, with the turn or without it
abbrev pub tried : PassView → Turn → PassView
tried h turn = record {
  known =
      record {
        number = h.known.number;
        seen = h.known.seen;
        mine = h.known.mine;
        looks = h.known.looks;
        tries = h.known.tries + 1;
        since = 0;
      };
  sessions = h.sessions;
  capacity = h.capacity;
  draft = [];
  turn = turn;
}

-- the pass after its entry was appended, which it has seen; it has no draft, and still has the turn
abbrev pub published : PassView → Entry → PassView
published h entry = record {
  known =
      record {
        number = h.known.number;
        seen = h.known.seen ++ entry ∷ [];
        mine = h.known.mine ++ entry ∷ [];
        looks = h.known.looks;
        tries = h.known.tries;
        since = h.known.since;
      };
  sessions = h.sessions;
  capacity = h.capacity;
  draft = [];
  turn = Fresh;
}

-- the pass after it gave the turn back
abbrev pub released : PassView → PassView
released h = record { known = h.known; sessions = h.sessions; capacity = h.capacity; draft = []; turn = Without }

-- a load of word 0, which finds how many entries there are: the pass has looked, and sees the history of that length
abbrev pub Sees : ℕ → PassView → ℕ → PassView → Type 0
Sees word old found new =
    (word ≡ 0) × (seen : List Entry) × (new ≡ with_look old seen) × (found ≡ length seen) × HistoryIs old seen

-- a load of a word after word 0, which changes nothing: in the row of an entry that the pass has seen, it finds the
-- entry's word
abbrev pub Reads : ℕ → PassView → ℕ → PassView → Type 0
Reads word old found new =
    (word ≢ 0) × (new ≡ old)
    × ((place index : ℕ) (entry : Entry) → word ≡ row_at place + index → index < 21
    → slice_get old.known.seen place ≡ Some entry
    → IsEntry entry × (found ≡ slice_index (words_of entry) index))

-- an exchange of the turn's word from 0 to the pass's number, which is a try: the pass has the turn if 0 was found
abbrev pub Takes : ℕ → ℕ → ℕ → Option Entry → PassView → ℕ → PassView → Type 0
Takes word from to said old found new =
    (word ≡ turn_word) × (from ≡ 0) × (to ≡ old.known.number) × (found ≡ 0 → new ≡ tried old Won)
    × (found ≢ 0 → new ≡ tried old Without)

-- a store of a word into the row after all that was seen: the draft is cut at the word's place there, and ends with it
abbrev pub Drafts : ℕ → ℕ → PassView → ℕ → PassView → Type 0
Drafts word value old found new = new ≡ drafted old (word - row_at (length old.known.seen)) value

-- a store of the count, one higher, by a pass whose draft is an entry's words: the entry is appended
abbrev pub Publishes : ℕ → ℕ → PassView → ℕ → PassView → Type 0
Publishes word value old found new =
    (word ≡ 0) × (value ≡ length old.known.seen + 1) × (entry : Entry) × IsEntry entry × (old.draft ≡ words_of entry)
    × (new ≡ published old entry)

-- a store of 0 to the turn's word, which gives the turn back
abbrev pub Releases : ℕ → ℕ → PassView → ℕ → PassView → Type 0
Releases word value old found new = (word ≡ turn_word) × (value ≡ 0) × (new ≡ released old)
