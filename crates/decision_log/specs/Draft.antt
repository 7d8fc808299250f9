-- The words that a pass stores before they are an entry.
-- Here `h` is a pass's view: what a seat of the log knows of that pass.
use Rattle.std.specs.Prelude.{◌≡◌, ◌<◌, ◌+◌, ℕ, List, [], ◌∷◌, ◌++◌, length, take, slice_index}
use Rattle.decision_log.specs.declared.view.PassView.{PassView}

-- the words from number `at` on begin with these
abbrev pub HasWordsAt : List ℕ → ℕ → List ℕ → Type 0
HasWordsAt words at draft = (i : ℕ) → i < length draft → slice_index words (at + i) ≡ slice_index draft i

-- the pass with these words as its draft
abbrev pub with_draft : PassView → List ℕ → PassView
with_draft h words =
    record { known = h.known; sessions = h.sessions; capacity = h.capacity; draft = words; turn = h.turn }

-- the pass after a store of its draft's word of this index: the draft is the words before that one, and the word; those
-- after it are forgotten
abbrev pub drafted : PassView → ℕ → ℕ → PassView
drafted h index word = record {
  known = h.known;
  sessions = h.sessions;
  capacity = h.capacity;
  draft = take index h.draft ++ word ∷ [];
  turn = h.turn;
}
