-- The steps of a pass of a ring, with what it has to know before each, and what it knows of a given history after it.
use Rattle.std.specs.Prelude.{◌≡◌, ◌<◌, ◌≤◌, ◌+◌, ℕ, List, ◌∷◌, length, set, slice_index}
use Rattle.xa_words.specs.{Entry.{Entry, IsEntry}, Words.words_of}
use Rattle.decision_log.specs.declared.view.{PassView.PassView, Turn.TheVariants.Without}
use Rattle.chain_log.specs.RingRule.{own_name, own_cell, newest_for, HasNotes}
use Rattle.chain_log.specs.RingTransitions.{with_look, won, lost, stored}

-- the words and the pass before a step, and the words and the pass after it, if this is the history. Who looks, or has
-- lost an exchange, has then seen the history; who reads a cell keeps what it knew, and what it notes is true; a word
-- of the own cell is stored, or is there already, in turn; who has won had its entry's cell, and there was room
pub data IsRingStep (log : List Entry) (words : List ℕ) (old : PassView) : List ℕ → PassView → Type 0 where
  looks : IsRingStep log words old words (with_look old log)
  loses : IsRingStep log words old words (lost old log)
  notes : {new : PassView} → new.known ≡ old.known → new.sessions ≡ old.sessions → new.capacity ≡ old.capacity
      → HasNotes words log new
      → IsRingStep log words old words new
  names : {words' : List ℕ} → words' ≡ set words (own_cell old) (own_name old)
      → IsRingStep log words old words' (stored old 0 (own_name old))
  stores : {words' : List ℕ} (index word : ℕ) → words' ≡ set words (own_cell old + index) word → old.turn ≡ Without
      → 0 < index → index ≤ length old.draft → index < 23
      → IsRingStep log words old words' (stored old index word)
  wins : (entry : Entry) → slice_index words 0 ≡ newest_for old → IsEntry entry → entry.session ≡ old.known.number
      → old.turn ≡ Without → old.draft ≡ own_name old ∷ newest_for old ∷ words_of entry
      → length old.known.seen < old.capacity
      → IsRingStep log words old (set words 0 (own_name old)) (won old entry)
