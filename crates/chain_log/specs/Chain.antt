-- The history that the words of a chain spell.
use Rattle.std.specs.Prelude.{◌≡◌, ◌≢◌, ◌+◌, ℕ, List, [], ◌∷◌, reverse, slice_index}
use Rattle.xa_words.specs.{Entry.{Entry, IsEntry}, Words.words_of}
use Rattle.decision_log.specs.Draft.{HasWordsAt}
use Rattle.chain_log.specs.Cells.{cell_at}

-- the walk from a cell's name: nothing at 0, else the entry whose words the cell has, and then what its link leads to
abbrev pub Walk : List ℕ → ℕ → List Entry → Type 0
Walk words name [] = name ≡ 0
Walk words name (entry ∷ older) =
    (name ≢ 0) × IsEntry entry × HasWordsAt words (cell_at name + 1) (words_of entry)
    × Walk words (slice_index words (cell_at name)) older

-- the walk begins at the name in word 0, with the newest entry
abbrev pub Chain : List ℕ → List Entry → Type 0
Chain words log = Walk words (slice_index words 0) (reverse log)
