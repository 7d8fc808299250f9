-- The table in which a pass keeps the session of the entry in each row that it has seen.
use Rattle.std.specs.Prelude.{◌≡◌, ◌<◌, ℕ, List, length, slice_index}
use Rattle.xa_words.specs.Entry.{Entry}
use Rattle.chain_log.specs.Cells.{session_at}

-- for the first rows of a history, the table has the session of each row's entry
pub record HasColumns (capacity rows : ℕ) (history : List Entry) (columns : List ℕ) : Type 0 where
  pub sized : length columns ≡ capacity
  pub filled : (row : ℕ) → row < rows → slice_index columns row ≡ session_at history row
