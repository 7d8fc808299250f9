-- The table in which a pass keeps whose entry is at each of the last places that it has seen.
use Rattle.std.specs.Prelude.{◌≡◌, ◌<◌, ◌≤◌, ◌+◌, ◌%◌, ℕ, List, length, slice_index}
use Rattle.xa_words.specs.Entry.{Entry}
use Rattle.chain_log.specs.Cells.{session_at}

-- the table has a byte for each row; for each place of a history from `low` on and before `count` that is among the
-- last `rows` places, the byte of its row, number `place % rows`, is the session of the entry there
pub record HasWindow (rows low count : ℕ) (history : List Entry) (columns : List ℕ) : Type 0 where
  pub sized : length columns ≡ rows
  pub filled : (place : ℕ) → low ≤ place → place < count → length history ≤ place + rows
      → slice_index columns (place % rows) ≡ session_at history place
