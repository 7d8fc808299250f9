-- The layout of a chain's words. Each row of the history has one cell for each session, and each cell has a name.
use Rattle.std.specs.Prelude.{ℕ, zero, suc, ◌+◌, ◌-◌, ◌*◌, List, [], ◌∷◌, length}
use Rattle.xa_words.specs.Entry.{Entry}

-- how many words a log has: the newest cell's name, and 22 for each session in each row
abbrev pub word_count : ℕ → ℕ → ℕ
word_count sessions capacity = 1 + capacity * sessions * 22

-- the name of a session's cell in a row; cells are numbered from 1 on, row by row, session by session
abbrev pub name_at : ℕ → ℕ → ℕ → ℕ
name_at sessions row session = row * sessions + session

-- the first word of the cell of a name; it is the cell's link, the name of the cell of the entry before
abbrev pub cell_at : ℕ → ℕ
cell_at name = 1 + (name - 1) * 22

-- the session of the entry in a row; 0 past the end
unfoldable pub session_at : List Entry → ℕ → ℕ
-- the session of the entry of a row
session_at [] row = 0
session_at (entry ∷ log) zero = entry.session
session_at (entry ∷ log) (suc row) = session_at log row

-- the name of the cell of the entry in the row before; 0 in row 0, which has none before it
unfoldable pub name_before : ℕ → List Entry → ℕ → ℕ
-- the name of the last cell of the entries below a row
name_before sessions log zero = 0
name_before sessions log (suc row) = name_at sessions row (session_at log row)

-- the name of the cell of the last entry; 0 if there is none
abbrev pub newest_of : ℕ → List Entry → ℕ
newest_of sessions log = name_before sessions log (length log)
