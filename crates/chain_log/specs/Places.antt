-- The layout of a ring's words. Each session and each spare has a column of cells, one for each row, but a spare's are
-- never used. The rows are used again and again, in turn. `sessions` counts the spares too: to the rule they are passes
-- as the others are.
use Rattle.std.specs.Prelude.{ℕ, ◌+◌, ◌-◌, ◌*◌, ◌%◌, List, ◌∷◌}
use Rattle.xa_words.specs.{Entry.Entry, Words.words_of}
use Rattle.chain_log.specs.Cells.{name_at, name_before}

-- how many entries a ring can have in addition to its rows: 2 ^ 59, so that all names are numbers of 64 bits
abbrev pub most : ℕ
most = 576460752303423488

-- how many rows a ring of this capacity has: what is beyond 2^59
unfoldable pub rows_of : ℕ → ℕ
-- how many rows a ring has, by how many entries it can have
rows_of capacity = capacity - most

-- how many words a ring has: the newest entry's name, and 23 for each cell, of which each session has one in each row
abbrev pub word_count : ℕ → ℕ → ℕ
word_count sessions rows = 1 + rows * sessions * 23

-- the first word of a cell; the cells are numbered from 1 on, column by column and row by row
abbrev pub cell_at : ℕ → ℕ
cell_at cell = 1 + (cell - 1) * 23

-- the first word of the cell of a place of the history and a session: in the session's column, in row number
-- `place % rows`; the cells of a column lie side by side, so that the next entry of a session that adds alone is beside
-- its last one
abbrev pub cell_of : ℕ → ℕ → ℕ → ℕ
cell_of capacity place session = cell_at (name_at (rows_of capacity) (session - 1) (place % rows_of capacity + 1))

-- the 23 words of a cell: the entry's own name, its link, which is the name of the entry before it, and the entry's
-- words
abbrev pub cell_words : ℕ → List Entry → ℕ → Entry → List ℕ
cell_words sessions log place entry =
    name_at sessions place entry.session ∷ name_before sessions log place ∷ words_of entry
