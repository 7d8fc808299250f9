-- Rows that are used in turn: which places of the history share a row, and that two cells share no word.
use Rattle.std.proofs.Common.{◌≡◌, ◌≢◌, ℕ, suc, ◌+◌, ◌-◌, ◌*◌, ◌/◌, ◌%◌, ◌<◌, ◌≤◌, sym, subst, mul-le-mul_right}
use Rattle.std.proofs.{Common.{suc-mul, arith}, Math.Nat.{mod-lt, mod-add-div', mul_comm}}
use mathlib.Core.Logic.{dite}
use Rattle.chain_log.specs.{Cells.name_at, Places.{most, rows_of, word_count, cell_at, cell_of}}
use Rattle.chain_log.proofs.Names.{one_cell, name_low}
use native.Mathlib.Decide.{dec_le, ℕ_discrete}

-- a ring that can have so many entries more than `most` has so many rows
pub rows_most : (rows : ℕ) → rows_of (most + rows) ≡ rows
unfolding rows_of
rows_most rows = omega arith

-- a row above begins where this one has ended, or later
further : (row above width : ℕ) → row < above → row * width + width ≤ above * width
further row above width low =
    let a : suc row * width ≤ above * width = mul-le-mul_right width low in
    omega (arith, suc-mul row width)

-- of two places that share a row, the later comes at least as many places behind the other as there are rows
pub same_row : (rows place later : ℕ) → place % rows ≡ later % rows → place < later → place + rows ≤ later
same_row rows place later same less =
    let p : ℕ = place / rows in
    let q : ℕ = later / rows in
    let a : ℕ = p * rows in
    let b : ℕ = q * rows in
    let whole : place % rows + a ≡ place = mod-add-div' place rows in
    let whole' : later % rows + b ≡ later = mod-add-div' later rows in
    dite (dec_le q p)
    (λ le.
    let c : b ≤ a = mul-le-mul_right rows le in
    absurd (omega (arith, same, whole, whole')))
    (λ gt.
    let c : a + rows ≤ b = further p q rows (omega arith) in
    omega (arith, same, whole, whole'))

-- two different places that are less than so many apart as there are rows don't share a row
pub rows_apart : (rows place other : ℕ) → place ≢ other → place < other + rows → other < place + rows
    → place % rows ≢ other % rows
rows_apart rows place other apart near near' same =
    dite (dec_le place other)
    (λ le. let s = same_row rows place other same (omega arith) in omega arith)
    (λ gt. let s = same_row rows other place (sym same) (omega arith) in omega arith)

-- a cell begins at word 1 at least: word 0 has the newest entry's name
pub cell_low : (capacity place session : ℕ) → 1 ≤ cell_of capacity place session
cell_low capacity place session = omega arith

-- different cells have no word in common
words_apart : (cell other i j : ℕ) → 1 ≤ cell → 1 ≤ other → cell ≢ other → i < 23 → j < 23
    → cell_at cell + i ≢ cell_at other + j
words_apart cell other i j low low' apart below below' same = apart (omega arith)

-- if words of two cells are the same word, the cells are of the same row and session
pub one_word : (capacity place session later other i j : ℕ) → 0 < rows_of capacity → 1 ≤ session → 1 ≤ other → i < 23
    → j < 23
    → cell_of capacity place session + i ≡ cell_of capacity later other + j
    → (place % rows_of capacity ≡ later % rows_of capacity) × (session ≡ other)
one_word capacity place session later other i j some low low' below below' same =
    let rows : ℕ = rows_of capacity in
    let row : ℕ = place % rows in
    let row' : ℕ = later % rows in
    let fits : row < rows = mod-lt place some in
    let fits' : row' < rows = mod-lt later some in
    let one : ℕ = name_at rows (session - 1) (row + 1) in
    let two : ℕ = name_at rows (other - 1) (row' + 1) in
    let cell : one ≡ two =
    dite (ℕ_discrete one two) (λ e. e)
    (λ apart.
    absurd
    (words_apart one two i j (name_low rows (session - 1) (row + 1) (omega arith))
    (name_low rows (other - 1) (row' + 1) (omega arith)) apart below below' same)) in
    let c = one_cell rows (session - 1) (other - 1) (row + 1) (row' + 1) (omega arith) (omega arith) (omega arith)
    (omega arith) cell in
    (omega (arith, c.1), omega (arith, c.0))

-- the words of a cell are words of the ring
pub within_words : (capacity sessions place session index : ℕ) → 0 < rows_of capacity → 1 ≤ session → session ≤ sessions
    → index < 23
    → cell_of capacity place session + index < word_count sessions (rows_of capacity)
within_words capacity sessions place session index some low high short =
    let rows : ℕ = rows_of capacity in
    let row : ℕ = place % rows in
    let fits : row < rows = mod-lt place some in
    let x : ℕ = (session - 1) * rows in
    let y : ℕ = sessions * rows in
    let f : x + rows ≤ y = further (session - 1) sessions rows (omega arith) in
    let whole : rows * sessions ≡ y = mul_comm rows sessions in
    let goal : 1 + (x + (row + 1) - 1) * 23 + index < 1 + y * 23 = omega arith in
    subst (λ n. cell_of capacity place session + index < 1 + n * 23) (sym whole) goal
