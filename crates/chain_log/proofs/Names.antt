-- Names of cells: which row and column a name has, that two cells share no word, and the names below a row.
use Rattle.std.proofs.Common.{◌≡◌, ◌≢◌, ℕ, zero, suc, ◌+◌, ◌-◌, ◌*◌, ◌/◌, ◌<◌, ◌≤◌, List, [], ◌∷◌, ◌++◌, length, refl}
use Rattle.std.proofs.Common.{ap, sym, ◌∙◌, subst, Some, mul-le-mul_right, suc-mul, arith, add-one, length-append}
use Rattle.std.{proofs.lemmas.Option.{get_or_from_slice_get, slice_get_within}, specs.Prelude.slice_get}
use mathlib.Core.Logic.{dite}
use Rattle.xa_words.specs.Entry.{Entry}
use Rattle.decision_log.{specs.{History.Begins, Known.AllOf}, proofs.Histories.{there, get_begins, some_injective}}
use Rattle.chain_log.specs.Cells.{word_count, name_at, cell_at, session_at, name_before, newest_of}
use native.Mathlib.Decide.{dec_le, ℕ_discrete}
use native.Mathlib.Nat.{add-mul-div_right, div-eq_of_lt, zero-add}

-- rows and columns

-- a row above begins where this one has ended, or later
further : (row above sessions : ℕ) → row < above → row * sessions + sessions ≤ above * sessions
further row above sessions low =
    let a : suc row * sessions ≤ above * sessions = mul-le-mul_right sessions low in
    omega (arith, suc-mul row sessions)

-- a cell of a lower row has a lower name
pub name_above : (sessions row above session other : ℕ) → row < above → session ≤ sessions → 1 ≤ other
    → name_at sessions row session < name_at sessions above other
name_above sessions row above session other low high first =
    let x : ℕ = row * sessions in
    let y : ℕ = above * sessions in
    let f : x + sessions ≤ y = further row above sessions low in
    let goal : x + session < y + other = omega arith in
    goal

-- a name has one row and one column
pub one_cell : (sessions row above session other : ℕ) → 1 ≤ session → session ≤ sessions → 1 ≤ other → other ≤ sessions
    → name_at sessions row session ≡ name_at sessions above other
    → (row ≡ above) × (session ≡ other)
one_cell sessions row above session other low high low' high' same =
    dite (ℕ_discrete row above)
    (λ e.
    let x : ℕ = row * sessions in
    let y : ℕ = above * sessions in
    let s : x + session ≡ y + other = same in
    let p : x ≡ y = ap (λ n. n * sessions) e in
    (e, omega arith))
    (λ apart.
    let a : (row < above) → ⊥ = λ less. let l = name_above sessions row above session other less high low' in
    omega (arith, same) in
    let b : (above < row) → ⊥ = λ less. let l = name_above sessions above row other session less high' low in
    omega (arith, same) in
    absurd
    (dite (dec_le row above) (λ le. a (omega arith)) (λ gt. b (omega arith))))

-- a name is at least 1: 0 is the name of no cell
pub name_low : (sessions row session : ℕ) → 1 ≤ session → 1 ≤ name_at sessions row session
name_low sessions row session low =
    let x : ℕ = row * sessions in
    let goal : 1 ≤ x + session = omega arith in
    goal

-- a name is at most 16,384: 1,024 rows of 16 columns
pub name_high : (sessions row session : ℕ) → sessions ≤ 16 → row < 1024 → session ≤ sessions
    → name_at sessions row session ≤ 16384
name_high sessions row session few low high =
    let x : ℕ = row * sessions in
    let f : x + sessions ≤ 1024 * sessions = further row 1024 sessions low in
    let goal : x + session ≤ 16384 = omega arith in
    goal

-- words

-- cells with different names have no word in common
pub words_apart : (name other i j : ℕ) → 1 ≤ name → 1 ≤ other → name ≢ other → i < 22 → j < 22
    → cell_at name + i ≢ cell_at other + j
words_apart name other i j low low' apart below below' same = apart (omega arith)

-- the words of a cell are words of the log
pub within_words : (sessions capacity row session index : ℕ) → row < capacity → 1 ≤ session → session ≤ sessions
    → index < 22
    → cell_at (name_at sessions row session) + index < word_count sessions capacity
within_words sessions capacity row session index below low high short =
    let x : ℕ = row * sessions in
    let y : ℕ = capacity * sessions in
    let f : x + sessions ≤ y = further row capacity sessions below in
    let goal : 1 + (x + session - 1) * 22 + index < 1 + y * 22 = omega arith in
    goal

-- the row of a cell is its name, counted from 0, divided by the number of sessions
pub row_of_name : (sessions row session : ℕ) → 1 ≤ session → session ≤ sessions
    → (name_at sessions row session - 1) / sessions ≡ row
row_of_name sessions row session low high =
    let x : ℕ = row * sessions in
    let front : x + session - 1 ≡ (session - 1) + x = omega arith in
    ap (λ n. n / sessions) front ∙ add-mul-div_right (session - 1) row (omega arith)
    ∙ ap (λ n. n + row) (div-eq_of_lt (omega arith)) ∙ zero-add row

-- names below a row

-- session_at gives the session of the entry that is in a row
pub session_there : (log : List Entry) (row : ℕ) (entry : Entry) → slice_get log row ≡ Some entry
    → session_at log row ≡ entry.session
unfolding session_at
session_there [] row entry is = cc
session_there (x ∷ xs) zero entry is = ap (λ e. e.session) (some_injective x entry is)
session_there (x ∷ xs) (suc row) entry is = session_there xs row entry is

-- the name before row 0 is 0, which is no cell's
pub name_zero : (sessions : ℕ) (log : List Entry) → name_before sessions log zero ≡ 0
unfolding name_before
name_zero sessions log = refl

-- the name before the row after this one is that of the cell of this row's entry
pub name_next : (sessions : ℕ) (log : List Entry) (row : ℕ) (entry : Entry) → slice_get log row ≡ Some entry
    → name_before sessions log (suc row) ≡ name_at sessions row entry.session
unfolding name_before
name_next sessions log row entry is = ap (name_at sessions row) (session_there log row entry is)

-- the name before the row after this one, written as row + 1, is that of the cell of this row's entry
pub name_next_one : (sessions : ℕ) (log : List Entry) (row : ℕ) (entry : Entry) → slice_get log row ≡ Some entry
    → name_before sessions log (row + 1) ≡ name_at sessions row entry.session
name_next_one sessions log row entry is =
    ap (name_before sessions log) (add-one row) ∙ name_next sessions log row entry is

-- a prefix of a history has the same names before its rows
pub name_begins : (sessions : ℕ) (xs ys : List Entry) (row : ℕ) → Begins xs ys → row ≤ length xs
    → name_before sessions xs row ≡ name_before sessions ys row
name_begins sessions xs ys zero begins within = name_zero sessions xs ∙ sym (name_zero sessions ys)
name_begins sessions xs ys (suc row) begins within =
    let e = there xs row (omega arith) in
    name_next sessions xs row e.0 e.1 ∙ sym (name_next sessions ys row e.0 (get_begins xs ys row e.0 begins e.1))

-- the entry that was put behind a history stands at its end
pub get_end : (log : List Entry) (entry : Entry) → slice_get (log ++ entry ∷ []) (length log) ≡ Some entry
get_end [] entry = refl
get_end (x ∷ xs) entry = get_end xs entry

-- once an entry was added, the newest cell is that of its row and session
pub newest_added : (sessions : ℕ) (log : List Entry) (entry : Entry)
    → newest_of sessions (log ++ entry ∷ []) ≡ name_at sessions (length log) entry.session
newest_added sessions log entry =
    ap (name_before sessions (log ++ entry ∷ [])) (length-append log (entry ∷ []) ∙ add-one (length log))
    ∙ name_next sessions (log ++ entry ∷ []) (length log) entry (get_end log entry)

-- each entry is of a session from 1 to a number
abbrev pub Ranged : ℕ → List Entry → Type 0
Ranged sessions log = (row : ℕ) (entry : Entry) → slice_get log row ≡ Some entry
    → (1 ≤ entry.session) × (entry.session ≤ sessions)

-- if all entries are of sessions 1 to a number (`AllOf`), so is the entry at each row (`Ranged`)
pub ranged_all : (sessions : ℕ) (log : List Entry) → AllOf sessions log → Ranged sessions log
ranged_all sessions log all row entry is =
    subst (λ e. (1 ≤ e.session) × (e.session ≤ sessions)) (get_or_from_slice_get log row entry entry is)
    (all row entry (slice_get_within log row entry is))

-- the name of the cell of a row that the history has isn't 0
pub name_some : (sessions : ℕ) (log : List Entry) (row : ℕ) → Ranged sessions log → row < length log
    → 1 ≤ name_before sessions log (suc row)
name_some sessions log row ranged below =
    let e = there log row below in
    let named = name_next sessions log row e.0 e.1 in
    let low = name_low sessions row e.0.session (ranged row e.0 e.1).0 in
    omega (arith, named)

-- if the names before two rows of one history are equal, the rows are the same
pub one_length : (sessions : ℕ) (log : List Entry) (m n : ℕ) → Ranged sessions log → m ≤ length log → n ≤ length log
    → name_before sessions log m ≡ name_before sessions log n → m ≡ n
one_length sessions log zero zero ranged low low' same = refl
one_length sessions log zero (suc n) ranged low low' same =
    let some = name_some sessions log n ranged (omega arith) in
    let none = name_zero sessions log in
    absurd (omega (arith, same))
one_length sessions log (suc m) zero ranged low low' same =
    let some = name_some sessions log m ranged (omega arith) in
    let none = name_zero sessions log in
    absurd (omega (arith, same))
one_length sessions log (suc m) (suc n) ranged low low' same =
    let e = there log m (omega arith) in
    let f = there log n (omega arith) in
    let a = ranged m e.0 e.1 in
    let b = ranged n f.0 f.1 in
    ap suc (one_cell sessions m n e.0.session f.0.session a.0 a.1 b.0 b.1
    (sym (name_next sessions log m e.0 e.1) ∙ same ∙ name_next sessions log n f.0 f.1)).0

-- if the name of a history's newest cell isn't 0, the history is as long as that cell's row, by its name, and one more
pub length_by_newest : (sessions newest : ℕ) (log : List Entry) → AllOf sessions log → newest ≡ newest_of sessions log
    → newest ≢ 0
    → (newest - 1) / sessions + 1 ≡ length log
length_by_newest sessions newest log all same some = by_length (length log) refl
  where
    by_length : (n : ℕ) → n ≡ length log → (newest - 1) / sessions + 1 ≡ length log
    by_length zero e = absurd (some (same ∙ ap (name_before sessions log) (sym e) ∙ name_zero sessions log))
    by_length (suc row) e =
        let f = there log row (omega arith) in
        let a = ranged_all sessions log all row f.0 f.1 in
        ap (λ n. (n - 1) / sessions + 1) (same ∙ ap (name_before sessions log) (sym e)
        ∙ name_next sessions log row f.0 f.1)
        ∙ ap (λ n. n + 1) (row_of_name sessions row f.0.session a.0 a.1) ∙ add-one row ∙ e

-- if the newest cell's name is 0, there is no entry
pub length_by_zero : (sessions newest : ℕ) (log : List Entry) → AllOf sessions log → newest ≡ newest_of sessions log
    → newest ≡ 0 → 0 ≡ length log
length_by_zero sessions newest log all same none =
    one_length sessions log 0 (length log) (ranged_all sessions log all) (omega arith) (omega arith)
    (name_zero sessions log ∙ sym none ∙ same)

-- the name is one of a cell of the log: its words are within the table
pub record IsName (sessions capacity name : ℕ) : Type 0 where
  pub low : 1 ≤ name
  pub high : name ≤ 16384
  pub words : (index : ℕ) → index < 22 → cell_at name + index < word_count sessions capacity

-- the name of a session's cell, in a row below the capacity, is as `IsName` says, if the log's sizes are in range
pub cell_fits : (sessions capacity row session name : ℕ) → sessions ≤ 16 → capacity ≤ 1024 → row < capacity
    → 1 ≤ session → session ≤ sessions
    → name ≡ name_at sessions row session → IsName sessions capacity name
cell_fits sessions capacity row session name few short below low high is =
    subst (IsName sessions capacity) (sym is)
    (record {
      low = name_low sessions row session low;
      high = name_high sessions row session few (omega arith) high;
      words = λ index less. within_words sessions capacity row session index below low high less;
    })

-- the name of the cell of each row that was seen is as `IsName` says, if the log's sizes are in range
pub seen_fits : (sessions capacity row name : ℕ) (seen : List Entry) → sessions ≤ 16 → capacity ≤ 1024
    → AllOf sessions seen → length seen ≤ capacity
    → row < length seen → name ≡ name_before sessions seen (row + 1) → IsName sessions capacity name
seen_fits sessions capacity row name seen few short all within below is =
    let e = there seen row below in
    let a = ranged_all sessions seen all row e.0 e.1 in
    cell_fits sessions capacity row e.0.session name few short (omega arith) a.0 a.1
    (is ∙ name_next_one sessions seen row e.0 e.1)
