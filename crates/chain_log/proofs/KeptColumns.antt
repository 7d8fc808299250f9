-- The table of columns says which cell stands in a row, and stays so of a longer history.
use Rattle.std.proofs.Common.{◌≡◌, ℕ, ◌+◌, ◌-◌, ◌*◌, ◌%◌, ◌<◌, ◌≤◌, List, [], ◌∷◌, ◌++◌, length, get_or, set, refl, ap}
use Rattle.std.proofs.Common.{sym, ◌∙◌, subst, arith, add-one, length-append}
use Rattle.std.{proofs.lemmas.List.{length-set, get_or-set_same, get_or-set_other}, specs.Prelude.slice_index}
use mathlib.Core.Logic.{dite}
use Rattle.xa_words.specs.Entry.{Entry}
use Rattle.decision_log.{specs.{History.Begins, Known.AllOf}, proofs.Histories.{there, get_begins, begins_append}}
use Rattle.chain_log.specs.{Cells.{name_at, session_at, name_before}, Columns.HasColumns}
use Rattle.chain_log.proofs.Names.{session_there, ranged_all, get_end}
use native.Mathlib.Decide.{ℕ_discrete, dec_le}
use native.Mathlib.Nat.{add-mul-mod_self_right, mod-eq_of_lt}

-- the column of a cell is the rest of its name, counted from 0, by the number of sessions
pub column_of_name : (sessions row session : ℕ) → 1 ≤ session → session ≤ sessions
    → (name_at sessions row session - 1) % sessions + 1 ≡ session
column_of_name sessions row session low high =
    let x : ℕ = row * sessions in
    let front : x + session - 1 ≡ (session - 1) + x = omega arith in
    let rest : (session - 1) % sessions ≡ session - 1 = mod-eq_of_lt (omega arith) in
    let whole : (session - 1) + 1 ≡ session = omega arith in
    ap (λ n. n % sessions + 1) front ∙ ap (λ n. n + 1) (add-mul-mod_self_right (session - 1) row sessions ∙ rest)
    ∙ whole

-- the name of the cell that has a row's entry is made of the row and the table's column
pub name_by_column : (sessions : ℕ) (log : List Entry) (row column : ℕ) → column ≡ session_at log row
    → name_at sessions row column ≡ name_before sessions log (row + 1)
unfolding name_before
name_by_column sessions log row column is =
    ap (name_at sessions row) is ∙ sym (ap (name_before sessions log) (add-one row))

-- the entry in a row that was seen is of a session from 1 to the number of sessions
pub session_ranged : (sessions : ℕ) (log : List Entry) (row : ℕ) → AllOf sessions log → row < length log
    → (1 ≤ session_at log row) × (session_at log row ≤ sessions)
session_ranged sessions log row all below =
    let e = there log row below in
    subst (λ n. (1 ≤ n) × (n ≤ sessions)) (sym (session_there log row e.0 e.1))
    (ranged_all sessions log all row e.0 e.1)

-- in the rows of a prefix a history has entries of the same sessions
pub session_begins : (xs ys : List Entry) (row : ℕ) → Begins xs ys → row < length xs
    → session_at xs row ≡ session_at ys row
session_begins xs ys row begins below =
    let e = there xs row below in
    session_there xs row e.0 e.1 ∙ sym (session_there ys row e.0 (get_begins xs ys row e.0 begins e.1))

-- the table is as good for a longer history, so far as it reaches
pub columns_longer : (capacity : ℕ) (xs ys : List Entry) (columns : List ℕ) → Begins xs ys
    → HasColumns capacity (length xs) xs columns
    → HasColumns capacity (length xs) ys columns
columns_longer capacity xs ys columns begins is = record {
  sized = is.sized;
  filled = λ row below. is.filled row below ∙ session_begins xs ys row begins below;
}

-- with one entry more in the history, the table of columns is right once its row has the entry's column
pub columns_more : (capacity : ℕ) (xs : List Entry) (entry : Entry) (columns : List ℕ) (column : ℕ)
    → length xs < capacity → column ≡ entry.session
    → HasColumns capacity (length xs) xs columns
    → HasColumns capacity (length (xs ++ entry ∷ [])) (xs ++ entry ∷ []) (set columns (length xs) column)
columns_more capacity xs entry columns column room is kept =
    let ys : List Entry = xs ++ entry ∷ [] in
    let longer : length ys ≡ length xs + 1 = length-append xs (entry ∷ []) in
    let begins : Begins xs ys = begins_append xs (entry ∷ []) in
    let last : session_at ys (length xs) ≡ entry.session = session_there ys (length xs) entry (get_end xs entry) in
    let within : length xs < length columns = omega (arith, kept.sized) in
    record {
      sized = length-set columns (length xs) column ∙ kept.sized;
      filled = λ row below.
          dite (ℕ_discrete row (length xs))
          (λ e. ap (λ n. get_or (set columns (length xs) column) n 0) e
          ∙ get_or-set_same columns (length xs) column 0 within ∙ is ∙ sym last
          ∙ ap (session_at ys) (sym e))
          (λ ne. get_or-set_other columns (length xs) row column 0 ne ∙ kept.filled row (omega (arith, longer))
          ∙ session_begins xs ys row begins (omega (arith, longer)));
    }

-- the name before a row, which isn't row 0, is that of the cell of the row before, in the column of its entry's
-- session, and this is one of the log's
pub column_here : (sessions : ℕ) (log : List Entry) (row name : ℕ) → AllOf sessions log → 0 < row → row ≤ length log
    → name ≡ name_before sessions log row
    → (1 ≤ session_at log (row - 1)) × (session_at log (row - 1) ≤ sessions)
    × (name ≡ name_at sessions (row - 1) (session_at log (row - 1)))
column_here sessions log row name all some within is =
    let below : ℕ = row - 1 in
    let next : row ≡ below + 1 = omega arith in
    let r = session_ranged sessions log below all (omega arith) in (
      r.0,
      r.1,
      is ∙ ap (name_before sessions log) next ∙ sym
          (name_by_column sessions log below (session_at log below) refl),
    )

-- a table that is filled from the newest row back: it is right for the rows below `first`, and for those from `row` on
pub record IsFilling (capacity first row : ℕ) (history : List Entry) (columns : List ℕ) : Type 0 where
  pub sized : length columns ≡ capacity
  pub before : (k : ℕ) → k < first → slice_index columns k ≡ session_at history k
  pub behind : (k : ℕ) → row ≤ k → k < length history → slice_index columns k ≡ session_at history k

-- before the first step, with `row` past the history, a table that is right for the rows below `first` is filling
pub filling_first : (capacity first row : ℕ) (log : List Entry) (columns : List ℕ) → length log ≤ row
    → HasColumns capacity first log columns
    → IsFilling capacity first row log columns
filling_first capacity first row log columns all kept = record {
  sized = kept.sized;
  before = kept.filled;
  behind = λ k from below. absurd (omega arith);
}

-- the step: if the row before `row` gets the session of its entry, the table is filling from that row on
pub filling_next : (capacity first row column : ℕ) (log : List Entry) (columns : List ℕ) → first < row
    → row ≤ length log → length log ≤ capacity
    → column ≡ session_at log (row - 1)
    → IsFilling capacity first row log columns → IsFilling capacity first (row - 1) log (set columns (row - 1) column)
filling_next capacity first row column log columns some within room is filling =
    let below : ℕ = row - 1 in
    let lower : below < length columns = omega (arith, filling.sized) in
    record {
      sized = length-set columns below column ∙ filling.sized;
      before = λ k low. get_or-set_other columns below k column 0 (λ e. omega arith) ∙ filling.before k low;
      behind = λ k from low.
          dite (ℕ_discrete k below)
          (λ e. ap (λ n. get_or (set columns below column) n 0) e ∙ get_or-set_same columns below column 0 lower ∙ is
          ∙ ap (session_at log) (sym e))
          (λ ne. get_or-set_other columns below k column 0 ne ∙ filling.behind k (omega arith) low);
    }

-- if `row` has come down to `first`, the table is right for the whole history
pub filling_last : (capacity first row : ℕ) (log : List Entry) (columns : List ℕ) → row ≤ first
    → IsFilling capacity first row log columns
    → HasColumns capacity (length log) log columns
filling_last capacity first row log columns done filling = record {
  sized = filling.sized;
  filled = λ k low. dite (dec_le first k) (λ from. filling.behind k (omega arith) low)
      (λ below. filling.before k (omega arith));
}
