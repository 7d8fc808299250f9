-- The table of columns says whose entry stands at each of the last places, and stays so of a longer history.
use Rattle.std.proofs.Common.{◌≡◌, ◌≢◌, ℕ, ◌+◌, ◌-◌, ◌%◌, ◌<◌, ◌≤◌, List, [], ◌∷◌, ◌++◌, length, get_or, set, ap, sym}
use Rattle.std.proofs.{Common.{◌∙◌, arith, length-append}, Math.Nat.mod-lt}
use Rattle.std.{proofs.lemmas.List.{length-set, get_or-set_same, get_or-set_other}, specs.Prelude.slice_index}
use mathlib.Core.Logic.{dite}
use Rattle.xa_words.specs.Entry.{Entry}
use Rattle.decision_log.{specs.History.Begins, proofs.Histories.{length_begins, begins_append}}
use Rattle.chain_log.{specs.{Cells.session_at, Windows.HasWindow}, proofs.Names.{session_there, get_end}}
use Rattle.chain_log.proofs.{KeptColumns.session_begins, Turns.rows_apart}
use native.Mathlib.Decide.{ℕ_discrete, dec_le}

-- the table is as good for a longer history, so far as it reaches
pub window_longer : (rows low : ℕ) (xs ys : List Entry) (columns : List ℕ) → Begins xs ys
    → HasWindow rows low (length xs) xs columns
    → HasWindow rows low (length xs) ys columns
window_longer rows low xs ys columns begins is = record {
  sized = is.sized;
  filled = λ place from below near.
      let longer = length_begins xs ys begins in
      is.filled place from below (omega arith) ∙ session_begins xs ys place begins below;
}

-- if the table is right from place + 1 on, and the place's byte gets the session of its entry, it is right from there
-- on
pub window_lower : (rows place count column : ℕ) (log : List Entry) (columns : List ℕ) → 0 < rows → count ≤ length log
    → length log ≤ place + rows
    → column ≡ session_at log place
    → HasWindow rows (place + 1) count log columns → HasWindow rows place count log (set columns (place % rows) column)
window_lower rows place count column log columns some within near is kept =
    let row : ℕ = place % rows in
    let fits : row < rows = mod-lt place some in
    record {
      sized = length-set columns row column ∙ kept.sized;
      filled = λ other from below window.
          dite (ℕ_discrete other place)
          (λ e. ap (λ n. get_or (set columns row column) (n % rows) 0) e
          ∙ get_or-set_same columns row column 0 (omega (arith, kept.sized)) ∙ is
          ∙ ap (session_at log) (sym e))
          (λ ne. get_or-set_other columns row (other % rows) column 0
          (rows_apart rows other place ne (omega arith) (omega arith))
          ∙ kept.filled other (omega arith) below window);
    }

-- a place of the window keeps its byte where another's is set
pub beside_set : (rows place other column : ℕ) (columns : List ℕ) → other ≢ place → other < place + rows
    → place < other + rows
    → get_or (set columns (place % rows) column) (other % rows) 0 ≡ get_or columns (other % rows) 0
beside_set rows place other column columns apart near near' =
    get_or-set_other columns (place % rows) (other % rows) column 0 (rows_apart rows other place apart near near')

-- if the byte of the last place gets the session of its entry, the table is right from that place on
pub window_top : (rows count column : ℕ) (log : List Entry) (columns : List ℕ) → 0 < rows → 0 < count
    → count ≡ length log → length columns ≡ rows
    → column ≡ session_at log (count - 1)
    → HasWindow rows (count - 1) (length log) log (set columns ((count - 1) % rows) column)
window_top rows count column log columns some more whole sized is =
    window_lower rows (count - 1) (length log) column log columns some (omega arith) (omega arith) is
    (record { sized = sized; filled = λ place from below near. absurd (omega arith) })

-- if the table was right from `low` to `first` before, is right from `stop` on now, and below `stop` only the byte of
-- the last place was set, it is right from `low` on; between `first` and `stop` lie only places that its rows don't
-- reach
pub window_joined : (rows low first stop count column : ℕ) (log : List Entry) (before after : List ℕ) → 0 < rows
    → count ≡ length log → stop < count
    → (first < stop → count ≡ stop + rows) → HasWindow rows low first log before
    → HasWindow rows stop (length log) log after
    → ((place : ℕ) → place < stop → length log ≤ place + rows
    → slice_index after (place % rows) ≡ slice_index (set before ((count - 1) % rows) column) (place % rows))
    → HasWindow rows low count log after
window_joined rows low first stop count column log before after some whole top reach kept walked beside = record {
  sized = walked.sized;
  filled = λ place from below near.
      dite (dec_le stop place) (λ le. walked.filled place le (omega arith) near)
      (λ gt.
      let less : place < first =
      dite (dec_le first place) (λ le. let all = reach (omega arith) in absurd (omega arith)) (λ lt. omega arith) in
      beside place (omega arith) near
      ∙ beside_set rows (count - 1) place column before (λ e. omega arith) (omega arith) (omega arith)
      ∙ kept.filled place from less near);
}

-- with one entry more in the history, the table of the latest rows is right once its row has the entry's column
pub window_more : (rows low : ℕ) (xs : List Entry) (entry : Entry) (columns : List ℕ) (column : ℕ) → 0 < rows
    → column ≡ entry.session
    → HasWindow rows low (length xs) xs columns
    → HasWindow rows low (length (xs ++ entry ∷ [])) (xs ++ entry ∷ []) (set columns (length xs % rows) column)
window_more rows low xs entry columns column some is kept =
    let ys : List Entry = xs ++ entry ∷ [] in
    let row : ℕ = length xs % rows in
    let fits : row < rows = mod-lt (length xs) some in
    let longer : length ys ≡ length xs + 1 = length-append xs (entry ∷ []) in
    let begins : Begins xs ys = begins_append xs (entry ∷ []) in
    let last : session_at ys (length xs) ≡ entry.session = session_there ys (length xs) entry (get_end xs entry) in
    record {
      sized = length-set columns row column ∙ kept.sized;
      filled = λ place from below near.
          dite (ℕ_discrete place (length xs))
          (λ e. ap (λ n. get_or (set columns row column) (n % rows) 0) e
          ∙ get_or-set_same columns row column 0 (omega (arith, kept.sized)) ∙ is ∙ sym last
          ∙ ap (session_at ys) (sym e))
          (λ ne. get_or-set_other columns row (place % rows) column 0
          (rows_apart rows place (length xs) ne (omega (arith, longer)) (omega (arith, longer)))
          ∙ kept.filled place from (omega (arith, longer)) (omega (arith, longer))
          ∙ session_begins xs ys place begins (omega (arith, longer)));
    }
