-- The chain is the history: the walk along the links meets its entries, newest first.
use Rattle.std.proofs.Common.{◌≡◌, ℕ, zero, suc, ◌+◌, ◌≤◌, List, [], ◌∷◌, length, take, get_or, refl, ap, sym, ◌∙◌}
use Rattle.std.proofs.{Common.{subst, arith}, lemmas.List.{reverse-append, reverse-reverse, take_all, ext_get_or}}
use Rattle.std.specs.Prelude.{slice_index, reverse}
use Rattle.xa_words.{specs.{Entry.Entry, Words.words_of}, proofs.Spelling.{one_entry, length-words_of}}
use Rattle.decision_log.specs.{declared.{sizes.Sizes.Sizes, view.SeatView.SeatView}, Draft.HasWordsAt}
use Rattle.decision_log.proofs.Histories.{there, take_next}
use Rattle.chain_log.specs.{Cells.{name_at, cell_at, name_before, newest_of}, Chain.{Walk, Chain}, ChainRule.ChainRule}
use Rattle.chain_log.proofs.Names.{name_zero, name_next, name_low}

-- if words stand in a row from a place on, the first stands at the place itself
holds_first : (words : List ℕ) (at word : ℕ) (rest : List ℕ) → HasWordsAt words at (word ∷ rest)
    → slice_index words at ≡ word
holds_first words at word rest holds =
    let here : at ≡ at + 0 = omega arith in
    ap (λ n. get_or words n 0) here ∙ holds 0 (omega arith)

-- if words stand in a row from a place on, those after the first stand in a row from the next place on
holds_rest : (words : List ℕ) (at word : ℕ) (rest : List ℕ) → HasWordsAt words at (word ∷ rest)
    → HasWordsAt words (at + 1) rest
holds_rest words at word rest holds i below =
    let here : at + 1 + i ≡ at + suc i = omega arith in
    ap (λ n. get_or words n 0) here ∙ holds (suc i) (omega arith)

module _ (sizes : Sizes) (words : List ℕ) (views : List SeatView) (r : ChainRule sizes words views) where
  -- from the cell of each row the walk meets the entries up to that row
  walk_below : (row : ℕ) → row ≤ length r.log → Walk words (name_before sizes.sessions r.log row)
      (reverse (take row r.log))
  walk_below zero within = name_zero sizes.sessions r.log
  walk_below (suc row) within =
      let t = there r.log row (omega arith) in
      let e = t.0 in
      let cell = r.spelled.cells row e t.1 in
      let is = (r.entries row e t.1).0 in
      let low = name_low sizes.sessions row e.session is.first_session in
      let turned : reverse (take (suc row) r.log) ≡ e ∷ reverse (take row r.log) =
      ap reverse (take_next r.log row e t.1) ∙ reverse-append (take row r.log) (e ∷ []) in
      let at = cell_at (name_at sizes.sessions row e.session) in
      let before = walk_below row (omega arith) in
      subst (λ name. Walk words name (reverse (take (suc row) r.log))) (sym (name_next sizes.sessions r.log row e t.1))
      (subst (λ list. Walk words (name_at sizes.sessions row e.session) list) (sym turned) (
        (λ none. omega (arith, none, low)),
        is,
        holds_rest words at (name_before sizes.sessions r.log row) (words_of e) cell,
        subst (λ name. Walk words name (reverse (take row r.log)))
            (sym (holds_first words at (name_before sizes.sessions r.log row) (words_of e) cell)) before,
      ))

  -- if the rule holds, the words are a chain of its history
  pub chain_of : Chain words r.log
  chain_of =
      subst (λ name. Walk words name (reverse r.log)) (sym r.spelled.newest)
      (subst (λ list. Walk words (newest_of sizes.sessions r.log) (reverse list))
      (take_all (length r.log) r.log (omega arith))
      (walk_below (length r.log) (omega arith)))

-- two walks from the same name through the same words meet the same entries
one_walk : (words : List ℕ) (name : ℕ) (one other : List Entry) → Walk words name one → Walk words name other
    → one ≡ other
one_walk words name [] [] w v = refl
one_walk words name [] (y ∷ ys) w v = absurd (v.0 w)
one_walk words name (x ∷ xs) [] w v = absurd (w.0 v)
one_walk words name (x ∷ xs) (y ∷ ys) w v =
    let spelled : words_of x ≡ words_of y =
    ext_get_or 0 (words_of x) (words_of y) (length-words_of x ∙ sym (length-words_of y))
    (λ k below. sym (w.2 k below) ∙ v.2 k (omega (arith, below, length-words_of x, length-words_of y))) in
    let first = one_entry x y w.1 v.1 spelled in
    let rest = one_walk words (slice_index words (cell_at name)) xs ys w.3 v.3 in
    λ i. first i ∷ rest i

-- the same words are a chain of one history only
pub one_chain : (words : List ℕ) (one other : List Entry) → Chain words one → Chain words other → one ≡ other
one_chain words one other c d =
    sym (reverse-reverse one) ∙ ap reverse (one_walk words (slice_index words 0) (reverse one) (reverse other) c d)
    ∙ reverse-reverse other
