-- The words of a log with a turn spell one history: what stores a word keeps it, and what stores the count puts one
-- entry behind it.
-- Here `h` is a pass's view: what a seat of the log knows of that pass.
use Rattle.std.proofs.Common.{◌≡◌, ◌≢◌, ℕ, suc, ◌+◌, ◌<◌, ◌≤◌, List, [], ◌∷◌, ◌++◌, length, set, ap, sym, ◌∙◌, subst}
use Rattle.std.proofs.{Common.{refl, arith, Some}, lemmas.List.{ext_get_or, get_or-set_other}}
use Rattle.std.specs.Prelude.{slice_get, slice_index}
use mathlib.Core.Option.{some}
use Rattle.xa_words.{specs.{Entry.{Entry, IsEntry}, Words.words_of}, proofs.Spelling.{one_entry, length-words_of}}
use Rattle.decision_log.specs.declared.view.{PassView.PassView, SeatView.{SeatView, TheVariants.Single}}
use Rattle.decision_log.specs.{declared.{view.Turn.TheVariants.Fresh, sizes.Sizes.Sizes}, Draft.{HasWordsAt, drafted}}
use Rattle.decision_log.{specs.{TurnTransitions.published, Atomic.{Atomic, Does, Counts}}, proofs.Drafts.holds_beside}
use Rattle.decision_log.{specs.TurnRule.{row_at, turn_word, count_for, Knows, TurnRule}, proofs.Histories.begins_same}
use Rattle.decision_log.proofs.{LogRules.{known, looked_log}, TurnStores.{draft_keeps, publish_keeps, fresh_has}}
use lib.ListN.{get_elem?}

-- the rows from a place on have the words of these entries
Spelled : List ℕ → ℕ → List Entry → Type 0
Spelled words from list =
    (place : ℕ) (entry : Entry) → slice_get list place ≡ Some entry
    → IsEntry entry × HasWordsAt words (row_at (from + place)) (words_of entry)

-- what stands in the row of a place stands in the row of that place counted from 0 on, as `Spelled` counts
first_rows : (words : List ℕ) (place : ℕ) (entry : Entry)
    → IsEntry entry × HasWordsAt words (row_at place) (words_of entry)
    → IsEntry entry × HasWordsAt words (row_at (0 + place)) (words_of entry)
first_rows words place entry is =
    let here : place ≡ 0 + place = omega arith in
    subst (λ n. IsEntry entry × HasWordsAt words (row_at n) (words_of entry)) here is

-- two lists that the rows from a place on spell begin with the same entry
one_row : (words : List ℕ) (from : ℕ) (x y : Entry) (xs ys : List Entry) → Spelled words from (x ∷ xs)
    → Spelled words from (y ∷ ys) → x ≡ y
unfolding Spelled
one_row words from x y xs ys s t =
    let left = s 0 x refl in
    let right = t 0 y refl in
    one_entry x y left.0 right.0
    (ext_get_or 0 (words_of x) (words_of y) (length-words_of x ∙ sym (length-words_of y))
    (λ k below. sym (left.1 k below) ∙ right.1 k (omega (arith, below, length-words_of x, length-words_of y))))

-- if the rows from a place on spell a list, those from the next place on spell it without its first entry
spelled_rest : (words : List ℕ) (from : ℕ) (x : Entry) (xs : List Entry) → Spelled words from (x ∷ xs)
    → Spelled words (from + 1) xs
unfolding Spelled
spelled_rest words from x xs s place entry is =
    let here : from + suc place ≡ from + 1 + place = omega arith in
    subst (λ n. IsEntry entry × HasWordsAt words (row_at n) (words_of entry)) here (s (suc place) entry is)

-- two lists of the same length that the rows from a place on spell are equal
one_list : (words : List ℕ) (from : ℕ) (xs ys : List Entry) → length xs ≡ length ys → Spelled words from xs
    → Spelled words from ys → xs ≡ ys
one_list words from [] [] same s t = refl
one_list words from [] (y ∷ ys) same s t = absurd (omega (arith, same))
one_list words from (x ∷ xs) [] same s t = absurd (omega (arith, same))
one_list words from (x ∷ xs) (y ∷ ys) same s t =
    let first = one_row words from x y xs ys s t in
    let rest = one_list words (from + 1) xs ys (omega (arith, same)) (spelled_rest words from x xs s)
    (spelled_rest words from y ys t) in
    λ i. first i ∷ rest i

module _ (sizes : Sizes) (words : List ℕ) (views : List SeatView) (r : TurnRule sizes words views) where
  -- if the rule holds, the rows from place 0 on spell its history
  spelled : Spelled words 0 r.log
  unfolding Spelled
  spelled place entry is = first_rows words place entry ((r.entries place entry is).0, r.spelled.rows place entry is)

-- if the rule holds of the same words twice, with any seats, its history is the same both times
pub one_log : (sizes : Sizes) (words : List ℕ) (views views' : List SeatView) (p : TurnRule sizes words views)
    (q : TurnRule sizes words views') → p.log ≡ q.log
one_log sizes words views views' p q =
    one_list words 0 p.log q.log (sym p.spelled.count ∙ q.spelled.count) (spelled sizes words views p)
    (spelled sizes words views' q)

module _ (sizes : Sizes) (words : List ℕ) (views views' : List SeatView) (r : TurnRule sizes words views) where
  -- if the rule holds before and after a store to the turn's word, its history stays
  pub turn_log : (new : ℕ) (after : TurnRule sizes (set words 1 new) views') → after.log ≡ r.log
  unfolding Spelled
  turn_log new after =
      one_list (set words 1 new) 0 after.log r.log
      (sym after.spelled.count ∙ get_or-set_other words 1 0 new 0 (λ e. omega arith) ∙ r.spelled.count)
      (spelled sizes (set words 1 new) views' after)
      (λ place entry is. first_rows (set words 1 new) place entry (
        (r.entries place entry is).0,
        holds_beside words 1 new (row_at place) (words_of entry) (λ i below e. omega arith)
            (r.spelled.rows place entry is),
      ))

  -- if the rule holds before and after a pass with the turn, which has looked, stores a word of its draft into the row
  -- after all that it has seen, its history stays
  pub stored_log : (id : ℕ) (h : PassView) (index new : ℕ) → get_elem? views id ≡ some (Single h) → h.turn ≡ Fresh
      → index ≤ length h.draft → index < 21
      → length h.known.seen < h.capacity
      → (after : TurnRule sizes (set words (row_at (length h.known.seen) + index) new) views') → after.log ≡ r.log
  stored_log id h index new here fresh along below room after =
      let k = (known r id h here).fact_is in
      let f = fresh_has words r.log h fresh k.own.turn in
      subst (λ n. (after : TurnRule sizes (set words (row_at n + index) new) views') → after.log ≡ r.log)
      (ap length (sym f.0))
      (λ after.
      let t = draft_keeps r id h index new here f.0 f.1 fresh along below
      (omega (arith, ap length f.0, room, k.capacity)) in
      one_log sizes (set words (row_at (length r.log) + index) new) views'
      (set views id (Single (drafted h index new))) after t.0 ∙ t.1) after

  -- if the rule holds before and after a pass with the turn, which has looked and whose draft is an entry's words,
  -- stores the count, one higher, the history has that entry more
  pub counted_log : (id : ℕ) (h : PassView) (entry : Entry) → get_elem? views id ≡ some (Single h) → h.turn ≡ Fresh
      → IsEntry entry
      → entry.session ≡ h.known.number
      → h.draft ≡ words_of entry → length h.known.seen < h.capacity
      → (after : TurnRule sizes (set words 0 (length h.known.seen + 1)) views') → after.log ≡ r.log ++ entry ∷ []
  counted_log id h entry here fresh is own whole room after =
      let k = (known r id h here).fact_is in
      let f = fresh_has words r.log h fresh k.own.turn in
      subst (λ n. (after : TurnRule sizes (set words 0 (n + 1)) views') → after.log ≡ r.log ++ entry ∷ [])
      (ap length (sym f.0))
      (λ after.
      let t = publish_keeps r id h entry here f.0 f.1 is own whole (omega (arith, ap length f.0, room, k.capacity)) in
      one_log sizes (set words 0 (length r.log + 1)) views' (set views id (Single (published h entry))) after t.0
      ∙ t.1) after

-- a count that is what a pass has seen means that it has seen all
pub all_seen : (sizes : Sizes) (words : List ℕ) (views : List SeatView) (r : TurnRule sizes words views) (h : PassView)
    → Knows sizes words r.log h
    → slice_index words 0 ≡ count_for h → h.known.seen ≡ r.log
all_seen sizes words views r h k same = begins_same h.known.seen r.log k.seen (omega (arith, r.spelled.count, same))

-- a step by which looks rise sees the whole history, and adds nothing
pub look_sees : (sizes : Sizes) (words words' : List ℕ) (views views' : List SeatView) (r : TurnRule sizes words views)
    (after : TurnRule sizes words' views')
    (step : Atomic) (found id : ℕ) (old new : PassView) → Does step words found words'
    → Counts count_for turn_word step found old new → new.known.looks ≢ old.known.looks
    → get_elem? views' id ≡ some (Single new)
    → (new.known.seen ≡ after.log) × (after.log ≡ r.log)
look_sees sizes = looked_log count_for turn_word (one_log sizes) (all_seen sizes)
