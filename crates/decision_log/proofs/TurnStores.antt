-- The steps of a log with a turn that change a word keep the rule.
-- Here `h` is a pass's view: what a seat of the log knows of that pass.
use Rattle.std.proofs.Common.{◌≡◌, ◌≢◌, ℕ, ◌+◌, ◌<◌, ◌≤◌, List, [], ◌∷◌, ◌++◌, length, set, get_or, refl, ap, sym, ◌∙◌}
use Rattle.std.proofs.{Common.{subst, ⊎_elim, arith, eqb, length-append}, lemmas.Option.slice_get_within}
use Rattle.std.{proofs.lemmas.List.{length-set, get_or-set_same, get_or-set_other}, specs.Prelude.slice_index}
use mathlib.Core.{Option.{none, some}, Logic.dite}
use Rattle.atomic_table.{specs.Table.{keeps, Allows}, proofs.Lists.exchanged}
use Rattle.xa_words.{specs.{Entry.{Entry, IsEntry}, Words.words_of}, proofs.Spelling.length-words_of}
use Rattle.decision_log.specs.declared.view.{PassView.PassView, SeatView.{SeatView, TheVariants.Single}, Turn.Turn}
use Rattle.decision_log.specs.{declared.{view.Turn.TheVariants.{Without, Won, Fresh}, sizes.Sizes.Sizes}, Seats.seated}
use Rattle.decision_log.specs.{Draft.{HasWordsAt, drafted}, TurnRule.{row_at, HasRows, HasTurn, HasDraft, TurnRule}}
use Rattle.decision_log.{specs.Atomic.Tells, proofs.Histories.get_last}
use Rattle.decision_log.specs.TurnTransitions.{tried, published, released, Takes, Drafts, Publishes, Releases}
use Rattle.decision_log.proofs.Drafts.{holds_nothing, holds_beside, holds_one_more}
use Rattle.decision_log.proofs.{LogRules.{RuleOf, known, stepped, appended, loaded, store_step}, TurnSteps.Rules}
use native.Mathlib.Decide.{ℕ_discrete}
use lib.ListN.{get_elem?}
use prog.Atomic.{either}

-- a pass whose number isn't in the turn's word doesn't have the turn
without : (words words' : List ℕ) (log log' : List Entry) (g : PassView) (turn : Turn)
    → slice_index words 1 ≢ g.known.number → HasTurn words log g turn
    → HasTurn words' log' g turn × (g.draft ≡ [])
without words words' log log' g Without other has = (has, has)
without words words' log log' g Won other has = absurd (other has.1)
without words words' log log' g Fresh other has = absurd (other has.1)

-- a pass that doesn't have the turn knows what it knew, whatever becomes of the words and of the history
aside : (words words' : List ℕ) (log log' : List Entry) (g : PassView) → slice_index words 1 ≢ g.known.number
    → HasDraft words log g → HasDraft words' log' g
aside words words' log log' g other own =
    let w = without words words' log log' g g.turn other own.turn in
    record { draft = holds_nothing words' (row_at (length log')) g.draft w.1; turn = w.0 }

-- what a pass knows of words that it stored is true if it stored none
blank : (words : List ℕ) (log : List Entry) (k : PassView) → k.draft ≡ [] → HasTurn words log k k.turn
    → HasDraft words log k
blank words log k empty turn = record { draft = holds_nothing words (row_at (length log)) k.draft empty; turn = turn }

module _ {sizes : Sizes} {words : List ℕ} {views : List SeatView} (r : TurnRule sizes words views) where
  -- there is a word 1
  two_words : 1 < length words
  two_words = omega (arith, r.spelled.wide)

  -- whatever is stored into the turn's word, the words still spell the history
  retaken : (new : ℕ) → HasRows sizes (set words 1 new) r.log
  retaken new = record {
    wide = length-set words 1 new ∙ r.spelled.wide;
    count = get_or-set_other words 1 0 new 0 (λ e. omega arith) ∙ r.spelled.count;
    rows = λ place entry is. holds_beside words 1 new (row_at place) (words_of entry) (λ i below e. omega arith)
        (r.spelled.rows place entry is);
  }

  -- the rule is kept if the turn is free and the pass's number is stored into the turn's word: the pass has won it
  take_keeps : (id : ℕ) (h : PassView) → get_elem? views id ≡ some (Single h) → get_or words 1 0 ≡ 0
      → TurnRule sizes (set words 1 h.known.number) (set views id (Single (tried h Won)))
  take_keeps id h here free =
      let k = (known r id h here).fact_is in
      let words' = set words 1 h.known.number in
      (stepped r words' id h (tried h Won) here (retaken h.known.number) refl refl refl refl k.seen k.part
      (blank words' r.log (tried h Won) refl (refl, get_or-set_same words 1 h.known.number 0 two_words))
      (λ g apart low other. aside words words' r.log r.log g (λ e. omega arith) other.own)).0

  -- the rule is kept if no word changes and the pass has tried in vain
  miss_keeps : (id : ℕ) (h : PassView) → get_elem? views id ≡ some (Single h)
      → TurnRule sizes words (set views id (Single (tried h Without)))
  miss_keeps id h here =
      let k = (known r id h here).fact_is in
      (stepped r words id h (tried h Without) here r.spelled refl refl refl refl k.seen k.part
      (blank words r.log (tried h Without) refl refl)
      (λ g apart low other. other.own)).0

  -- the rule is kept if a pass whose number is in the turn's word stores 0 there
  release_keeps : (id : ℕ) (h : PassView) → get_elem? views id ≡ some (Single h) → slice_index words 1 ≡ h.known.number
      → TurnRule sizes (set words 1 0) (set views id (Single (released h)))
  release_keeps id h here mine =
      let k = (known r id h here).fact_is in
      (stepped r (set words 1 0) id h (released h) here (retaken 0) refl refl refl refl k.seen k.part
      (blank (set words 1 0) r.log (released h) refl refl)
      (λ g apart low other. aside words (set words 1 0) r.log r.log g (λ e. apart (sym e ∙ mine)) other.own)).0

  -- the rule is kept, with the same history, if a pass that has the turn and has seen the whole history stores the
  -- next word of its draft, or one again, into the row at the count
  pub draft_keeps : (id : ℕ) (h : PassView) (index new : ℕ) → get_elem? views id ≡ some (Single h)
      → h.known.seen ≡ r.log → slice_index words 1 ≡ h.known.number
      → h.turn ≡ Fresh
      → index ≤ length h.draft → index < 21 → length r.log < sizes.capacity
      → RuleOf HasRows HasDraft sizes (set words (row_at (length r.log) + index) new)
      (set views id (Single (drafted h index new))) r.log
  draft_keeps id h index new here all mine fresh along below room =
      let k = (known r id h here).fact_is in
      let words' = set words (row_at (length r.log) + index) new in
      let named : slice_index words' 1 ≡ h.known.number = get_or-set_other words (row_at (length r.log) + index) 1 new 0
      (λ e. omega arith) ∙ mine in
      stepped r words' id h (drafted h index new) here
      (record {
        wide = length-set words (row_at (length r.log) + index) new ∙ r.spelled.wide;
        count = get_or-set_other words (row_at (length r.log) + index) 0 new 0 (λ e. omega arith) ∙ r.spelled.count;
        rows =
            λ place entry is.
            let low : place < length r.log = slice_get_within r.log place entry is in
            let len = length-words_of entry in
            holds_beside words (row_at (length r.log) + index) new (row_at place) (words_of entry)
            (λ i less e. omega arith) (r.spelled.rows place entry is);
      })
      refl refl refl refl k.seen k.part
      (record {
        draft = holds_one_more words (row_at (length r.log)) index new h.draft along
            (omega (arith, r.spelled.wide)) k.own.draft;
        turn = subst (λ t. HasTurn words' r.log (drafted h index new) t) (sym fresh) (all, named);
      })
      (λ g apart low other. aside words words' r.log r.log g (λ e. apart (sym e ∙ mine)) other.own)

  -- the rule is kept, with the entry appended, if a pass that has the turn and has seen the whole history, and whose
  -- draft is the words of an entry of its number, stores the count, one higher, and there was room
  pub publish_keeps : (id : ℕ) (h : PassView) (entry : Entry) → get_elem? views id ≡ some (Single h)
      → h.known.seen ≡ r.log
      → slice_index words 1 ≡ h.known.number
      → IsEntry entry → entry.session ≡ h.known.number → h.draft ≡ words_of entry → length r.log < sizes.capacity
      → RuleOf HasRows HasDraft sizes (set words 0 (length r.log + 1)) (set views id (Single (published h entry)))
      (r.log ++ entry ∷ [])
  publish_keeps id h entry here all mine is own whole room =
      let k = (known r id h here).fact_is in
      let new = length r.log + 1 in
      let words' = set words 0 new in
      let log' = r.log ++ entry ∷ [] in
      let longer : length log' ≡ new = length-append r.log (entry ∷ []) in
      let named : slice_index words' 1 ≡ h.known.number = get_or-set_other words 0 1 new 0 (λ e. omega arith) ∙ mine in
      appended r words' id h (published h entry) entry here all is own room
      (record {
        wide = length-set words 0 new ∙ r.spelled.wide;
        count = get_or-set_same words 0 new 0 (omega (arith, two_words)) ∙ sym longer;
        rows =
            λ place other at.
            holds_beside words 0 new (row_at place) (words_of other) (λ i less e. omega arith)
            (⊎_elim (λ t. r.spelled.rows place other t)
            (λ t. subst (λ n. HasWordsAt words (row_at n) (words_of other)) (sym t.0)
            (subst (λ draft. HasWordsAt words (row_at (length r.log)) draft) (whole ∙ ap words_of t.1) k.own.draft))
            (get_last r.log entry place other at));
      })
      refl refl refl refl refl
      (record {
        draft = holds_nothing words' (row_at (length log')) [] refl;
        turn = (
          ap
              (λ list. list ++ entry ∷ []) all,
          named,
        );
      })
      (λ g apart low other. aside words words' r.log log' g (λ e. apart (sym e ∙ mine)) other.own)

-- a pass that has the turn, and has looked since, has seen the whole history
pub fresh_has : (words : List ℕ) (log : List Entry) (h : PassView) → h.turn ≡ Fresh → HasTurn words log h h.turn
    → (h.known.seen ≡ log) × (slice_index words 1 ≡ h.known.number)
fresh_has words log h fresh has = subst (λ t. HasTurn words log h t) fresh has

-- the exchange of word 1, which takes the turn if it is free, keeps the rule
pub take_step : (sizes : Sizes) (slots id : ℕ) (h : PassView)
    → Allows (Rules sizes) slots id (seated h) 1 (λ n. either (eqb n 0) h.known.number n)
    (Tells (Takes 1 0 h.known.number none h))
take_step sizes slots id h state r homes here small =
    let n = get_or state.words 1 0 in
    dite (ℕ_discrete n 0)
    (λ e. (
      Single (tried h Won),
      keeps,
      tt,
      exchanged n 0 h.known.number (λ w. TurnRule sizes (set state.words 1 w)
          (set state.views id (Single (tried h Won))))
          (λ f. take_keeps r id h here e) (λ ne. absurd (ne e)),
      (tried h Won, refl, (refl, refl, refl, (λ f. refl), (λ ne. absurd (ne e)))),
    ))
    (λ ne. (
      Single (tried h Without),
      keeps,
      tt,
      exchanged n 0 h.known.number (λ w. TurnRule sizes (set state.words 1 w)
          (set state.views id (Single (tried h Without)))) (λ f. absurd (ne f))
          (λ f. loaded sizes state.words 1 (set state.views id (Single (tried h Without))) (miss_keeps r id h here)),
      (tried h Without, refl, (refl, refl, refl, (λ f. absurd (ne f)), (λ f. refl))),
    ))

-- the store of 0 into word 1, which gives the turn back, keeps the rule
pub release_step : (sizes : Sizes) (slots id : ℕ) (h : PassView) → h.turn ≡ Fresh
    → Allows (Rules sizes) slots id (seated h) 1 (λ n. 0) (λ n. Tells (Releases 1 0 h) 0)
release_step sizes slots id h fresh state r homes here small =
    let f = fresh_has state.words r.log h fresh (known r id h here).fact_is.own.turn in
    (Single (released h), keeps, tt, release_keeps r id h here f.1, (released h, refl, (refl, refl, refl)))

-- a store into the words of the next entry, which isn't published yet, keeps the rule
pub draft_step : (sizes : Sizes) (slots id word index new : ℕ) (h : PassView)
    → word ≡ row_at (length h.known.seen) + index → h.turn ≡ Fresh
    → index ≤ length h.draft → index < 21 → length h.known.seen < h.capacity
    → Allows (Rules sizes) slots id (seated h) word (λ n. new) (λ n. Tells (Drafts word new h) new)
draft_step sizes slots id word index new h at fresh along below room =
    store_step sizes slots id (row_at (length h.known.seen)) word index new h at
    (λ words views r here.
    let k = (known r id h here).fact_is in
    let f = fresh_has words r.log h fresh k.own.turn in
    let lengths : length r.log ≡ length h.known.seen = ap length (sym f.0) in
    let capacity = k.capacity in
    subst (λ n. TurnRule sizes (set words (row_at n + index) new) (set views id (Single (drafted h index new)))) lengths
    (draft_keeps r id h index new here f.0 f.1 fresh along below (omega arith)).0)

-- the store of the count, which makes these words an entry of the history, keeps the rule
pub publish_step : (sizes : Sizes) (slots id new : ℕ) (h : PassView) (entry : Entry) → new ≡ length h.known.seen + 1
    → h.turn ≡ Fresh → IsEntry entry
    → entry.session ≡ h.known.number → h.draft ≡ words_of entry → length h.known.seen < h.capacity
    → Allows (Rules sizes) slots id (seated h) 0 (λ n. new) (λ n. Tells (Publishes 0 new h) new)
publish_step sizes slots id new h entry next fresh is own whole room state r homes here small =
    let k = (known r id h here).fact_is in
    let f = fresh_has state.words r.log h fresh k.own.turn in
    let lengths : length h.known.seen ≡ length r.log = ap length f.0 in
    let capacity = k.capacity in (
      Single (published h entry),
      keeps,
      tt,
      subst (λ n. TurnRule sizes (set state.words 0 n) (set state.views id (Single (published h entry))))
          (sym (next ∙ ap (λ n. n + 1) lengths))
          (publish_keeps r id h entry here f.0 f.1 is own whole (omega arith)).0,
      (published h entry, refl, (refl, next, entry, is, whole, refl)),
    )
