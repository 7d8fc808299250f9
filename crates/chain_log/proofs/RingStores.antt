-- The steps of a ring that change a word keep the rule.
-- Here `h` is a pass's view: what a seat of the log knows of that pass.
use Rattle.std.proofs.Common.{◌≡◌, ◌≢◌, ℕ, zero, suc, ◌+◌, ◌-◌, ◌<◌, ◌≤◌, List, [], ◌∷◌, ◌++◌, length, take, set}
use Rattle.std.proofs.Common.{get_or, refl, ap, sym, ◌∙◌, subst, ⊎_elim, Some, arith, eqb, length-append}
use Rattle.std.{proofs.lemmas.Option.slice_get_within, specs.Prelude.slice_get}
use Rattle.std.proofs.lemmas.List.{length-set, get_or-set_same, get_or-set_other, length-take-le, set-get_or}
use mathlib.Core.{Option.some, Logic.dite}
use Rattle.atomic_table.{specs.Table.{keeps, Allows}, proofs.Lists.exchanged}
use Rattle.xa_words.{specs.{Entry.{Entry, IsEntry}, Words.words_of}, proofs.Spelling.length-words_of}
use Rattle.decision_log.specs.declared.view.{PassView.PassView, SeatView.{SeatView, TheVariants.Single}, Turn.Turn}
use Rattle.decision_log.specs.{declared.{view.Turn.TheVariants.{Without, Won, Fresh}, sizes.Sizes.Sizes}, Seats.seated}
use Rattle.decision_log.{specs.{Draft.HasWordsAt, Atomic.Tells}, proofs.Drafts.{holds_beside, holds_one_more}}
use Rattle.decision_log.proofs.Histories.{begins_append, begins_same, get_begins, get_last, later_other, length_begins}
use Rattle.decision_log.proofs.LogRules.{RuleOf, known, ranged, history, stepped, appended, loaded, load_step}
use Rattle.chain_log.specs.{Cells.{name_at, name_before, newest_of}, Places.{rows_of, cell_at, cell_of, cell_words}}
use Rattle.chain_log.specs.RingRule.{own_name, own_cell, watched_word, HasCells, IsDraft, Notes, HasNotes, Knows}
use Rattle.chain_log.specs.{RingRule.RingRule, RingTransitions.{won, lost, stored, Finds, Drafts, Exchanges}}
use Rattle.chain_log.proofs.Names.{name_begins, newest_added, one_cell, one_length}
use Rattle.chain_log.proofs.Turns.{same_row, cell_low, one_word, within_words}
use Rattle.chain_log.proofs.RingSteps.{Rules, idle, newest_by, seen_keeps}
use native.Mathlib.Decide.{ℕ_discrete, dec_le}
use lib.ListN.{get_elem?}
use prog.Atomic.{either}

-- a pass that isn't reading a cell has its draft in its own cell
draft_of : (words : List ℕ) (log : List Entry) (h : PassView) → HasNotes words log h → h.turn ≡ Without
    → IsDraft words h
draft_of words log h own without = subst (λ turn. Notes words log h turn) without own.notes

module _ {sizes : Sizes} {words : List ℕ} {views : List SeatView} (r : RingRule sizes words views) where
  -- the number of a pass is one of the log's sessions
  numbered : (id : ℕ) (h : PassView) → get_elem? views id ≡ some (Single h)
      → (1 ≤ h.known.number) × (h.known.number ≤ sizes.sessions)
  numbered id h here =
      let p = known r id h here in
      (omega (arith, p.low), omega (arith, p.high, r.within))

  -- a pass's own cell is the same by its own sizes and by the ring's
  own_by : (h : PassView) → Knows sizes words r.log h → own_cell h
      ≡ cell_of sizes.capacity (length h.known.seen) h.known.number
  own_by h k = λ i. cell_of (k.capacity i) (length h.known.seen) h.known.number

  -- a pass's own name is the same by its own number of columns and by the ring's
  own_name_by : (h : PassView) → Knows sizes words r.log h
      → own_name h ≡ name_at sizes.sessions (length h.known.seen) h.known.number
  own_name_by h k = λ i. name_at (k.sessions i) (length h.known.seen) h.known.number

  -- no entry of the history has the name that a pass's next entry gets
  name_apart : (id : ℕ) (h : PassView) (place : ℕ) (entry : Entry) → get_elem? views id ≡ some (Single h)
      → slice_get r.log place ≡ Some entry
      → name_at sizes.sessions place entry.session ≢ own_name h
  name_apart id h place entry here is same =
      let k = (known r id h here).fact_is in
      let n = numbered id h here in
      let e = ranged r place entry is in
      let c = one_cell sizes.sessions place (length h.known.seen) entry.session h.known.number e.0 e.1 n.0 n.1
      (same ∙ own_name_by h k) in
      later_other h.known.number h.known.seen r.log h.known.mine place entry k.seen k.mine k.part
      (omega (arith, c.0)) is c.1

  -- if an entry's cell shares a word with a pass's own cell, the history has at least as many entries from its place
  -- on as there are rows
  own_old : (id : ℕ) (h : PassView) (place i index : ℕ) (entry : Entry) → get_elem? views id ≡ some (Single h)
      → slice_get r.log place ≡ Some entry → i < 23
      → index < 23
      → cell_of sizes.capacity place entry.session + i ≡ own_cell h + index
      → place + rows_of sizes.capacity ≤ length r.log
  own_old id h place i index entry here is below below' same =
      let k = (known r id h here).fact_is in
      let n = numbered id h here in
      let e = ranged r place entry is in
      let low = length_begins h.known.seen r.log k.seen in
      let c =
      one_word sizes.capacity place entry.session (length h.known.seen) h.known.number i index r.spelled.some e.0 n.0
      below below'
      (same ∙ ap (λ n. n + index) (own_by h k)) in
      dite (dec_le (length h.known.seen) place)
      (λ later. absurd
      (later_other h.known.number h.known.seen r.log h.known.mine place entry k.seen k.mine k.part later is c.1))
      (λ before.
      let s = same_row (rows_of sizes.capacity) place (length h.known.seen) c.0 (omega arith) in
      omega arith)

  -- a word of the own cell isn't a word of the own cell of a pass of another number
  not_of_other : (id : ℕ) (h g : PassView) (index i : ℕ) → get_elem? views id ≡ some (Single h) → index < 23
      → g.known.number ≢ h.known.number
      → 0 < g.known.number
      → Knows sizes words r.log g → IsDraft words g → i < length g.draft
      → own_cell g + i ≢ own_cell h + index
  not_of_other id h g index i here below apart low k d less same =
      let p = (known r id h here).fact_is in
      let n = numbered id h here in
      apart
      (one_word sizes.capacity (length g.known.seen) g.known.number
      (length h.known.seen) h.known.number i index r.spelled.some (omega (arith, low)) n.0
      (omega (arith, less, d.short)) below
      (sym (ap (λ a. a + i) (own_by g k)) ∙ same ∙ ap (λ a. a + index) (own_by h p))).1

  -- the words of a pass's own cell are words of the ring
  own_within : (id : ℕ) (h : PassView) (index : ℕ) → get_elem? views id ≡ some (Single h) → index < 23
      → own_cell h + index < length words
  own_within id h index here below =
      let k = (known r id h here).fact_is in
      let n = numbered id h here in
      let w = within_words sizes.capacity sizes.sessions (length h.known.seen) h.known.number index r.spelled.some n.0
      n.1 below in
      subst (λ a. a + index < length words) (sym (own_by h k))
      (subst (λ n. cell_of sizes.capacity (length h.known.seen) h.known.number + index < n) (sym r.spelled.wide) w)

  -- a word that was stored into a pass's own cell, which has the own name then, isn't one of an entry's cell, if this
  -- has the entry's name
  not_own : (id : ℕ) (h : PassView) (index new place i : ℕ) (entry : Entry) → get_elem? views id ≡ some (Single h)
      → index < 23 → i < 23
      → get_or (set words (own_cell h + index) new) (own_cell h) 0 ≡ own_name h
      → slice_get r.log place ≡ Some entry
      → get_or (set words (own_cell h + index) new) (cell_of sizes.capacity place entry.session) 0
      ≡ name_at sizes.sessions place entry.session
      → cell_of sizes.capacity place entry.session + i ≢ own_cell h + index
  not_own id h index new place i entry here below less named is intact same =
      let e = ranged r place entry is in
      let n = numbered id h here in
      let k = (known r id h here).fact_is in
      let c =
      one_word sizes.capacity place entry.session (length h.known.seen) h.known.number i index r.spelled.some e.0 n.0
      less below
      (same ∙ ap (λ n. n + index) (own_by h k)) in
      let one : cell_of sizes.capacity place entry.session
      ≡ cell_of sizes.capacity (length h.known.seen) h.known.number =
      λ j. cell_at (name_at (rows_of sizes.capacity) (c.1 j - 1) (c.0 j + 1)) in
      name_apart id h place entry here is
      (sym intact ∙ ap (λ a. get_or (set words (own_cell h + index) new) a 0) (one ∙ sym (own_by h k)) ∙ named)

  -- after a store into a pass's own cell, which has the own name then, the words still spell the history
  spelled_beside : (id : ℕ) (h : PassView) (index new : ℕ) → get_elem? views id ≡ some (Single h) → index < 23
      → get_or (set words (own_cell h + index) new) (own_cell h) 0 ≡ own_name h
      → HasCells sizes (set words (own_cell h + index) new) r.log
  spelled_beside id h index new here below named =
      let word : ℕ = own_cell h + index in
      record {
        some = r.spelled.some;
        wide = length-set words word new ∙ r.spelled.wide;
        newest = get_or-set_other words word 0 new 0 (λ e. omega arith) ∙ r.spelled.newest;
        cells =
            λ place entry is intact.
            let cell = cell_of sizes.capacity place entry.session in
            let apart : cell ≢ word =
            λ e. not_own id h index new place 0 entry here below (omega arith) named is intact (omega (arith, e)) in
            holds_beside words word new cell (cell_words sizes.sessions r.log place entry)
            (λ i less. not_own id h index new place i entry here below
            (omega (arith, less, length-words_of entry)) named is intact)
            (r.spelled.cells place entry is (sym (get_or-set_other words word cell new 0 apart) ∙ intact));
        fresh =
            λ place entry is young.
            let cell = cell_of sizes.capacity place entry.session in
            let apart : cell ≢ word =
            λ e. let old = own_old id h place 0 index entry here is (omega arith) below (omega (arith, e)) in
            omega arith in
            get_or-set_other words word cell new 0 apart ∙ r.spelled.fresh place entry is young;
      }

  -- after a store into a pass's own cell, which has the own name then, what a pass of another number notes is still
  -- true
  notes_beside : (id : ℕ) (h g : PassView) (index new : ℕ) (turn : Turn) → get_elem? views id ≡ some (Single h)
      → index < 23
      → get_or (set words (own_cell h + index) new) (own_cell h) 0 ≡ own_name h
      → g.known.number ≢ h.known.number → 0 < g.known.number → Knows sizes words r.log g → Notes words r.log g turn
      → Notes (set words (own_cell h + index) new) r.log g turn
  notes_beside id h g index new Without here below named apart low k d = record {
    short = d.short;
    column = d.column;
    named = d.named;
    draft =
        holds_beside words (own_cell h + index) new (own_cell g) g.draft
        (λ i less. not_of_other id h g index i here below apart low k d less) d.draft;
  }
  notes_beside id h g index new Won here below named apart low k more = more
  notes_beside id h g index new Fresh here below named apart low k notes = (
    notes.0,
    (λ place entry is at name still.
        let there = get_begins g.known.seen r.log place entry k.seen is in
        let cell : watched_word g ≡ cell_of sizes.capacity place entry.session =
        at ∙ (λ i. cell_of (k.capacity i) place entry.session) in
        let intact =
        ap (λ a. get_or (set words (own_cell h + index) new) a 0) (sym cell) ∙ still ∙ name
        ∙ (λ i. name_at (k.sessions i) place entry.session) in
        let other : watched_word g ≢ own_cell h + index =
        λ e. not_own id h index new place 0 entry here below (omega arith) named there intact
        (omega (arith, cell, e)) in
        notes.1 place entry is at name (sym (get_or-set_other words (own_cell h + index) (watched_word g) new 0 other)
        ∙ still)),
  )

  -- the rule is kept, with the same history, by a store into a pass's own cell, if this has the own name then, and what
  -- the pass then keeps as its draft is true
  store_keeps : (id : ℕ) (h : PassView) (index new : ℕ) → get_elem? views id ≡ some (Single h) → index < 23
      → get_or (set words (own_cell h + index) new) (own_cell h) 0 ≡ own_name h
      → IsDraft (set words (own_cell h + index) new) (stored h index new)
      → RuleOf HasCells HasNotes sizes (set words (own_cell h + index) new)
      (set views id (Single (stored h index new))) r.log
  store_keeps id h index new here below named draft =
      let k = (known r id h here).fact_is in
      stepped r (set words (own_cell h + index) new) id h (stored h index new) here
      (spelled_beside id h index new here below named) refl refl refl refl k.seen
      k.part
      (record { notes = draft })
      (λ g apart low other. record
      { notes = notes_beside id h g index new g.turn here below named apart low other other.own.notes })

  -- the rule is kept, with the same history, if a pass stores its own name into its own cell, whatever its draft was
  -- before
  pub first_keeps : (id : ℕ) (h : PassView) → get_elem? views id ≡ some (Single h)
      → RuleOf HasCells HasNotes sizes (set words (own_cell h + 0) (own_name h))
      (set views id (Single (stored h 0 (own_name h)))) r.log
  first_keeps id h here =
      let k = (known r id h here).fact_is in
      let n = numbered id h here in
      let within = own_within id h 0 here (omega arith) in
      let at : own_cell h ≡ own_cell h + 0 = omega arith in
      let words' = set words (own_cell h + 0) (own_name h) in
      let named : get_or words' (own_cell h) 0 ≡ own_name h =
      ap (λ a. get_or words' a 0) at ∙ get_or-set_same words (own_cell h + 0) (own_name h) 0 within in
      store_keeps id h 0 (own_name h) here (omega arith) named
      (record {
        short = omega arith;
        column = λ some. omega (arith, n.1, k.sessions);
        named = λ some. refl;
        draft = holds_one_more words (own_cell h) 0 (own_name h) [] (omega arith) within
            (λ i less. absurd (omega arith));
      })

  -- the rule is kept, with the same history, if a pass that has stored the name stores its draft's next word, or one
  -- again
  pub next_keeps : (id : ℕ) (h : PassView) (index new : ℕ) → get_elem? views id ≡ some (Single h) → h.turn ≡ Without
      → 0 < index → index ≤ length h.draft
      → index < 23
      → RuleOf HasCells HasNotes sizes (set words (own_cell h + index) new)
      (set views id (Single (stored h index new))) r.log
  next_keeps id h index new here without behind along below =
      let k = (known r id h here).fact_is in
      let n = numbered id h here in
      let d = draft_of words r.log h k.own without in
      let word : ℕ = own_cell h + index in
      let at : own_cell h ≡ own_cell h + 0 = omega arith in
      let name : get_or h.draft 0 0 ≡ own_name h = d.named (omega arith) in
      let named : get_or (set words word new) (own_cell h) 0 ≡ own_name h =
      get_or-set_other words word (own_cell h) new 0 (λ e. omega arith) ∙ ap (λ a. get_or words a 0) at
      ∙ d.draft 0 (omega arith) ∙ name in
      store_keeps id h index new here below named
      (record {
        short = omega (arith, length-append (take index h.draft) (new ∷ []), length-take-le index h.draft along);
        column = λ some. omega (arith, n.1, k.sessions);
        named = λ more. first h.draft (new ∷ []) index behind along ∙ name;
        draft = holds_one_more words (own_cell h) index new h.draft along (own_within id h index here below) d.draft;
      })
    where
      first : (xs ys : List ℕ) (index : ℕ) → 0 < index → index ≤ length xs
          → get_or (take index xs ++ ys) 0 0 ≡ get_or xs 0 0
      first [] ys index behind along = absurd (omega arith)
      first (x ∷ xs) ys zero behind along = absurd (omega arith)
      first (x ∷ xs) ys (suc index) behind along = refl

  -- what a pass notes is still true after a store into word 0, if the history gets no shorter
  notes_longer : (new : ℕ) (log : List Entry) (g : PassView) (turn : Turn) → length r.log ≤ length log
      → Notes words r.log g turn
      → Notes (set words 0 new) log g turn
  notes_longer new log g Without longer d = record {
    short = d.short;
    column = d.column;
    named = d.named;
    draft = holds_beside words 0 new (own_cell g) g.draft (λ i less e. omega arith) d.draft;
  }
  notes_longer new log g Won longer more = omega arith
  notes_longer new log g Fresh longer notes =
      let more = notes.0 in (
        omega arith,
        (λ place entry is at name still.
            let low = cell_low g.capacity place entry.session in
            notes.1 place entry is at name (sym (get_or-set_other words 0 (watched_word g) new 0
            (λ e. omega (arith, at, low, e))) ∙ still)),
      )

  -- the rule is kept, with the entry appended, if a pass that has seen the whole history, and has its name, the link
  -- and an entry of its number as its draft, stores its own name into word 0, and there was room
  pub win_keeps : (id : ℕ) (h : PassView) (entry : Entry) → get_elem? views id ≡ some (Single h) → h.known.seen ≡ r.log
      → h.turn ≡ Without → IsEntry entry
      → entry.session ≡ h.known.number → h.draft ≡ own_name h ∷ newest_of sizes.sessions r.log ∷ words_of entry
      → length r.log < sizes.capacity
      → RuleOf HasCells HasNotes sizes (set words 0 (name_at sizes.sessions (length r.log) h.known.number))
      (set views id (Single (won h entry)))
      (r.log ++ entry ∷ [])
  win_keeps id h entry here all without is own whole room =
      let k = (known r id h here).fact_is in
      let d = draft_of words r.log h k.own without in
      let new = name_at sizes.sessions (length r.log) h.known.number in
      let words' = set words 0 new in
      let log' = r.log ++ entry ∷ [] in
      let at = cell_of sizes.capacity (length r.log) entry.session in
      let own_is : own_cell h ≡ at =
      own_by h k ∙ (λ i. cell_of sizes.capacity (length (all i)) (sym own i)) in
      let name_is : own_name h ≡ name_at sizes.sessions (length r.log) entry.session =
      own_name_by h k ∙ (λ i. name_at sizes.sessions (length (all i)) (sym own i)) in
      let longer : length log' ≡ length r.log + 1 = length-append r.log (entry ∷ []) in
      let cell : HasWordsAt words at (cell_words sizes.sessions r.log (length r.log) entry) =
      subst (λ at. HasWordsAt words at (cell_words sizes.sessions r.log (length r.log) entry)) own_is
      (subst (λ draft. HasWordsAt words (own_cell h) draft)
      (whole ∙ ap (λ name. name ∷ newest_of sizes.sessions r.log ∷ words_of entry) name_is) d.draft) in
      let link : (place : ℕ) → place ≤ length r.log → name_before sizes.sessions r.log place
      ≡ name_before sizes.sessions log' place =
      λ place low. name_begins sizes.sessions r.log log' place (begins_append r.log (entry ∷ [])) low in
      let beside : (place : ℕ) (other : Entry) → get_or words' (cell_of sizes.capacity place other.session) 0
      ≡ get_or words (cell_of sizes.capacity place other.session) 0 =
      λ place other. get_or-set_other words 0 (cell_of sizes.capacity place other.session) new 0 (λ e. omega arith) in
      appended r words' id h (won h entry) entry here all is own room
      (record {
        some = r.spelled.some;
        wide = length-set words 0 new ∙ r.spelled.wide;
        newest =
            get_or-set_same words 0 new 0 (omega (arith, r.spelled.wide))
            ∙ ap (name_at sizes.sessions (length r.log)) (sym own)
            ∙ sym (newest_added sizes.sessions r.log entry);
        cells =
            λ place other there intact.
            holds_beside words 0 new (cell_of sizes.capacity place other.session)
            (cell_words sizes.sessions log' place other)
            (λ i less e. omega arith)
            (⊎_elim
            (λ t. subst (λ name. HasWordsAt words (cell_of sizes.capacity place other.session)
            (name_at sizes.sessions place other.session ∷ name ∷ words_of other))
            (link place (omega (arith, slice_get_within r.log place other t)))
            (r.spelled.cells place other t (sym (beside place other) ∙ intact)))
            (λ t. subst (λ x. HasWordsAt words (cell_of sizes.capacity place x.session)
            (cell_words sizes.sessions log' place x)) t.1
            (subst (λ n. HasWordsAt words (cell_of sizes.capacity n entry.session)
            (cell_words sizes.sessions log' n entry)) (sym t.0)
            (subst (λ name. HasWordsAt words at (name_at sizes.sessions
            (length r.log) entry.session ∷ name ∷ words_of entry))
            (link (length r.log) (omega arith)) cell)))
            (get_last r.log entry place other there));
        fresh =
            λ place other there young.
            beside place other
            ∙ ⊎_elim (λ t. r.spelled.fresh place other t (omega (arith, longer)))
            (λ t. subst (λ x. get_or words (cell_of sizes.capacity place x.session) 0
            ≡ name_at sizes.sessions place x.session) t.1
            (subst (λ n. get_or words (cell_of sizes.capacity n entry.session) 0
            ≡ name_at sizes.sessions n entry.session) (sym t.0)
            (ap (λ a. get_or words a 0) (first at) ∙ cell 0 (omega arith))))
            (get_last r.log entry place other there);
      })
      refl refl refl refl refl (idle words' log' (won h entry) refl refl)
      (λ g apart low other. record { notes = notes_longer new log' g g.turn (omega (arith, longer)) other.own.notes })
    where
      first : (at : ℕ) → at ≡ at + 0
      first at = omega arith

  -- a pass whose last name seen is in word 0 has seen the whole history
  pub all_seen : (h : PassView) → Knows sizes words r.log h → newest_of h.sessions h.known.seen ≡ get_or words 0 0
      → h.known.seen ≡ r.log
  all_seen h k same =
      let low = length_begins h.known.seen r.log k.seen in
      let mine : newest_of h.sessions h.known.seen ≡ name_before sizes.sessions r.log (length h.known.seen) =
      ap (λ s. newest_of s h.known.seen) k.sessions ∙ name_begins sizes.sessions h.known.seen r.log
      (length h.known.seen) k.seen (omega arith) in
      let lengths =
      one_length sizes.sessions r.log (length h.known.seen) (length r.log) (ranged r) low (omega arith)
      (sym mine ∙ same ∙ r.spelled.newest) in
      begins_same h.known.seen r.log k.seen (omega (arith, lengths))

  -- if word 0 has another name than the last that a pass has seen, the history is longer than what it has seen
  more_there : (h : PassView) → Knows sizes words r.log h → newest_of h.sessions h.known.seen ≢ get_or words 0 0
      → length h.known.seen < length r.log
  more_there h k other =
      let low = length_begins h.known.seen r.log k.seen in
      dite (dec_le (length r.log) (length h.known.seen))
      (λ short. absurd (other (ap (newest_of h.sessions) (begins_same h.known.seen r.log k.seen short)
      ∙ sym (newest_by r h k.sessions))))
      (λ longer. omega arith)

-- a store into the pass's own cell is allowed, if it keeps the rule of the ring
draft_step : (sizes : Sizes) (slots id word index new : ℕ) (h : PassView) → word ≡ own_cell h + index
    → ((words : List ℕ) (views : List SeatView) → RingRule sizes words views → get_elem? views id ≡ some (Single h)
    → RingRule sizes (set words (own_cell h + index) new) (set views id (Single (stored h index new))))
    → Allows (Rules sizes) slots id (seated h) word (λ n. new) (λ n. Tells (Drafts word new h) new)
draft_step sizes slots id word index new h is each state r homes here small =
    let back : word - own_cell h ≡ index = omega arith in (
      Single (stored h (word - own_cell h) new),
      keeps,
      tt,
      subst (λ i. RingRule sizes (set state.words word new) (set state.views id (Single (stored h i new)))) (sym back)
          (subst (λ w. RingRule sizes (set state.words w new) (set state.views id (Single (stored h index new))))
          (sym is)
          (each state.words state.views r here)),
      (stored h (word - own_cell h) new, refl, refl),
    )

-- a store of the name into the pass's own cell keeps the rule
pub name_step : (sizes : Sizes) (slots id word new : ℕ) (h : PassView) → word ≡ own_cell h + 0 → new ≡ own_name h
    → Allows (Rules sizes) slots id (seated h) word (λ n. new) (λ n. Tells (Drafts word new h) new)
name_step sizes slots id word new h at is =
    draft_step sizes slots id word 0 new h at
    (λ words views r here.
    subst (λ n. RingRule sizes (set words (own_cell h + 0) n) (set views id (Single (stored h 0 n)))) (sym is)
    (first_keeps r id h here).0)

-- a store of a draft's next word after the name, or of one again, into the pass's own cell keeps the rule
pub word_step : (sizes : Sizes) (slots id word index new : ℕ) (h : PassView) → word ≡ own_cell h + index
    → h.turn ≡ Without → 0 < index
    → index ≤ length h.draft → index < 23
    → Allows (Rules sizes) slots id (seated h) word (λ n. new) (λ n. Tells (Drafts word new h) new)
word_step sizes slots id word index new h at without behind along below =
    draft_step sizes slots id word index new h at
    (λ words views r here. (next_keeps r id h index new here without behind along below).0)

-- the load of a word of the own cell after the name keeps the rule: what it finds is then a word of the draft
pub find_step : (sizes : Sizes) (slots id word index : ℕ) (h : PassView) → word ≡ own_cell h + index → h.turn ≡ Without
    → 0 < index
    → index ≤ length h.draft → index < 23
    → Allows (Rules sizes) slots id (seated h) word (λ n. n) (Tells (Finds word h))
find_step sizes slots id word index h at without behind along below =
    let back : word - own_cell h ≡ index = omega arith in
    let far : word ≢ 0 = λ e. omega arith in
    load_step sizes slots id word h (Finds word h)
    (λ words views r here.
    let n = get_or words word 0 in (
      stored h (word - own_cell h) n,
      subst (λ ws. RingRule sizes ws (set views id (Single (stored h (word - own_cell h) n)))) (set-get_or words word 0)
          (subst (λ i. RingRule sizes (set words word n) (set views id (Single (stored h i n)))) (sym back)
          (subst (λ w. RingRule sizes (set words w n) (set views id (Single (stored h index n)))) (sym at)
          (next_keeps r id h index n here without behind along below).0)),
      (far, refl),
    ))

-- the exchange that makes the own entry the newest, or fails since another was faster, keeps the rule
pub exchange_step : (sizes : Sizes) (slots id old own : ℕ) (h : PassView) (entry : Entry)
    → old ≡ newest_of h.sessions h.known.seen → own ≡ own_name h
    → IsEntry entry → entry.session ≡ h.known.number → h.turn ≡ Without → h.draft ≡ own ∷ old ∷ words_of entry
    → length h.known.seen < h.capacity
    → Allows (Rules sizes) slots id (seated h) 0 (λ n. either (eqb n old) own n)
    (Tells (Exchanges 0 old own (some entry) h))
exchange_step sizes slots id old own h entry last name is mine without whole room state r homes here small =
    let n = get_or state.words 0 0 in
    let k = (known r id h here).fact_is in
    let capacity = k.capacity in
    dite (ℕ_discrete n old)
    (λ e.
    let all = all_seen r h k (sym last ∙ sym e) in
    let lengths : length h.known.seen ≡ length r.log = ap length all in
    let own_is : name_at sizes.sessions (length r.log) h.known.number ≡ own =
    (λ i. name_at (sym k.sessions i) (sym lengths i) h.known.number) ∙ sym name in
    let link : old ≡ newest_of sizes.sessions r.log = sym e ∙ r.spelled.newest in (
      Single (won h entry),
      keeps,
      tt,
      exchanged n old own (λ w. RingRule sizes (set state.words 0 w) (set state.views id (Single (won h entry))))
          (λ f. subst (λ w. RingRule sizes (set state.words 0 w) (set state.views id (Single (won h entry)))) own_is
          (win_keeps r id h entry here all without is mine (whole ∙ (λ i. name i ∷ link i ∷ words_of entry))
          (omega arith)).0)
          (λ ne. absurd (ne e)),
      (won h entry, refl, (refl, last, name, (λ f. refl), (λ ne. absurd (ne e)))),
    ))
    (λ ne. (
      Single (lost h r.log),
      keeps,
      tt,
      exchanged n old own (λ w. RingRule sizes (set state.words 0 w) (set state.views id (Single (lost h r.log))))
          (λ f. absurd (ne f))
          (λ f. loaded sizes state.words 0 (set state.views id (Single (lost h r.log)))
          (seen_keeps r id h (lost h r.log) here refl refl refl refl refl refl refl)),
      (
        lost h r.log,
        refl,
        (
          refl,
          last,
          name,
          (λ f. absurd (ne f)),
          (λ f. (
            r.log,
            refl,
            newest_by r h k.sessions,
            history r h k,
            more_there r h k (λ same. ne (sym same ∙ sym last)),
          )),
        ),
      ),
    ))
