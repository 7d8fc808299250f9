-- The steps of a chain that change a word keep the rule.
-- Here `h` is a pass's view: what a seat of the log knows of that pass.
use Rattle.std.proofs.Common.{◌≡◌, ◌≢◌, ℕ, ◌+◌, ◌-◌, ◌<◌, ◌≤◌, List, [], ◌∷◌, ◌++◌, length, take, set, get_or, refl, ap}
use Rattle.std.proofs.Common.{sym, ◌∙◌, subst, ⊎_elim, Some, arith, eqb, length-append}
use Rattle.std.{proofs.lemmas.Option.slice_get_within, specs.Prelude.slice_get}
use Rattle.std.proofs.lemmas.List.{length-set, get_or-set_same, get_or-set_other, length-take-le, set-get_or}
use mathlib.Core.{Option.some, Logic.dite}
use Rattle.atomic_table.{specs.Table.{keeps, Allows}, proofs.Lists.exchanged}
use Rattle.xa_words.{specs.{Entry.{Entry, IsEntry}, Words.words_of}, proofs.Spelling.length-words_of}
use Rattle.decision_log.specs.declared.view.{PassView.PassView, SeatView.{SeatView, TheVariants.Single}}
use Rattle.decision_log.specs.{declared.sizes.Sizes.Sizes, Seats.seated, Draft.{HasWordsAt, drafted}}
use Rattle.decision_log.{specs.Atomic.{Atomic, Tells, Does, Counts}, proofs.Drafts.{holds_beside, holds_one_more}}
use Rattle.decision_log.proofs.Histories.{begins_append, begins_same, get_last, later_other, length_begins}
use Rattle.decision_log.proofs.LogRules.{RuleOf, known, ranged, history, stepped, unmoved, appended, loaded, load_step}
use Rattle.decision_log.proofs.LogRules.{store_step, looked_log}
use Rattle.chain_log.specs.Cells.{name_at, cell_at, name_before, newest_of}
use Rattle.chain_log.specs.ChainRule.{own_cell, try_word, newest_for, HasCells, HasDraft, Knows, ChainRule}
use Rattle.chain_log.{specs.ChainTransitions.{won, lost, Finds, Drafts, Exchanges}, proofs.Chains.{chain_of, one_chain}}
use Rattle.chain_log.proofs.ChainSteps.{Rules, blank, newest_by, seen_keeps}
use Rattle.chain_log.proofs.Names.{name_begins, name_low, newest_added, one_cell, one_length, within_words, words_apart}
use native.Mathlib.Decide.{ℕ_discrete, dec_le}
use lib.ListN.{get_elem?}
use prog.Atomic.{either}

-- if the rule holds of the same words twice, with any seats, its history is the same both times
pub one_log : (sizes : Sizes) (words : List ℕ) (one other : List SeatView) (p : ChainRule sizes words one)
    (q : ChainRule sizes words other) → p.log ≡ q.log
one_log sizes words one other p q =
    one_chain words p.log q.log (chain_of sizes words one p) (chain_of sizes words other q)

module _ {sizes : Sizes} {words : List ℕ} {views : List SeatView} (r : ChainRule sizes words views) where
  -- the number of a pass is one of the log's sessions
  numbered : (id : ℕ) (h : PassView) → get_elem? views id ≡ some (Single h)
      → (1 ≤ h.known.number) × (h.known.number ≤ sizes.sessions)
  numbered id h here =
      let p = known r id h here in
      (omega (arith, p.low), omega (arith, p.high, r.within))

  -- a pass's own cell is the same by its own number of sessions and by the log's
  own_by : (h : PassView) → h.sessions ≡ sizes.sessions → own_cell h
      ≡ cell_at (name_at sizes.sessions (length h.known.seen) h.known.number)
  own_by h sessions = ap (λ s. cell_at (name_at s (length h.known.seen) h.known.number)) sessions

  -- a word of a pass's own cell isn't one of the history's cells
  not_of_history : (id : ℕ) (h : PassView) (index row i : ℕ) (entry : Entry) → get_elem? views id ≡ some (Single h)
      → index < 22 → i < 22
      → slice_get r.log row ≡ Some entry
      → cell_at (name_at sizes.sessions row entry.session) + i ≢ own_cell h + index
  not_of_history id h index row i entry here below below' is same =
      let k = (known r id h here).fact_is in
      let n = numbered id h here in
      let e = ranged r row entry is in
      words_apart (name_at sizes.sessions row entry.session)
      (name_at sizes.sessions (length h.known.seen) h.known.number) i index
      (name_low sizes.sessions row entry.session e.0) (name_low sizes.sessions (length h.known.seen) h.known.number n.0)
      (λ one.
      let c = one_cell sizes.sessions row (length h.known.seen) entry.session h.known.number e.0 e.1 n.0 n.1 one in
      later_other h.known.number h.known.seen r.log h.known.mine row entry k.seen k.mine k.part
      (omega (arith, c.0)) is c.1)
      below' below (same ∙ ap (λ a. a + index) (own_by h k.sessions))

  -- a word of a pass's own cell isn't a word of the draft of a pass of another number
  not_of_other : (id : ℕ) (h g : PassView) (index i : ℕ) → get_elem? views id ≡ some (Single h) → index < 22
      → g.known.number ≢ h.known.number
      → 0 < g.known.number
      → Knows sizes words r.log g → i < length g.draft
      → own_cell g + i ≢ own_cell h + index
  not_of_other id h g index i here below apart low k less same =
      let p = (known r id h here).fact_is in
      let n = numbered id h here in
      let high : g.known.number ≤ sizes.sessions = omega (arith, k.own.column (omega (arith, less)), k.sessions) in
      words_apart (name_at sizes.sessions (length g.known.seen) g.known.number)
      (name_at sizes.sessions (length h.known.seen) h.known.number) i index
      (name_low sizes.sessions (length g.known.seen) g.known.number (omega (arith, low)))
      (name_low sizes.sessions (length h.known.seen) h.known.number n.0)
      (λ one. apart (one_cell sizes.sessions (length g.known.seen) (length h.known.seen) g.known.number h.known.number
      (omega (arith, low)) high n.0 n.1 one).1)
      (omega (arith, less, k.own.short)) below (sym (ap (λ a. a + i) (own_by g k.sessions)) ∙ same
      ∙ ap (λ a. a + index) (own_by h p.sessions))

  -- the words of a pass's own cell are words of the log, if the pass hasn't seen as much as the log can have
  own_within : (id : ℕ) (h : PassView) (index : ℕ) → get_elem? views id ≡ some (Single h) → index < 22
      → length h.known.seen < h.capacity
      → own_cell h + index < length words
  own_within id h index here below room =
      let k = (known r id h here).fact_is in
      let n = numbered id h here in
      let w = within_words sizes.sessions sizes.capacity (length h.known.seen) h.known.number index
      (omega (arith, room, k.capacity)) n.0 n.1 below in
      subst (λ a. a + index < length words) (sym (own_by h k.sessions))
      (subst (λ n. cell_at (name_at sizes.sessions (length h.known.seen) h.known.number) + index < n)
      (sym r.spelled.wide) w)

  -- the rule is kept, with the same history, if a pass stores the next word of its draft, or one again, into its own
  -- cell
  pub draft_keeps : (id : ℕ) (h : PassView) (index new : ℕ) → get_elem? views id ≡ some (Single h)
      → index ≤ length h.draft → index < 22
      → length h.known.seen < h.capacity
      → RuleOf HasCells HasDraft sizes (set words (own_cell h + index) new)
      (set views id (Single (drafted h index new))) r.log
  draft_keeps id h index new here along below room =
      let k = (known r id h here).fact_is in
      let n = numbered id h here in
      let word = own_cell h + index in
      stepped r (set words word new) id h (drafted h index new) here
      (record {
        wide = length-set words word new ∙ r.spelled.wide;
        newest = get_or-set_other words word 0 new 0 (λ e. omega arith) ∙ r.spelled.newest;
        cells =
            λ row entry is.
            let len = length-words_of entry in
            holds_beside words word new (cell_at (name_at sizes.sessions row entry.session))
            (name_before sizes.sessions r.log row ∷ words_of entry)
            (λ i less. not_of_history id h index row i entry here below (omega (arith, less, len)) is)
            (r.spelled.cells row entry is);
      })
      refl refl refl refl k.seen k.part
      (record {
        short = omega (arith, length-append (take index h.draft) (new ∷ []), length-take-le index h.draft along);
        column = λ some. omega (arith, n.1, k.sessions);
        draft = holds_one_more words (own_cell h) index new h.draft along
            (own_within id h index here below room) k.own.draft;
      })
      (λ g apart low other. record {
        short = other.own.short;
        column = other.own.column;
        draft = holds_beside words word new (own_cell g) g.draft
            (λ i less. not_of_other id h g index i here below apart low other less) other.own.draft;
      })

  -- the rule is kept, with the entry appended, if a pass that has seen the whole history, and has the link and an
  -- entry of its number as its draft, stores its own cell's name into word 0, and there was room
  pub win_keeps : (id : ℕ) (h : PassView) (entry : Entry) → get_elem? views id ≡ some (Single h) → h.known.seen ≡ r.log
      → IsEntry entry
      → entry.session ≡ h.known.number → h.draft ≡ newest_of sizes.sessions r.log ∷ words_of entry
      → length r.log < sizes.capacity
      → RuleOf HasCells HasDraft sizes (set words 0 (name_at sizes.sessions (length r.log) h.known.number))
      (set views id (Single (won h entry)))
      (r.log ++ entry ∷ [])
  win_keeps id h entry here all is own whole room =
      let k = (known r id h here).fact_is in
      let new = name_at sizes.sessions (length r.log) h.known.number in
      let words' = set words 0 new in
      let log' = r.log ++ entry ∷ [] in
      let own_is : own_cell h ≡ cell_at (name_at sizes.sessions (length r.log) entry.session) =
      own_by h k.sessions ∙ ap (λ list. cell_at (name_at sizes.sessions (length list) h.known.number)) all
      ∙ ap (λ n. cell_at (name_at sizes.sessions (length r.log) n)) (sym own) in
      let cell : HasWordsAt words (cell_at (name_at sizes.sessions (length r.log) entry.session))
      (newest_of sizes.sessions r.log ∷ words_of entry) =
      subst (λ at. HasWordsAt words at (newest_of sizes.sessions r.log ∷ words_of entry)) own_is
      (subst (λ draft. HasWordsAt words (own_cell h) draft) whole k.own.draft) in
      let link : (row : ℕ) → row ≤ length r.log → name_before sizes.sessions r.log row
      ≡ name_before sizes.sessions log' row =
      λ row low. name_begins sizes.sessions r.log log' row (begins_append r.log (entry ∷ [])) low in
      appended r words' id h (won h entry) entry here all is own room
      (record {
        wide = length-set words 0 new ∙ r.spelled.wide;
        newest =
            get_or-set_same words 0 new 0 (omega (arith, r.spelled.wide))
            ∙ ap (name_at sizes.sessions (length r.log)) (sym own)
            ∙ sym (newest_added sizes.sessions r.log entry);
        cells =
            λ row other at.
            holds_beside words 0 new (cell_at (name_at sizes.sessions row other.session))
            (name_before sizes.sessions log' row ∷ words_of other)
            (λ i less e. omega arith)
            (⊎_elim
            (λ t. subst (λ name. HasWordsAt words (cell_at (name_at sizes.sessions row other.session))
            (name ∷ words_of other))
            (link row (omega (arith, slice_get_within r.log row other t))) (r.spelled.cells row other t))
            (λ t. subst (λ x. HasWordsAt words (cell_at (name_at sizes.sessions row x.session))
            (name_before sizes.sessions log' row ∷ words_of x)) t.1
            (subst (λ n. HasWordsAt words (cell_at (name_at sizes.sessions n entry.session))
            (name_before sizes.sessions log' n ∷ words_of entry)) (sym t.0)
            (subst (λ name. HasWordsAt words (cell_at (name_at sizes.sessions (length r.log) entry.session))
            (name ∷ words_of entry))
            (link (length r.log) (omega arith)) cell)))
            (get_last r.log entry row other at));
      })
      refl refl refl refl refl (blank words' log' (won h entry) refl)
      (λ g apart low other. record {
        short = other.own.short;
        column = other.own.column;
        draft = holds_beside words 0 new (own_cell g) g.draft (λ i less e. omega arith) other.own.draft;
      })

  -- a pass whose last cell seen is named in word 0 has seen the whole history
  pub all_seen : (h : PassView) → Knows sizes words r.log h → newest_of h.sessions h.known.seen ≡ get_or words 0 0
      → h.known.seen ≡ r.log
  all_seen h k same =
      let low = length_begins h.known.seen r.log k.seen in
      let mine : newest_of h.sessions h.known.seen ≡ name_before sizes.sessions r.log (length h.known.seen) =
      ap (λ s. newest_of s h.known.seen) k.sessions ∙ name_begins sizes.sessions h.known.seen r.log
      (length h.known.seen) k.seen (omega arith) in
      let lengths =
      one_length sizes.sessions r.log (length h.known.seen) (length r.log) (ranged r) low (omega arith)
      (sym mine ∙ same ∙ r.spelled.newest) in
      begins_same h.known.seen r.log k.seen (omega (arith, lengths))

  -- if the rule holds before and after a pass stores a word of its draft into its own cell, the history stays
  pub stored_log : (views' : List SeatView) (id : ℕ) (h : PassView) (index new : ℕ)
      → get_elem? views id ≡ some (Single h) → index ≤ length h.draft → index < 22
      → length h.known.seen < h.capacity
      → (after : ChainRule sizes (set words (own_cell h + index) new) views') → after.log ≡ r.log
  stored_log views' id h index new here along below room after =
      let t = draft_keeps id h index new here along below room in
      one_log sizes (set words (own_cell h + index) new) views' (set views id (Single (drafted h index new))) after t.0
      ∙ t.1

  -- if the rule holds before and after a pass, whose last cell seen is the newest and whose draft is its entry's cell,
  -- stores its own cell's name into word 0, the history has that entry more
  pub won_log : (views' : List SeatView) (id : ℕ) (h : PassView) (entry : Entry) → get_elem? views id ≡ some (Single h)
      → get_or words 0 0 ≡ newest_of h.sessions h.known.seen → IsEntry entry → entry.session ≡ h.known.number
      → h.draft ≡ newest_of h.sessions h.known.seen ∷ words_of entry → length h.known.seen < h.capacity
      → (after : ChainRule sizes (set words 0 (name_at h.sessions (length h.known.seen) h.known.number)) views')
      → after.log ≡ r.log ++ entry ∷ []
  won_log views' id h entry here newest is own whole room after =
      let k = (known r id h here).fact_is in
      let all = all_seen h k (sym newest) in
      let last : newest_of h.sessions h.known.seen ≡ newest_of sizes.sessions r.log =
      ap (λ s. newest_of s h.known.seen) k.sessions ∙ ap (newest_of sizes.sessions) all in
      let name : name_at h.sessions (length h.known.seen) h.known.number
      ≡ name_at sizes.sessions (length r.log) h.known.number =
      ap (λ s. name_at s (length h.known.seen) h.known.number) k.sessions
      ∙ ap (λ list. name_at sizes.sessions (length list) h.known.number) all in
      let t = win_keeps id h entry here all is own (whole ∙ ap (λ n. n ∷ words_of entry) last)
      (omega (arith, ap length all, room, k.capacity)) in
      subst (λ n. (after : ChainRule sizes (set words 0 n) views') → after.log ≡ r.log ++ entry ∷ []) (sym name)
      (λ after. one_log sizes (set words 0 (name_at sizes.sessions (length r.log) h.known.number)) views'
      (set views id (Single (won h entry))) after t.0 ∙ t.1)
      after

  -- if word 0 has another name than the last that a pass has seen, the history is longer than what it has seen
  more_there : (h : PassView) → Knows sizes words r.log h → newest_of h.sessions h.known.seen ≢ get_or words 0 0
      → length h.known.seen < length r.log
  more_there h k other =
      let low = length_begins h.known.seen r.log k.seen in
      dite (dec_le (length r.log) (length h.known.seen))
      (λ short. absurd (other (ap (newest_of h.sessions) (begins_same h.known.seen r.log k.seen short)
      ∙ sym (newest_by r h k.sessions))))
      (λ longer. omega arith)

-- a store of a draft's next word, or of one again, into the pass's own cell keeps the rule, as `Drafts` says
pub draft_step : (sizes : Sizes) (slots id word index new : ℕ) (h : PassView) → word ≡ own_cell h + index
    → index ≤ length h.draft → index < 22
    → length h.known.seen < h.capacity
    → Allows (Rules sizes) slots id (seated h) word (λ n. new) (λ n. Tells (Drafts word new h) new)
draft_step sizes slots id word index new h at along below room =
    store_step sizes slots id (own_cell h) word index new h at
    (λ words views r here. (draft_keeps r id h index new here along below room).0)

-- the load of a word of the own cell keeps the rule: a 0 is then a word of the draft; any other word leaves the draft
pub find_step : (sizes : Sizes) (slots id word index : ℕ) (h : PassView) → word ≡ own_cell h + index
    → index ≤ length h.draft → index < 22
    → length h.known.seen < h.capacity
    → Allows (Rules sizes) slots id (seated h) word (λ n. n) (Tells (Finds word h))
find_step sizes slots id word index h at along below room =
    let back : word - own_cell h ≡ index = omega arith in
    let behind : word ≢ 0 = λ e. omega arith in
    load_step sizes slots id word h (Finds word h)
    (λ words views r here.
    let n = get_or words word 0 in
    dite (ℕ_discrete n 0)
    (λ blank. (
      drafted h (word - own_cell h) 0,
      subst (λ ws. ChainRule sizes ws (set views id (Single (drafted h (word - own_cell h) 0))))
          (set-get_or words word 0)
          (subst (λ new. ChainRule sizes (set words word n) (set views id (Single (drafted h (word - own_cell h) new))))
          blank
          (subst (λ i. ChainRule sizes (set words word n) (set views id (Single (drafted h i n)))) (sym back)
          (subst (λ w. ChainRule sizes (set words w n) (set views id (Single (drafted h index n)))) (sym at)
          (draft_keeps r id h index n here along below room).0))),
      (behind, (λ _. refl), (λ other. absurd (other blank))),
    ))
    (λ other. (h, unmoved r id h here, (behind, (λ blank. absurd (other blank)), (λ _. refl)))))

-- the exchange that makes the own cell the newest, or fails since another was faster, keeps the rule, as `Exchanges`
-- says
pub exchange_step : (sizes : Sizes) (slots id old own : ℕ) (h : PassView) (entry : Entry)
    → old ≡ newest_of h.sessions h.known.seen
    → own ≡ name_at h.sessions (length h.known.seen) h.known.number
    → IsEntry entry → entry.session ≡ h.known.number → h.draft ≡ old ∷ words_of entry → length h.known.seen < h.capacity
    → Allows (Rules sizes) slots id (seated h) 0 (λ n. either (eqb n old) own n)
    (Tells (Exchanges 0 old own (some entry) h))
exchange_step sizes slots id old own h entry last name is mine whole room state r homes here small =
    let n = get_or state.words 0 0 in
    let k = (known r id h here).fact_is in
    let capacity = k.capacity in
    dite (ℕ_discrete n old)
    (λ e.
    let all = all_seen r h k (sym last ∙ sym e) in
    let lengths : length h.known.seen ≡ length r.log = ap length all in
    let own_is : name_at sizes.sessions (length r.log) h.known.number ≡ own =
    sym (name ∙ ap (λ s. name_at s (length h.known.seen) h.known.number) k.sessions
    ∙ ap (λ n. name_at sizes.sessions n h.known.number) lengths) in
    let link : old ≡ newest_of sizes.sessions r.log = sym e ∙ r.spelled.newest in (
      Single (won h entry),
      keeps,
      tt,
      exchanged n old own (λ w. ChainRule sizes (set state.words 0 w) (set state.views id (Single (won h entry))))
          (λ f. subst (λ w. ChainRule sizes (set state.words 0 w) (set state.views id (Single (won h entry)))) own_is
          (win_keeps r id h entry here all is mine (whole ∙ ap (λ name. name ∷ words_of entry) link) (omega arith)).0)
          (λ ne. absurd (ne e)),
      (won h entry, refl, (refl, last, name, (λ f. refl), (λ ne. absurd (ne e)))),
    ))
    (λ ne. (
      Single (lost h r.log),
      keeps,
      tt,
      exchanged n old own (λ w. ChainRule sizes (set state.words 0 w) (set state.views id (Single (lost h r.log))))
          (λ f. absurd (ne f))
          (λ f. loaded sizes state.words 0 (set state.views id (Single (lost h r.log)))
          (seen_keeps r id h (lost h r.log) here refl refl refl refl refl refl)),
      (
        lost h r.log,
        refl,
        (
          refl,
          last,
          name,
          (λ f. absurd (ne f)),
          (λ f. (
            r.log,
            refl,
            newest_by r h k.sessions,
            history r h k,
            more_there r h k (λ same. ne (sym same ∙ sym last)),
          )),
        ),
      ),
    ))

-- a step by which looks rise sees the whole history, and adds nothing
pub look_sees : (sizes : Sizes) (words words' : List ℕ) (views views' : List SeatView) (r : ChainRule sizes words views)
    (after : ChainRule sizes words' views')
    (step : Atomic) (found id : ℕ) (old new : PassView) → Does step words found words'
    → Counts newest_for try_word step found old new → new.known.looks ≢ old.known.looks
    → get_elem? views' id ≡ some (Single new)
    → (new.known.seen ≡ after.log) × (after.log ≡ r.log)
look_sees sizes = looked_log newest_for try_word (one_log sizes) (λ words views r h k same. all_seen r h k (sym same))
