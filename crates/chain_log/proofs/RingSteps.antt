-- The loads of a ring keep the rule, and tell what their transitions say.
-- Here `h` is a pass's view: what a seat of the log knows of that pass.
use Rattle.std.proofs.Common.{◌≡◌, ◌≢◌, ℕ, ◌+◌, ◌-◌, ◌<◌, ◌≤◌, List, [], ◌∷◌, length, set, get_or, refl, ap, sym, ◌∙◌}
use Rattle.std.{proofs.{Common.{subst, Some, arith}, lemmas.Option.slice_get_within}, specs.Prelude.slice_get}
use mathlib.Core.{Option.some, Logic.dite}
use Rattle.atomic_table.specs.Table.{State, Allows}
use Rattle.xa_words.{specs.{Entry.Entry, Words.words_of}, proofs.Spelling.length-words_of}
use Rattle.decision_log.specs.declared.view.{PassView.PassView, SeatView.{SeatView, TheVariants.Single}, Turn.Turn}
use Rattle.decision_log.specs.declared.{view.Turn.TheVariants.{Without, Won, Fresh}, sizes.Sizes.Sizes}
use Rattle.decision_log.specs.{History.{Begins, entries_of}, Seats.seated, Atomic.Tells}
use Rattle.decision_log.proofs.{Histories.{begins_itself, get_begins, length_begins}, Drafts.holds_nothing}
use Rattle.decision_log.proofs.LogRules.{known, history, stepped, unmoved, load_step}
use Rattle.chain_log.specs.{Cells.{name_at, name_before, newest_of}, Places.{rows_of, cell_of, cell_words}}
use Rattle.chain_log.specs.RingRule.{own_cell, watched_word, watched_name, beyond_in, least, IsDraft, IsBroken, Notes}
use Rattle.chain_log.specs.RingRule.{HasNotes, Knows, RingRule}
use Rattle.chain_log.{specs.RingTransitions.{with_look, noted, Sees, Checks, Reads}, proofs.Names.name_begins}
use native.Mathlib.Decide.{dec_le, ℕ_discrete}
use lib.ListN.{get_elem?}

-- what holds of the words of a ring and of all passes' views, between any two steps
abbrev pub Rules : Sizes → State Entry SeatView → Type 0
Rules sizes state = RingRule sizes state.words state.views

-- a pass that reads no cell (`Without`) isn't one that reads its entry's cell (`Won`)
pub without_won : Without ≡ Won → ⊥
without_won is = cc

-- a pass that reads no cell (`Without`) isn't one that reads a cell which is another entry's now (`Fresh`)
pub without_fresh : Without ≡ Fresh → ⊥
without_fresh is = cc

-- a pass that reads a cell which is another entry's now (`Fresh`) isn't one that reads its entry's cell (`Won`)
pub fresh_won : Fresh ≡ Won → ⊥
fresh_won is = cc

-- what a pass knows of words that it stored is true if it stored none
pub blank : (words : List ℕ) (h : PassView) → h.draft ≡ [] → IsDraft words h
blank words h empty = record {
  short = omega (arith, ap length empty);
  column = λ some. absurd (omega (arith, ap length empty));
  named = λ some. absurd (omega (arith, ap length empty));
  draft = holds_nothing words (own_cell h) h.draft empty;
}

-- of a pass that stored no word and reads no cell, what it notes is true of any words and history
pub idle : (words : List ℕ) (log : List Entry) (h : PassView) → h.draft ≡ [] → h.turn ≡ Without → HasNotes words log h
idle words log h empty without =
    record { notes = subst (λ turn. Notes words log h turn) (sym without) (blank words h empty) }

-- if what a pass notes is true, the history is at least as long as what it has seen and what it noted beyond that
least_by : (words : List ℕ) (log : List Entry) (h : PassView) (turn : Turn) → length h.known.seen ≤ length log
    → Notes words log h turn
    → length h.known.seen + beyond_in h turn ≤ length log
least_by words log h Without low notes = omega arith
least_by words log h Won low notes = notes
least_by words log h Fresh low notes = notes.0

module _ {sizes : Sizes} {words : List ℕ} {views : List SeatView} (r : RingRule sizes words views) where
  -- the history is at least as long as each pass at a seat knows (`least`)
  pub least_low : (id : ℕ) (h : PassView) → get_elem? views id ≡ some (Single h) → least h ≤ length r.log
  least_low id h here =
      let k = (known r id h here).fact_is in
      least_by words r.log h h.turn (length_begins h.known.seen r.log k.seen) k.own.notes

  -- word 0 is the newest entry's name, by the pass's own number of columns, too
  pub newest_by : (h : PassView) → h.sessions ≡ sizes.sessions → get_or words 0 0 ≡ newest_of h.sessions r.log
  newest_by h sessions = r.spelled.newest ∙ ap (λ s. newest_of s r.log) (sym sessions)

  -- a cell is the same by the pass's own sizes and by the ring's
  pub cell_by : (h : PassView) (place session : ℕ) → Knows sizes words r.log h
      → cell_of h.capacity place session ≡ cell_of sizes.capacity place session
  cell_by h place session k = λ i. cell_of (k.capacity i) place session

  -- a name is the same by the pass's own number of columns and by the ring's
  pub name_by : (h : PassView) (place session : ℕ) → Knows sizes words r.log h
      → name_at h.sessions place session ≡ name_at sizes.sessions place session
  name_by h place session k = λ i. name_at (k.sessions i) place session

  -- what the words of a seen entry's cell are to be is the same by the history and by what the pass has seen of it
  pub words_by : (h : PassView) (place : ℕ) (entry : Entry) → Knows sizes words r.log h
      → slice_get h.known.seen place ≡ Some entry
      → cell_words sizes.sessions r.log place entry ≡ cell_words h.sessions h.known.seen place entry
  words_by h place entry k is =
      let low = slice_get_within h.known.seen place entry is in
      let link : name_before sizes.sessions r.log place ≡ name_before h.sessions h.known.seen place =
      sym (name_begins sizes.sessions h.known.seen r.log place k.seen (omega arith))
      ∙ ap (λ s. name_before s h.known.seen place) (sym k.sessions) in
      λ i. sym (name_by h place entry.session k) i ∷ link i ∷ words_of entry

  -- the rule is kept if no word changes, and a pass has then seen the whole history, has no draft and reads no cell
  pub seen_keeps : (id : ℕ) (h k : PassView) → get_elem? views id ≡ some (Single h) → k.sessions ≡ h.sessions
      → k.capacity ≡ h.capacity
      → k.known.number ≡ h.known.number → k.known.mine ≡ h.known.mine → k.draft ≡ [] → k.turn ≡ Without
      → k.known.seen ≡ r.log
      → RingRule sizes words (set views id (Single k))
  seen_keeps id h k here sessions capacity number mine draft turn all =
      (stepped r words id h k here r.spelled sessions capacity number mine
      (subst (λ list. Begins list r.log) (sym all) (begins_itself r.log))
      (ap (entries_of h.known.number) all ∙ (known r id h here).fact_is.mine) (idle words r.log k draft turn)
      (λ g apart low other. other.own)).0

  -- the rule is kept if no word changes, and a pass notes a cell's word, a name and a number, and this is true
  pub note_keeps : (id : ℕ) (h : PassView) (word name more : ℕ) (turn : Turn) → get_elem? views id ≡ some (Single h)
      → Notes words r.log (noted h word name more turn) turn
      → RingRule sizes words (set views id (Single (noted h word name more turn)))
  note_keeps id h word name more turn here notes =
      let k = (known r id h here).fact_is in
      (stepped r words id h (noted h word name more turn) here r.spelled refl refl refl refl k.seen k.part
      (record { notes = notes })
      (λ g apart low other. other.own)).0

  -- what a pass has seen and what it hasn't are together no more than the history
  pub unseen : (h : PassView) → Knows sizes words r.log h
      → length h.known.seen + (length r.log - length h.known.seen) ≤ length r.log
  unseen h k =
      let low = length_begins h.known.seen r.log k.seen in
      omega arith

  -- if a seen entry's cell has another name, the history has at least as many entries from its place on as there are
  -- rows
  pub follows : (h : PassView) (place word : ℕ) (entry : Entry) → Knows sizes words r.log h
      → slice_get h.known.seen place ≡ Some entry
      → word ≡ cell_of h.capacity place entry.session → get_or words word 0 ≢ name_at h.sessions place entry.session
      → place + rows_of h.capacity ≤ length h.known.seen + (length r.log - length h.known.seen)
  follows h place word entry k is at other =
      let low = length_begins h.known.seen r.log k.seen in
      let rows : rows_of h.capacity ≡ rows_of sizes.capacity = ap rows_of k.capacity in
      dite (dec_le (place + rows_of h.capacity) (length r.log)) (λ le. omega arith)
      (λ young.
      absurd
      (other
      (ap (λ n. get_or words n 0) (at ∙ cell_by h place entry.session k)
      ∙ r.spelled.fresh place entry (get_begins h.known.seen r.log place entry k.seen is) (omega (arith, rows))
      ∙ sym (name_by h place entry.session k))))

  -- if a seen entry's cell has the entry's name, each of its words is the one that it is to be (`cell_words`)
  pub read_there : (h : PassView) (place index : ℕ) (entry : Entry) → Knows sizes words r.log h → index < 23
      → slice_get h.known.seen place ≡ Some entry
      → get_or words (cell_of h.capacity place entry.session) 0 ≡ name_at h.sessions place entry.session
      → get_or words (cell_of h.capacity place entry.session + index) 0
      ≡ get_or (cell_words h.sessions h.known.seen place entry) index 0
  read_there h place index entry k below is named =
      let there = get_begins h.known.seen r.log place entry k.seen is in
      let intact = ap (λ n. get_or words n 0) (sym (cell_by h place entry.session k)) ∙ named
      ∙ name_by h place entry.session k in
      ap (λ n. get_or words (n + index) 0) (cell_by h place entry.session k)
      ∙ r.spelled.cells place entry there intact index (omega (arith, length-words_of entry))
      ∙ ap (λ list. get_or list index 0) (words_by h place entry k is)

-- a look: the load of the newest entry's name (word 0) keeps the rule, and tells what `Sees` says
pub look_step : (sizes : Sizes) (slots id : ℕ) (h : PassView)
    → Allows (Rules sizes) slots id (seated h) 0 (λ n. n) (Tells (Sees 0 h))
look_step sizes slots id h =
    load_step sizes slots id 0 h (Sees 0 h)
    (λ words views r here.
    let k = (known r id h here).fact_is in (
      with_look h r.log,
      seen_keeps r id h (with_look h r.log) here refl refl refl refl refl refl refl,
      (refl, r.log, refl, newest_by r h k.sessions, history r h k, least_low r id h here),
    ))

-- a pass that takes the cell it reads for another entry's (`Fresh`) is right
broken : (words : List ℕ) (log : List Entry) (h : PassView) → HasNotes words log h → h.turn ≡ Fresh → IsBroken words h
broken words log h own fresh = let notes : Notes words log h Fresh =
    subst (λ turn. Notes words log h turn) fresh own.notes in notes.1

-- the load of a cell's name, which shows whether the cell was overwritten, keeps the rule, and tells what `Checks` says
pub check_step : (sizes : Sizes) (slots id word : ℕ) (h : PassView) → word ≢ 0
    → Allows (Rules sizes) slots id (seated h) word (λ n. n) (Tells (Checks word h))
check_step sizes slots id word h behind =
    load_step sizes slots id word h (Checks word h)
    (λ words views r here.
    let k = (known r id h here).fact_is in
    let found = get_or words word 0 in
    let more = length r.log - length h.known.seen in (
      noted h word found more Won,
      note_keeps r id h word found more Won here (unseen r h k),
      (
        behind,
        more,
        refl,
        (λ place entry is at other. follows r h place word entry k is at other),
        (λ place entry is at name same was fresh.
            broken words r.log h k.own fresh place entry is (same ∙ at) (was ∙ name)
            (ap (λ n. get_or words n 0) same ∙ sym was)),
      ),
    ))

-- the load of a cell's word keeps the rule, and tells what `Reads` says
pub read_step : (sizes : Sizes) (slots id word : ℕ) (h : PassView) → word ≢ 0
    → Allows (Rules sizes) slots id (seated h) word (λ n. n) (Tells (Reads word h))
read_step sizes slots id word h behind =
    load_step sizes slots id word h (Reads word h)
    (λ words views r here. by_turn words views r here h.turn refl)
  where
    -- a pass that reads no cell, or one that is another entry's now, stays as it is
    stays : (words : List ℕ) (views : List SeatView) (r : RingRule sizes words views)
        → get_elem? views id ≡ some (Single h) → (h.turn ≡ Won → ⊥)
        → (k : PassView) × RingRule sizes words (set views id (Single k)) × Reads word h (get_or words word 0) k
    stays words views r here never = (
      h,
      unmoved r id h here,
      (
        behind,
        record {
          known = refl;
          sessions = refl;
          capacity = refl;
          word = refl;
          name = refl;
          reads = λ reads.
              reads;
          whole = λ won. won;
        },
        (λ won. absurd (never won)),
      ),
    )

    -- by how the pass reads: it finds the name in the cell once more, or notes that the cell is another entry's now
    by_turn : (words : List ℕ) (views : List SeatView) (r : RingRule sizes words views)
        → get_elem? views id ≡ some (Single h) → (turn : Turn) → h.turn ≡ turn
        → (k : PassView) × RingRule sizes words (set views id (Single k)) × Reads word h (get_or words word 0) k
    by_turn words views r here Without is = stays words views r here (λ won. without_won (sym is ∙ won))
    by_turn words views r here Fresh is = stays words views r here (λ won. fresh_won (sym is ∙ won))
    by_turn words views r here Won is =
        let k = (known r id h here).fact_is in
        dite (ℕ_discrete (get_or words (watched_word h) 0) (watched_name h))
        (λ intact. (
          h,
          unmoved r id h here,
          (
            behind,
            record {
              known = refl;
              sessions = refl;
              capacity = refl;
              word = refl;
              name = refl;
              reads = λ reads.
                  reads;
              whole = λ won. won;
            },
            (λ won place index entry seen at name along below. (
              (r.entries place entry (get_begins h.known.seen r.log place entry k.seen seen)).0,
              ap (λ n. get_or words n 0) (along ∙ ap (λ n. n + index) at)
                  ∙ read_there r h place index entry k below seen (ap (λ n. get_or words n 0) (sym at) ∙ intact ∙ name),
            )),
          ),
        ))
        (λ other.
        let more = length r.log - length h.known.seen in (
          noted h (watched_word h) (watched_name h) more Fresh,
          note_keeps r id h (watched_word h) (watched_name h) more Fresh here
              (unseen r h k, (λ place entry seen at name. other)),
          (
            behind,
            record {
              known = refl;
              sessions = refl;
              capacity = refl;
              word = refl;
              name = refl;
              reads = λ reads fresh. without_fresh (sym fresh);
              whole = λ won. absurd (fresh_won won);
            },
            (λ won. absurd (fresh_won won)),
          ),
        ))
