-- What a reader learns of a cell by its name, before and after.
-- Here `h` is a pass's view: what a seat of the log knows of that pass.
use Rattle.std.proofs.Common.{◌≡◌, ◌≢◌, ℕ, suc, ◌+◌, ◌<◌, ◌≤◌, List, ◌∷◌, length, get_or, refl, ap, sym, ◌∙◌, subst}
use Rattle.std.{proofs.Common.{Some, arith}, specs.Prelude.slice_get}
use Rattle.xa_words.specs.Entry.{Entry, IsEntry}
use Rattle.decision_log.{specs.declared.view.{PassView.PassView, Turn.Turn}, proofs.Histories.there}
use Rattle.chain_log.specs.{Cells.{name_at, session_at, name_before}, Places.{rows_of, cell_of, cell_words}}
use Rattle.chain_log.specs.{RingRule.{watched_word, watched_name, least}, RingTransitions.{KeepsWatch, Checks, Reads}}
use Rattle.chain_log.{specs.RingSeat.{KeepsPass, ReadsCell}, proofs.{Names.session_there, RingSteps.without_won}}

-- what is looked for: an entry that was seen at this place, whose cell begins at `start` and whose name is `name`
pub record IsLookedFor (start name place : ℕ) (entry : Entry) (h : PassView) : Type 0 where
  pub seen : slice_get h.known.seen place ≡ Some entry
  pub cell : start ≡ cell_of h.capacity place entry.session
  pub name_is : name ≡ name_at h.sessions place entry.session

-- a place that was seen has one entry that is looked for, in the cell of that entry's session
pub looked_for : (start name place : ℕ) (h : PassView) → place < length h.known.seen
    → start ≡ cell_of h.capacity place (session_at h.known.seen place)
    → name ≡ name_at h.sessions place (session_at h.known.seen place)
    → (entry : Entry) × IsLookedFor start name place entry h
looked_for start name place h below cell named =
    let e = there h.known.seen place below in
    let session = session_there h.known.seen place e.0 e.1 in (
      e.0,
      record {
        seen = e.1;
        cell = cell ∙ ap (cell_of h.capacity place) session;
        name_is = named
            ∙ ap (name_at h.sessions place) session;
      },
    )

-- a pass that keeps what it knows still looks for the entry that it looked for
pub still_for : (start name place : ℕ) (entry : Entry) (h k : PassView) → KeepsPass h k
    → IsLookedFor start name place entry h
    → IsLookedFor start name place entry k
still_for start name place entry h k keeps is = record {
  seen = ap (λ known. slice_get known.seen place) keeps.known ∙ is.seen;
  cell = is.cell ∙ (λ i. cell_of (sym keeps.capacity i) place entry.session);
  name_is = is.name_is ∙ (λ i. name_at (sym keeps.sessions i) place entry.session);
}

-- a load of a name leaves what the pass knows of the history
pub check_keeps : (start found : ℕ) (h k : PassView) → Checks start h found k → KeepsPass h k
check_keeps start found h k checks =
    record {
      known = ap (λ v. v.known) checks.2;
      sessions = ap (λ v. v.sessions) checks.2;
      capacity = ap
          (λ v. v.capacity) checks.2;
    }

-- a pass that keeps what it watches keeps what it knows
pub watch_keeps : (h k : PassView) → KeepsWatch h k → KeepsPass h k
watch_keeps h k keeps = record { known = keeps.known; sessions = keeps.sessions; capacity = keeps.capacity }

-- what a pass knows through two steps it knows through both: `h`, `k`, `v` are its views before, between and after
pub keeps_through : (h k v : PassView) → KeepsPass h k → KeepsPass k v → KeepsPass h v
keeps_through h k v first second = record {
  known = second.known ∙ first.known;
  sessions = second.sessions ∙ first.sessions;
  capacity = second.capacity ∙ first.capacity;
}

-- a pass that takes no step keeps what it knows
pub keeps_itself : (h : PassView) → KeepsPass h h
keeps_itself h = record { known = refl; sessions = refl; capacity = refl }

-- what a pass watches through two steps it watches through both: `h`, `k`, `v` are its views before, between and
-- after
pub watch_through : (h k v : PassView) → KeepsWatch h k → KeepsWatch k v → KeepsWatch h v
watch_through h k v first second = record {
  known = second.known ∙ first.known;
  sessions = second.sessions ∙ first.sessions;
  capacity = second.capacity ∙ first.capacity;
  word = second.word ∙ first.word;
  name = second.name ∙ first.name;
  reads = λ reads. second.reads (first.reads reads);
  whole = λ whole. first.whole (second.whole whole);
}

-- a pass that takes no step keeps what it watches
pub watch_itself : (h : PassView) → KeepsWatch h h
watch_itself h =
    record {
      known = refl;
      sessions = refl;
      capacity = refl;
      word = refl;
      name = refl;
      reads = λ reads.
          reads;
      whole = λ whole. whole;
    }

-- if the cell has another name, the pass knows that the history has at least as many entries from the place on as there
-- are rows
pub missed : (start found name place : ℕ) (entry : Entry) (h k : PassView) → Checks start h found k
    → IsLookedFor start name place entry h → found ≢ name
    → place + rows_of h.capacity ≤ least k
missed start found name place entry h k checks is other =
    subst (λ v. place + rows_of h.capacity ≤ least v) (sym checks.2)
    (checks.3 place entry is.seen is.cell (λ same. other (same ∙ sym is.name_is)))

-- if the cell has the name that is looked for, the pass reads that cell from now on
pub watched : (start found name place : ℕ) (entry : Entry) (h k : PassView) → Checks start h found k
    → IsLookedFor start name place entry h → found ≡ name
    → ReadsCell start place entry k × (k.turn ≡ Turn.Won)
watched start found name place entry h k checks is same =
    let on = still_for start name place entry h k (check_keeps start found h k checks) is in (
      record {
        seen = on.seen;
        cell = on.cell;
        word = ap watched_word checks.2;
        name = ap watched_name checks.2 ∙ same ∙ on.name_is;
      },
      ap (λ v. v.turn) checks.2,
    )

-- if the pass has found the entry's name in its cell, goes on reading that cell, and then finds the name there once
-- more, it still took the cell for the entry's before that (`Won`), so what was read between was the entry's
pub whole : (start found name place : ℕ) (entry : Entry) (g h k : PassView) → ReadsCell start place entry g
    → g.turn ≡ Turn.Won → KeepsWatch g h
    → IsLookedFor start name place entry h → Checks start h found k → found ≡ name → h.turn ≡ Turn.Won
whole start found name place entry g h k reads won keeps is checks same =
    by_turn h.turn refl
  where
    never : h.turn ≢ Turn.Fresh
    never =
        checks.4 place entry is.seen is.cell (same ∙ is.name_is) (keeps.word ∙ reads.word)
        (keeps.name ∙ reads.name ∙ (λ i. name_at (sym keeps.sessions i) place entry.session) ∙ sym is.name_is
        ∙ sym same)

    by_turn : (turn : Turn) → h.turn ≡ turn → h.turn ≡ Turn.Won
    by_turn Turn.Won turn = turn
    by_turn Turn.Fresh turn = absurd (never turn)
    by_turn Turn.Without turn = absurd (keeps.reads (λ without. without_won (sym without ∙ won)) turn)

-- if the cell of an entry that the pass looked for at its view h has another name at a later load, the pass knows that
-- the history has at least as many entries from the place on as there are rows
pub missed_later : (start found name place : ℕ) (entry : Entry) (h g k : PassView) → KeepsPass h g
    → Checks start g found k
    → IsLookedFor start name place entry h → found ≢ name
    → place + rows_of h.capacity ≤ least k
missed_later start found name place entry h g k keeps checks is other =
    subst (λ c. place + rows_of c ≤ least k) keeps.capacity
    (missed start found name place entry g k checks (still_for start name place entry h g keeps is) other)

-- if the entry's name is found before and after words are read, the pass read the entry's cell, and took it for the
-- entry's (`Won`) up to the second load
pub won_between : (start first second name place : ℕ) (entry : Entry) (h g v k : PassView)
    → IsLookedFor start name place entry h → Checks start h first g
    → first ≡ name → KeepsWatch g v → Checks start v second k → second ≡ name
    → ReadsCell start place entry g × (v.turn ≡ Turn.Won)
won_between start first second name place entry h g v k is before same keeps after same' =
    let w = watched start first name place entry h g before is same in
    let on = still_for start name place entry h v (keeps_through h g v (check_keeps start first h g before)
    (watch_keeps g v keeps)) is in
    (w.0, whole start second name place entry g v k w.0 w.1 keeps on after same')

-- a word that was read in a watched cell is the entry's
pub word_there : (start place index word : ℕ) (entry : Entry) (h k : PassView) → ReadsCell start place entry h
    → Reads (start + index) h word k → k.turn ≡ Turn.Won
    → index < 23
    → IsEntry entry × (word ≡ get_or (cell_words h.sessions h.known.seen place entry) index 0)
word_there start place index word entry h k is reads won below =
    reads.2 won place index entry is.seen (is.word ∙ is.cell) is.name (ap (λ n. n + index) (sym is.word)) below

-- a link that was read between two loads of the cell's name, both of which found it, is that of the entry before
pub link_there : (start first second name place link : ℕ) (entry : Entry) (h g v k : PassView)
    → IsLookedFor start name place entry h → Checks start h first g
    → first ≡ name → Reads (start + 1) g link v → Checks start v second k → second ≡ name
    → link ≡ name_before h.sessions h.known.seen place
link_there start first second name place link entry h g v k is before same reads after same' =
    let b = won_between start first second name place entry h g v k is before same reads.1 after same' in
    let keeps = check_keeps start first h g before in
    (word_there start place 1 link entry g v b.0 reads b.1 (omega arith)).1
    ∙ (λ i. name_before (keeps.sessions i) (keeps.known i).seen place)

-- the word at 2 + index of a cell's words, which begin with the name and the link, is the entry's word at index
pub behind_link : (name link index : ℕ) (words : List ℕ)
    → get_or (name ∷ link ∷ words) (2 + index) 0 ≡ get_or words index 0
behind_link name link index words =
    let next : 2 + index ≡ suc (suc index) = omega arith in
    ap (λ n. get_or (name ∷ link ∷ words) n 0) next

-- a pass that goes on watching reads the same cell for the same place
pub watched_on : (start place : ℕ) (entry : Entry) (h k : PassView) → KeepsWatch h k → ReadsCell start place entry h
    → ReadsCell start place entry k
watched_on start place entry h k keeps is = record {
  seen = ap (λ known. slice_get known.seen place) keeps.known ∙ is.seen;
  cell = is.cell ∙ (λ i. cell_of (sym keeps.capacity i) place entry.session);
  word = keeps.word ∙ is.word;
  name = keeps.name ∙ is.name ∙ (λ i. name_at (sym keeps.sessions i) place entry.session);
}
