-- The loads of a chain keep the rule, and tell what their transitions say.
-- Here `h` is a pass's view: what a seat of the log knows of that pass.
use Rattle.std.proofs.Common.{◌≡◌, ◌≢◌, ℕ, ◌+◌, ◌<◌, List, [], ◌∷◌, length, set, get_or, refl, ap, sym, ◌∙◌, subst}
use Rattle.std.{proofs.{Common.{Some, arith}, lemmas.Option.slice_get_within}, specs.Prelude.slice_get}
use mathlib.Core.Option.{some}
use Rattle.atomic_table.specs.Table.{State, Allows}
use Rattle.xa_words.{specs.{Entry.Entry, Words.words_of}, proofs.Spelling.length-words_of}
use Rattle.decision_log.specs.declared.view.{PassView.PassView, SeatView.{SeatView, TheVariants.Single}}
use Rattle.decision_log.specs.{declared.sizes.Sizes.Sizes, History.{Begins, entries_of}, Seats.seated, Atomic.Tells}
use Rattle.decision_log.proofs.{Histories.{begins_itself, get_begins}, Drafts.holds_nothing}
use Rattle.decision_log.proofs.LogRules.{known, history, stepped, unmoved, load_step}
use Rattle.chain_log.{specs.Cells.{name_at, cell_at, name_before, newest_of}, proofs.Names.name_begins}
use Rattle.chain_log.specs.{ChainRule.{own_cell, HasDraft, Knows, ChainRule}, ChainTransitions.{with_look, Sees, Reads}}
use lib.ListN.{get_elem?}

-- what holds of the words of a chain and of all passes' views, between any two steps
abbrev pub Rules : Sizes → State Entry SeatView → Type 0
Rules sizes state = ChainRule sizes state.words state.views

-- what a pass knows of words that it stored is true if it stored none
pub blank : (words : List ℕ) (log : List Entry) (k : PassView) → k.draft ≡ [] → HasDraft words log k
blank words log k empty = record {
  short = omega (arith, ap length empty);
  column = λ some. absurd (omega (arith, ap length empty));
  draft = holds_nothing words (own_cell k) k.draft empty;
}

module _ {sizes : Sizes} {words : List ℕ} {views : List SeatView} (r : ChainRule sizes words views) where
  -- word 0 is the newest cell's name, by the pass's own number of sessions, too
  pub newest_by : (h : PassView) → h.sessions ≡ sizes.sessions → get_or words 0 0 ≡ newest_of h.sessions r.log
  newest_by h sessions = r.spelled.newest ∙ ap (λ s. newest_of s r.log) (sym sessions)

  -- the rule is kept if no word changes, and a pass has then seen the whole history and has no draft
  pub seen_keeps : (id : ℕ) (h k : PassView) → get_elem? views id ≡ some (Single h) → k.sessions ≡ h.sessions
      → k.capacity ≡ h.capacity
      → k.known.number ≡ h.known.number → k.known.mine ≡ h.known.mine → k.draft ≡ [] → k.known.seen ≡ r.log
      → ChainRule sizes words (set views id (Single k))
  seen_keeps id h k here sessions capacity number mine draft all =
      (stepped r words id h k here r.spelled sessions capacity number mine
      (subst (λ list. Begins list r.log) (sym all) (begins_itself r.log))
      (ap (entries_of h.known.number) all ∙ (known r id h here).fact_is.mine) (blank words r.log k draft)
      (λ g apart low other. other.own)).0

  -- in the cell of an entry that a pass has seen are the link, the name of the cell before, and the entry's words
  pub read_there : (h : PassView) (row index : ℕ) (entry : Entry) → Knows sizes words r.log h → index < 22
      → slice_get h.known.seen row ≡ Some entry
      → get_or words (cell_at (name_at h.sessions row entry.session) + index) 0
      ≡ get_or (name_before h.sessions h.known.seen row ∷ words_of entry) index 0
  read_there h row index entry k below is =
      let there = get_begins h.known.seen r.log row entry k.seen is in
      ap (λ s. get_or words (cell_at (name_at s row entry.session) + index) 0) k.sessions
      ∙ r.spelled.cells row entry there index (omega (arith, length-words_of entry))
      ∙ ap (λ link. get_or (link ∷ words_of entry) index 0)
      (sym (name_begins sizes.sessions h.known.seen r.log row k.seen
      (omega (arith, slice_get_within h.known.seen row entry is)))
      ∙ ap (λ s. name_before s h.known.seen row) (sym k.sessions))

-- a look: the load of the newest cell's name (word 0) keeps the rule, and tells what `Sees` says
pub look_step : (sizes : Sizes) (slots id : ℕ) (h : PassView)
    → Allows (Rules sizes) slots id (seated h) 0 (λ n. n) (Tells (Sees 0 h))
look_step sizes slots id h =
    load_step sizes slots id 0 h (Sees 0 h)
    (λ words views r here.
    let k = (known r id h here).fact_is in (
      with_look h r.log,
      seen_keeps r id h (with_look h r.log) here refl refl refl refl refl refl,
      (refl, r.log, refl, newest_by r h k.sessions, history r h k),
    ))

-- the load of a cell's word keeps the rule, and tells what `Reads` says
pub read_step : (sizes : Sizes) (slots id word : ℕ) (h : PassView) → word ≢ 0
    → Allows (Rules sizes) slots id (seated h) word (λ n. n) (Tells (Reads word h))
read_step sizes slots id word h behind =
    load_step sizes slots id word h (Reads word h)
    (λ words views r here.
    let k = (known r id h here).fact_is in (
      h,
      unmoved r id h here,
      (
        behind,
        refl,
        (λ row index entry at below is. (
          (r.entries row entry (get_begins h.known.seen r.log row entry k.seen is)).0,
          ap (λ n. get_or words n 0) at ∙ read_there r h row index entry k below is,
        )),
      ),
    ))
