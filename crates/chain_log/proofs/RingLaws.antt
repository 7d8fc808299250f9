-- What the words of a ring say of the history.
-- Here `h` is a pass's view: what a seat of the log knows of that pass.
use Rattle.std.proofs.Common.{◌≡◌, ◌≢◌, ℕ, zero, suc, ◌+◌, ◌-◌, ◌<◌, ◌≤◌, List, [], ◌∷◌, ◌++◌, length, set, get_or}
use Rattle.std.proofs.{Common.{refl, ap, sym, ◌∙◌, subst, Some, None, arith}, lemmas.List.ext_get_or}
use Rattle.std.specs.Prelude.{slice_get}
use mathlib.Core.{Option.some, Logic.dite}
use Rattle.xa_words.{specs.{Entry.{Entry, IsEntry}, Words.words_of}, proofs.Spelling.{one_entry, length-words_of}}
use Rattle.decision_log.specs.declared.view.{PassView.PassView, SeatView.{SeatView, TheVariants.Single}, Turn.Turn}
use Rattle.decision_log.specs.{declared.sizes.Sizes.Sizes, Draft.HasWordsAt, Atomic.{Atomic, Does, Counts}}
use Rattle.decision_log.proofs.{Counting.look_is, Histories.there, LogRules.{known, ranged, all_of}}
use Rattle.chain_log.specs.{Cells.{name_at, name_before, newest_of}, Places.{rows_of, cell_of, cell_words}}
use Rattle.chain_log.specs.RingRule.{own_name, own_cell, try_word, newest_for, RingRule}
use Rattle.chain_log.{specs.RingTransitions.{won, stored}, proofs.{Names.{one_cell, name_next}, Passes.same_count}}
use Rattle.chain_log.proofs.RingStores.{first_keeps, win_keeps, all_seen}
use native.Mathlib.Decide.{dec_le}
use lib.ListN.{get_elem?}

module _ {sizes : Sizes} {words : List ℕ} {views : List SeatView} (r : RingRule sizes words views) where
  -- if the history has fewer entries from an entry's place on than there are rows, the entry's cell has its words
  pub spelled_last : (place : ℕ) (entry : Entry) → slice_get r.log place ≡ Some entry
      → length r.log < place + rows_of sizes.capacity
      → HasWordsAt words (cell_of sizes.capacity place entry.session) (cell_words sizes.sessions r.log place entry)
  spelled_last place entry is near = r.spelled.cells place entry is (r.spelled.fresh place entry is near)

  -- after a pass stores its own name into its own cell, the rule holds with the same history
  pub named_log : (id : ℕ) (h : PassView) → get_elem? views id ≡ some (Single h)
      → (after : RingRule sizes (set words (own_cell h) (own_name h)) (set views id (Single (stored h 0 (own_name h)))))
      × (after.log ≡ r.log)
  named_log id h here =
      let at : own_cell h + 0 ≡ own_cell h = omega arith in
      subst (λ word. (after : RingRule sizes (set words word (own_name h))
      (set views id (Single (stored h 0 (own_name h))))) × (after.log ≡ r.log)) at
      (first_keeps r id h here)

  -- after a pass, whose last name seen is the newest and whose draft is its entry's cell, stores its own name into
  -- word 0, the rule holds with that entry appended
  pub won_log : (id : ℕ) (h : PassView) (entry : Entry) → get_elem? views id ≡ some (Single h)
      → get_or words 0 0 ≡ newest_for h → IsEntry entry
      → entry.session ≡ h.known.number → h.turn ≡ Turn.Without → h.draft ≡ own_name h ∷ newest_for h ∷ words_of entry
      → length h.known.seen < h.capacity
      → (after : RingRule sizes (set words 0 (own_name h)) (set views id (Single (won h entry))))
      × (after.log ≡ r.log ++ entry ∷ [])
  won_log id h entry here newest is own without whole room =
      let k = (known r id h here).fact_is in
      let all = all_seen r h k (sym newest) in
      let last : newest_for h ≡ newest_of sizes.sessions r.log = λ i. newest_of (k.sessions i) (all i) in
      let name : name_at sizes.sessions (length r.log) h.known.number ≡ own_name h =
      λ i. name_at (sym k.sessions i) (length (sym all i)) h.known.number in
      subst (λ n. (after : RingRule sizes (set words 0 n) (set views id (Single (won h entry))))
      × (after.log ≡ r.log ++ entry ∷ [])) name
      (win_keeps r id h entry here all without is own (whole ∙ ap (λ n. own_name h ∷ n ∷ words_of entry) last)
      (omega (arith, ap length all, room, k.capacity)))

module _ {sizes : Sizes} {words : List ℕ} {views views' : List SeatView} (p : RingRule sizes words views)
    (q : RingRule sizes words views') where
  -- two histories for which the rule holds of the same words are equally long
  pub one_length_of : length p.log ≡ length q.log
  one_length_of =
      same_count sizes.sessions (get_or words 0 0) p.log q.log (all_of p) p.spelled.newest (all_of q) q.spelled.newest

  -- if at one of the last places (fewer entries from there on than rows) both histories have the same name, they have
  -- the same entry there and the same link
  same_there : (place : ℕ) (e f : Entry) → slice_get p.log place ≡ Some e → slice_get q.log place ≡ Some f
      → length p.log < place + rows_of sizes.capacity
      → name_before sizes.sessions p.log (suc place) ≡ name_before sizes.sessions q.log (suc place)
      → (e ≡ f) × (name_before sizes.sessions p.log place ≡ name_before sizes.sessions q.log place)
  same_there place e f is is' near same =
      let a = ranged p place e is in
      let b = ranged q place f is' in
      let lengths = one_length_of in
      let session = (one_cell sizes.sessions place place e.session f.session a.0 a.1 b.0 b.1
      (sym (name_next sizes.sessions p.log place e is) ∙ same ∙ name_next sizes.sessions q.log place f is')).1 in
      let at : ℕ → ℕ = λ s. cell_of sizes.capacity place s in
      let one = spelled_last p place e is near in
      let two = spelled_last q place f is' (omega (arith, lengths)) in
      let each : (i : ℕ) → i < 23 → get_or (cell_words sizes.sessions p.log place e) i 0
      ≡ get_or (cell_words sizes.sessions q.log place f) i 0 =
      λ i below.
      sym (one i (omega (arith, length-words_of e))) ∙ ap (λ s. get_or words (at s + i) 0) session
      ∙ two i (omega (arith, length-words_of f)) in
      let spelled : words_of e ≡ words_of f =
      ext_get_or 0 (words_of e) (words_of f) (length-words_of e ∙ sym (length-words_of f))
      (λ k below. each (suc (suc k)) (omega (arith, below, length-words_of e))) in
      (one_entry e f (p.entries place e is).0 (q.entries place f is').0 spelled, each 1 (omega arith))

  -- at one of the last places at which both histories have the same name, they have the same entry and the same link
  at_name : (place : ℕ) → place < length p.log → length p.log < place + rows_of sizes.capacity
      → name_before sizes.sessions p.log (suc place) ≡ name_before sizes.sessions q.log (suc place)
      → (slice_get p.log place ≡ slice_get q.log place) × (name_before sizes.sessions p.log place
      ≡ name_before sizes.sessions q.log place)
  at_name place below near same =
      let lengths = one_length_of in
      let e = there p.log place below in
      let f = there q.log place (omega (arith, lengths)) in
      let both = same_there place e.0 f.0 e.1 f.1 near same in
      (e.1 ∙ ap Some both.0 ∙ sym f.1, both.1)

  -- at each of the last places, `behind` places before the newest entry, both histories have the same entry and link
  same_below : (behind place : ℕ) → place + behind + 1 ≡ length p.log → length p.log < place + rows_of sizes.capacity
      → (slice_get p.log place ≡ slice_get q.log place) × (name_before sizes.sessions p.log place
      ≡ name_before sizes.sessions q.log place)
  same_below zero place whole near =
      let lengths = one_length_of in
      let last : suc place ≡ length p.log = omega arith in
      at_name place (omega arith) near
      (ap (name_before sizes.sessions p.log) last ∙ sym p.spelled.newest ∙ q.spelled.newest
      ∙ ap (name_before sizes.sessions q.log) (sym (last ∙ lengths)))
  same_below (suc behind) place whole near =
      at_name place (omega arith) near (same_below behind (suc place) (omega arith) (omega arith)).1

  -- two histories for which the rule holds of the same words have the same entries at the last places
  pub one_history : (place : ℕ) → length p.log < place + rows_of sizes.capacity
      → slice_get p.log place ≡ slice_get q.log place
  one_history place near =
      let lengths = one_length_of in
      dite (dec_le (length p.log) place)
      (λ past. none p.log place past ∙ sym (none q.log place (omega (arith, lengths))))
      (λ within. (same_below (length p.log - place - 1) place (omega arith) near).0)
    where
      none : (xs : List Entry) (place : ℕ) → length xs ≤ place → slice_get xs place ≡ None
      none [] place past = refl
      none (x ∷ xs) zero past = absurd (omega arith)
      none (x ∷ xs) (suc place) past = none xs place (omega arith)

-- after a step by which a pass's `looks` rise, it has seen the whole history, which is as long as before
pub look_sees : (sizes : Sizes) (words words' : List ℕ) (views views' : List SeatView) (r : RingRule sizes words views)
    (after : RingRule sizes words' views')
    (step : Atomic) (found id : ℕ) (old new : PassView) → Does step words found words'
    → Counts newest_for try_word step found old new → new.known.looks ≢ old.known.looks
    → get_elem? views' id ≡ some (Single new)
    → (new.known.seen ≡ after.log) × (length after.log ≡ length r.log)
look_sees sizes words words' views views' r after step found id old new does counts rose here =
    let look = look_is newest_for try_word step found old new words words' does counts rose in
    subst (λ ws. (after : RingRule sizes ws views') → (new.known.seen ≡ after.log) × (length after.log ≡ length r.log))
    (sym look.1)
    (λ after. (all_seen after new (known after id new here).fact_is (sym look.0), one_length_of after r)) after
