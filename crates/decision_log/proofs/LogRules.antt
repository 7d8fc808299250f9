-- The rule of a log, whatever its words are: what it says of a pass, and how the steps of a pass keep it.
--     Rules, RuleOf       the rule, over a table's state; the rule with a stated history
--     known, ranged, all_of, among, history, has_machine     what the rule says
--     reseated            it is kept where only seats change
--     stepped, unmoved    it is kept where a pass steps and the words spell the same history
--     appended            it is kept where they spell one entry more
--     loaded, load_step, store_step      the steps of a pass on the table
--     looked_log          who looks has seen the whole history
-- Here `h` is a pass's view: what a seat of the log knows of that pass.
use Rattle.std.proofs.Common.{◌≡◌, ◌≢◌, ℕ, ◌+◌, ◌-◌, ◌<◌, ◌≤◌, List, [], ◌∷◌, ◌++◌, length, set, get_or, refl, ap, sym}
use Rattle.std.proofs.{Common.{◌∙◌, subst, ⊎_elim, Some, arith, length-append}, lemmas.List.set-get_or}
use Rattle.std.specs.Prelude.{slice_get, slice_index}
use mathlib.Core.Option.{some}
use Rattle.atomic_table.specs.Table.{State, keeps, Allows}
use Rattle.xa_words.specs.Entry.{Entry, IsEntry}
use Rattle.decision_log.specs.declared.view.{PassView.PassView, SeatView.{SeatView, TheVariants.Single}}
use Rattle.decision_log.specs.{declared.sizes.Sizes.Sizes, History.{Begins, entries_of}, Known.AllOf, Machine.Machine}
use Rattle.decision_log.specs.{Passes.HasPasses, Seats.{Placed, Seats, seated}, Draft.drafted, Observed.HistoryIs}
use Rattle.decision_log.specs.{Atomic.{Atomic, Does, Counts, Tells}, LogRule.{KnowsLog, LogRule}}
use Rattle.decision_log.proofs.Histories.{begins_itself, begins_more, get_begins, get_last, all_from_places, own_last}
use Rattle.decision_log.proofs.{Histories.own_other, SeatLemmas.step_seat, MachineSeats.has_passes, Counting.look_is}
use lib.ListN.{get_elem?}

module _ (Spells : Sizes → List ℕ → List Entry → Type 0) (KnowsWords : List ℕ → List Entry → PassView → Type 0) where
  -- the rule, of a state of the table
  abbrev pub Rules : Sizes → State Entry SeatView → Type 0
  Rules sizes state = LogRule Spells KnowsWords sizes state.words state.views

  -- the rule, with this history
  abbrev pub RuleOf : Sizes → List ℕ → List SeatView → List Entry → Type 0
  RuleOf sizes words views log = (rule : LogRule Spells KnowsWords sizes words views) × (rule.log ≡ log)

module _ {Spells : Sizes → List ℕ → List Entry → Type 0} {KnowsWords : List ℕ → List Entry → PassView → Type 0}
    {sizes : Sizes} {words : List ℕ}
    {views : List SeatView} (r : LogRule Spells KnowsWords sizes words views) where
  -- what a seat knows of its one pass is true, and the seat is the home of that pass's number
  pub known : (id : ℕ) (h : PassView) → get_elem? views id ≡ some (Single h)
      → Placed (KnowsLog KnowsWords sizes words r.log) r.home r.next id h
  known id h here = r.seats id (Single h) here

  -- each entry is of a session of the log
  pub ranged : (place : ℕ) (entry : Entry) → slice_get r.log place ≡ Some entry
      → (1 ≤ entry.session) × (entry.session ≤ sizes.sessions)
  ranged place entry is =
      let e = r.entries place entry is in
      (e.0.first_session, omega (arith, e.1, r.within))

  -- all entries of the history are of sessions of the log
  pub all_of : AllOf sizes.sessions r.log
  all_of = all_from_places (λ entry. (1 ≤ entry.session) × (entry.session ≤ sizes.sessions)) r.log ranged

  -- all entries of a prefix of the history are of sessions of the log
  pub among : (h : PassView) (seen : List Entry) → h.sessions ≡ sizes.sessions → Begins seen r.log
      → AllOf h.sessions seen
  among h seen sessions begins =
      all_from_places (λ entry. (1 ≤ entry.session) × (entry.session ≤ h.sessions)) seen
      (λ place entry is. let e = ranged place entry (get_begins seen r.log place entry begins is) in
      (e.0, omega (arith, e.1, sessions)))

  -- for a pass that knows the log, the whole history is as `HistoryIs` says
  pub history : (h : PassView) → KnowsLog KnowsWords sizes words r.log h → HistoryIs h r.log
  history h k =
      record {
        begins = k.seen;
        room = omega (arith, r.room, k.capacity);
        all = among h r.log k.sessions
            (begins_itself r.log);
        part = k.mine;
      }

  -- the history and the passes are a state of the log machine
  pub has_machine : (machine : Machine) × HasPasses sizes.sessions sizes.capacity r.log views machine
  has_machine =
      has_passes r.log (KnowsLog KnowsWords sizes words r.log) r.home r.next
      (λ pass_view k. record { begins = k.seen; own = k.mine; part = k.part })
      sizes.capacity views r.seats sizes.sessions r.room all_of

  -- the rule is kept with other seats and other homes, if what the seats know is true; more numbers may have been given
  -- out, none above the log's sessions
  pub reseated : (home : ℕ → ℕ) (next : ℕ) (views' : List SeatView) → r.next ≤ next → next ≤ sizes.sessions + 1
      → Seats (KnowsLog KnowsWords sizes words r.log) home next views'
      → LogRule Spells KnowsWords sizes words views'
  reseated home next views' more within seats = record {
    log = r.log;
    home = home;
    next = next;
    room = r.room;
    spelled = r.spelled;
    entries = λ place entry is. let e = r.entries place entry is in (e.0, omega (arith, e.1, more));
    begun = omega (arith, r.begun, more);
    within = within;
    seats = seats;
  }

  -- the rule is kept, with the same history, if the words change and still spell it, and a pass h becomes k: of the
  -- same number, with the same entries of its own, and with a prefix of the history seen, in which they are all of
  -- its number. What k and every pass of another number know of the words must be true
  pub stepped : (words' : List ℕ) (id : ℕ) (h k : PassView) → get_elem? views id ≡ some (Single h)
      → Spells sizes words' r.log → k.sessions ≡ h.sessions
      → k.capacity ≡ h.capacity → k.known.number ≡ h.known.number → k.known.mine ≡ h.known.mine
      → Begins k.known.seen r.log → entries_of h.known.number k.known.seen ≡ h.known.mine → KnowsWords words' r.log k
      → ((g : PassView) → g.known.number ≢ h.known.number → 0 < g.known.number → KnowsLog KnowsWords sizes words r.log g
      → KnowsWords words' r.log g)
      → RuleOf Spells KnowsWords sizes words' (set views id (Single k)) r.log
  stepped words' id h k here spelled sessions capacity number mine begins part own others =
      let is = (known id h here).fact_is in (
        record {
          log = r.log;
          home = r.home;
          next = r.next;
          room = r.room;
          spelled = spelled;
          entries = r.entries;
          begun = r.begun;
          within = r.within;
          seats =
              step_seat (KnowsLog KnowsWords sizes words r.log)
              (KnowsLog KnowsWords sizes words' r.log) r.home r.next views id h k r.seats here number
              (record {
                sessions = sessions ∙ is.sessions;
                capacity = capacity ∙ is.capacity;
                seen = begins;
                mine = ap (λ n. entries_of n r.log) number ∙ is.mine ∙ sym mine;
                part = ap (λ n. entries_of n k.known.seen) number ∙ part ∙ sym mine;
                own = own;
              })
              (λ g apart low other. record {
                sessions = other.sessions;
                capacity = other.capacity;
                seen = other.seen;
                mine = other.mine;
                part = other.part;
                own = others g apart low other;
              });
        },
        refl,
      )

  -- the rule is kept if the pass at a seat is put there again
  pub unmoved : (id : ℕ) (h : PassView) → get_elem? views id ≡ some (Single h)
      → LogRule Spells KnowsWords sizes words (set views id (Single h))
  unmoved id h here =
      let k = (known id h here).fact_is in
      (stepped words id h h here r.spelled refl refl refl refl k.seen k.part k.own (λ g apart low other. other.own)).0

  -- the rule is kept, with one entry more in its history, if the words change and spell that, a pass h that has seen
  -- the whole history becomes k, which has seen this entry of its number too, and there was room. What k and every
  -- pass of another number know of the words must be true
  pub appended : (words' : List ℕ) (id : ℕ) (h k : PassView) (entry : Entry) → get_elem? views id ≡ some (Single h)
      → h.known.seen ≡ r.log → IsEntry entry
      → entry.session ≡ h.known.number → length r.log < sizes.capacity → Spells sizes words' (r.log ++ entry ∷ [])
      → k.sessions ≡ h.sessions
      → k.capacity ≡ h.capacity → k.known.number ≡ h.known.number → k.known.seen ≡ h.known.seen ++ entry ∷ []
      → k.known.mine ≡ h.known.mine ++ entry ∷ []
      → KnowsWords words' (r.log ++ entry ∷ []) k
      → ((g : PassView) → g.known.number ≢ h.known.number → 0 < g.known.number → KnowsLog KnowsWords sizes words r.log g
      → KnowsWords words' (r.log ++ entry ∷ []) g)
      → RuleOf Spells KnowsWords sizes words' (set views id (Single k)) (r.log ++ entry ∷ [])
  appended words' id h k entry here all is own room spelled sessions capacity number seen mine knows others =
      let p = known id h here in
      let f = p.fact_is in
      let log' = r.log ++ entry ∷ [] in
      let longer : length log' ≡ length r.log + 1 = length-append r.log (entry ∷ []) in (
        record {
          log = log';
          home = r.home;
          next = r.next;
          room = omega (arith, longer);
          spelled = spelled;
          entries =
              λ place other at.
              ⊎_elim (λ t. r.entries place other t) (λ t. subst (λ x. IsEntry x × (x.session < r.next)) t.1
              (is, omega (arith, own, p.high)))
              (get_last r.log entry place other at);
          begun = r.begun;
          within = r.within;
          seats =
              step_seat (KnowsLog KnowsWords sizes words r.log)
              (KnowsLog KnowsWords sizes words' log') r.home r.next views id h k r.seats here number
              (record {
                sessions = sessions ∙ f.sessions;
                capacity = capacity ∙ f.capacity;
                seen = subst (λ list. Begins list log') (sym (seen ∙ ap (λ list. list ++ entry ∷ []) all))
                    (begins_itself log');
                mine = ap (λ n. entries_of n log') number ∙ own_last h.known.number r.log entry own
                    ∙ ap (λ list. list ++ entry ∷ []) f.mine ∙ sym mine;
                part =
                    ap (λ n. entries_of n k.known.seen) number ∙ ap (entries_of h.known.number) seen
                    ∙ own_last h.known.number h.known.seen entry own
                    ∙ ap (λ list. list ++ entry ∷ []) f.part ∙ sym mine;
                own = knows;
              })
              (λ g apart low other. record {
                sessions = other.sessions;
                capacity = other.capacity;
                seen = begins_more g.known.seen r.log (entry ∷ []) other.seen;
                mine = own_other g.known.number r.log entry (λ e. apart (sym e ∙ own)) ∙ other.mine;
                part = other.part;
                own = others g apart low other;
              });
        },
        refl,
      )

module _ {Spells : Sizes → List ℕ → List Entry → Type 0} {KnowsWords : List ℕ → List Entry → PassView → Type 0}
    (sizes : Sizes) where
  -- the rule is kept if what a word holds is stored there again, as after a load
  pub loaded : (words : List ℕ) (word : ℕ) (views : List SeatView) → LogRule Spells KnowsWords sizes words views
      → LogRule Spells KnowsWords sizes (set words word (get_or words word 0)) views
  loaded words word views r = subst (λ ws. LogRule Spells KnowsWords sizes ws views) (sym (set-get_or words word 0)) r

  -- a load at the seat of a pass keeps the rule and tells what `then` says, if for all words and seats of the rule
  -- there is a pass k that may stand at the seat afterwards and of which `then` holds with the word
  pub load_step : (slots id word : ℕ) (h : PassView) (then : ℕ → PassView → Type 0)
      → ((words : List ℕ) (views : List SeatView) → LogRule Spells KnowsWords sizes words views
      → get_elem? views id ≡ some (Single h)
      → (k : PassView) × LogRule Spells KnowsWords sizes words (set views id (Single k)) × then (get_or words word 0) k)
      → Allows (Rules Spells KnowsWords sizes) slots id (seated h) word (λ n. n) (Tells then)
  load_step slots id word h then each state r homes here small =
      let s = each state.words state.views r here in
      (Single s.0, keeps, tt, loaded state.words word (set state.views id (Single s.0)) s.1, (s.0, refl, s.2))

  -- a store at word at + index keeps the rule, and the pass has then drafted the new word at `index`, if that is so
  -- for all words and seats of the rule; `at` is where the draft begins
  pub store_step : (slots id at word index new : ℕ) (h : PassView) → word ≡ at + index
      → ((words : List ℕ) (views : List SeatView) → LogRule Spells KnowsWords sizes words views
      → get_elem? views id ≡ some (Single h)
      → LogRule Spells KnowsWords sizes (set words (at + index) new) (set views id (Single (drafted h index new))))
      → Allows (Rules Spells KnowsWords sizes) slots id (seated h) word (λ n. new)
      (λ n. Tells (λ found k. k ≡ drafted h (word - at) new) new)
  store_step slots id at word index new h is each state r homes here small =
      let back : word - at ≡ index = omega arith in (
        Single (drafted h (word - at) new),
        keeps,
        tt,
        subst (λ i. LogRule Spells KnowsWords sizes (set state.words word new)
            (set state.views id (Single (drafted h i new)))) (sym back)
            (subst (λ w. LogRule Spells KnowsWords sizes (set state.words w new)
            (set state.views id (Single (drafted h index new)))) (sym is)
            (each state.words state.views r here)),
        (drafted h (word - at) new, refl, refl),
      )

module _ {Spells : Sizes → List ℕ → List Entry → Type 0} {KnowsWords : List ℕ → List Entry → PassView → Type 0}
    {sizes : Sizes} (newest : PassView → ℕ)
    (tried : ℕ)
    (one_log : (words : List ℕ) (views views' : List SeatView) (p : LogRule Spells KnowsWords sizes words views)
    (q : LogRule Spells KnowsWords sizes words views') → p.log ≡ q.log)
    (all_seen : (words : List ℕ) (views : List SeatView) (r : LogRule Spells KnowsWords sizes words views)
    (h : PassView)
    → KnowsLog KnowsWords sizes words r.log h → slice_index words 0 ≡ newest h → h.known.seen ≡ r.log) where
  -- after a step by which a pass's `looks` rise, it has seen the whole history, which stays; premises: the same words
  -- have one history (`one_log`), and who finds its `newest` in word 0 has seen all (`all_seen`)
  pub looked_log : (words words' : List ℕ) (views views' : List SeatView)
      (r : LogRule Spells KnowsWords sizes words views)
      (after : LogRule Spells KnowsWords sizes words' views') (step : Atomic) (found id : ℕ) (old new : PassView)
      → Does step words found words' → Counts newest tried step found old new → new.known.looks ≢ old.known.looks
      → get_elem? views' id ≡ some (Single new) → (new.known.seen ≡ after.log) × (after.log ≡ r.log)
  looked_log words words' views views' r after step found id old new does counts rose here =
      let look = look_is newest tried step found old new words words' does counts rose in
      subst (λ ws. (after : LogRule Spells KnowsWords sizes ws views')
      → (new.known.seen ≡ after.log) × (after.log ≡ r.log)) (sym look.1)
      (λ after. (
        all_seen words views' after new (known after id new here).fact_is look.0,
        one_log words views' views
            after r,
      )) after
