-- The rule of a log is kept where seats are split and joined, where a pass is issued and where passes meet, and words
-- of zeros keep it: once, for every log.
--     seats_kept      seats may then be split and joined, and passes meet
--     opens_seats     and the log can begin
-- Here `h` is a pass's view: what a seat of the log knows of that pass.
use Rattle.std.proofs.Common.{◌≡◌, ℕ, zero, suc, ◌+◌, ◌<◌, ◌≤◌, List, [], ◌∷◌, ◌++◌, length, set, refl, sym, subst}
use Rattle.std.{proofs.{Common.{Some, None, arith}, lemmas.List.set-get_or}, specs.Prelude.slice_index}
use mathlib.Core.{Option.{some, some-injective, some-ne-none}, Logic.dite}
use Rattle.atomic_table.specs.Table.{keeps, Allows}
use Rattle.xa_words.specs.Entry.{Entry}
use Rattle.decision_log.specs.declared.view.{PassView.PassView, SeatView.SeatView, Turn.TheVariants.Without}
use Rattle.decision_log.specs.declared.{view.SeatView.TheVariants.{Empty, Single, Pair, Unissued}, sizes.Sizes.Sizes}
use Rattle.decision_log.specs.{History.{Begins, entries_of}, Atomic.Meets, AtTable.{KeepsSeats, OpensSeats}}
use Rattle.decision_log.specs.{Seats.{Fits, Seats, newcomer_view, all_passes, following, seated_two}, Observed.met}
use Rattle.decision_log.{specs.LogRule.{KnowsLog, LogRule}, proofs.Histories.{begins_itself, begins_nothing}}
use Rattle.decision_log.proofs.Histories.{begins_between, own_between, own_none, length_begins}
use Rattle.decision_log.proofs.SeatLemmas.{step_two, join_seats, split_two, split_one, deal_seat, moved}
use Rattle.decision_log.proofs.LogRules.{Rules, reseated, among}
use native.Mathlib.Decide.{dec_le}
use lib.ListN.{get_elem?}

-- a pass with no draft and no turn knows nothing of the words; and if a pass has seen the whole history, word 0 is
-- `newest` of it
pub record HasWords (Spells : Sizes → List ℕ → List Entry → Type 0)
    (KnowsWords : List ℕ → List Entry → PassView → Type 0)
    (newest : PassView → ℕ) : Type 0 where
  pub idle : (words : List ℕ) (log : List Entry) (pass_view : PassView) → pass_view.draft ≡ []
      → pass_view.turn ≡ Without → KnowsWords words log pass_view
  pub newest_is : (sizes : Sizes) (words : List ℕ) (log : List Entry) (pass_view : PassView) → Spells sizes words log
      → pass_view.sessions ≡ sizes.sessions
      → slice_index words 0 ≡ newest (met pass_view log)

module _ {Spells : Sizes → List ℕ → List Entry → Type 0} {KnowsWords : List ℕ → List Entry → PassView → Type 0}
    {newest : PassView → ℕ}
    (has : HasWords Spells KnowsWords newest) where
  module _ {sizes : Sizes} {words : List ℕ} {views : List SeatView}
      (r : LogRule Spells KnowsWords sizes words views) where
    -- the rule, of the same words with other seats
    abbrev Rule : List SeatView → Type 0
    Rule views' = LogRule Spells KnowsWords sizes words views'

    -- what a pass knows of the log is true
    abbrev Known : PassView → Type 0
    Known pass_view = KnowsLog KnowsWords sizes words r.log pass_view

    -- the rule is kept with other seats and other homes, if what the seats know is true and no pass is issued
    rehoused : (home : ℕ → ℕ) (views' : List SeatView) → Seats Known home r.next views' → Rule views'
    rehoused home views' seats = reseated r home r.next views' (omega arith) r.within seats

    -- the rule is kept if a seat with one pass splits off an empty seat
    split_empty : (id : ℕ) (g : PassView) → get_elem? views id ≡ some (Single g)
        → Rule (set views id (Single g) ++ Empty ∷ [])
    split_empty id g here =
        rehoused r.home (set views id (Single g) ++ Empty ∷ []) (split_one Known r.home r.next views id g r.seats here)

    -- the rule is kept if a seat with two passes is split: the second pass gets a seat at the end
    split : (id : ℕ) (g h : PassView) → get_elem? views id ≡ some (Pair g h)
        → Rule (set views id (Single g) ++ Single h ∷ [])
    split id g h here =
        rehoused (moved r.home h.known.number (length views)) (set views id (Single g) ++ Single h ∷ [])
        (split_two Known r.home r.next views id g h r.seats here)

    -- the rule is kept if a seat with one pass takes in the pass of another seat, which is then empty
    join : (id other : ℕ) (g h : PassView) → get_elem? views id ≡ some (Single g) → (other ≡ id → ⊥)
        → get_elem? (set views id (Pair g h)) other ≡ some (Single h)
        → Rule (set (set views id (Pair g h)) other Empty)
    join id other g h here apart there =
        rehoused (moved r.home h.known.number id) (set (set views id (Pair g h)) other Empty)
        (join_seats Known r.home r.next views id other g h r.seats here apart there)

    -- if h is the next pass to be issued, what the one after it knows is true: it has seen nothing, and no entry is
    -- its own
    issued : (h : PassView) → Known h → h.known.number ≡ r.next → Known (following h)
    issued h k number = record {
      sessions = k.sessions;
      capacity = k.capacity;
      seen = begins_nothing r.log;
      mine = own_none (h.known.number + 1) r.log (λ place entry is. let e = (r.entries place entry is).1 in
          λ same. omega arith);
      part = refl;
      own = has.idle words r.log (following h) refl refl;
    }

    -- the rule is kept if the next pass is issued, as long as its number is one of the log's
    issue : (id : ℕ) (h : PassView) → h.known.number ≤ h.sessions → get_elem? views id ≡ some (Unissued h)
        → Rule (set views id (Unissued (following h)) ++ Single h ∷ [])
    issue id h low here =
        let p = r.seats id (Unissued h) here in
        let number = p.1 in
        let sessions = p.2.sessions in
        reseated r (moved r.home h.known.number (length views)) (r.next + 1)
        (set views id (Unissued (following h)) ++ Single h ∷ []) (omega arith)
        (omega (arith, number, sessions, low))
        (deal_seat Known r.home r.next views id h r.begun r.seats here (issued h p.2 number))

    -- the rule is kept if the second of two passes at a seat has then seen any prefix of the history in which the
    -- entries of its number are its own
    meet_keeps : (id : ℕ) (g h : PassView) (seen : List Entry) → get_elem? views id ≡ some (Pair g h)
        → Begins seen r.log
        → entries_of h.known.number seen ≡ h.known.mine → Rule (set views id (Pair g (met h seen)))
    meet_keeps id g h seen here begins part =
        let p = r.seats id (Pair g h) here in
        let k = p.1.fact_is in
        rehoused r.home (set views id (Pair g (met h seen)))
        (step_two Known r.home r.next views id g h g (met h seen) r.seats here refl refl p.0.fact_is
        (record {
          sessions = k.sessions;
          capacity = k.capacity;
          seen = begins;
          mine = k.mine;
          part = part;
          own = has.idle words r.log (met h seen) refl refl;
        }))

    -- if two passes at a seat meet, the rule is kept and `Meets` holds: the second has then seen what it had seen, if
    -- that was as much as the first, and else the whole history
    meet : (id : ℕ) (g h : PassView) → get_elem? views id ≡ some (Pair g h)
        → (seen : List Entry) × Rule (set views id (Pair g (met h seen)))
        × Meets newest g h (slice_index words 0) (seated_two g (met h seen))
    meet id g h here =
        let p = r.seats id (Pair g h) here in
        let kg = p.0.fact_is in
        let kh = p.1.fact_is in
        dite (dec_le (length g.known.seen) (length h.known.seen))
        (λ short.
        let begins : Begins g.known.seen h.known.seen = begins_between g.known.seen h.known.seen r.log kg.seen kh.seen
        short in (
          h.known.seen,
          meet_keeps id g h h.known.seen here kh.seen kh.part,
          (
            h.known.seen,
            refl,
            (λ longer. absurd (omega arith)),
            record {
              begins = begins_itself h.known.seen;
              whole = begins;
              of_first = own_between g.known.number g.known.seen h.known.seen r.log g.known.mine begins kh.seen kg.part
                  kg.mine;
              stays = λ s. refl;
              room = omega (arith, length_begins h.known.seen r.log kh.seen, r.room, kh.capacity);
              all = among r h h.known.seen kh.sessions kh.seen;
              part = kh.part;
            },
          ),
        ))
        (λ longer. (
          r.log,
          meet_keeps id g h r.log here (begins_itself r.log) kh.mine,
          (
            r.log,
            refl,
            (λ l. has.newest_is sizes words r.log h r.spelled kh.sessions),
            record {
              begins = kh.seen;
              whole = kg.seen;
              of_first = kg.mine;
              stays = λ s. absurd (longer s);
              room = omega (arith, r.room, kh.capacity);
              all = among r h r.log kh.sessions (begins_itself r.log);
              part = kh.mine;
            },
          ),
        ))

  -- the load of word 0 at a seat with two passes keeps the rule, and tells what `Meets` says
  meet_step : (sizes : Sizes) (slots id : ℕ) (g h : PassView)
      → Allows (Rules Spells KnowsWords sizes) slots id (seated_two g h) 0 (λ n. n) (Meets newest g h)
  meet_step sizes slots id g h state r homes here small =
      let m = meet r id g h here in (
        Pair g (met h m.0),
        keeps,
        tt,
        subst (λ words. LogRule Spells KnowsWords sizes words (set state.views id (Pair g (met h m.0))))
            (sym (set-get_or state.words 0 0)) m.1,
        m.2,
      )

  -- a rule whose words have what `HasWords` asks is kept by every step of `KeepsSeats`
  pub seats_kept : KeepsSeats (Rules Spells KnowsWords) newest
  seats_kept = record {
    split_empty = λ sizes id g state r here. split_empty r id g here;
    join = λ sizes id other g h state r here apart there. join r id other g h here apart there;
    split = λ sizes id g h state r here. split r id g h here;
    issue = λ sizes id h low state r here. issue r id h low here;
    meet = meet_step;
  }

  -- words that spell the empty history keep the rule with one seat, which knows all passes
  at_opening : (sizes : Sizes) (words : List ℕ) → Spells sizes words []
      → LogRule Spells KnowsWords sizes words (all_passes sizes ∷ [])
  at_opening sizes words spelled = record {
    log = [];
    home = λ n. 0;
    next = 1;
    room = omega arith;
    spelled = spelled;
    entries = λ place entry is. absurd (never entry is);
    begun = omega arith;
    within = omega arith;
    seats = first;
  }
    where
      never : (entry : Entry) → None ≡ Some entry → ⊥
      never entry is = cc

      first : Seats (KnowsLog KnowsWords sizes words []) (λ n. 0) 1 (all_passes sizes ∷ [])
      first zero view is =
          subst (λ v. Fits (KnowsLog KnowsWords sizes words []) (λ n. 0) 1 0 v)
          (some-injective (all_passes sizes) view is) (
            refl,
            refl,
            record {
              sessions = refl;
              capacity = refl;
              seen = refl;
              mine = refl;
              part = refl;
              own = has.idle words [] (newcomer_view sizes.sessions sizes.capacity 1) refl refl;
            },
          )
      first (suc id) view is = absurd (some-ne-none view (sym is))

  -- if any words, so many and with a 0 in word 0, spell the empty history, a log can begin with them as `OpensSeats`
  -- says
  pub opens_seats : (sizes : Sizes) (word_count : ℕ) → 0 < word_count
      → ((words : List ℕ) → length words ≡ word_count → slice_index words 0 ≡ 0 → Spells sizes words [])
      → OpensSeats (Rules Spells KnowsWords) all_passes newest sizes word_count
  opens_seats sizes word_count low spelled =
      record {
        some = low;
        all = refl;
        zeros = λ words wide zeros. at_opening sizes words
            (spelled words wide zeros);
        keeps = seats_kept;
      }
