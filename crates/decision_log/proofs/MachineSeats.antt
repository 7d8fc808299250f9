-- The passes at the seats of a log are the sessions of a state of the log machine.
use Rattle.std.proofs.Common.{◌≡◌, ℕ, ◌≤◌, cond, nat_eq, List, length, refl, ap, ◌∙◌, subst, eq-eqb, ne_eqb}
use mathlib.Core.{Option.{Option, some, none}, Logic.dite}
use Rattle.xa_words.specs.Entry.{Entry}
use Rattle.decision_log.specs.{declared.view.{PassView.PassView, SeatView.SeatView}, History.entries_of, Known.AllOf}
use Rattle.decision_log.specs.{Machine.{Seen, Machine}, Passes.{KnownTo, SeatKnownTo, HasPasses}, Seats.{Fits, Seats}}
use Rattle.decision_log.proofs.{Histories.begins_itself, MachineLaw.{Knows, Sound, state_of}, MachineReach.reached}
use native.Mathlib.Decide.{ℕ_discrete}
use lib.ListN.{get_elem?}

-- what the machine's session of a pass's number knows
abbrev pub seen_by : PassView → Seen
seen_by pass_view = record { seen = pass_view.known.seen; mine = pass_view.known.mine }

module _ (log : List Entry) where
  -- what a session knows whose pass is not found at a seat: it is taken as having seen the whole history
  absent : ℕ → Seen
  absent session = record { seen = log; mine = entries_of session log }

  -- what a session knows by a seat: what its pass there has seen, if there is one of its number, and else all
  known_at : ℕ → SeatView → Seen
  known_at session SeatView.Empty = absent session
  known_at session (SeatView.Single pass_view) =
      cond (nat_eq pass_view.known.number session) (seen_by pass_view) (absent session)
  known_at session (SeatView.Pair first second) =
      cond (nat_eq first.known.number session) (seen_by first)
      (cond (nat_eq second.known.number session) (seen_by second) (absent session))
  known_at session (SeatView.Unissued pass_view) = absent session

  -- what a session knows by a seat that may be missing: if it is, all
  known_in : ℕ → Option SeatView → Seen
  known_in session none = absent session
  known_in session (some view) = known_at session view

  -- what a session whose pass is not found is taken to know fits the history
  absent_knows : (session : ℕ) → Knows log session (absent session)
  unfolding absent
  absent_knows session = record { begins = begins_itself log; own = refl; part = refl }

  module _ (F : PassView → Type 0) (home : ℕ → ℕ) (next : ℕ)
      (facts : (pass_view : PassView) → F pass_view → Knows log pass_view.known.number (seen_by pass_view)) where
    -- what a pass has seen, if its number is the session's, and else `other`, fits the history, if both do
    chosen : (pass_view : PassView) (session : ℕ) (other : Seen) → F pass_view → Knows log session other
        → Knows log session (cond (nat_eq pass_view.known.number session) (seen_by pass_view) other)
    chosen pass_view session other fact else_known =
        dite (ℕ_discrete pass_view.known.number session)
        (λ is. rw (eq-eqb pass_view.known.number session is)
        (subst (λ n. Knows log n (seen_by pass_view)) is (facts pass_view fact)))
        (λ isnt. rw (ne_eqb pass_view.known.number session isnt) else_known)

    -- if what a seat knows is true, what a session knows by that seat fits the history
    known_knows : (id session : ℕ) (view : SeatView) → Fits F home next id view
        → Knows log session (known_at session view)
    unfolding known_at
    known_knows id session SeatView.Empty fits = absent_knows session
    known_knows id session (SeatView.Single pass_view) fits =
        chosen pass_view session (absent session) fits.fact_is (absent_knows session)
    known_knows id session (SeatView.Pair first second) fits =
        chosen first session (cond (nat_eq second.known.number session) (seen_by second)
        (absent session)) fits.0.fact_is
        (chosen second session (absent session) fits.1.fact_is (absent_knows session))
    known_knows id session (SeatView.Unissued pass_view) fits = absent_knows session

    module _ (capacity : ℕ) (views : List SeatView) (seats : Seats F home next views) where
      -- the machine of this history, in which each session knows what it does by the seat of its number
      machine : Machine
      machine = record
          { history = log; capacity = capacity; knows = λ session. known_in session (get_elem? views (home session)) }

      -- what a session knows by the seat of its number, or without one, fits the history
      sound_at : (session : ℕ) (view : Option SeatView) → get_elem? views (home session) ≡ view
          → Knows log session (known_in session view)
      unfolding known_in
      sound_at session none is = absent_knows session
      sound_at session (some view) is = known_knows (home session) session view (seats (home session) view is)

      -- what each session of the machine knows fits the history
      sound : Sound machine
      unfolding machine
      sound session = sound_at session (get_elem? views (home session)) refl

      -- a pass at the seat of its number knows what the machine's session knows, if `known_at` gives its own view there
      found : (pass_view : PassView) (id : ℕ) (view : SeatView) → home pass_view.known.number ≡ id
          → get_elem? views id ≡ some view
          → known_at pass_view.known.number view ≡ seen_by pass_view → KnownTo machine pass_view
      unfolding machine known_in
      found pass_view id view at here same =
          ap (λ v. known_in pass_view.known.number v) (ap (get_elem? views) at ∙ here) ∙ same

      -- each pass at a seat knows what the machine's session of its number knows
      passes : (id : ℕ) (view : SeatView) → get_elem? views id ≡ some view → SeatKnownTo machine view
      unfolding known_at
      passes id SeatView.Empty here = tt
      passes id (SeatView.Single pass_view) here =
          let p = seats id (SeatView.Single pass_view) here in
          found pass_view id (SeatView.Single pass_view) p.home_is here
          (rw (eq-eqb pass_view.known.number pass_view.known.number refl) refl)
      passes id (SeatView.Pair first second) here =
          let p = seats id (SeatView.Pair first second) here in (
            found first id (SeatView.Pair first second) p.0.home_is here
                (rw (eq-eqb first.known.number first.known.number refl) refl),
            found second id (SeatView.Pair first second) p.1.home_is here
                (rw (
                  ne_eqb first.known.number second.known.number p.2,
                  eq-eqb second.known.number second.known.number
                      refl,
                ) refl),
          )
      passes id (SeatView.Unissued pass_view) here = tt

      -- if the history fits into the capacity and its entries are of sessions 1 to a number, there is a machine that
      -- has this history and these passes, as `HasPasses` says
      pub has_passes : (sessions : ℕ) → length log ≤ capacity → AllOf sessions log
          → (m : Machine) × HasPasses sessions capacity log views m
      unfolding machine
      has_passes sessions room all =
          let state = state_of machine room sound in (
            machine,
            record {
              state = state;
              reached = reached sessions machine state all;
              capacity_is = refl;
              history = refl;
              passes = passes;
            },
          )
