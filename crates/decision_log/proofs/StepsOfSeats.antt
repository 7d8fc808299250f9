-- A step at a seat is nothing or one event of the log machine; a move of seats is nothing.
use Rattle.std.proofs.Common.{◌≡◌, ◌≢◌, ℕ, zero, suc, ◌<◌, cond, nat_eq, List, [], ◌∷◌, ◌++◌, length, set, refl, ap}
use Rattle.std.proofs.Common.{sym, ◌∙◌, subst, inl, inr, arith, eq-eqb, ne_eqb, length-append, ⊎_elim}
use mathlib.Core.Option.{some, some-injective, some-ne-none}
use Rattle.atomic_table.proofs.Lists.{at_set}
use Rattle.xa_words.specs.Entry.{Entry}
use Rattle.decision_log.specs.{declared.view.{PassView.PassView, SeatView.SeatView}, Passes.KnownTo}
use Rattle.decision_log.specs.declared.{view.SeatView.TheVariants.{Empty, Single, Pair, Unissued}, sizes.Sizes.Sizes}
use Rattle.decision_log.specs.Machine.{Seen, Machine, Look, Add, Looks, Appends, IsState, opening_machine}
use Rattle.decision_log.specs.{Seats.{Fits, all_passes, following}, LogRule.{KnowsLog, LogRule}}
use Rattle.decision_log.specs.MachineSteps.{SeatStands, StandsFor, Learns, Changes, Moves, split_empty, split, join}
use Rattle.decision_log.{specs.MachineSteps.{issue, StepsTo}, proofs.MachineLaw.{state_next, runs_end_in_states}}
use Rattle.decision_log.proofs.SeatLemmas.{at_end}
use lib.ListN.{get_elem?}

-- what the sessions know, with another value for one of them
known_with : (ℕ → Seen) → ℕ → Seen → ℕ → Seen
known_with knows number seen other = cond (nat_eq other number) seen (knows other)

known_there : (knows : ℕ → Seen) (number : ℕ) (seen : Seen) → known_with knows number seen number ≡ seen
unfolding known_with
known_there knows number seen = ap (λ b. cond b seen (knows number)) (eq-eqb number number refl)

known_other : (knows : ℕ → Seen) (number other : ℕ) (seen : Seen) → other ≢ number
    → known_with knows number seen other ≡ knows other
unfolding known_with
known_other knows number other seen apart = ap (λ b. cond b seen (knows other)) (ne_eqb other number apart)

-- what a session knows whose pass is this
abbrev seen_by : PassView → Seen
seen_by pass = record { seen = pass.known.seen; mine = pass.known.mine }

-- the sessions know what they knew, except that one
abbrev Same : Machine → Machine → ℕ → Type 0
Same old new n = (other : ℕ) → other ≢ n → new.knows other ≡ old.knows other

-- the machine's sessions still know what a seat knows, if the session that changed has no pass there
stands_still : (old new : Machine) (n : ℕ) (home : ℕ → ℕ) (next id j : ℕ) (F : PassView → Type 0) (view : SeatView)
    → Same old new n → home n ≡ id → n < next → j ≢ id
    → Fits F home next j view → SeatStands old view → SeatStands new view
stands_still old new n home next id j F Empty same at high apart fits stands = tt
stands_still old new n home next id j F (Single pass) same at high apart fits stands =
    same pass.known.number (λ e. apart (sym fits.home_is ∙ ap home e ∙ at)) ∙ stands
stands_still old new n home next id j F (Pair first second) same at high apart fits stands = (
  same first.known.number (λ e. apart (sym fits.0.home_is ∙ ap home e ∙ at)) ∙ stands.0,
  same second.known.number (λ e. apart (sym fits.1.home_is ∙ ap home e ∙ at)) ∙ stands.1,
)
stands_still old new n home next id j F (Unissued pass) same at high apart fits stands = (
  stands.0,
  stands.1,
  (λ number low.
      let number_is = fits.1 in
      same number (λ e. absurd (omega arith)) ∙ stands.2 number low),
)

-- at a seat that changes, the machine's sessions know what it knows then
stands_changed : (old new : Machine) (home : ℕ → ℕ) (next id : ℕ) (F : PassView → Type 0) (one other : PassView)
    (view view' : SeatView)
    → Same old new one.known.number → other.known.number ≡ one.known.number
    → new.knows one.known.number ≡ seen_by other
    → Changes one other view view'
    → Fits F home next id view → SeatStands old view → SeatStands new view'
stands_changed old new home next id F one other view view' same number knows (inl single) fits stands =
    subst (SeatStands new) (sym single.1) (ap new.knows number ∙ knows)
stands_changed old new home next id F one other view view' same number knows (inr pair) fits stands =
    let first = pair.0 in
    let fits' : Fits F home next id (Pair first one) = subst (Fits F home next id) pair.1 fits in
    let stands' : SeatStands old (Pair first one) = subst (SeatStands old) pair.1 stands in
    subst (SeatStands new) (sym pair.2) (
      same first.known.number (λ e. fits'.2 e) ∙ stands'.0,
      ap new.knows number ∙ knows,
    )

-- the pass that changes has an issued number, whose seat is its own
changed_placed : (home : ℕ → ℕ) (next id : ℕ) (F : PassView → Type 0) (one other : PassView) (view view' : SeatView)
    → Changes one other view view' → Fits F home next id view
    → (home one.known.number ≡ id) × (one.known.number < next)
changed_placed home next id F one other view view' (inl single) fits =
    let is : Fits F home next id (Single one) = subst (Fits F home next id) single.0 fits in
    (is.home_is, is.high)
changed_placed home next id F one other view view' (inr pair) fits =
    let is : Fits F home next id (Pair pair.0 one) = subst (Fits F home next id) pair.1 fits in
    (is.1.home_is, is.1.high)

module _ {Spells : Sizes → List ℕ → List Entry → Type 0} {KnowsWords : List ℕ → List Entry → PassView → Type 0}
    {sizes : Sizes} {words words' : List ℕ} {views : List SeatView} (r : LogRule Spells KnowsWords sizes words views)
    (id : ℕ) (one other : PassView) (view view' : SeatView)
    (after : LogRule Spells KnowsWords sizes words' (set views id view')) (here : get_elem? views id ≡ some view)
    (changes : Changes one other view view') where
  -- a machine with the new history, in which only the session of the step knows something else, stands for the seats
  -- after the step
  stands_after : (old new : Machine) → StandsFor sizes.capacity r.log views old → IsState new
      → new.capacity ≡ old.capacity → new.history ≡ after.log
      → Same old new one.known.number → other.known.number ≡ one.known.number
      → new.knows one.known.number ≡ seen_by other
      → StandsFor sizes.capacity after.log (set views id view') new
  stands_after old new stands state capacity history same number knows = record {
    state = state;
    capacity_is = capacity ∙ stands.capacity_is;
    history = history;
    seats = λ j v at.
        let placed = changed_placed r.home r.next id (KnowsLog KnowsWords sizes words r.log) one other view view'
        changes (r.seats id view here) in
        ⊎_elim
        (λ t. subst (SeatStands new) t.1
        (stands_changed old new r.home r.next id (KnowsLog KnowsWords sizes words r.log) one other view view' same
        number knows changes (r.seats id view here) (stands.seats id view here)))
        (λ t. stands_still old new one.known.number r.home r.next id j (KnowsLog KnowsWords sizes words r.log) v same
        placed.0 placed.1 t.0 (r.seats j v t.1) (stands.seats j v t.1))
        (at_set views id j view' v at);
  }

  -- what the machine's session knows of the pass before the step
  known_before : (machine : Machine) → StandsFor sizes.capacity r.log views machine
      → machine.knows one.known.number ≡ seen_by one
  known_before machine stands =
      elim changes [
        | inl single ↦ subst (SeatStands machine) single.0 (stands.seats id view here)
        | inr pair ↦
            let both : SeatStands machine (Pair pair.0 one) =
            subst (SeatStands machine) pair.1 (stands.seats id view here) in
            both.1
      ]

  -- a step after which the pass has learned nothing, the whole history or its own entry is nothing or one event
  pub steps_to : Learns r.log after.log one other
      → StepsTo sizes.capacity r.log views after.log (set views id view')
  steps_to learns machine stands =
      let n = one.known.number in
      let before = known_before machine stands in
      elim learns.1 [
        | inl nothing ↦ (
          machine,
          inl refl,
          stands_after machine machine stands stands.state refl (stands.history ∙ sym nothing.same)
              (λ k apart. refl) learns.0
              (before
              ∙ ap (λ list. record { seen = list; mine = one.known.mine }) (sym nothing.seen)
              ∙ ap (λ list. record { seen = other.known.seen; mine = list }) (sym nothing.mine)),
        )
        | inr more ↦ elim more [
          | inl all ↦
              let seen : Seen = seen_by other in
              let next : Machine = record {
                history = machine.history;
                capacity = machine.capacity;
                knows = known_with machine.knows n seen;
              } in
              let looks : Looks n machine next = record {
                history = refl;
                capacity = refl;
                seen = ap (λ (s : Seen). s.seen) (known_there machine.knows n seen) ∙ all.seen ∙ sym stands.history;
                mine = ap (λ (s : Seen). s.mine) (known_there machine.knows n seen) ∙ all.mine
                    ∙ sym (ap (λ (s : Seen). s.mine) before);
                others = λ k apart. known_other machine.knows n k seen apart;
              } in (
                next,
                inr (Look n, looks),
                stands_after machine next stands (state_next (Look n) machine next looks stands.state) refl
                    (stands.history ∙ sym all.same) looks.others learns.0 (known_there machine.knows n seen),
              )
          | inr own ↦
              let seen : Seen = seen_by other in
              let entry = own.entry in
              let next : Machine = record {
                history = machine.history ++ entry ∷ [];
                capacity = machine.capacity;
                knows = known_with machine.knows n seen;
              } in
              let longer = ap length own.longer ∙ length-append r.log (entry ∷ []) in
              let room = after.room in
              let adds : Appends n entry machine next = record {
                own = own.own;
                whole = ap (λ (s : Seen). s.seen) before ∙ own.whole ∙ sym stands.history;
                room = omega (arith, ap length stands.history, stands.capacity_is, longer, room);
                history = refl;
                capacity = refl;
                seen = ap (λ (s : Seen). s.seen) (known_there machine.knows n seen) ∙ own.seen
                    ∙ ap (λ list. list ++ entry ∷ []) (sym (ap (λ (s : Seen). s.seen) before));
                mine = ap (λ (s : Seen). s.mine) (known_there machine.knows n seen) ∙ own.mine
                    ∙ ap (λ list. list ++ entry ∷ []) (sym (ap (λ (s : Seen). s.mine) before));
                others = λ k apart. known_other machine.knows n k seen apart;
              } in (
                next,
                inr (Add n entry, adds),
                stands_after machine next stands (state_next (Add n entry) machine next adds stands.state) refl
                    (ap (λ list. list ++ entry ∷ []) stands.history ∙ sym own.longer) adds.others learns.0
                    (known_there machine.knows n seen),
              )
        ]
      ]

-- a move of seats is nothing: the same machine stands for the seats after it
moved_seats : (capacity : ℕ) (log : List Entry) (views views' : List SeatView) (machine : Machine)
    → StandsFor capacity log views machine
    → ((id : ℕ) (view : SeatView) → get_elem? views' id ≡ some view → SeatStands machine view)
    → StandsFor capacity log views' machine
moved_seats capacity log views views' machine stands seats =
    record { state = stands.state; capacity_is = stands.capacity_is; history = stands.history; seats = seats }

-- what stands at a place of seats of which one was changed and one added
split_at : (machine : Machine) (views : List SeatView) (id : ℕ) (left right : SeatView)
    → ((j : ℕ) (view : SeatView) → get_elem? views j ≡ some view → SeatStands machine view)
    → SeatStands machine left → SeatStands machine right
    → (j : ℕ) (view : SeatView) → get_elem? (set views id left ++ right ∷ []) j ≡ some view → SeatStands machine view
split_at machine views id left right each is_left is_right j view at =
    ⊎_elim
    (λ t. ⊎_elim (λ s. subst (SeatStands machine) s.1 is_left) (λ s. each j view s.1) (at_set views id j left view t))
    (λ t. subst (SeatStands machine) t.1 is_right)
    (at_end (set views id left) right view j at)

-- a pass that isn't issued knows what the session of its number knows
issued_known : (machine : Machine) (pass : PassView) → SeatStands machine (Unissued pass) → KnownTo machine pass
issued_known machine pass stands =
    stands.2 pass.known.number (omega arith)
    ∙ ap (λ list. record { seen = list; mine = [] }) (sym stands.0)
    ∙ ap (λ list. record { seen = pass.known.seen; mine = list }) (sym stands.1)

-- a move of seats
pub moves_stand : (capacity : ℕ) (log : List Entry) (views views' : List SeatView) (machine : Machine)
    → Moves views views' → StandsFor capacity log views machine
    → StandsFor capacity log views' machine
moves_stand capacity log views views' machine (split_empty id pass here) stands =
    moved_seats capacity log views views' machine stands
    (split_at machine views id (Single pass) Empty stands.seats (stands.seats id (Single pass) here) tt)
moves_stand capacity log views views' machine (split id first second here) stands =
    let both = stands.seats id (Pair first second) here in
    moved_seats capacity log views views' machine stands
    (split_at machine views id (Single first) (Single second) stands.seats both.0 both.1)
moves_stand capacity log views views' machine (join id other first second here apart there) stands =
    moved_seats capacity log views views' machine stands
    (λ j view at.
    ⊎_elim (λ s. subst (SeatStands machine) s.1 tt)
    (λ s. ⊎_elim
    (λ t. subst (SeatStands machine) t.1 (
      stands.seats id (Single first) here,
      stands.seats other (Single second) there,
    ))
    (λ t. stands.seats j view t.1)
    (at_set views id j (Pair first second) view s.1))
    (at_set (set views id (Pair first second)) other j Empty view at))
moves_stand capacity log views views' machine (issue id pass here) stands =
    let rest = stands.seats id (Unissued pass) here in
    moved_seats capacity log views views' machine stands
    (split_at machine views id (Unissued (following pass)) (Single pass) stands.seats (
      refl,
      refl,
      (λ number low. rest.2 number (omega arith)),
    ) (issued_known machine pass rest))

-- at its start the machine stands for a seat that knows all passes
pub begins_so : (sizes : Sizes) → StandsFor sizes.capacity [] (all_passes sizes ∷ []) (opening_machine sizes.capacity)
begins_so sizes = record {
  state = runs_end_in_states sizes.capacity [] (opening_machine sizes.capacity) refl;
  capacity_is = refl;
  history = refl;
  seats = seats;
}
  where
    seats : (id : ℕ) (view : SeatView) → get_elem? (all_passes sizes ∷ []) id ≡ some view
        → SeatStands (opening_machine sizes.capacity) view
    seats zero view at =
        subst (SeatStands (opening_machine sizes.capacity)) (some-injective (all_passes sizes) view at)
        (refl, refl, (λ number low. refl))
    seats (suc id) view at = absurd (some-ne-none view (sym at))
