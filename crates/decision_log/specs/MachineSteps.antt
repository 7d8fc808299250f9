-- What a step at the seats of a log is, of the log machine: nothing, or one event.
use Rattle.std.specs.Prelude.{◌≡◌, ◌≢◌, ◌⊎◌, ◌≤◌, ℕ, List, [], ◌∷◌, ◌++◌, set}
use mathlib.Core.Option.{some}
use Rattle.xa_words.specs.Entry.{Entry}
use Rattle.decision_log.specs.declared.view.{PassView.PassView, SeatView.SeatView}
use Rattle.decision_log.specs.{Machine.{Machine, Event, Happens, IsState}, Passes.KnownTo, Seats.following}
use lib.ListN.{get_elem?}

-- each issued pass at the seat knows what the session of its number knows; a pass that isn't issued has seen nothing,
-- and the sessions of its number and of higher ones know nothing
abbrev pub SeatStands : Machine → SeatView → Type 0
SeatStands machine SeatView.Empty = Unit {0}
SeatStands machine (SeatView.Single pass_view) = KnownTo machine pass_view
SeatStands machine (SeatView.Pair first second) = KnownTo machine first × KnownTo machine second
SeatStands machine (SeatView.Unissued pass_view) =
    (pass_view.known.seen ≡ []) × (pass_view.known.mine ≡ [])
    × ((number : ℕ) → pass_view.known.number ≤ number → machine.knows number ≡ record { seen = []; mine = [] })

-- a state of the machine with this history and capacity, in which the sessions know what the seats know
pub record StandsFor (capacity : ℕ) (log : List Entry) (views : List SeatView) (machine : Machine) : Type 0 where
  pub state : IsState machine
  pub capacity_is : machine.capacity ≡ capacity
  pub history : machine.history ≡ log
  pub seats : (id : ℕ) (view : SeatView) → get_elem? views id ≡ some view → SeatStands machine view

-- nothing, or one event
abbrev pub IsStep : Machine → Machine → Type 0
IsStep old new = (new ≡ old) ⊎ ((event : Event) × Happens event old new)

-- the history and what the pass knows of it are as before
pub record LearnsNothing (log log' : List Entry) (old new : PassView) : Type 0 where
  pub same : log' ≡ log
  pub seen : new.known.seen ≡ old.known.seen
  pub mine : new.known.mine ≡ old.known.mine

-- the history is as before, and the pass has seen all of it
pub record LearnsAll (log log' : List Entry) (old new : PassView) : Type 0 where
  pub same : log' ≡ log
  pub seen : new.known.seen ≡ log
  pub mine : new.known.mine ≡ old.known.mine

-- the pass, which had seen the whole history, has appended an entry of its number
pub record LearnsOwn (log log' : List Entry) (old new : PassView) : Type 0 where
  pub entry : Entry
  pub own : entry.session ≡ old.known.number
  pub whole : old.known.seen ≡ log
  pub longer : log' ≡ log ++ entry ∷ []
  pub seen : new.known.seen ≡ old.known.seen ++ entry ∷ []
  pub mine : new.known.mine ≡ old.known.mine ++ entry ∷ []

-- one of the three, and the pass keeps its number
abbrev pub Learns : List Entry → List Entry → PassView → PassView → Type 0
Learns log log' old new =
    (new.known.number ≡ old.known.number)
    × (LearnsNothing log log' old new ⊎ (LearnsAll log log' old new ⊎ LearnsOwn log log' old new))

-- at a seat with one pass that pass changes, at a seat with two the second
abbrev pub Changes : PassView → PassView → SeatView → SeatView → Type 0
Changes old new view view' =
    ((view ≡ SeatView.Single old) × (view' ≡ SeatView.Single new))
    ⊎ ((first : PassView) × (view ≡ SeatView.Pair first old) × (view' ≡ SeatView.Pair first new))

-- how seats are split and joined, and passes issued, by which no pass changes
pub data Moves (views : List SeatView) : List SeatView → Type 0 where
  split_empty : (id : ℕ) (pass : PassView) → get_elem? views id ≡ some (SeatView.Single pass)
      → Moves views (set views id (SeatView.Single pass) ++ SeatView.Empty ∷ [])
  split : (id : ℕ) (first second : PassView) → get_elem? views id ≡ some (SeatView.Pair first second)
      → Moves views (set views id (SeatView.Single first) ++ SeatView.Single second ∷ [])
  join : (id other : ℕ) (first second : PassView) → get_elem? views id ≡ some (SeatView.Single first) → other ≢ id
      → get_elem? views other ≡ some (SeatView.Single second)
      → Moves views (set (set views id (SeatView.Pair first second)) other SeatView.Empty)
  issue : (id : ℕ) (pass : PassView) → get_elem? views id ≡ some (SeatView.Unissued pass)
      → Moves views (set views id (SeatView.Unissued (following pass)) ++ SeatView.Single pass ∷ [])

-- each machine of the history and seats before goes on to one of those after, by nothing or one event
abbrev pub StepsTo : ℕ → List Entry → List SeatView → List Entry → List SeatView → Type 0
StepsTo capacity log views log' views' =
    (machine : Machine) → StandsFor capacity log views machine
    → (next : Machine) × IsStep machine next × StandsFor capacity log' views' next
