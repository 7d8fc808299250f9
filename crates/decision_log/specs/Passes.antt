-- The log machine whose sessions are the passes of a log.
use Rattle.std.specs.Prelude.{◌≡◌, ℕ, List}
use mathlib.Core.Option.{some}
use Rattle.xa_words.specs.Entry.{Entry}
use Rattle.decision_log.specs.{declared.view.{PassView.PassView, SeatView.SeatView}, Machine.{Machine, IsState}}
use Rattle.decision_log.specs.{declared.view.SeatView.TheVariants.{Empty, Single, Pair, Unissued}, Reached.IsReached}
use lib.ListN.{get_elem?}

-- the pass knows what the session of its number knows
abbrev pub KnownTo : Machine → PassView → Type 0
KnownTo machine pass_view =
    machine.knows pass_view.known.number ≡ record { seen = pass_view.known.seen; mine = pass_view.known.mine }

-- each issued pass at the seat knows what the session of its number knows; of passes not yet issued nothing is asked
abbrev pub SeatKnownTo : Machine → SeatView → Type 0
SeatKnownTo machine Empty = Unit {0}
SeatKnownTo machine (Single pass_view) = KnownTo machine pass_view
SeatKnownTo machine (Pair first second) = KnownTo machine first × KnownTo machine second
SeatKnownTo machine (Unissued pass_view) = Unit {0}

-- a state of the machine that has this history and these passes, to which looks and appends of sessions 1 to a number
-- lead
pub record HasPasses (sessions capacity : ℕ) (log : List Entry) (views : List SeatView)
    (machine : Machine) : Type 0 where
  pub state : IsState machine
  pub reached : IsReached sessions machine
  pub capacity_is : machine.capacity ≡ capacity
  pub history : machine.history ≡ log
  pub passes : (id : ℕ) (view : SeatView) → get_elem? views id ≡ some view → SeatKnownTo machine view
