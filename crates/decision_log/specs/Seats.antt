-- The seats at the table of a log, whatever its words are.
--     pass_view, second  the same of a seat's value
--     seated, seated_two, seated_rest, spent     a seat that knows one pass, two, the rest, or none
--     newcomer_view, following      a pass that wasn't given out, and the one after it
--     left_of, right_of    how a seat is split: two passes into one and one, one pass into it and nothing, the rest
--                          into the next pass and those after it
--     Placed          a pass has a number that was given out, and is at its number's seat
--     Fits            what a seat knows is true
--     Seats           what all seats know is true
use Rattle.std.specs.Prelude.{◌≡◌, ◌≢◌, ◌<◌, ◌≤◌, ◌+◌, ℕ, List, [], length}
use mathlib.Core.Option.{some}
use Rattle.atomic_table.specs.{Table.Me, declared.shared.Seat.Seat}
use Rattle.xa_words.specs.Entry.{Entry}
use Rattle.decision_log.specs.{History.entries_of, Known.{newcomer, AllOf}, declared.view.Turn.TheVariants.Without}
use Rattle.decision_log.specs.declared.{view.{PassView.PassView, SeatView.SeatView}, sizes.Sizes.Sizes}
use lib.ListN.{get_elem?}

-- the pass of a number before it is given out, by the log's sizes
abbrev pub newcomer_view : ℕ → ℕ → ℕ → PassView
newcomer_view sessions capacity number =
    record { known = newcomer number; sessions = sessions; capacity = capacity; draft = []; turn = Without }

-- the pass of the next number, not yet given out
abbrev pub following : PassView → PassView
following pass_view = newcomer_view pass_view.sessions pass_view.capacity (pass_view.known.number + 1)

-- a seat that knows all passes: none was given out
abbrev pub all_passes : Sizes → SeatView
all_passes sizes = SeatView.Unissued (newcomer_view sizes.sessions sizes.capacity 1)

-- the pass that a seat knows: the first of two, the next of those not yet issued, a made-up one if it knows none
abbrev pub pass_view_of : SeatView → PassView
pass_view_of SeatView.Empty = newcomer_view 0 0 0
pass_view_of (SeatView.Single pass_view) = pass_view
pass_view_of (SeatView.Pair first second) = first
pass_view_of (SeatView.Unissued pass_view) = pass_view

-- the second of a seat's two passes; it says nothing if the seat doesn't know two
abbrev pub second_of : SeatView → PassView
second_of SeatView.Empty = newcomer_view 0 0 0
second_of (SeatView.Single pass_view) = pass_view
second_of (SeatView.Pair first second) = second
second_of (SeatView.Unissued pass_view) = pass_view

-- the pass that a seat's value knows, as `pass_view_of` says
abbrev pub pass_view : Seat Entry SeatView → PassView
pass_view seat = pass_view_of seat.me.0

-- the second of the two passes that a seat's value knows
abbrev pub second : Seat Entry SeatView → PassView
second seat = second_of seat.me.0

-- a seat that knows one pass, and holds no slot
abbrev pub seated : PassView → Me Entry SeatView
seated pass_view = (SeatView.Single pass_view, [])

-- a seat that knows two passes, and holds no slot
abbrev pub seated_two : PassView → PassView → Me Entry SeatView
seated_two first second = (SeatView.Pair first second, [])

-- a seat that knows the passes that weren't given out, from this one on
abbrev pub seated_rest : PassView → Me Entry SeatView
seated_rest pass_view = (SeatView.Unissued pass_view, [])

-- a seat that knows no pass
abbrev pub spent : Me Entry SeatView
spent = (SeatView.Empty, [])

-- what a seat keeps when it is split: its one pass, the first of two, or the passes not yet issued after the next
abbrev pub left_of : SeatView → SeatView
left_of SeatView.Empty = SeatView.Empty
left_of (SeatView.Single pass_view) = SeatView.Single pass_view
left_of (SeatView.Pair first second) = SeatView.Single first
left_of (SeatView.Unissued pass_view) = SeatView.Unissued (following pass_view)

-- what the new seat gets when a seat is split: nothing of one pass, the second of two, or the next pass to be issued
abbrev pub right_of : SeatView → SeatView
right_of SeatView.Empty = SeatView.Empty
right_of (SeatView.Single pass_view) = SeatView.Empty
right_of (SeatView.Pair first second) = SeatView.Single second
right_of (SeatView.Unissued pass_view) = SeatView.Single pass_view

-- what a seat with one pass knows after it has taken in another such seat: both passes; no other seats are joined, and
-- of those this is `Empty`
abbrev pub both_of : SeatView → SeatView → SeatView
both_of (SeatView.Single first) (SeatView.Single second) = SeatView.Pair first second
both_of first second = SeatView.Empty

-- a pass between two calls, of this number and with `front` entries seen: it has no turn, its number is one of the
-- log's, it has seen no more entries than the log can have, each is of one of the log's sessions, and those of its
-- number are its own
pub record IsPass (number front : ℕ) (pass_view : PassView) : Type 0 where
  pub numbered : number ≡ pass_view.known.number
  pub measured : front ≡ length pass_view.known.seen
  pub idle : pass_view.turn ≡ Without
  pub first : 1 ≤ pass_view.known.number
  pub last : pass_view.known.number ≤ pass_view.sessions
  pub within : length pass_view.known.seen ≤ pass_view.capacity
  pub among : AllOf pass_view.sessions pass_view.known.seen
  pub part : entries_of pass_view.known.number pass_view.known.seen ≡ pass_view.known.mine

module _ (fact : PassView → Type 0) (home : ℕ → ℕ) (next : ℕ) where
  -- the pass's number was given out (it is below `next`), its seat, the `home` of that number, is `id`, and the fact
  -- holds
  pub record Placed (id : ℕ) (pass_view : PassView) : Type 0 where
    pub low : 0 < pass_view.known.number
    pub high : pass_view.known.number < next
    pub home_is : home pass_view.known.number ≡ id
    pub fact_is : fact pass_view

  -- what the seat `id` knows is true: each pass there is `Placed`, and two have different numbers; the passes not yet
  -- issued begin with the number `next`, the fact holds of the first of them, and their seat is the home of 0
  abbrev pub Fits : ℕ → SeatView → Type 0
  Fits id SeatView.Empty = Unit {0}
  Fits id (SeatView.Single pass_view) = Placed id pass_view
  Fits id (SeatView.Pair first second) = Placed id first × Placed id second × (first.known.number ≢ second.known.number)
  Fits id (SeatView.Unissued pass_view) = (home 0 ≡ id) × (pass_view.known.number ≡ next) × fact pass_view

  -- what each seat knows is true
  abbrev pub Seats : List SeatView → Type 0
  Seats views = (id : ℕ) (view : SeatView) → get_elem? views id ≡ some view → Fits id view
