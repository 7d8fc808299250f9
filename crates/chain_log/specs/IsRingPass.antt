-- A pass of a ring between two calls.
-- Here `h` is a pass's view: what a seat of the log knows of that pass.
use Rattle.std.specs.Prelude.{◌≡◌, ◌≤◌, ℕ, length}
use Rattle.decision_log.specs.{declared.view.PassView.PassView, History.entries_of, Known.AllOf}

-- the view is of a pass with this number, one of the log's columns, and with `front` entries seen, no more than the log
-- can have; each is of one of its columns, and those of the pass's number are its own
pub record IsRingPass (number front : ℕ) (h : PassView) : Type 0 where
  pub numbered : number ≡ h.known.number
  pub measured : front ≡ length h.known.seen
  pub first : 1 ≤ h.known.number
  pub last : h.known.number ≤ h.sessions
  pub within : length h.known.seen ≤ h.capacity
  pub among : AllOf h.sessions h.known.seen
  pub part : entries_of h.known.number h.known.seen ≡ h.known.mine
