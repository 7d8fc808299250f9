-- Machines that are reached from the start by looks and appends.
use Rattle.std.specs.Prelude.{◌≡◌, ◌≤◌, ℕ, List, [], ◌∷◌}
use Rattle.decision_log.specs.Machine.{Machine, Event, Look, Add, Runs, opening_machine}

-- the session that looks or appends
abbrev pub session_of : Event → ℕ
session_of (Look session) = session
session_of (Add session entry) = session

-- each event is of a session from 1 to this number
abbrev pub EventsOf : ℕ → List Event → Type 0
EventsOf sessions [] = Unit {0}
EventsOf sessions (event ∷ events) = (1 ≤ session_of event) × (session_of event ≤ sessions) × EventsOf sessions events

-- events of sessions 1 to this number lead from the start to a machine with the same history and capacity, in which
-- these sessions know the same; what others know isn't asked
pub record IsReached (sessions : ℕ) (machine : Machine) : Type 0 where
  pub events : List Event
  pub own : EventsOf sessions events
  pub reached : Machine
  pub runs : Runs events (opening_machine machine.capacity) reached
  pub history : reached.history ≡ machine.history
  pub capacity : reached.capacity ≡ machine.capacity
  pub seen : (session : ℕ) → 1 ≤ session → session ≤ sessions
      → (reached.knows session).seen ≡ (machine.knows session).seen
  pub mine : (session : ℕ) → 1 ≤ session → session ≤ sessions
      → (reached.knows session).mine ≡ (machine.knows session).mine
