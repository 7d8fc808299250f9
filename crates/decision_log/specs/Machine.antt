-- The log as a machine: one history, which grows at its end, and what each session knows of it.
--     Looks, Appends  what a look does to the machine, and what an append does
use Rattle.std.specs.Prelude.{◌≡◌, ◌≢◌, ◌<◌, ◌≤◌, ℕ, List, [], ◌∷◌, ◌++◌, length}
use Rattle.xa_words.specs.Entry.{Entry}
use Rattle.decision_log.specs.History.{Begins, entries_of}

-- a prefix of the history, and the history's entries of one's own number
pub record Seen : Type 0 where
  pub seen : List Entry
  pub mine : List Entry

-- the history, how many entries it may have, and what the session of each number knows
pub record Machine : Type 0 where
  pub history : List Entry
  pub capacity : ℕ
  pub knows : ℕ → Seen

-- what a session can do: look, or append an entry
pub data Event : Type 0 where
  Look : ℕ → Event
  Add : ℕ → Entry → Event

-- the session learns the whole history, and nothing else changes
pub record Looks (session : ℕ) (old new : Machine) : Type 0 where
  pub history : new.history ≡ old.history
  pub capacity : new.capacity ≡ old.capacity
  pub seen : (new.knows session).seen ≡ old.history
  pub mine : (new.knows session).mine ≡ (old.knows session).mine
  pub others : (other : ℕ) → other ≢ session → new.knows other ≡ old.knows other

-- the session, which has seen the whole history, appends an entry of its own to a history that isn't full
pub record Appends (session : ℕ) (entry : Entry) (old new : Machine) : Type 0 where
  pub own : entry.session ≡ session
  pub whole : (old.knows session).seen ≡ old.history
  pub room : length old.history < old.capacity
  pub history : new.history ≡ old.history ++ entry ∷ []
  pub capacity : new.capacity ≡ old.capacity
  pub seen : (new.knows session).seen ≡ (old.knows session).seen ++ entry ∷ []
  pub mine : (new.knows session).mine ≡ (old.knows session).mine ++ entry ∷ []
  pub others : (other : ℕ) → other ≢ session → new.knows other ≡ old.knows other

-- what one event does to the machine
abbrev pub Happens : Event → Machine → Machine → Type 0
Happens (Look session) old new = Looks session old new
Happens (Add session entry) old new = Appends session entry old new

-- what events, one after another, do to the machine
abbrev pub Runs : List Event → Machine → Machine → Type 0
Runs [] old new = new ≡ old
Runs (event ∷ events) old new = (next : Machine) × Happens event old next × Runs events next new

-- the machine before the first event: no entry, and nothing known
abbrev pub opening_machine : ℕ → Machine
opening_machine capacity =
    record { history = []; capacity = capacity; knows = λ session. record { seen = []; mine = [] } }

-- the history isn't longer than the capacity; each session has seen a prefix of it, and its own entries are those of
-- its number, in that prefix and in the whole history
pub record IsState (machine : Machine) : Type 0 where
  pub room : length machine.history ≤ machine.capacity
  pub seen : (session : ℕ) → Begins (machine.knows session).seen machine.history
  pub mine : (session : ℕ) → entries_of session machine.history ≡ (machine.knows session).mine
  pub part : (session : ℕ) → entries_of session (machine.knows session).seen ≡ (machine.knows session).mine
