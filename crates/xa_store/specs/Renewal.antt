-- What a store begins with after it is renewed.
use Rattle.std.specs.{Prelude.{◌≡◌, ◌<◌, ℕ, zero, suc, List, length, map}, List.All}
use Rattle.xa_words.specs.Entry.{Entry}
use Rattle.xa_xid.specs.declared.statement.Statement.TheVariants.{Disconnect}
use Rattle.xa_server.specs.{State.State, Step.after}
use Rattle.xa_session.specs.Replay.{state_after}
use Rattle.decision_log.specs.Known.{LogIdentity}
use Rattle.xa_store.specs.{Passes.{Pass, log_of, known_of}, Gathered.{IsTakenIn, last_known}}

-- the state after sessions 1 to this number have disconnected, in order
abbrev pub disconnected : ℕ → State → State
disconnected zero state = state
disconnected (suc sessions) state = after (disconnected sessions state) (suc sessions) Disconnect

-- the old base after the history, and then after sessions 1 to this number have disconnected: PREPARED branches stay,
-- all others are rolled back
abbrev pub renewed : State → List Entry → ℕ → State
renewed base history sessions = disconnected sessions (state_after base history)

-- passes of this log, at least one, of which the last has seen what each has, and has just the entries of each one's
-- number that this one knows as its own
pub record AreGathered (identity : LogIdentity) (passes : List Pass) : Type 0 where
  pub some : 0 < length passes
  pub belongs : All (λ pass. log_of pass ≡ identity) passes
  pub whole : All (λ pass. IsTakenIn (last_known (map known_of passes)).seen (known_of pass)) passes
