-- A race over a store without an end.
use Rattle.std.specs.Prelude.{◌≡◌, ◌<◌, ◌≤◌, ◌++◌, [], ◌∷◌, ℕ, Bool, true, false, Option, Some, None, Result, Ok, Err}
use Rattle.std.specs.{Prelude.{List, length, map, drop, slice_get}, List.{All, AllZip}}
use Rattle.xa_xid.specs.declared.statement.Statement.{Statement}
use Rattle.xa_words.specs.Entry.{Entry}
use Rattle.xa_server.specs.State.{no_state}
use Rattle.decision_log.specs.{declared.known.Known.Known, History.{Begins, entries_of}, Known.{AllOf, LogIdentity}}
use Rattle.xa_session.specs.declared.answer.Answer.{Answer}
use Rattle.chain_log.specs.RingPass.{log_of, known_of}
use Rattle.xa_endless.specs.{Answers.{IsCaused, HasFailed}, declared.session.EndlessSession.EndlessSession}
use Rattle.xa_endless.specs.declared.fault.EndlessFault.TheVariants.{NoMemory as NoMoreMemory}
use Rattle.xa_store.specs.{Gathered.{IsTakenIn, AddsNothing, last_known}, declared.race_fault.RaceFault.RaceFault}
use Rattle.xa_store.specs.{Legal.{IsLegal, LetsIn, IsLetIn, IsTurnedAway, IsReachedInRun}, Spread.HasAnswered}
use Rattle.xa_races.specs.declared.{added.Added.Added, said.Said.Said, racer.Raced.Raced, long_run.LongRun.LongRun}
use Rattle.xa_races.specs.declared.long_outcome.LongOutcome.{LongOutcome}

-- what the pass of a session knows
abbrev pub known_in : EndlessSession → Known
known_in session = known_of session.member.pass

-- the entry is at its place in the history, and is this session's
pub record IsAddedBy (history : List Entry) (session : ℕ) (added : Added) : Type 0 where
  pub at : slice_get history added.place ≡ Some added.entry
  pub own : added.entry.session ≡ session

-- the gate can have let the session go on, and its statement has failed with NoMemory, as `HasFailed` says. `place` is
-- the line, counted from 0 in the session's own statements
pub record WantsMemory (gate : ℕ → ℕ → Bool → Type 0) (place : ℕ) (statement : Statement)
    (old new : EndlessSession) : Type 0 where
  pub opened : gate (known_in old).number place true
  pub failed : HasFailed old.store.value.log statement NoMoreMemory new.member.replica old.member.pass new.member.pass

-- at GateShut the gate can have stopped the run, the session has done nothing, and the fault names it and the statement
-- that isn't answered; at NoMemory the statement has failed as `WantsMemory` says. No history is full, and no statement
-- needs a thread. `place` is the line, counted from 0 in the session's own statements
abbrev pub HaltsAt : (ℕ → ℕ → Bool → Type 0) → ℕ → Statement → RaceFault → EndlessSession → EndlessSession → Type 0
HaltsAt gate place statement (RaceFault.GateShut session line) old new =
    (session ≡ (known_in old).number) × (line ≡ place) × IsTurnedAway gate session line (known_in old) (known_in new)
HaltsAt gate place statement (RaceFault.Full session line) old new = ⊥
HaltsAt gate place statement RaceFault.NoMemory old new = WantsMemory gate place statement old new
HaltsAt gate place statement RaceFault.ThreadRefused old new = ⊥

-- the statement was answered, or the run stops at it. `place` is the line, counted from 0 in the session's own
-- statements
abbrev pub EndsOne : (ℕ → ℕ → Bool → Type 0) → ℕ → Statement → Result Answer RaceFault → EndlessSession → EndlessSession
    → Type 0
EndsOne gate place statement (Ok answer) old new =
    IsLetIn gate no_state statement place answer (known_in old) (known_in new)
EndsOne gate place statement (Err fault) old new = HaltsAt gate place statement fault old new

-- the statement was answered as `IsLetIn` says, and its answer is noted. One entry is noted exactly if the session has
-- seen more than what comes before the answer: its own, at its place in what it has seen. The parameter `place` is the
-- line, counted from 0 in the session's own statements
pub record SaysOne (gate : ℕ → ℕ → Bool → Type 0) (place : ℕ) (statement : Statement) (old new : EndlessSession)
    (before after : Said) : Type 0 where
  pub answer : Answer
  pub let_in : IsLetIn gate no_state statement place answer (known_in old) (known_in new)
  pub answers : after.answers.items ≡ before.answers.items ++ answer ∷ []
  pub added : List Added
  pub more : after.added.items ≡ before.added.items ++ added
  pub few : length added ≤ 1
  pub noted : answer.place < length (known_in new).seen → 0 < length added
  pub none : length (known_in new).seen ≤ answer.place → added ≡ []
  pub own : All (IsAddedBy (known_in new).seen (known_in old).number) added

-- the statements before one were answered, the gate can have let the session go on there, and for that statement
-- NoMemory has its cause, as `IsCaused` says
pub record RunsOut (gate : ℕ → ℕ → Bool → Type 0) (before : Known) (statements : List Statement)
    (session : EndlessSession) : Type 0 where
  pub line : ℕ
  pub reached : IsReachedInRun no_state (known_in session).seen before statements before.number line
  pub statement : Statement
  pub given : slice_get statements line ≡ Some statement
  pub opened : gate before.number line true
  pub cause : IsCaused session.store.value.log statement NoMoreMemory session.member.replica session.member.pass

-- all that the session has seen explains the answers to its statements before the one at which it stops, and has
-- nothing more of the session. For `GateShut` the fault names that statement, and the gate can stop the session there;
-- for `NoMemory` see `RunsOut`. There is no other fault
abbrev pub StopsAt : (ℕ → ℕ → Bool → Type 0) → Known → List Statement → RaceFault → EndlessSession → Type 0
StopsAt gate before statements (RaceFault.GateShut session line) after =
    IsReachedInRun no_state (known_in after).seen before statements session line × gate session line false
StopsAt gate before statements (RaceFault.Full session line) after = ⊥
StopsAt gate before statements RaceFault.NoMemory after = RunsOut gate before statements after
StopsAt gate before statements RaceFault.ThreadRefused after = ⊥

-- without a fault, all statements were answered; else the run stopped with the fault
abbrev pub EndsAt : (ℕ → ℕ → Bool → Type 0) → Known → List Statement → List Answer → Option RaceFault → EndlessSession
    → Type 0
EndsAt gate before statements answers None after = HasAnswered gate no_state before (known_in after) statements answers
EndsAt gate before statements answers (Some fault) after = StopsAt gate before statements fault after

-- the session ended its run, or stopped with the fault; it has added nothing since. The entries that are noted are its
-- own, each at its place in what it had seen then
pub record HasRaced (gate : ℕ → ℕ → Bool → Type 0) (old : EndlessSession) (statements : List Statement)
    (raced : Raced) : Type 0 where
  pub store : raced.session.store.value ≡ old.store.value
  pub mid : EndlessSession
  pub ends : EndsAt gate (known_in old) statements raced.said.answers.items raced.fault mid
  pub rests : AddsNothing (known_in mid) (known_in raced.session)
  pub own : All (IsAddedBy (known_in mid).seen (known_in old).number) raced.said.added.items

-- the sessions are of one log
pub record AreOfOne (sessions : List EndlessSession) : Type 0 where
  pub identity : LogIdentity
  pub belong : All (λ session. log_of session.member.pass ≡ identity) sessions

-- the session is of the same store, has added nothing, and may have seen more
pub record Keeps (old new : EndlessSession) : Type 0 where
  pub store : new.store.value ≡ old.store.value
  pub adds_nothing : AddsNothing (known_in old) (known_in new)

-- the session has seen the history, and its own entries there are those that it knows
pub record HoldsAll (history : List Entry) (known : Known) : Type 0 where
  pub seen : Begins history known.seen
  pub mine : entries_of known.number history ≡ known.mine

-- the entry is at its place in the history, and is of a session up to a number
pub record IsListed (history : List Entry) (limit : ℕ) (added : Added) : Type 0 where
  pub at : slice_get history added.place ≡ Some added.entry
  pub some : 1 ≤ added.entry.session
  pub few : added.entry.session ≤ limit

-- the history that the last of some sessions has seen
abbrev pub seen_by_last : List EndlessSession → List Entry
seen_by_last sessions = (last_known (map known_in sessions)).seen

-- after their threads have ended, the sessions have met, and the answers are those that were noted. If each entry that
-- was noted is at its place in what the last session has seen, and of a session up to `limit`, the outcome's history is
-- that from the place `from` on, and all its entries are of such sessions
pub record Settles (from : ℕ) (raced : List Raced) (outcome : LongOutcome) : Type 0 where
  pub taken : All (λ one. IsTakenIn (seen_by_last outcome.sessions.items) (known_in one.session)) raced
  pub keeps : AllZip (λ one session. Keeps one.session session) raced outcome.sessions.items
  pub holds : All (λ session. HoldsAll (seen_by_last outcome.sessions.items) (known_in session)) outcome.sessions.items
  pub answers : outcome.answers.items ≡ map (λ one. one.said.answers) raced
  pub history : (limit : ℕ)
      → All (λ one. All (IsListed (seen_by_last outcome.sessions.items) limit) one.said.added.items) raced
      → (outcome.history.items ≡ drop from (seen_by_last outcome.sessions.items)) × AllOf limit outcome.history.items

-- one history, from the store's first entry on, explains all answers. From the place `from` on it is what the outcome
-- tells; its entries there are of sessions up to the greatest that has a run. All sessions have seen it, and the gate
-- can let in each statement
pub record IsLongOutcome (gate : ℕ → ℕ → Bool → Type 0) (from : ℕ) (runs : List LongRun)
    (outcome : LongOutcome) : Type 0 where
  pub whole : List Entry
  pub whole_is : whole ≡ seen_by_last outcome.sessions.items
  pub legal : AllZip (λ run answers. IsLegal no_state whole (known_in run.session) run.lines.items answers) runs
      (map (λ answers. answers.items) outcome.answers.items)
  pub history : outcome.history.items ≡ drop from whole
  pub own : (count : ℕ) → All (λ run. (known_in run.session).number ≤ count) runs → AllOf count outcome.history.items
  pub sessions : AllZip (λ run session. (session.store.value ≡ run.session.store.value)
      × ((known_in session).number ≡ (known_in run.session).number)) runs
      outcome.sessions.items
  pub holds : All (λ session. HoldsAll whole (known_in session)) outcome.sessions.items
  pub opened : All (λ run. LetsIn gate (known_in run.session).number (length run.lines.items)) runs

-- one of the runs stopped with this fault
pub record IsBlamed (gate : ℕ → ℕ → Bool → Type 0) (runs : List LongRun) (fault : RaceFault) : Type 0 where
  pub index : ℕ
  pub run : LongRun
  pub found : slice_get runs index ≡ Some run
  pub session : EndlessSession
  pub stops : StopsAt gate (known_in run.session) run.lines.items fault session

-- `GateShut` is the fault of one of the runs. No history is full, memory may be missing anywhere, and a thread is
-- refused only if there is a run
abbrev pub BlamesLong : (ℕ → ℕ → Bool → Type 0) → List LongRun → RaceFault → Type 0
BlamesLong gate runs (RaceFault.GateShut session line) = IsBlamed gate runs (RaceFault.GateShut session line)
BlamesLong gate runs (RaceFault.Full session line) = ⊥
BlamesLong gate runs RaceFault.NoMemory = Unit {0}
BlamesLong gate runs RaceFault.ThreadRefused = 0 < length runs
