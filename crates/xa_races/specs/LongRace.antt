-- A race of lists of statements over a new store without an end.
--     IsNewRun, AreNewRuns    a session that has seen nothing, with its statements;  those of consecutive sessions
use Rattle.std.specs.{Prelude.{◌≡◌, ◌<◌, ◌+◌, ℕ, Bool, Some, List, [], ◌∷◌, length, map, slice_get}, List.All}
use Rattle.xa_xid.specs.declared.statement.Statement.{Statement}
use Rattle.xa_words.specs.Entry.{Entry}
use Rattle.xa_server.specs.State.{State, no_state}
use Rattle.decision_log.specs.Known.{AllOf, newcomer}
use Rattle.xa_session.specs.declared.answer.Answer.{Answer}
use Rattle.xa_endless.specs.declared.store.EndlessStore.{EndlessStore}
use Rattle.xa_store.specs.{Legal.{IsLegal, LetsIn, IsShutAt}, declared.race_fault.RaceFault.RaceFault}
use Rattle.xa_races.specs.{Long.known_in, declared.{long_run.LongRun.LongRun, long_outcome.LongOutcome.LongOutcome}}

-- the run has these statements, and is that of the store's session of this number, which has seen and added nothing
pub record IsNewRun (store : EndlessStore) (number : ℕ) (statements : List Statement) (run : LongRun) : Type 0 where
  pub store_is : run.session.store.value ≡ store
  pub number_is : (known_in run.session).number ≡ number
  pub seen : (known_in run.session).seen ≡ []
  pub mine : (known_in run.session).mine ≡ []
  pub lines : run.lines.items ≡ statements

-- runs of consecutive sessions that haven't begun; the first session has this number
abbrev pub AreNewRuns : EndlessStore → ℕ → List (List Statement) → List LongRun → Type 0
AreNewRuns store session [] [] = Unit {0}
AreNewRuns store session [] (run ∷ runs) = ⊥
AreNewRuns store session (statements ∷ lists) [] = ⊥
AreNewRuns store session (statements ∷ lists) (run ∷ runs) =
    IsNewRun store session statements run × AreNewRuns store (session + 1) lists runs

-- all statements of the sessions from this number on were answered, legally in the history
abbrev pub AllAnswered : State → List Entry → ℕ → List (List Statement) → List (List Answer) → Type 0
AllAnswered base history session [] [] = Unit {0}
AllAnswered base history session [] (answers ∷ others) = ⊥
AllAnswered base history session (statements ∷ lists) [] = ⊥
AllAnswered base history session (statements ∷ lists) (answers ∷ others) =
    IsLegal base history (newcomer session) statements answers × AllAnswered base history (session + 1) lists others

-- the gate can have let in each statement of the sessions from this number on
abbrev pub AllLetIn : (ℕ → ℕ → Bool → Type 0) → ℕ → List (List Statement) → Type 0
AllLetIn gate session [] = Unit {0}
AllLetIn gate session (statements ∷ lists) = LetsIn gate session (length statements) × AllLetIn gate (session + 1) lists

-- one history, from the first entry of a store with so many slots on, explains all answers, and has entries of these
-- sessions alone. All sessions are of that store, and the gate can let in each statement
pub record IsLongRace (gate : ℕ → ℕ → Bool → Type 0) (rows : ℕ) (lists : List (List Statement))
    (outcome : LongOutcome) : Type 0 where
  pub store : EndlessStore
  pub rows_are : store.log.rows ≡ rows
  pub sessions : All (λ session. session.store.value ≡ store) outcome.sessions.items
  pub legal : AllAnswered no_state outcome.history.items 1 lists (map (λ answers. answers.items) outcome.answers.items)
  pub own : AllOf (length lists) outcome.history.items
  pub opened : AllLetIn gate 1 lists

-- after a session's statements before the one at `line` were answered, the gate can stop the session there
pub record IsShutIn (gate : ℕ → ℕ → Bool → Type 0) (lists : List (List Statement)) (session line : ℕ) : Type 0 where
  pub index : ℕ
  pub statements : List Statement
  pub found : slice_get lists index ≡ Some statements
  pub shut : IsShutAt gate no_state (newcomer (index + 1)) statements session line

-- why such a race fails. GateShut: the gate can stop one of the sessions. Of NoMemory nothing is said; ThreadRefused
-- comes only if there is a list; no history is full
abbrev pub BlamesRace : (ℕ → ℕ → Bool → Type 0) → List (List Statement) → RaceFault → Type 0
BlamesRace gate lists (RaceFault.GateShut session line) = IsShutIn gate lists session line
BlamesRace gate lists (RaceFault.Full session line) = ⊥
BlamesRace gate lists RaceFault.NoMemory = Unit {0}
BlamesRace gate lists RaceFault.ThreadRefused = 0 < length lists
