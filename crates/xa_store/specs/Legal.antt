-- What makes the answers of sessions that ran at the same time legal: one history explains them all.
--     next_place      the first place at which the next answer can be
--     Answered        statements were answered in order, each after a prefix of the history
--     entered         those of them that are logged, as entries
use Rattle.std.specs.Prelude.{◌≡◌, ◌<◌, ◌≤◌, ◌+◌, ℕ, Bool, true, false, cond, List, [], ◌∷◌, ◌++◌, length, map, take}
use Rattle.std.specs.{Prelude.{slice_get, Some, Result, Ok, Err}, List.AllZip}
use Rattle.xa_xid.specs.declared.statement.Statement.{Statement}
use Rattle.xa_words.specs.Entry.{Entry}
use Rattle.xa_server.specs.{State.State, Step.enters}
use Rattle.decision_log.specs.{declared.known.Known.Known, History.{Begins, entries_of}}
use Rattle.xa_session.specs.{Replay.{state_after, state_at}, Answer.{entry_of, AnswersAt, IsAnswered, IsFull}}
use Rattle.xa_session.specs.declared.{answer.Answer.Answer, fault.Fault.Fault}
use Rattle.xa_store.specs.{Passes.{Pass, log_of, known_of}, Gathered.{IsTakenIn, last_known}, declared.run.Run.Run}
use Rattle.xa_store.specs.declared.{outcome.Outcome.Outcome, race_fault.RaceFault.RaceFault}
use Rattle.xa_store.specs.declared.race_fault.RaceFault.TheVariants.{GateShut, Full, NoMemory, ThreadRefused}

module _ (base : State) (history : List Entry) (session : ℕ) where
  -- the first place at which the session's next answer can be: behind its entry if the statement is logged at the place
  -- of this answer, else that place
  abbrev pub next_place : Statement → Answer → ℕ
  next_place statement answer =
      cond (enters (state_at base history answer.place) session statement) (answer.place + 1) answer.place

  -- one answer for each statement, in order, each as `AnswersAt` says; the first answer's place is `from` or later, and
  -- each later one's isn't before the `next_place` after the answer before it
  abbrev pub Answered : ℕ → List Statement → List Answer → Type 0
  Answered from [] [] = Unit {0}
  Answered from [] (answer ∷ answers) = ⊥
  Answered from (statement ∷ statements) [] = ⊥
  Answered from (statement ∷ statements) (answer ∷ answers) =
      (from ≤ answer.place) × AnswersAt base history session statement answer.place answer.reply
      × Answered (next_place statement answer) statements answers

  -- the statements that are logged at the places of their answers
  abbrev pub entered : List Statement → List Answer → List Entry
  entered [] answers = []
  entered (statement ∷ statements) [] = []
  entered (statement ∷ statements) (answer ∷ answers) =
      cond (enters (state_at base history answer.place) session statement)
      (entry_of session statement ∷ entered statements answers)
      (entered statements answers)

-- the history begins with what the session had seen and explains its answers; its entries of the session's
-- number are the old ones and then those that were logged, in order
pub record IsLegal (base : State) (history : List Entry) (before : Known) (statements : List Statement)
    (answers : List Answer) : Type 0 where
  pub seen : Begins before.seen history
  pub answered : Answered base history before.number (length before.seen) statements answers
  pub mine : entries_of before.number history ≡ before.mine ++ entered base history before.number statements answers

-- each run's answers, in the order of the runs
abbrev pub Legal : State → List Entry → List Run → List (List Answer) → Type 0
Legal base history runs answers = AllZip (λ run. IsLegal base history (known_of run.pass) run.lines.items) runs answers

-- the pass has the run's number and log, and the history has all that it knows
pub record IsReturned (history : List Entry) (run : Run) (pass : Pass) : Type 0 where
  pub belongs : log_of pass ≡ log_of run.pass
  pub number : (known_of pass).number ≡ (known_of run.pass).number
  pub taken_in : IsTakenIn history (known_of pass)

-- the history is what the last pass has seen, and explains all answers; each run's pass is returned as `IsReturned`
-- says
pub record IsOutcome (base : State) (runs : List Run) (outcome : Outcome) : Type 0 where
  pub legal : Legal base outcome.history.items runs (map (λ answers. answers.items) outcome.answers.items)
  pub passes : AllZip (IsReturned outcome.history.items) runs outcome.passes.items
  pub history : outcome.history.items ≡ (last_known (map known_of outcome.passes.items)).seen

-- the gate can let the session go on at each of its first `count` statements
abbrev pub LetsIn : (ℕ → ℕ → Bool → Type 0) → ℕ → ℕ → Type 0
LetsIn gate session count = (line : ℕ) → line < count → gate session line true

-- the gate can stop the session at this line, and the session knows what it knew
pub record IsTurnedAway (gate : ℕ → ℕ → Bool → Type 0) (session line : ℕ) (old new : Known) : Type 0 where
  pub shut : gate session line false
  pub same : new ≡ old

-- why the statement at this place of its run isn't answered: GateShut and Full name the session and the place; at
-- GateShut the gate can have stopped the run there, at Full no room is left for the statement; NoMemory says nothing;
-- ThreadRefused doesn't come
abbrev pub Halts : (ℕ → ℕ → Bool → Type 0) → State → ℕ → Statement → ℕ → RaceFault → Known → Known → Type 0
Halts gate base capacity statement place (GateShut session line) old new =
    (session ≡ old.number) × (line ≡ place) × IsTurnedAway gate session line old new
Halts gate base capacity statement place (Full session line) old new =
    (session ≡ old.number) × (line ≡ place) × IsFull base capacity statement old new
Halts gate base capacity statement place NoMemory old new = Unit {0}
Halts gate base capacity statement place ThreadRefused old new = ⊥

-- Full is returned with the session and the statement that has no room, every other fault as NoMemory (`execute` of a
-- session returns only these two)
abbrev pub fault_at : ℕ → ℕ → Fault → RaceFault
fault_at session line (Fault.Overtaken front) = NoMemory
fault_at session line Fault.Full = Full session line
fault_at session line Fault.NoMemory = NoMemory
fault_at session line Fault.Busy = NoMemory

-- the gate can have let the session go on, and the statement was answered
pub record IsLetIn (gate : ℕ → ℕ → Bool → Type 0) (base : State) (statement : Statement) (place : ℕ) (answer : Answer)
    (old new : Known) : Type 0 where
  pub answered : IsAnswered base statement answer old new
  pub opened : gate old.number place true

-- the statement was answered, or the run stops at it
abbrev pub EndsOne : (ℕ → ℕ → Bool → Type 0) → State → ℕ → Statement → ℕ → Result Answer RaceFault → Known → Known
    → Type 0
EndsOne gate base capacity statement place (Ok answer) old new = IsLetIn gate base statement place answer old new
EndsOne gate base capacity statement place (Err fault) old new = Halts gate base capacity statement place fault old new

-- the run is this session's and has a statement on this line, and the history explains answers to its statements before
-- that one
pub record IsReachedInRun (base : State) (history : List Entry) (before : Known) (statements : List Statement)
    (session line : ℕ) : Type 0 where
  pub number : session ≡ before.number
  pub below : line < length statements
  pub answers : List Answer
  pub legal : IsLegal base history before (take line statements) answers

-- GateShut and Full: what the session has seen in the end explains answers to the statements before the named one, and
-- has no entry of that one or a later one; NoMemory says nothing; ThreadRefused doesn't come
abbrev pub GoesNoFurther : State → Known → List Statement → RaceFault → Known → Type 0
GoesNoFurther base before statements (GateShut session line) after =
    IsReachedInRun base after.seen before statements session line
GoesNoFurther base before statements (Full session line) after =
    IsReachedInRun base after.seen before statements session line
GoesNoFurther base before statements NoMemory after = Unit {0}
GoesNoFurther base before statements ThreadRefused after = ⊥

-- after the run's statements before this line were answered, the gate can stop the run there
pub record IsShutAt (gate : ℕ → ℕ → Bool → Type 0) (base : State) (before : Known) (statements : List Statement)
    (session line : ℕ) : Type 0 where
  pub history : List Entry
  pub reached : IsReachedInRun base history before statements session line
  pub shut : gate session line false

-- after the run's statements before this line were answered, the one on it is to be logged, in a history that is as
-- long as the log can be
pub record IsFullAt (base : State) (capacity : ℕ) (before : Known) (statements : List Statement)
    (session line : ℕ) : Type 0 where
  pub history : List Entry
  pub reached : IsReachedInRun base history before statements session line
  pub statement : Statement
  pub given : slice_get statements line ≡ Some statement
  pub enters : enters (state_after base history) session statement ≡ true
  pub full : length history ≡ capacity

-- GateShut and Full name the statement at which the run stops, and have their cause; NoMemory says nothing;
-- ThreadRefused doesn't come
abbrev pub Stops : (ℕ → ℕ → Bool → Type 0) → State → ℕ → Known → List Statement → RaceFault → Type 0
Stops gate base capacity before statements (GateShut session line) = IsShutAt gate base before statements session line
Stops gate base capacity before statements (Full session line) = IsFullAt base capacity before statements session line
Stops gate base capacity before statements NoMemory = Unit {0}
Stops gate base capacity before statements ThreadRefused = ⊥

-- some run stops with this fault
pub record IsBlamed (gate : ℕ → ℕ → Bool → Type 0) (base : State) (runs : List Run) (fault : RaceFault) : Type 0 where
  pub index : ℕ
  pub run : Run
  pub found : slice_get runs index ≡ Some run
  pub stops : Stops gate base (log_of run.pass).capacity (known_of run.pass) run.lines.items fault

-- GateShut and Full are the fault with which some run stops; NoMemory and ThreadRefused say nothing
abbrev pub Blames : (ℕ → ℕ → Bool → Type 0) → State → List Run → RaceFault → Type 0
Blames gate base runs (GateShut session line) = IsBlamed gate base runs (GateShut session line)
Blames gate base runs (Full session line) = IsBlamed gate base runs (Full session line)
Blames gate base runs NoMemory = Unit {0}
Blames gate base runs ThreadRefused = Unit {0}
