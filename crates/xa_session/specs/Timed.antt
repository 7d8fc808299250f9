-- Runs of the log machine in time: what happens to it, with the calls, returns and faults of its sessions in between.
use Rattle.std.specs.Prelude.{◌≡◌, ℕ, ◌+◌, ◌==◌, cond, Option, Some, None, List, [], ◌∷◌}
use Rattle.xa_xid.specs.declared.statement.Statement.{Statement}
use Rattle.xa_server.specs.State.{State}
use Rattle.decision_log.specs.{Machine.{Machine, Event, Look, Add, Happens}, declared.known.Known.Known}
use Rattle.xa_session.specs.{Answer.{entry_of, IsAnswered, IsUnanswered}, declared.answer.Answer.Answer}

-- a session calls for a statement; its call returns an answer, or ends in a fault; or the log machine goes on, by a
-- look or an append
pub data Moment : Type 0 where
  Call : ℕ → Statement → Moment
  Return : ℕ → Answer → Moment
  Fail : ℕ → Moment
  Log : Event → Moment

-- a call that isn't over: its statement, and what its session knew when it called
pub record Open : Type 0 where
  pub statement : Statement
  pub old : Known

-- the log machine, how often each session has looked, and the call of each session that has one
pub record Stage : Type 0 where
  pub machine : Machine
  pub looks : ℕ → ℕ
  pub calls : ℕ → Option Open

-- the function with this value at one number
abbrev pub changed : {A : Type 0} → (ℕ → A) → ℕ → A → ℕ → A
changed values number value = λ other. cond (other == number) value (values other)

-- what a session knows: what the machine says, and how often it has looked; tries aren't counted
abbrev pub known_at : Stage → ℕ → Known
known_at stage session = record {
  number = session;
  seen = (stage.machine.knows session).seen;
  mine = (stage.machine.knows session).mine;
  looks = stage.looks session;
  tries = 0;
  since = 0;
}

-- how often each session has looked after an event: once more at its look
abbrev pub looked : Event → (ℕ → ℕ) → ℕ → ℕ
looked (Look session) looks = changed looks session (looks session + 1)
looked (Add session entry) looks = looks

-- a session looks when it likes; it appends only within a call, the entry of that call's statement, and nothing before
-- it in that call
abbrev pub IsOwn : Event → Stage → Type 0
IsOwn (Look session) stage = Unit {0}
IsOwn (Add session entry) stage =
    (call : Open) × (stage.calls session ≡ Some call) × (entry ≡ entry_of session call.statement)
    × ((stage.machine.knows session).mine ≡ call.old.mine)

-- a session without a call calls; a call ends with an answer as the session theorem says, or in a fault of which
-- nothing was appended; or an event of the machine comes
abbrev pub Comes : State → Moment → Stage → Stage → Type 0
Comes base (Call session statement) old new =
    (old.calls session ≡ None)
    × (new ≡ record old
    { calls = changed old.calls session (Some (record { statement = statement; old = known_at old session })) })
Comes base (Return session answer) old new =
    (call : Open) × (old.calls session ≡ Some call)
    × IsAnswered base call.statement answer call.old (known_at old session)
    × (new ≡ record old { calls = changed old.calls session None })
Comes base (Fail session) old new =
    (call : Open) × (old.calls session ≡ Some call) × IsUnanswered call.old (known_at old session)
    × (new ≡ record old { calls = changed old.calls session None })
Comes base (Log event) old new =
    Happens event old.machine new.machine × IsOwn event old × (new.looks ≡ looked event old.looks)
    × (new.calls ≡ old.calls)

-- moments, one after another
abbrev pub Passes : State → List Moment → Stage → Stage → Type 0
Passes base [] old new = new ≡ old
Passes base (moment ∷ moments) old new = (next : Stage) × Comes base moment old next × Passes base moments next new
