-- Linearizable: each call takes effect at one instant between its call and its return.
use Rattle.std.specs.Prelude.{◌≡◌, ℕ, List, [], ◌∷◌}
use Rattle.xa_xid.specs.declared.statement.Statement.{Statement}
use Rattle.xa_server.specs.{State.State, Step.after, Replies.reply_to, declared.reply.Reply.Reply}
use Rattle.xa_session.specs.Timed.{Moment, changed, Call as Calls, Return as Returns, Fail as Fails, Log}

-- a session calls for a statement; its call returns a reply, or ends in a fault
pub data Sight : Type 0 where
  Call : ℕ → Statement → Sight
  Return : ℕ → Reply → Sight
  Fail : ℕ → Sight

-- what callers see of a run: not the log, and of an answer the reply
abbrev pub sights : List Moment → List Sight
sights [] = []
sights (Calls session statement ∷ moments) = Call session statement ∷ sights moments
sights (Returns session answer ∷ moments) = Return session answer.reply ∷ sights moments
sights (Fails session ∷ moments) = Fail session ∷ sights moments
sights (Log event ∷ moments) = sights moments

-- a session has no call; it has called, and its statement hasn't taken effect; or it has, with this reply
pub data Client : Type 0 where
  Idle : Client
  Called : Statement → Client
  Answered : Reply → Client

-- one sequential server serves what callers see. An idle session calls. At one instant after that its statement takes
-- effect, and it has the server's reply. Then its call returns that reply. A call that ends in a fault has taken no
-- effect. A call that isn't over may have taken effect or not
pub data Serves : State → (ℕ → Client) → List Sight → Type 0 where
  over : {state : State} {clients : ℕ → Client} → Serves state clients []
  called : {state : State} {clients : ℕ → Client} {session : ℕ} {statement : Statement} {rest : List Sight}
      → clients session ≡ Idle
      → Serves state (changed clients session (Called statement)) rest
      → Serves state clients (Call session statement ∷ rest)
  taken : {state : State} {clients : ℕ → Client} {rest : List Sight} (session : ℕ) (statement : Statement)
      → clients session ≡ Called statement
      → Serves (after state session statement)
      (changed clients session (Answered (reply_to state session statement))) rest
      → Serves state clients rest
  returned : {state : State} {clients : ℕ → Client} {session : ℕ} {reply : Reply} {rest : List Sight}
      → clients session ≡ Answered reply
      → Serves state (changed clients session Idle) rest
      → Serves state clients (Return session reply ∷ rest)
  failed : {state : State} {clients : ℕ → Client} {session : ℕ} {statement : Statement} {rest : List Sight}
      → clients session ≡ Called statement
      → Serves state (changed clients session Idle) rest
      → Serves state clients (Fail session ∷ rest)

-- it serves them from this state, in which no session has called
abbrev pub IsLinearized : State → List Sight → Type 0
IsLinearized base seen = Serves base (λ session. Idle) seen
