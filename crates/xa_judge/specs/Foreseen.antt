-- Configurations that are kept where later returns are known.
-- A call whose return is known is followed only with an answer that the return shows. If its answer fits and it will
-- never change the state while it does, it takes effect at once.
-- Every rule here is the project's own: crates/xa_judge/README.md.
--     Hint, fact_of        what is known of an open call
--     IsQuiet, IsQuietFor  the request changes nothing;  nor does it whenever the return shows its answer
--     IsAheadAt, IsBehindAt, IsAlikeAt   how far a session is, in an order, and in what is kept
--     CanSettle, IsAllowed   a call can take effect at once;  an act isn't known to be of no use
--     IsFollowed, IsLeft   moves lead on to the end from what is kept;  from what can't go on past a return
--     GoesOn               one or the other
--     HasSeenFor, HasNextFor   a list has what an event leads to;  what acts of one session lead to
--     seen_in .. never_by  what the event at a place tells of a call
--     hint_in, hints_of    what is known of an open call, of all of them, by the places of calls and returns
use Rattle.std.specs.Prelude.{◌≡◌, length, ◌⊎◌, ◌||◌, ℕ, Bool, true, false, Option, Some, None, List, ◌∷◌, ◌++◌}
use Rattle.std.specs.{Prelude.{slice_get, map}, Option.unwrap_or}
use Rattle.xa_xid.specs.declared.statement.Statement.TheVariants.{Get, Recover, Disconnect}
use Rattle.xa_server.specs.{declared.association.Association.{Association, TheVariants.Free}, Step.is_refused}
use Rattle.xa_server.specs.{State.{State, association_of}, Locks.LockLaw}
use Rattle.xa_judge.specs.declared.{request.Request.{Request, TheVariants.Statement as Given}, answer.Answer.Answer}
use Rattle.xa_judge.specs.declared.client_state.ClientState.{ClientState, TheVariants.{Called, Answered, Gone}}
use Rattle.xa_judge.specs.declared.event.{Seen.Seen, Event.{Event, TheVariants.{Call, Return, Lost, Unknown}}}
use Rattle.xa_judge.specs.declared.{configuration.Configuration.Configuration, open_call.OpenCall.OpenCall}
use Rattle.xa_judge.specs.{declared.moves.{Act.Act, Move.Move}, Found.{config_of, Has}, Late.has_unheard}
use Rattle.xa_judge.specs.Explained.{Config, shows_answer, answer_to, effect_of, observed, LeadsThrough, IsSession}

-- what is known of an open call: what it returns (`seen`); or that it isn't heard of any more (`never`)
pub record Hint : Type 0 where
  pub seen : Option Seen
  pub never : Bool

-- nothing is known of the call
abbrev pub no_hint : Hint
no_hint = record { seen = None; never = false }

-- what is known of the session's open call
abbrev pub fact_of : List Hint → ℕ → Hint
fact_of hints session = unwrap_or (slice_get hints session) no_hint

-- what the session's open call returns, if that is known
abbrev pub hint_of : List Hint → ℕ → Option Seen
hint_of hints session = (fact_of hints session).seen

-- the request changes nothing: it is XA RECOVER, or a GET or DISCONNECT of a session that has no branch open
abbrev pub IsQuiet : State → ℕ → Request → Type 0
IsQuiet state session (Given (Recover convert)) = Unit {0}
IsQuiet state session (Given (Get key)) = association_of state session ≡ Free
IsQuiet state session (Given Disconnect) = association_of state session ≡ Free
IsQuiet state session request = ⊥

-- the request changes nothing whenever the return shows its answer: it is quiet, or the return shows a refusal
abbrev pub IsQuietFor : State → ℕ → Request → Seen → Type 0
IsQuietFor state session request (Seen.Error numbers) = Unit {0}
IsQuietFor state session request seen = IsQuiet state session request

-- what is kept (`other`) is ahead of the order (`one`): the call was answered there with what it returns. In the
-- order it is still open and changes nothing whenever it is answered so, or it has some answer
pub record IsAheadAt (hint : Option Seen) (state : State) (session : ℕ) (one other : Option ClientState) : Type 0 where
  pub seen : Seen
  pub hinted : hint ≡ Some seen
  pub answer : Answer
  pub kept : other ≡ Some (Answered answer)
  pub shown : shows_answer seen answer ≡ true
  pub way : ((request : Request) × (one ≡ Some (Called request)) × IsQuietFor state session request seen)
      ⊎ ((given : Answer) × (one ≡ Some (Answered given)))

-- what is kept (`other`) is behind the order (`one`): the call is open there, and was answered in the order. It isn't
-- heard of any more
pub record IsBehindAt (hint : Hint) (one other : Option ClientState) : Type 0 where
  pub never : hint.never ≡ true
  pub unseen : hint.seen ≡ None
  pub answer : Answer
  pub run : one ≡ Some (Answered answer)
  pub request : Request
  pub kept : other ≡ Some (Called request)

-- the session is as far in what is kept (`other`) as in the order (`one`), or what is kept is ahead or behind
abbrev pub IsAlikeAt : Hint → State → ℕ → Option ClientState → Option ClientState → Type 0
IsAlikeAt hint state session one other =
    (one ≡ other) ⊎ (IsAheadAt hint.seen state session one other ⊎ IsBehindAt hint one other)

-- the session has no branch open
abbrev pub is_free : Association → Bool
is_free Free = true
is_free other = false

-- whether the request is XA RECOVER, or a GET or DISCONNECT of a session that has no branch open
abbrev pub is_reading : State → ℕ → Request → Bool
is_reading state session (Given (Recover convert)) = true
is_reading state session (Given (Get key)) = is_free (association_of state session)
is_reading state session (Given Disconnect) = is_free (association_of state session)
is_reading state session request = false

-- the answer says that nothing was done: it is a refusal, or the text wasn't a statement
abbrev pub refuses : Answer → Bool
refuses (Answer.Reply reply) = is_refused reply
refuses Answer.Unread = true

-- the request changes nothing as things are: it only reads, or is refused
abbrev pub is_still : State → ℕ → Request → Bool
is_still state session request = is_reading state session request || refuses (answer_to state session request)

-- `kept` stands for `run`, a configuration that an order comes to: with the same state, and each session as far,
-- ahead or behind. The state keeps the lock law
pub record AreAlike (hints : List Hint) (run kept : Config) : Type 0 where
  pub state : kept.state ≡ run.state
  pub law : LockLaw run.state
  pub clients : (session : ℕ) → IsAlikeAt (fact_of hints session) run.state session (slice_get run.clients session)
      (slice_get kept.clients session)

-- a call was answered otherwise than it returns: the order can't go on past its return
pub record IsDead (hints : List Hint) (run : Config) : Type 0 where
  pub session : ℕ
  pub seen : Seen
  pub hinted : hint_of hints session ≡ Some seen
  pub answer : Answer
  pub at : slice_get run.clients session ≡ Some (Answered answer)
  pub hidden : shows_answer seen answer ≡ false

-- the session's call can take effect at once: it changes nothing whenever the return shows its answer (`IsQuietFor`),
-- and the return shows the answer that it would have now
pub record CanSettle (config : Config) (session : ℕ) (seen : Seen) : Type 0 where
  pub request : Request
  pub at : slice_get config.clients session ≡ Some (Called request)
  pub quiet : IsQuietFor config.state session request seen
  pub shown : shows_answer seen (answer_to config.state session request) ≡ true

-- an act of the session isn't known to give its call another answer than it returns; nor is it one that changes
-- nothing, of a call that isn't heard of any more
pub record IsAllowed (hints : List Hint) (config : Config) (session : ℕ) : Type 0 where
  pub fits : (seen : Seen) (request : Request) → hint_of hints session ≡ Some seen
      → slice_get config.clients session ≡ Some (Called request)
      → shows_answer seen (answer_to config.state session request) ≡ true
  pub counts : (request : Request) → (fact_of hints session).never ≡ true → hint_of hints session ≡ None
      → slice_get config.clients session ≡ Some (Called request) → is_still config.state session request ≡ false

-- the event fits what is known of how its session's call ends. A return shows what is known, or nothing is known; the
-- client is lost only if nothing is known; an answer stays unknown only if no return is known
abbrev pub FitsHints : List Hint → Event → Type 0
FitsHints hints (Call session request) = Unit {0}
FitsHints hints (Return session seen) =
    ((hint_of hints session ≡ None) × ((fact_of hints session).never ≡ false)) ⊎ (hint_of hints session ≡ Some seen)
FitsHints hints (Lost session) = (hint_of hints session ≡ None) × ((fact_of hints session).never ≡ false)
FitsHints hints (Unknown session) = hint_of hints session ≡ None

-- ---- lists

-- `new` is as good as `old`: it stands for each configuration for which `old` does (`AreAlike`)
abbrev pub ReplacesFor : List Hint → Config → Config → Type 0
ReplacesFor hints old new = (run : Config) → AreAlike hints run old → AreAlike hints run new

-- moves lead on to the end from a configuration for which one that is kept stands (`AreAlike`)
pub record IsFollowed (hints : List Hint) (has : Config → Type 0) (events : List Event) (end : Config)
    : Type 0 where
  pub kept : Config
  pub there : has kept
  pub run : Config
  pub alike : AreAlike hints run kept
  pub moves : List Move
  pub runs : LeadsThrough run events moves end

-- moves lead on to the end from a configuration in which a call was answered otherwise than it returns
pub record IsLeft (hints : List Hint) (events : List Event) (end : Config) : Type 0 where
  pub run : Config
  pub dead : IsDead hints run
  pub moves : List Move
  pub runs : LeadsThrough run events moves end

-- moves lead on to the end from a configuration for which a kept one stands, or from one that can't go on past a
-- return
abbrev pub GoesOn : List Hint → (Config → Type 0) → List Event → Config → Type 0
GoesOn hints has events end = IsFollowed hints has events end ⊎ IsLeft hints events end

-- the new list has what the event leads to from each of the old one, or what is as good
abbrev pub HasSeenFor : List Hint → Event → (Config → Type 0) → (Config → Type 0) → Type 0
HasSeenFor hints event old new = (kept next : Config) → old kept → observed kept event ≡ Some next
    → (other : Config) × new other × ReplacesFor hints next other

-- ---- what is known of open calls, by the places of their returns

-- what the event shows, if it is a return
abbrev pub seen_in : Option Event → Option Seen
seen_in (Some (Return session seen)) = Some seen
seen_in other = None

-- whether there is no event
abbrev pub is_past : Option Event → Bool
is_past None = true
is_past (Some event) = false

-- what the return at a place shows, if the place is known
abbrev pub seen_by : List Event → Option ℕ → Option Seen
seen_by events None = None
seen_by events (Some place) = seen_in (slice_get events place)

-- whether the place is known and after all events: the call isn't heard of any more
abbrev pub never_by : List Event → Option ℕ → Bool
never_by events None = false
never_by events (Some place) = is_past (slice_get events place)

-- what is known of an open call, by the place of its return
abbrev pub hint_in : List Event → OpenCall → Hint
hint_in events open_call = record {
  seen = seen_by events open_call.returns;
  never = never_by events open_call.returns;
}

-- what is known of each session's open call
abbrev pub hints_of : List Event → List OpenCall → List Hint
hints_of events places = map (hint_in events) places

-- the list has more at its end
abbrev pub ExtendsBy : List Configuration → List Configuration → Type 0
ExtendsBy old new = (more : List Configuration) × (new ≡ old ++ more)

-- the list has what each allowed act of the session leads to from this configuration, or what is as good
abbrev pub HasNextFor : List Hint → Config → ℕ → List Configuration → Type 0
HasNextFor hints one session list = (act : Act) (new : Config) → effect_of one session act ≡ Some new
    → IsAllowed hints one session → (other : Config) × Has list other × ReplacesFor hints new other

-- where moves go on past the event from the old list (`GoesOn`), they go on from the new one, by what is known later
abbrev pub IsAdvanceFor : List Hint → List Hint → Event → List Configuration → List Configuration
    → Type 0
IsAdvanceFor hints later event old new = (more : List Event) (end : Config) → GoesOn hints (Has old) (event ∷ more) end
    → GoesOn later (Has new) more end

-- no act has to come before the event: it is a lost client, or a call of a session that is gone with an open call in
-- none of the list
abbrev pub NeedsNone : List Configuration → Event → Type 0
NeedsNone known (Call session request) = (one : Config) → Has known one → has_unheard one session ≡ false
NeedsNone known (Return session seen) = ⊥
NeedsNone known (Lost session) = Unit {0}
NeedsNone known (Unknown session) = ⊥
