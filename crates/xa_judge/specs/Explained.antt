-- When an order explains what clients saw.
-- Every rule here is the project's own: docs/HISTORIES.md#what-explains-a-record.
--     answer_to, next_state      what a request is answered, and the state after it
--     Config, opening_config     a state of the server, and how far each session is;  before all events
--     same_text, same_values, same_rows     two texts, values or lists of identifiers are the same
--     observed                   an event is seen: a call (called), a return (returned), a client gone (lost), or an
--                                unknown answer (answered_unknown)
use Rattle.std.specs.Prelude.{◌≡◌, ℕ, ◌≤◌, Bool, true, false, cond, ◌&&◌, ◌||◌, ◌==◌, Option, Some, None, List, [], ◌∷◌}
use Rattle.std.specs.{Prelude.{slice_get, slice_set, replicate, nat_eq}, List.list_any, Cmp.Lexicographic.pointwise}
use Rattle.xa_xid.specs.{declared.{xid.Xid.Xid, statement.Statement.TheVariants.Disconnect}, Xid.{Text, same_xid}}
use Rattle.xa_server.specs.{declared.reply.Reply.Reply, State.State, Replies.reply_to, Step.after, Errors.number_of}
use Rattle.xa_judge.specs.declared.request.Request.{Request, TheVariants.{Statement as Given, Unread}}
use Rattle.xa_judge.specs.declared.{answer.Answer.Answer, error_numbers.ErrorNumbers.ErrorNumbers, event.Seen.Seen}
use Rattle.xa_judge.specs.declared.{event.Event.Event, client_state.ClientState.ClientState, moves.{Act.Act, Move.Move}}
use Rattle.xa_judge.specs.declared.client_state.ClientState.TheVariants.{Idle, Called, Answered, Gone, Left}

-- what a request is answered
abbrev pub answer_to : State → ℕ → Request → Answer
answer_to state session (Given statement) = Answer.Reply (reply_to state session statement)
answer_to state session Unread = Answer.Unread

-- the state after a request; a text that isn't a statement does nothing
abbrev pub next_state : State → ℕ → Request → State
next_state state session (Given statement) = after state session statement
next_state state session Unread = state

-- a state of the server, and how far each session is, at the place of its number
pub record Config : Type 0 where
  pub state : State
  pub clients : List ClientState

-- the configuration before all events; place 0 of clients belongs to no session
unfoldable pub opening_config : State → Config
opening_config base = record { state = base; clients = replicate 17 Idle }

-- the configuration once the session is in this state
abbrev pub with_client : Config → ℕ → ClientState → Config
with_client config session client = record { state = config.state; clients = slice_set config.clients session client }

-- what a session called for takes effect: it is answered, or nobody hears the answer if its client is gone. None if
-- it has no request that can still take effect
unfoldable pub carried_out : Option ClientState → Config → ℕ → Option Config
carried_out (Some (Called request)) config session =
    Some (with_client (record config { state = next_state config.state session request }) session
    (Answered (answer_to config.state session request)))
carried_out (Some (Gone (Some request))) config session =
    Some (with_client (record config { state = next_state config.state session request }) session (Gone None))
carried_out other config session = None

-- the DISCONNECT of a session whose client is gone takes effect; what it had called for never does after that. None
-- if its client isn't gone, or the DISCONNECT took effect before
unfoldable pub disconnected : Option ClientState → Config → ℕ → Option Config
disconnected (Some (Gone request)) config session =
    Some (with_client (record config { state = after config.state session Disconnect }) session Left)
disconnected other config session = None

-- the configuration after an act of a session takes effect, if it can
unfoldable pub effect_of : Config → ℕ → Act → Option Config
-- an act of a session takes effect: its request (carried_out), or its DISCONNECT (disconnected)
effect_of config session Act.Statement = carried_out (slice_get config.clients session) config session
effect_of config session Act.Disconnect = disconnected (slice_get config.clients session) config session

-- two texts have the same bytes
abbrev pub same_text : Text → Text → Bool
same_text left right = pointwise nat_eq left.items right.items

-- whether two values of a row are the same; None is a row without a value
abbrev pub same_values : Option Text → Option Text → Bool
same_values None None = true
same_values (Some text) (Some value) = same_text text value
same_values left right = false

-- whether two lists have the same identifiers, in the same order
abbrev pub same_rows : List Xid → List Xid → Bool
same_rows [] [] = true
same_rows (row ∷ rows) (xid ∷ xids) = same_xid row xid && same_rows rows xids
same_rows left right = false

-- a refusal that was seen stands for one of this number: its own, or another for which it is allowed to stand
abbrev pub stands_for : ErrorNumbers → ℕ → Bool
stands_for numbers number = numbers.seen == number || list_any (λ other. other == number) numbers.others.items

-- a return shows this answer; of a refusal only the number is compared. A text that isn't a statement is refused with
-- 1064
abbrev pub shows_answer : Seen → Answer → Bool
shows_answer Seen.Ok (Answer.Reply Reply.Ok) = true
shows_answer (Seen.Value seen) (Answer.Reply (Reply.Value value)) = same_values seen value
shows_answer (Seen.Rows rows) (Answer.Reply (Reply.Recovered xids)) = same_rows rows.items xids
shows_answer (Seen.Error numbers) (Answer.Reply (Reply.Refused error)) = stands_for numbers (number_of error)
shows_answer (Seen.Error numbers) Answer.Unread = stands_for numbers 1064
shows_answer seen answer = false

-- an idle session calls. One whose client is gone may call too: nobody hears the answer, and after its DISCONNECT the
-- call does nothing. None if the session has an open call, or there is no such session
unfoldable pub called : Option ClientState → Config → ℕ → Request → Option Config
called (Some Idle) config session request = Some (with_client config session (Called request))
called (Some (Gone None)) config session request = Some (with_client config session (Gone (Some request)))
called (Some Left) config session request = Some (with_client config session Left)
called other config session request = None

-- the call of an answered session returns this. None if no answer is there, or the return doesn't show it
unfoldable pub returned : Option ClientState → Config → ℕ → Seen → Option Config
returned (Some (Answered answer)) config session seen =
    cond (shows_answer seen answer) (Some (with_client config session Idle)) None
returned other config session seen = None

-- the client of a session is gone; an open call may still take effect, and nobody hears its answer. None if the
-- client was gone before, or there is no such session
unfoldable pub lost : Option ClientState → Config → ℕ → Option Config
lost (Some Idle) config session = Some (with_client config session (Gone None))
lost (Some (Called request)) config session = Some (with_client config session (Gone (Some request)))
lost (Some (Answered answer)) config session = Some (with_client config session (Gone None))
lost other config session = None

-- a session's call is over, with an answer that isn't known; if it has taken no effect by then, it never does. None
-- if no client waits for an answer
unfoldable pub answered_unknown : Option ClientState → Config → ℕ → Option Config
answered_unknown (Some (Called request)) config session = Some (with_client config session Idle)
answered_unknown (Some (Answered answer)) config session = Some (with_client config session Idle)
answered_unknown other config session = None

-- the configuration after an event is seen, if it can be seen there
unfoldable pub observed : Config → Event → Option Config
observed config (Event.Call session request) = called (slice_get config.clients session) config session request
observed config (Event.Return session seen) = returned (slice_get config.clients session) config session seen
observed config (Event.Lost session) = lost (slice_get config.clients session) config session
observed config (Event.Unknown session) = answered_unknown (slice_get config.clients session) config session

-- the number is a session's, 1 to 16
abbrev pub IsSession : ℕ → Type 0
IsSession session = (1 ≤ session) × (session ≤ 16)

-- the moves lead from old through all of the events to new
abbrev pub LeadsThrough : Config → List Event → List Move → Config → Type 0
LeadsThrough old events (Move.Effect session act ∷ moves) new =
    (mid : Config) × IsSession session × (effect_of old session act ≡ Some mid) × LeadsThrough mid events moves new
LeadsThrough old (event ∷ events) (Move.Event ∷ moves) new =
    (mid : Config) × (observed old event ≡ Some mid) × LeadsThrough mid events moves new
LeadsThrough old [] [] new = new ≡ old
LeadsThrough old events moves new = ⊥

-- some order explains the events: moves lead through all of them, from the opening configuration
abbrev pub Explained : State → List Event → Type 0
Explained base events = (moves : List Move) × (new : Config) × LeadsThrough (opening_config base) events moves new
