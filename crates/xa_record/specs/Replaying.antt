-- The script that is written for an order, and what its lines give.
-- Every rule here is the project's own: docs/HISTORIES.md#verdicts.
--     effect_line, order_lines     the line of an effect;  the lines of an order
use Rattle.std.specs.Prelude.{◌≡◌, ◌≢◌, ℕ, ◌==◌, true, not, Option, Some, None, Ok, List, [], ◌∷◌, ◌++◌, codes, decimal}
use Rattle.std.specs.{Prelude.slice_get, List.{AllByRecursion, list_all}}
use Rattle.xa_xid.specs.{Bytes.unblank, declared.statement.Statement.Statement, XidText.IsWritable}
use Rattle.xa_statement.specs.{Canonical.statement_text, Grammar.Spells, Reading.read_of}
use Rattle.xa_server.specs.{State.State, Replies.reply_to}
use Rattle.xa_lines.specs.{Script.{Given, line_of, lines_of}, Transcript.run_text}
use Rattle.xa_lines.specs.Printed.{reply_text, syntax_text, converts, answer_text}
use Rattle.xa_judge.specs.declared.request.Request.{Request, TheVariants.{Statement as Asked, Unread}}
use Rattle.xa_judge.specs.declared.{event.Event.{Event, TheVariants.Call}, verdict.Verdict.Verdict, moves.Act.Act}
use Rattle.xa_judge.specs.declared.{verdict.Verdict.TheVariants.Legal as LegalBy, client_state.ClientState.ClientState}
use Rattle.xa_judge.specs.{declared.moves.Move.Move, Explained.{Config, opening_config, effect_of, observed}}
use Rattle.xa_record.specs.{Lines.{Told, Calls, Returns, ReturnsUnknown, Leaves}, Reading.NumberedEvent}
use Rattle.xa_record.specs.{Events.request_read, VerdictText.{with_call, act_text, order_text, no_calls}}

-- the line of an effect, without its line feed
abbrev pub effect_line : List (List ℕ) → ℕ → Act → List ℕ
effect_line calls session act = decimal session ++ codes " " ++ act_text act (slice_get calls session)

-- the lines of the script that is written for an order, if these events are still to happen, and the sessions called
-- for these texts last before them
unfoldable pub order_lines : List (List ℕ) → List NumberedEvent → List Move → List (List ℕ)
order_lines calls numbered [] = []
order_lines calls numbered (Move.Effect session act ∷ moves) =
    effect_line calls session act ∷ order_lines calls numbered moves
order_lines calls [] (Move.Event ∷ moves) = order_lines calls [] moves
order_lines calls (numbered ∷ more) (Move.Event ∷ moves) = order_lines (with_call numbered.told calls) more moves

-- lines, each with a line feed
unfoldable pub joined : List (List ℕ) → List ℕ
joined [] = []
joined (line ∷ lines) = line ++ codes "\n" ++ joined lines

-- no byte of the text is a line feed
abbrev pub HasNoFeed : List ℕ → Type 0
HasNoFeed text = list_all (λ byte. not (byte == 10)) text ≡ true

-- the line gives this request of the session
pub record GivesRequest (line : List ℕ) (session : ℕ) (request : Request) : Type 0 where
  pub text : List ℕ
  pub given : line_of line ≡ Given session text
  pub asks : request ≡ request_read (read_of text)

-- what `run` writes for the request: the reply, or that the text isn't a statement
abbrev pub AnswersSo : State → ℕ → Request → List ℕ → Type 0
AnswersSo state session (Asked statement) written =
    written ≡ answer_text (decimal session) (reply_text (converts statement) (reply_to state session statement))
AnswersSo state session Unread written = (place : ℕ) × (written ≡ answer_text (decimal session) (syntax_text place))

-- what a session has called for that may still take effect
abbrev pub open_request : Option ClientState → Option Request
open_request None = None
open_request (Some ClientState.Idle) = None
open_request (Some (ClientState.Called request)) = Some request
open_request (Some (ClientState.Answered answer)) = None
open_request (Some (ClientState.Gone request)) = request
open_request (Some ClientState.Left) = None

-- what an act of a session carries out
abbrev pub requested : Config → ℕ → Act → Option Request
requested config session Act.Statement = open_request (slice_get config.clients session)
requested config session Act.Disconnect = Some (Asked Statement.Disconnect)

-- the line gives the request that takes effect by the act, and has no line feed in it
pub record IsEffectLine (config : Config) (session : ℕ) (act : Act) (line : List ℕ) : Type 0 where
  pub request : Request
  pub is : requested config session act ≡ Some request
  pub gives : GivesRequest line session request
  pub whole : HasNoFeed line

-- the lines give what takes effect, in order, along moves that lead through the events
abbrev pub AreEffects : Config → List Event → List Move → List (List ℕ) → Type 0
AreEffects old events (Move.Effect session act ∷ moves) [] = ⊥
AreEffects old events (Move.Effect session act ∷ moves) (line ∷ lines) =
    (mid : Config) × (effect_of old session act ≡ Some mid) × IsEffectLine old session act line
    × AreEffects mid events moves lines
AreEffects old [] (Move.Event ∷ moves) lines = ⊥
AreEffects old (event ∷ events) (Move.Event ∷ moves) lines =
    (mid : Config) × (observed old event ≡ Some mid) × AreEffects mid events moves lines
AreEffects old [] [] [] = Unit {0}
AreEffects old [] [] (line ∷ lines) = ⊥
AreEffects old (event ∷ events) [] lines = ⊥

-- the canonical form of a statement is read as that statement, and has no line feed
pub record IsWrittenBack (statement : Statement) : Type 0 where
  pub spelled : Spells (statement_text statement) statement
  pub whole : HasNoFeed (statement_text statement)

-- an identifier in a statement can be written, as each identifier of a program can; a statement without one is fit
abbrev pub IsFit : Statement → Type 0
IsFit (Statement.Start xid) = IsWritable xid
IsFit (Statement.End xid) = IsWritable xid
IsFit (Statement.Prepare xid) = IsWritable xid
IsFit (Statement.Commit xid one_phase) = IsWritable xid
IsFit (Statement.Rollback xid) = IsWritable xid
IsFit (Statement.Recover convert) = Unit {0}
IsFit Statement.Unsupported = Unit {0}
IsFit (Statement.Get key) = Unit {0}
IsFit (Statement.Put key value) = Unit {0}
IsFit (Statement.Del key) = Unit {0}
IsFit Statement.Disconnect = Unit {0}

-- the text begins with no blank and has no line feed
pub record IsBare (text : List ℕ) : Type 0 where
  pub bare : unblank text ≡ text
  pub whole : HasNoFeed text

-- if this is a call, its text begins with no blank and has no line feed
abbrev pub IsBareTold : Told → Type 0
IsBareTold (Calls session text) = IsBare text
IsBareTold (Returns session shown) = Unit {0}
IsBareTold (ReturnsUnknown session) = Unit {0}
IsBareTold (Leaves session) = Unit {0}

-- every text that a session calls for begins with no blank and has no line feed
abbrev pub AreBare : List NumberedEvent → Type 0
AreBare numbered = AllByRecursion (λ one. IsBareTold one.told) numbered

-- a text that a session calls for begins with no blank and has no line feed; if it is a statement that is supported,
-- that is written back
pub record IsWellCalled (text : List ℕ) : Type 0 where
  pub bare : unblank text ≡ text
  pub whole : HasNoFeed text
  pub canonical : (statement : Statement) → read_of text ≡ Ok statement → statement ≢ Statement.Unsupported
      → IsWrittenBack statement

-- if this is a call, its text is as `IsWellCalled` says
abbrev pub IsWellTold : Told → Type 0
IsWellTold (Calls session text) = IsWellCalled text
IsWellTold (Returns session shown) = Unit {0}
IsWellTold (ReturnsUnknown session) = Unit {0}
IsWellTold (Leaves session) = Unit {0}

-- the text of each call is as `IsWellCalled` says
abbrev pub AreWellCalled : List NumberedEvent → Type 0
AreWellCalled [] = Unit {0}
AreWellCalled (numbered ∷ more) = IsWellTold numbered.told × AreWellCalled more

-- if the event calls for a statement that is supported, that is written back
abbrev pub IsWrittenCall : Event → Type 0
IsWrittenCall (Call session (Asked statement)) = statement ≢ Statement.Unsupported → IsWrittenBack statement
IsWrittenCall event = Unit {0}

-- what `run` writes for what takes effect by an act of a session
pub record IsAnswered (config : Config) (session : ℕ) (act : Act) (written : List ℕ) : Type 0 where
  pub request : Request
  pub is : requested config session act ≡ Some request
  pub answers : AnswersSo config.state session request written

-- the text is one answer for each effect, in order, along moves that lead through the events; a return shows the
-- answer that its session has there
abbrev pub AnswersAlong : Config → List Event → List Move → List ℕ → Type 0
AnswersAlong old events (Move.Effect session act ∷ moves) written =
    (mid : Config) × (answer rest : List ℕ) × (effect_of old session act ≡ Some mid) × IsAnswered old session act answer
    × (written ≡ answer ++ rest)
    × AnswersAlong mid events moves rest
AnswersAlong old [] (Move.Event ∷ moves) written = ⊥
AnswersAlong old (event ∷ events) (Move.Event ∷ moves) written =
    (mid : Config) × (observed old event ≡ Some mid) × AnswersAlong mid events moves written
AnswersAlong old [] [] written = written ≡ []
AnswersAlong old (event ∷ events) [] written = ⊥

-- if the verdict is legal, its order, run as a script from the state in which the record begins, gives the answers
-- of its moves, by which what was seen is explained
abbrev pub IsReplayed : State → List NumberedEvent → List Event → Verdict → Type 0
IsReplayed base numbered events (LegalBy moves) =
    AnswersAlong (opening_config base) events moves.items
    (run_text base (lines_of (order_text no_calls numbered moves.items)))
IsReplayed base numbered events verdict = Unit {0}
