-- What the sequential server answers to lines of statements.
--     IsAnswerTo, IsLineAnswer    how it may answer what is said, and a line
--     IsToldAll, AfterFaultOfStatements   what is told to a client that ends, and what a fault leaves
use Rattle.std.specs.Prelude.{◌≡◌, ◌⊎◌, ◌≤◌, ℕ, ◌-◌, ◌^◌, Bool, true, false, Result, Ok, Err, List, [], ◌∷◌, ◌++◌}
use Rattle.std.specs.Prelude.{length, codes, decimal}
use Rattle.xa_xid.specs.declared.statement.Statement.{Statement}
use Rattle.xa_statement.specs.Reading.{read_of}
use Rattle.xa_server.specs.{State.{State, no_state}, Step.may_take_memory}
use Rattle.xa_lines.specs.{Script.{Line, Blank, Bad, Given, line_of, lines_of}, Printed.answer_text}
use Rattle.xa_lines.specs.Transcript.{answer_of, answer_to, state_after_line, state_then}
use Rattle.xa_lines.specs.declared.{script_fault.ScriptFault.ScriptFault, stage.Stage.TheVariants.{Ended, Deaf, Mute}}
use Rattle.xa_lines.specs.{declared.TheConstants.LINE_BYTES, Exchange.{Exchange, IsFresh}}
use Rattle.xa_lines.specs.Received.{Received, Whole, TooLong, received_line, IsCutIntoLines}

-- what a line says; one that is too long is a bad one (own rule)
abbrev pub said : Received → Line
said (Whole line) = line_of line
said TooLong = Bad

-- the answer where memory is refused for a session's statement (number and SQLSTATE are the manual's, ER_OUTOFMEMORY;
-- that it is answered so is our own)
abbrev pub refused_text : ℕ → List ℕ
refused_text session = answer_text (decimal session) (codes "ERROR 1037 (HY001): out of memory")

-- the server holds nothing yet
abbrev pub HoldsNothing : State → Type 0
HoldsNothing state = state ≡ no_state

-- memory may be refused for XA RECOVER, for an XA START or a statement on a row that is logged, and for no other text
-- (own rule)
abbrev pub MayBeRefused : State → ℕ → Result Statement ℕ → Type 0
MayBeRefused state session (Ok statement) = may_take_memory state session statement ≡ true
MayBeRefused state session (Err place) = ⊥

-- memory was refused for the line, which only a statement's line may be
abbrev pub IsRefusal : State → Line → List ℕ → Type 0
IsRefusal state Blank text = ⊥
IsRefusal state Bad text = ⊥
IsRefusal state (Given session statement) text =
    (text ≡ refused_text session) × MayBeRefused state session (read_of statement)

-- a session's statement, read or not, is answered as in a script; or memory is refused for it, and nothing changes
abbrev pub IsStatementAnswer : State → ℕ → Result Statement ℕ → List ℕ → State → Type 0
IsStatementAnswer old session read text new =
    ((text ≡ answer_to old session read) × (new ≡ state_then old session read))
    ⊎ ((text ≡ refused_text session) × (new ≡ old) × MayBeRefused old session read)

-- what is said is answered as a script's line is; or memory is refused for its statement, and nothing changes
abbrev pub IsAnswerTo : State → Line → List ℕ → State → Type 0
IsAnswerTo old line text new =
    ((text ≡ answer_of old line) × (new ≡ state_after_line old line)) ⊎ (IsRefusal old line text × (new ≡ old))

-- a line as it was received is answered as what it says
abbrev pub IsLineAnswer : State → Received → List ℕ → State → Type 0
IsLineAnswer old line text new = IsAnswerTo old (said line) text new

-- the answer to a line, if memory is refused for its statement or isn't
abbrev pub text_of : Bool → State → Line → List ℕ
text_of true state (Given session statement) = refused_text session
text_of true state Blank = answer_of state Blank
text_of true state Bad = answer_of state Bad
text_of false state line = answer_of state line

-- the state after a line, if memory is refused for its statement or isn't
abbrev pub state_of : Bool → State → Line → State
state_of true state (Given session statement) = state
state_of true state Blank = state_after_line state Blank
state_of true state Bad = state_after_line state Bad
state_of false state line = state_after_line state line

-- whether memory is refused for the statement of the next line; behind the marks it isn't
abbrev pub next_mark : List Bool → Bool
next_mark [] = false
next_mark (mark ∷ marks) = mark

-- the marks of the lines after the next one; a mark says that memory is refused for the line's statement
abbrev pub later_marks : List Bool → List Bool
later_marks [] = []
later_marks (mark ∷ marks) = marks

-- the answers to these lines, where a mark for each says whether memory is refused for its statement
unfoldable pub served_text : List Bool → State → List (List ℕ) → List ℕ
-- the answers to lines, where it is known for which memory was refused
served_text marks state [] = []
served_text marks state (line ∷ lines) =
    text_of (next_mark marks) state (said (received_line line))
    ++ served_text (later_marks marks) (state_of (next_mark marks) state (said (received_line line))) lines

-- nothing more is to be received; what was told are the answers to all lines, and for statements on some of them
-- memory may have been refused
abbrev pub IsToldAll : Exchange → Type 0
IsToldAll exchange = (exchange.stage ≡ Ended) × ((marks : List Bool)
    × (exchange.told ≡ served_text marks no_state (lines_of exchange.received)))

-- the text answers the whole lines of what was received
pub record IsToldSoFar (received text : List ℕ) : Type 0 where
  pub lines : List (List ℕ)
  pub begun : List ℕ
  pub marks : List Bool
  pub cut : IsCutIntoLines received lines begun
  pub told : text ≡ served_text marks no_state lines

-- the text begins the answers to what was received
pub record IsToldInPart (received text : List ℕ) : Type 0 where
  pub marks : List Bool
  pub unsaid : List ℕ
  pub whole : served_text marks no_state (lines_of received) ≡ text ++ unsaid

-- what a fault leaves. After a read fault all whole lines are answered, and a read has failed (Deaf), or at least
-- 2^64 - 1 bytes were received; a write fault comes only where a write or a flush failed (Mute), and the answers are
-- begun; without memory nothing has passed. No other fault occurs
abbrev pub AfterFaultOfStatements : ScriptFault → Exchange → Type 0
AfterFaultOfStatements ScriptFault.Read exchange =
    IsToldSoFar exchange.received exchange.told × ((exchange.stage ≡ Deaf) ⊎ (2 ^ 64 - 1 ≤ length exchange.received))
AfterFaultOfStatements ScriptFault.Write exchange = IsToldInPart exchange.received exchange.given ×
    (exchange.stage ≡ Mute)
AfterFaultOfStatements ScriptFault.NoMemory exchange = IsFresh exchange
AfterFaultOfStatements ScriptFault.TooLong exchange = ⊥
AfterFaultOfStatements ScriptFault.Full exchange = ⊥
AfterFaultOfStatements ScriptFault.GateShut exchange = ⊥
AfterFaultOfStatements ScriptFault.ThreadRefused exchange = ⊥

-- the line has no more bytes than are kept
abbrev pub IsShort : List ℕ → Type 0
IsShort line = length line ≤ LINE_BYTES
