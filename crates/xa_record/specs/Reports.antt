-- What is reported of a record, in any form.
-- Every rule here is the project's own: docs/HISTORIES.md#verdicts.
use Rattle.std.specs.Prelude.{◌≡◌, ℕ, Bool, true, false, not, ◌&&◌, Option, Some, None, List, [], ◌∷◌, take}
use Rattle.std.specs.BTreeSet.{insert_key}
use Rattle.xa_xid.specs.{Xid.bytes_cmp, declared.statement.Statement.Statement}
use Rattle.xa_server.specs.State.{State}
use Rattle.xa_lines.specs.Listing.{listing}
use Rattle.xa_judge.specs.{declared.{request.Request.Request, event.Event.Event, moves.Move.Move}, Verdicts.IsWide}
use Rattle.xa_judge.specs.{declared.verdict.Verdict.Verdict, Explained.{Config, opening_config, LeadsThrough}}
use Rattle.xa_record.specs.declared.{allowance.Allowance.Allowance, asked.Asked.Asked, outcome.Outcome.Outcome}
use Rattle.xa_record.specs.{Reading.NumberedEvent, Exchanges.{Exchange, exchange_sought}, Shrinking.IsSmallerSought}
use Rattle.xa_record.specs.VerdictText.{order_text, no_calls, texts_of, line_number_at}

-- an order that explains what is before a line, and the store after it, each as its lines
pub record Reason : Type 0 where
  pub order : List ℕ
  pub state : List ℕ

-- what is told beside the answers of an ILLEGAL verdict: what was seen and its call; an order of what comes before, and
-- the store after it; a smaller record: each if it is asked for and found
pub record Grounds : Type 0 where
  pub exchange : Option Exchange
  pub reason : Option Reason
  pub smaller : Option (List ℕ)

-- what is reported of a record
pub data Report : Type 0 where
  -- what is written for its faulty lines
  Faulty : List ℕ → Report
  -- it has no event
  Empty : Report
  -- the lines of an order that explains it
  Legal : List ℕ → Report
  -- the number of the line that no order explains, the texts of what could have been answered there, and what else is
  -- told
  Illegal : ℕ → List (List ℕ) → Grounds → Report
  -- the number of the line before which too many configurations have to be kept
  Undecided : ℕ → Report

-- how judging ends, by which of the five reports it is
abbrev pub outcome_of : Report → Outcome
outcome_of (Faulty faults) = Outcome.Faulty
outcome_of Empty = Outcome.Empty
outcome_of (Legal order) = Outcome.Legal
outcome_of (Illegal number texts grounds) = Outcome.Illegal
outcome_of (Undecided number) = Outcome.Undecided

-- these rows and the one that a statement names; only GET, PUT and DEL name one
abbrev pub with_row_of : Statement → List (List ℕ) → List (List ℕ)
with_row_of (Statement.Get key) keys = insert_key bytes_cmp keys key
with_row_of (Statement.Put key value) keys = insert_key bytes_cmp keys key
with_row_of (Statement.Del key) keys = insert_key bytes_cmp keys key
with_row_of statement keys = keys

-- these keys and the one that an event's call names
abbrev pub with_row_called : Event → List (List ℕ) → List (List ℕ)
with_row_called (Event.Call session (Request.Statement statement)) keys = with_row_of statement keys
with_row_called event keys = keys

-- these rows and those that calls name, each once, ascending by their bytes
unfoldable pub with_rows_called : List (List ℕ) → List Event → List (List ℕ)
with_rows_called keys [] = keys
with_rows_called keys (event ∷ events) = with_rows_called (with_row_called event keys) events

-- the rows that calls name, each once, ascending by their bytes
abbrev pub keys_named : List Event → List (List ℕ)
keys_named events = with_rows_called [] events

-- moves lead through what is seen; the order is theirs, and the store is the one to which they lead: every
-- branch, and the rows that calls name
pub record IsReason (base : State) (numbered : List NumberedEvent) (events : List Event)
    (reason : Reason) : Type 0 where
  pub moves : List Move
  pub config : Config
  pub runs : LeadsThrough (opening_config base) events moves config
  pub order_is : reason.order ≡ order_text no_calls numbered moves
  pub state_is : reason.state ≡ listing config.state (keys_named events)

-- the reason explains what is seen; it is missing only if too many configurations have to be kept before a place of
-- that
abbrev pub IsReasonFound : State → List NumberedEvent → List Event → ℕ → Option Reason → Type 0
IsReasonFound base numbered events limit (Some reason) = IsReason base numbered events reason
IsReasonFound base numbered events limit None = (place : ℕ) × IsWide base events limit place

-- an order and the store after it are asked for: an explanation is, and no smaller record, which stands in their place
abbrev pub is_reason_asked : Asked → Bool
is_reason_asked asked = asked.explains && not asked.shrinks

-- if a reason is asked for, it is found or missing as `IsReasonFound` says; else there is none
abbrev pub IsReasonSought : Bool → State → List NumberedEvent → List Event → ℕ → Option Reason → Type 0
IsReasonSought true base numbered events limit reason = IsReasonFound base numbered events limit reason
IsReasonSought false base numbered events limit reason = reason ≡ None

-- what is told beside the answers of an ILLEGAL verdict at this place
pub record AreGrounds (base : State) (allowances : List Allowance) (lines : List (List ℕ)) (asked : Asked)
    (numbered : List NumberedEvent) (events : List Event) (place : ℕ) (grounds : Grounds) : Type 0 where
  pub exchange : grounds.exchange ≡ exchange_sought asked.explains numbered place
  pub reason : IsReasonSought (is_reason_asked asked) base (take place numbered) (take place events) asked.limit
      grounds.reason
  pub smaller : IsSmallerSought asked.shrinks base allowances asked lines grounds.smaller

-- what is reported of a verdict on the events of these lines, which begin in a state
abbrev pub IsReportOf : State → List Allowance → List (List ℕ) → Asked → List NumberedEvent → List Event → Verdict
    → Report → Type 0
IsReportOf base allowances lines asked numbered events (Verdict.Legal moves) report =
    report ≡ Legal (order_text no_calls numbered moves.items)
IsReportOf base allowances lines asked numbered events (Verdict.Illegal place answers) report =
    (grounds : Grounds) × AreGrounds base allowances lines asked numbered events place grounds
    × (report ≡ Illegal (line_number_at numbered place) (texts_of answers.items) grounds)
IsReportOf base allowances lines asked numbered events (Verdict.Undecided place) report =
    report ≡ Undecided (line_number_at numbered place)
