-- Which events the lines of a record say.
use Rattle.std.specs.{Prelude.{◌≡◌, ℕ, Option, Result, Ok, Err, List, [], ◌∷◌}, List.AllZip}
use Rattle.std.specs.List.Sorted.{IsPermutation, IsSorted}
use Rattle.xa_xid.specs.{Xid.xid_cmp, declared.statement.Statement.Statement}
use Rattle.xa_statement.specs.Reading.{read_of}
use Rattle.xa_judge.specs.declared.{request.Request.Request, event.{Seen.Seen, Event.Event}}
use Rattle.xa_record.specs.declared.{allowance.Allowance.Allowance, statement_kind.StatementKind.StatementKind}
use Rattle.xa_record.specs.Lines.{Shown, ShowsOk, ShowsValue, ShowsRows, ShowsError, Told, Calls, Returns}
use Rattle.xa_record.specs.{Lines.{ReturnsUnknown, Leaves}, Reading.NumberedEvent}
use Rattle.xa_record.specs.Allowances.{others_for, no_kinds, kinds_after, kind_asked}

-- a request is a statement, or a text that couldn't be read as one
abbrev pub request_read : Result Statement ℕ → Request
request_read (Ok statement) = Request.Statement statement
request_read (Err place) = Request.Unread

-- the request of a session that calls for a text; a text that isn't a statement is answered 1064
abbrev pub request_called : List ℕ → Request
request_called text = request_read (read_of text)

-- what is seen is what a return shows, with rows in ascending order; a refusal stands for its number, and for
-- those in the list
abbrev pub IsSeen : List ℕ → Shown → Seen → Type 0
IsSeen others ShowsOk seen = seen ≡ Seen.Ok
IsSeen others (ShowsValue value) seen = seen ≡ Seen.Value value
IsSeen others (ShowsRows rows) (Seen.Rows sorted) = IsPermutation rows sorted.items × IsSorted xid_cmp sorted.items
IsSeen others (ShowsRows rows) seen = ⊥
IsSeen others (ShowsError number) (Seen.Error numbers) = (numbers.seen ≡ number) × (numbers.others.items ≡ others)
IsSeen others (ShowsError number) seen = ⊥

-- the rules' numbers for which a refusal that is shown may stand in addition to its own, as the answer to a statement
-- of this kind; what is no refusal stands for no number
abbrev pub others_shown : List Allowance → Option StatementKind → Shown → List ℕ
others_shown allowances kind (ShowsError number) = others_for allowances kind number
others_shown allowances kind shown = []

-- an event is the one that a line tells; `kinds` are those of what sessions called for last
abbrev pub IsEvent : List Allowance → List (Option StatementKind) → Told → Event → Type 0
IsEvent allowances kinds (Calls session text) event = event ≡ Event.Call session (request_called text)
IsEvent allowances kinds (Returns session shown) (Event.Return other seen) =
    (other ≡ session) × IsSeen (others_shown allowances (kind_asked kinds session) shown) shown seen
IsEvent allowances kinds (Returns session shown) event = ⊥
IsEvent allowances kinds (ReturnsUnknown session) event = event ≡ Event.Unknown session
IsEvent allowances kinds (Leaves session) event = event ≡ Event.Lost session

-- there are as many events as lines that tell one, and each is the one of its line; `kinds` are those of what
-- sessions called for last before
unfoldable pub AreEventsAfter : List Allowance → List (Option StatementKind) → List NumberedEvent → List Event → Type 0
AreEventsAfter allowances kinds [] [] = Unit {0}
AreEventsAfter allowances kinds (one ∷ numbered) (event ∷ events) =
    IsEvent allowances kinds one.told event × AreEventsAfter allowances (kinds_after event kinds) numbered events
AreEventsAfter allowances kinds numbered events = ⊥

-- the events that the lines of a record tell, with these allowances, if no session had called before
abbrev pub AreEvents : List Allowance → List NumberedEvent → List Event → Type 0
AreEvents allowances numbered events = AreEventsAfter allowances no_kinds numbered events

-- the event of a call is that call; of anything else nothing is said
abbrev pub IsCallOf : Told → Event → Type 0
IsCallOf (Calls session text) event = event ≡ Event.Call session (request_called text)
IsCallOf told event = Unit {0}

-- there are as many events as lines that tell one, and that of each call is that call; of other events nothing is
-- said
abbrev pub AreCalls : List NumberedEvent → List Event → Type 0
AreCalls numbered events = AllZip (λ one event. IsCallOf one.told event) numbered events
