-- What the lines of a record tell: a rule for each kind of line.
-- The rules know no order of reading; Reading.antt says how lines are read one by one. Texts of calls aren't tested.
--     EndsInReturn, HasNoReturn      the last event, if there is one, is a return to the session;  no event is
--     presence_in, Fits   whether a session has an open call or is lost after events;  an event is possible next
use Rattle.std.specs.Prelude.{◌≡◌, ◌⊎◌, ℕ, suc, ◌+◌, ◌==◌, true, false, if◌then◌else◌, Option, Some, None}
use Rattle.std.specs.Prelude.{List, [], ◌∷◌, ◌++◌, length}
use Rattle.xa_xid.specs.{Bytes.unblank, declared.xid.Xid.Xid}
use Rattle.xa_record.specs.{declared.{line_fault.LineFault.LineFault, presence.Presence.Presence}, Lines.Shown}
use Rattle.xa_record.specs.Lines.{ShowsRows, Told, Calls, Returns, ReturnsUnknown, Leaves, Nothing, Says, Awaits}
use Rattle.xa_record.specs.{Lines.{Closed, is_silent, reading_of_line}, Rows.row_said}
use Rattle.xa_record.specs.Reading.{NumberedEvent, is_return_of, session_of, presence_after, cause_of}

-- so many rows are on these lines, maybe with blank lines and comments before each of them, and have these identifiers
pub data RowsOf : ℕ → List (List ℕ) → List Xid → Type 0 where
  no_row : RowsOf 0 [] []
  silent_row : {count : ℕ} {line : List ℕ} {lines : List (List ℕ)} {rows : List Xid} → is_silent line ≡ true
      → RowsOf (suc count) lines rows
      → RowsOf (suc count) (line ∷ lines) rows
  one_row : {count : ℕ} {line : List ℕ} {lines : List (List ℕ)} {xid : Xid} {rows : List Xid} → is_silent line ≡ false
      → row_said (unblank line) ≡ Some xid
      → RowsOf count lines rows → RowsOf (suc count) (line ∷ lines) (xid ∷ rows)

-- the event that is told on the line behind these lines, with that line's number
abbrev pub on_next_line : List (List ℕ) → Told → NumberedEvent
on_next_line lines told = record { number = length lines + 1; told = told }

-- the last event is a return to the session, or there is no event
abbrev pub EndsInReturn : ℕ → List NumberedEvent → Type 0
EndsInReturn session list = (list ≡ []) ⊎ ((front : List NumberedEvent) × (one : NumberedEvent)
    × (list ≡ front ++ one ∷ []) × (is_return_of session one.told ≡ true))

-- none of the events is a return to this session
abbrev pub HasNoReturn : ℕ → List NumberedEvent → Type 0
HasNoReturn session [] = Unit {0}
HasNoReturn session (one ∷ more) = (is_return_of session one.told ≡ false) × HasNoReturn session more

-- whether a session is idle, has an open call or is lost after this event of it: a client that is gone stays gone
abbrev pub presence_then : Presence → Told → Presence
presence_then Presence.Lost told = Presence.Lost
presence_then Presence.Idle told = presence_after told
presence_then Presence.Open told = presence_after told

-- whether a session has an open call or is lost after these events, if it began with this presence
unfoldable pub presence_from : ℕ → Presence → List NumberedEvent → Presence
presence_from session presence [] = presence
presence_from session presence (one ∷ more) =
    presence_from session (if session_of one.told == session then presence_then presence one.told else presence) more

-- whether the session has an open call or is lost after these events, if it was idle at first
abbrev pub presence_in : ℕ → List NumberedEvent → Presence
presence_in session list = presence_from session Presence.Idle list

-- why this event isn't possible next, by what the events say of its session; None if it is possible
abbrev pub cause_next : List NumberedEvent → Told → Option LineFault
cause_next list told = cause_of (Some (presence_in (session_of told) list)) told

-- the event is possible after these events, by whether its session has an open call or is lost
abbrev pub Fits : List NumberedEvent → Told → Type 0
Fits list told = cause_next list told ≡ None

-- the lines tell these events, in this order, and none of the lines is faulty
pub data Tells : List (List ℕ) → List NumberedEvent → Type 0 where
  -- where no line is, no event is told
  no_line : Tells [] []
  -- a blank line or a comment tells no event
  silent_line : (lines : List (List ℕ)) (line : List ℕ) (list : List NumberedEvent) → Tells lines list
      → reading_of_line line ≡ Nothing
      → Tells (lines ++ line ∷ []) list
  -- a call
  call_line : (lines : List (List ℕ)) (line : List ℕ) (list : List NumberedEvent) (session : ℕ) (text : List ℕ)
      → Tells lines list
      → reading_of_line line ≡ Says (Calls session text) → Fits list (Calls session text)
      → Tells (lines ++ line ∷ []) (list ++ on_next_line lines (Calls session text) ∷ [])
  -- a return on a line of its own
  return_line : (lines : List (List ℕ)) (line : List ℕ) (list : List NumberedEvent) (session : ℕ) (shown : Shown)
      → Tells lines list
      → reading_of_line line ≡ Says (Returns session shown) → Fits list (Returns session shown)
      → Tells (lines ++ line ∷ []) (list ++ on_next_line lines (Returns session shown) ∷ [])
  -- a return with its rows below it
  rows_lines : (lines : List (List ℕ)) (line : List ℕ) (more : List (List ℕ)) (list : List NumberedEvent)
      (session count : ℕ) (rows : List Xid) → Tells lines list
      → reading_of_line line ≡ Awaits session count → RowsOf count more rows
      → Fits list (Returns session (ShowsRows rows))
      → Tells (lines ++ line ∷ more) (list ++ on_next_line lines (Returns session (ShowsRows rows)) ∷ [])
  -- a return of which no more is known
  unknown_line : (lines : List (List ℕ)) (line : List ℕ) (list : List NumberedEvent) (session : ℕ) → Tells lines list
      → reading_of_line line ≡ Says (ReturnsUnknown session) → Fits list (ReturnsUnknown session)
      → Tells (lines ++ line ∷ []) (list ++ on_next_line lines (ReturnsUnknown session) ∷ [])
  -- a client that is lost
  lost_line : (lines : List (List ℕ)) (line : List ℕ) (list : List NumberedEvent) (session : ℕ) → Tells lines list
      → reading_of_line line ≡ Says (Leaves session) → Fits list (Leaves session)
      → Tells (lines ++ line ∷ []) (list ++ on_next_line lines (Leaves session) ∷ [])
  -- a connection that was found closed: its client may be gone since the last return to it
  gone_line : (lines : List (List ℕ)) (line : List ℕ) (before after : List NumberedEvent) (session : ℕ)
      → Tells lines (before ++ after)
      → reading_of_line line ≡ Closed session → EndsInReturn session before → HasNoReturn session after
      → Fits (before ++ after) (Leaves session)
      → Tells (lines ++ line ∷ []) (before ++ on_next_line lines (Leaves session) ∷ after)
