-- How a record is read, line by line. Every rule here is the project's own: docs/HISTORIES.md#records.
-- Faulty lines are written in ascending order, each once. What is written for those among the rows of a return is held
-- until all rows of that return have come, or the record ends, and comes after what is written for the return.
--     session_of, presence_after, is_return_of     the session of an event;  whether that session is idle, has an open
--                         call or is lost after it;  whether the event is a return to a session
use Rattle.std.specs.Prelude.{ℕ, zero, suc, ◌+◌, ◌-◌, ◌==◌, Bool, true, false, if◌then◌else◌, Option, Some, None}
use Rattle.std.specs.Prelude.{Result, Ok, Err, List, [], ◌∷◌, ◌++◌, codes, decimal, slice_get, slice_set, replicate}
use Rattle.std.specs.List.{insert}
use Rattle.xa_xid.specs.{Bytes.unblank, declared.{xid.Xid.Xid, statement.Statement.Statement}}
use Rattle.xa_statement.specs.Reading.{read_of}
use Rattle.xa_lines.specs.Script.{lines_of}
use Rattle.xa_record.specs.{declared.{line_fault.LineFault.LineFault, presence.Presence.Presence}, Lines.ShowsRows}
use Rattle.xa_record.specs.Lines.{Told, Calls, Returns, ReturnsUnknown, Leaves, LineSaid, Nothing, Bad, Says, Awaits}
use Rattle.xa_record.specs.{Lines.{Closed, reading_of_line, is_silent}, Rows.row_said}

-- the session of an event
abbrev pub session_of : Told → ℕ
session_of (Calls session text) = session
session_of (Returns session shown) = session
session_of (ReturnsUnknown session) = session
session_of (Leaves session) = session

-- whether the session of this event is idle, has an open call or is lost after it
abbrev pub presence_after : Told → Presence
presence_after (Calls session text) = Presence.Open
presence_after (Returns session shown) = Presence.Idle
presence_after (ReturnsUnknown session) = Presence.Idle
presence_after (Leaves session) = Presence.Lost

-- why an event isn't possible for a session with this presence: a call if the session has an open call, a return if
-- it has none, and any event if its client is gone; None if it is possible, or there is no presence
abbrev pub cause_of : Option Presence → Told → Option LineFault
cause_of (Some Presence.Open) (Calls session text) = Some (LineFault.OpenCall session)
cause_of (Some Presence.Idle) (Returns session shown) = Some (LineFault.NoOpenCall session)
cause_of (Some Presence.Idle) (ReturnsUnknown session) = Some (LineFault.NoOpenCall session)
cause_of (Some Presence.Lost) told = Some (LineFault.Lost (session_of told))
cause_of presence told = None

-- the fault of a call's text, if it isn't a statement
abbrev pub fault_read : Result Statement ℕ → Option LineFault
fault_read (Ok statement) = None
fault_read (Err place) = Some LineFault.NotAStatement

-- a call of a text that isn't a statement is faulty if the texts of calls are tested
abbrev pub fault_called : Told → Option LineFault
fault_called (Calls session text) = fault_read (read_of text)
fault_called told = None

-- the words for why a line is faulty
abbrev pub cause_text : LineFault → List ℕ
cause_text LineFault.NotALine = codes "not a line of a record"
cause_text LineFault.NotARow = codes "not a row"
cause_text LineFault.RowsMissing = codes "rows are missing"
cause_text LineFault.NotAStatement = codes "not a statement"
cause_text (LineFault.OpenCall session) = codes "session " ++ decimal session ++ codes " has an open call"
cause_text (LineFault.NoOpenCall session) = codes "session " ++ decimal session ++ codes " has no open call"
cause_text (LineFault.Lost session) = codes "session " ++ decimal session ++ codes " is lost"

-- what is written for a faulty line
abbrev pub fault_text : ℕ → LineFault → List ℕ
fault_text number fault = codes "LINE " ++ decimal number ++ codes ": " ++ cause_text fault ++ codes "\n"

-- how many rows are still to come for the return of a session on the line of this number; those that have come;
-- and what is written for the lines that aren't rows
pub record Awaited : Type 0 where
  pub session : ℕ
  pub number : ℕ
  pub missing : ℕ
  pub rows : List Xid
  pub faults : List ℕ

-- an event, with the number of its line
pub record NumberedEvent : Type 0 where
  pub number : ℕ
  pub told : Told

-- what was read so far: the events, what is written for faulty lines, at each session's number its presence, and rows
-- that are still to come, if any are
pub record Notes : Type 0 where
  pub told : List NumberedEvent
  pub faults : List ℕ
  pub presence : List Presence
  pub awaited : Option Awaited

-- the notes before the first line; place 0 of presence belongs to no session
abbrev pub no_notes : Notes
no_notes = record { told = []; faults = []; presence = replicate 17 Presence.Idle; awaited = None }

-- the notes once the line of this number is told as faulty
unfoldable pub blamed : Notes → ℕ → LineFault → Notes
blamed notes number fault = record notes { faults = notes.faults ++ fault_text number fault }

-- the notes with this text, of faulty lines, behind what is written for those before
abbrev pub blamed_too : Notes → List ℕ → Notes
blamed_too notes faults = record notes { faults = notes.faults ++ faults }

-- the event is noted, with the presence of its session after it, unless this fault blames its line
unfoldable pub noted_if : Option LineFault → Notes → ℕ → Told → Notes
noted_if None notes number told =
    record notes {
      told = notes.told ++ record { number = number; told = told } ∷ [];
      presence = slice_set notes.presence (session_of told) (presence_after told);
    }
noted_if (Some fault) notes number told = blamed notes number fault

-- the notes after this event on the line of this number, or with that line as faulty if the event isn't possible
abbrev pub note_of : Notes → ℕ → Told → Notes
note_of notes number told = noted_if (cause_of (slice_get notes.presence (session_of told)) told) notes number told

-- the second fault, unless there is a first: a line is blamed once
abbrev pub beyond : Option LineFault → Option LineFault → Option LineFault
beyond (Some fault) other = None
beyond None other = other

-- the notes with the line of this number as faulty, if there is a fault
abbrev pub blamed_if : Option LineFault → Notes → ℕ → Notes
blamed_if None notes number = notes
blamed_if (Some fault) notes number = blamed notes number fault

-- the notes after this event on the line of this number, as `note_of` says; if the reading is strict, and the text of a
-- call that is noted isn't a statement, its line is faulty too. The call stays noted, so that its return isn't faulty
abbrev pub note_strictly : Bool → Notes → ℕ → Told → Notes
note_strictly false notes number told = note_of notes number told
note_strictly true notes number told =
    blamed_if (beyond (cause_of (slice_get notes.presence (session_of told)) told) (fault_called told))
    (note_of notes number told) number

-- whether the event is a return to the session, with a known answer or not
abbrev pub is_return_of : ℕ → Told → Bool
is_return_of session (Returns other shown) = other == session
is_return_of session (ReturnsUnknown other) = other == session
is_return_of session told = false

-- how many events there are up to and including a session's last return, once one event more stands in front: one
-- more than before; if there was no return, 1 if this event is one, else 0
abbrev pub one_more : ℕ → Bool → ℕ
one_more zero true = 1
one_more zero false = 0
one_more (suc count) returns = suc (suc count)

-- how many events there are up to and including the session's last return; 0 if it has none
unfoldable pub up_to_return : ℕ → List NumberedEvent → ℕ
up_to_return session [] = 0
up_to_return session (one ∷ more) = one_more (up_to_return session more) (is_return_of session one.told)

-- the loss is put in behind the session's last return, or at the beginning if it has none, since it may have happened
-- at any time from there on, unless this fault blames the line
unfoldable pub closed_if : Option LineFault → Notes → ℕ → ℕ → Notes
closed_if None notes number session =
    record notes {
      told = insert notes.told (up_to_return session notes.told) (record { number = number; told = Leaves session });
      presence = slice_set notes.presence session Presence.Lost;
    }
closed_if (Some fault) notes number session = blamed notes number fault

-- the connection was closed at any time since the session's last return: its client is gone from there on, or
-- the line is faulty
abbrev pub note_closed : Notes → ℕ → ℕ → Notes
note_closed notes number session =
    closed_if (cause_of (slice_get notes.presence session) (Leaves session)) notes number session

-- all rows have come: the call returns them, and after its line come the faulty lines among its rows
abbrev pub returned : Notes → Awaited → Notes
returned notes awaited =
    blamed_too (note_of notes awaited.number (Returns awaited.session (ShowsRows awaited.rows))) awaited.faults

-- if all rows have come, the call returns them; else the others are still to come
abbrev pub awaiting : Notes → Awaited → Notes
awaiting notes awaited =
    if awaited.missing == 0 then returned notes awaited else record notes { awaited = Some awaited }

-- the notes after a line in the place of a row, which is this row, or isn't one: in both cases one fewer is to come
unfoldable pub with_row : Notes → Awaited → ℕ → Option Xid → Notes
with_row notes awaited number None = awaiting notes (record awaited
    { missing = awaited.missing - 1; faults = awaited.faults ++ fault_text number LineFault.NotARow })
with_row notes awaited number (Some xid) =
    awaiting notes (record awaited { missing = awaited.missing - 1; rows = awaited.rows ++ xid ∷ [] })

-- the notes after a line in the place of a row; a blank line or a comment changes nothing
unfoldable pub noted_row : Notes → Awaited → ℕ → List ℕ → Notes
noted_row notes awaited number line =
    if is_silent line then notes else with_row (record notes { awaited = None }) awaited number
    (row_said (unblank line))

-- the notes after a line that isn't in the place of a row, by what it says
unfoldable pub noted_said : Bool → Notes → ℕ → LineSaid → Notes
noted_said strict notes number Nothing = notes
noted_said strict notes number Bad = blamed notes number LineFault.NotALine
noted_said strict notes number (Says told) = note_strictly strict notes number told
noted_said strict notes number (Closed session) = note_closed notes number session
noted_said strict notes number (Awaits session count) =
    awaiting notes (record { session = session; number = number; missing = count; rows = []; faults = [] })

-- the notes after a line: it is taken as a row if rows are awaited, else by what it says
abbrev pub noted_by : Bool → Option Awaited → Notes → ℕ → List ℕ → Notes
noted_by strict None notes number line = noted_said strict notes number (reading_of_line line)
noted_by strict (Some awaited) notes number line = noted_row notes awaited number line

-- the notes after the line of this number
unfoldable pub noted_line : Bool → Notes → ℕ → List ℕ → Notes
-- the notes after a line
noted_line strict notes number line = noted_by strict notes.awaited notes number line

-- the notes after these lines, the first of which has this number
unfoldable pub noted_lines : Bool → Notes → ℕ → List (List ℕ) → Notes
noted_lines strict notes number [] = notes
noted_lines strict notes number (line ∷ lines) =
    noted_lines strict (noted_line strict notes number line) (number + 1) lines

-- rows that are still to come when the record ends are missing; the faulty lines among those that came follow
-- the return's line
abbrev pub ended_by : Option Awaited → Notes → Notes
ended_by None notes = notes
ended_by (Some awaited) notes = blamed_too (blamed notes awaited.number LineFault.RowsMissing) awaited.faults

-- what was read of a record; if it is strict, each call has to be a statement
unfoldable pub notes_by : Bool → List ℕ → Notes
-- the notes after the lines of a text, with the texts of calls tested or not
notes_by strict text = let notes = noted_lines strict no_notes 1 (lines_of text) in ended_by notes.awaited notes

-- what was read of a record, whose calls don't have to be statements
abbrev pub notes_of : List ℕ → Notes
notes_of text = notes_by false text
