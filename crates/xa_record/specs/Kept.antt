-- How the program keeps what it reads, as the definitions see it.
--     shown_kept, told_kept, line_kept      what a return shows;  an event;  what a line says
--     reason_kept, exchange_kept, grounds_kept, report_kept     what explains an illegal verdict;  what was seen, and
--                               its call;  what is told beside the answers;  what is reported of a record
--     text_told, text_at        the text of a call;  the text of the call at a place
use Rattle.std.specs.{Prelude.{ℕ, Option, Some, None, List, [], ◌∷◌, map, slice_get, slice_set}, Borrow.Bor}
use Rattle.std.specs.Option.{option_map}
use Rattle.xa_xid.specs.declared.xid.Xid.{Xid}
use Rattle.xa_record.specs.{Rows.row_said, declared.{line_event.LineEvent.LineEvent, shown.Shown.Shown as ShownRead}}
use Rattle.xa_record.specs.declared.{line_event.NumberedEvent.NumberedEvent as NumberedRead, line.RecordLine.RecordLine}
use Rattle.xa_record.specs.declared.{pending.Pending.Pending, notes.Notes.Notes as NotesRead}
use Rattle.xa_record.specs.declared.{last_calls.LastCalls.LastCalls, exchange.Exchange.Exchange as ExchangeMade}
use Rattle.xa_record.specs.declared.{grounds.Grounds.Grounds as GroundsMade, reason.Reason.Reason as ReasonFound}
use Rattle.xa_record.specs.{declared.report.Report.Report as ReportMade, Lines.{Shown, ShowsOk, ShowsValue, ShowsRows}}
use Rattle.xa_record.specs.Lines.{ShowsError, Told, Calls, Returns, ReturnsUnknown, Leaves, LineSaid, Nothing, Bad}
use Rattle.xa_record.specs.{Lines.{Says, Awaits, Closed}, Reading.{Awaited, NumberedEvent, Notes}, Exchanges.Exchange}
use Rattle.xa_record.specs.Reports.{Reason, Grounds, Report, Faulty, Empty, Legal, Illegal, Undecided}

-- a row that could be read, before those after it; a text that is no row adds none
abbrev pub row_before : Option Xid → List Xid → List Xid
row_before None rows = rows
row_before (Some row) rows = row ∷ rows

-- the identifiers of these texts, without those that are no rows
abbrev pub rows_kept : List (Bor (List ℕ)) → List Xid
rows_kept [] = []
rows_kept (text ∷ texts) = row_before (row_said text.now) (rows_kept texts)

-- what a return shows, as definitions see it
abbrev pub shown_kept : ShownRead → Shown
shown_kept ShownRead.Ok = ShowsOk
shown_kept ShownRead.None = ShowsValue None
shown_kept (ShownRead.Value value) = ShowsValue (Some value.value)
shown_kept (ShownRead.Rows texts) = ShowsRows (rows_kept texts.value.items)
shown_kept (ShownRead.Error number) = ShowsError number

-- an event, as definitions see it
abbrev pub told_kept : LineEvent → Told
told_kept (LineEvent.Call session text) = Calls session text.now
told_kept (LineEvent.Return session shown) = Returns session (shown_kept shown)
told_kept (LineEvent.Unknown session) = ReturnsUnknown session
told_kept (LineEvent.Lost session) = Leaves session

-- what a line says, as definitions see it
abbrev pub line_kept : RecordLine → LineSaid
line_kept RecordLine.Nothing = Nothing
line_kept RecordLine.Bad = Bad
line_kept (RecordLine.Happens line_event) = Says (told_kept line_event)
line_kept (RecordLine.Value session value) = Says (Returns session (ShowsValue (Some value)))
line_kept (RecordLine.Rows session count) = Awaits session count
line_kept (RecordLine.Closed session) = Closed session

-- an event, with its line's number
abbrev pub numbered_kept : NumberedRead → NumberedEvent
numbered_kept numbered = record { number = numbered.number; told = told_kept numbered.line_event }

-- rows that are still to come, as definitions see them
abbrev pub awaited_kept : Pending → Awaited
awaited_kept pending =
    record {
      session = pending.session;
      number = pending.number;
      missing = pending.missing;
      rows = rows_kept
          pending.rows.value.items;
      faults = pending.faults.items;
    }

-- what was read so far, as definitions see it
abbrev pub notes_kept : NotesRead → Notes
notes_kept notes =
    record {
      told = map numbered_kept notes.numbered.items;
      faults = notes.faults.items;
      presence = notes.presence;
      awaited = option_map awaited_kept notes.pending;
    }

-- what explains an illegal verdict, as definitions see it
abbrev pub reason_kept : ReasonFound → Reason
reason_kept reason = record { order = reason.order.items; state = reason.state.items }

-- what was seen, and its call
abbrev pub exchange_kept : ExchangeMade → Exchange
exchange_kept exchange =
    record { seen = exchange.seen.items; line = exchange.line; call = exchange.call.items }

-- what is told beside the answers of an ILLEGAL verdict, as definitions see it
abbrev pub grounds_kept : GroundsMade → Grounds
grounds_kept grounds =
    record {
      exchange = option_map exchange_kept grounds.exchange;
      reason = option_map reason_kept grounds.reason;
      smaller = option_map (λ text. text.items) grounds.smaller;
    }

-- what is reported of a record, as definitions see it
abbrev pub report_kept : ReportMade → Report
report_kept (ReportMade.Faulty faults) = Faulty faults.items
report_kept ReportMade.Empty = Empty
report_kept (ReportMade.Legal order) = Legal order.items
report_kept (ReportMade.Illegal number texts grounds) =
    Illegal number (map (λ text. text.items) texts.keys) (grounds_kept grounds)
report_kept (ReportMade.Undecided number) = Undecided number

-- the text of a call; empty if this is no call
abbrev pub text_told : Told → List ℕ
text_told (Calls session text) = text
text_told other = []

-- the text of the call at a place; nothing if there is no event or no call
abbrev pub text_numbered : Option NumberedEvent → List ℕ
text_numbered None = []
text_numbered (Some numbered) = text_told numbered.told

-- the text of the call at this place; nothing without a place, or where no call is
abbrev pub text_at : List NumberedEvent → Option ℕ → List ℕ
text_at numbered None = []
text_at numbered (Some place) = text_numbered (slice_get numbered place)

-- at each session's number, the text that it called for last, by the place of its call
abbrev pub calls_kept : List NumberedEvent → LastCalls → List (List ℕ)
calls_kept numbered calls = map (text_at numbered) calls.places

-- at each session's number, the place of its last call, after the event at this place
abbrev pub with_place : ℕ → Told → List (Option ℕ) → List (Option ℕ)
with_place place (Calls session text) places = slice_set places session (Some place)
with_place place other places = places
