-- Lines tell nothing but what is read of them.
use Rattle.std.proofs.Common.{◌≡◌, ℕ, suc, ◌+◌, ◌-◌, ◌==◌, ◌<◌, true, false, Option, Some, None, List, [], ◌∷◌, ◌++◌}
use Rattle.std.proofs.Common.{length, slice_get, slice_set, refl, ap, sym, ◌∙◌, subst, arith, append_assoc, append-nil}
use Rattle.std.{proofs.lemmas.Bool.Decides.nat_tests, specs.List.insert}
use Rattle.xa_xid.specs.{Bytes.unblank, declared.xid.Xid.Xid}
use Rattle.xa_lines.specs.Script.{lines_of}
use Rattle.xa_record.specs.{declared.{line_fault.LineFault.LineFault, presence.Presence.Presence}, Lines.ShowsRows}
use Rattle.xa_record.specs.Lines.{Told, Calls, Returns, ReturnsUnknown, Leaves, LineSaid, Nothing, Says, Awaits, Closed}
use Rattle.xa_record.specs.{Lines.{is_silent, reading_of_line}, Rows.row_said, Reading.{NumberedEvent, Awaited, Notes}}
use Rattle.xa_record.specs.Reading.{noted_if, closed_if, cause_of, session_of, presence_after, up_to_return, returned}
use Rattle.xa_record.specs.Reading.{awaiting, with_row, noted_row, noted_said, noted_line, noted_lines, no_notes}
use Rattle.xa_record.specs.{Reading.{notes_by, notes_of}, Records.{RowsOf, no_row, silent_row, one_row, EndsInReturn}}
use Rattle.xa_record.specs.Records.{HasNoReturn, Fits, Tells, no_line, silent_line, call_line, return_line, rows_lines}
use Rattle.xa_record.{specs.Records.{unknown_line, lost_line, gone_line}, proofs.LastReturns.inserted}
use Rattle.xa_record.proofs.{RecordLines.cause-shown, SessionsWithin.{Within, line_within}}
use Rattle.xa_record.proofs.Presences.{Placed, placed-none, fits-here, placed-next, placed-closed}

-- reading two lists of lines is reading the second from where the first ends
noted_lines-append : (notes : Notes) (number : ℕ) (lines more : List (List ℕ))
    → noted_lines false notes number (lines ++ more) ≡ noted_lines false (noted_lines false notes number lines)
    (number + length lines) more
unfolding noted_lines
noted_lines-append notes number [] more = ap (λ (n : ℕ). noted_lines false notes n more) (omega arith)
noted_lines-append notes number (line ∷ lines) more =
    noted_lines-append (noted_line false notes number line) (number + 1) lines more
    ∙ ap (λ (n : ℕ). noted_lines false (noted_lines false (noted_line false notes number line)
    (number + 1) lines) n more) (omega arith)

-- notes with these events and presences, without a fault, that await no row
abbrev noted : List NumberedEvent → List Presence → Notes
noted list presence = record { told = list; faults = []; presence = presence; awaited = None }

-- notes with these events and presences, without a fault, while the rows of a return are still to come
abbrev waiting : List NumberedEvent → List Presence → Awaited → Notes
waiting list presence a = record { told = list; faults = []; presence = presence; awaited = Some a }

-- the lines were read without a fault as these events, and no row is to come
record IsRead (lines : List (List ℕ)) (list : List NumberedEvent) : Type 0 where
  presence : List Presence
  placed : Placed presence list
  is : noted_lines false no_notes 1 lines ≡ noted list presence

-- a line outside of a return's rows is noted by what it says
said-of : (said : LineSaid) (list : List NumberedEvent) (presence : List Presence) (line : List ℕ) (number : ℕ)
    → reading_of_line line ≡ said
    → noted_line false (noted list presence) number line ≡ noted_said false (noted list presence) number said
unfolding noted_line
said-of said list presence line number is = ap (noted_said false (noted list presence) number) is

-- reading lines and one more is reading that one with the notes that the others leave
lines-more : (lines : List (List ℕ)) (line : List ℕ) (more : List (List ℕ)) (list : List NumberedEvent)
    (read : IsRead lines list)
    → noted_lines false no_notes 1 (lines ++ line ∷ more) ≡ noted_lines false
    (noted_line false (noted list read.presence) (length lines + 1) line) (length lines + 1 + 1) more
unfolding noted_lines
lines-more lines line more list read = grind (arith, noted_lines-append)

-- without a line the notes stay
no-more : (notes : Notes) (number : ℕ) → noted_lines false notes number [] ≡ notes
unfolding noted_lines
no-more notes number = refl

-- if lines were read without a fault, one line more is noted by what it says
line-more : (lines : List (List ℕ)) (line : List ℕ) (list : List NumberedEvent) (read : IsRead lines list)
    (said : LineSaid) → reading_of_line line ≡ said
    → noted_lines false no_notes 1 (lines ++ line ∷ []) ≡ noted_said false (noted list read.presence)
    (length lines + 1) said
line-more lines line list read said is =
    lines-more lines line [] list read ∙ no-more _ _ ∙ said-of said list read.presence line (length lines + 1) is

-- an empty list of lines is read as no event
no-line-read : IsRead [] []
unfolding noted_lines
no-line-read = record { presence = no_notes.presence; placed = placed-none; is = refl }

-- a line that says nothing adds no event
silent-read : (lines : List (List ℕ)) (line : List ℕ) (list : List NumberedEvent) → reading_of_line line ≡ Nothing
    → IsRead lines list → IsRead (lines ++ line ∷ []) list
unfolding noted_said
silent-read lines line list is read =
    record { presence = read.presence; placed = read.placed; is = line-more lines line list read Nothing is }

-- an event without a fault is noted behind the others
noted-so : (o : Option LineFault) (list : List NumberedEvent) (presence : List Presence) (number : ℕ) (told : Told)
    → o ≡ None
    → noted_if o (noted list presence) number told
    ≡ noted (list ++ record { number = number; told = told } ∷ [])
    (slice_set presence (session_of told) (presence_after told))
unfolding noted_if
noted-so o list presence number told is = cc

-- a loss without a fault is noted behind the session's last return
closed-so : (o : Option LineFault) (list : List NumberedEvent) (presence : List Presence) (number session : ℕ)
    → o ≡ None
    → closed_if o (noted list presence) number session
    ≡ noted (insert list (up_to_return session list) (record { number = number; told = Leaves session }))
    (slice_set presence session Presence.Lost)
unfolding closed_if
closed-so o list presence number session is = cc

-- a line that says an event which can happen is read as that event
happens-read : (told : Told) (lines : List (List ℕ)) (line : List ℕ) (list : List NumberedEvent)
    → reading_of_line line ≡ Says told → Fits list told → IsRead lines list
    → IsRead (lines ++ line ∷ []) (list ++ record { number = length lines + 1; told = told } ∷ [])
unfolding noted_said
happens-read told lines line list is fits read =
    let within : session_of told < 17 = subst Within is (line_within line) in
    record {
      presence = slice_set read.presence (session_of told) (presence_after told);
      placed = placed-next read.presence list (length lines + 1) told within read.placed fits;
      is =
          line-more lines line list read (Says told) is
          ∙ noted-so _ list read.presence (length lines + 1) told
          (fits-here read.presence list told within read.placed ∙ fits);
    }

-- a line of a closed connection is read as a loss behind the session's last return, if that can happen
closed-read : (session : ℕ) (lines : List (List ℕ)) (line : List ℕ) (before after : List NumberedEvent)
    → reading_of_line line ≡ Closed session
    → EndsInReturn session before → HasNoReturn session after → Fits (before ++ after) (Leaves session)
    → IsRead lines (before ++ after)
    → IsRead (lines ++ line ∷ []) (before ++ record { number = length lines + 1; told = Leaves session } ∷ after)
unfolding noted_said
closed-read session lines line before after is ends_so last fits read =
    let within : session < 17 = subst Within is (line_within line) in
    let one : NumberedEvent = record { number = length lines + 1; told = Leaves session } in
    record {
      presence = slice_set read.presence session Presence.Lost;
      placed = placed-closed read.presence before after (length lines + 1) session within read.placed;
      is =
          line-more lines line (before ++ after) read (Closed session) is
          ∙ closed-so _ (before ++ after) read.presence (length lines + 1) session
          (fits-here read.presence (before ++ after) (Leaves session) within read.placed ∙ fits)
          ∙ ap (λ (l : List NumberedEvent). noted l (slice_set read.presence session Presence.Lost))
          (inserted session before after one ends_so last);
    }

-- a number above 0 doesn't test as 0
some-missing : (missing : ℕ) → 0 < missing → (missing == 0) ≡ false
some-missing missing some = grind (arith, nat_tests)

-- while rows are missing the return is held back
waits : (list : List NumberedEvent) (presence : List Presence) (a : Awaited) → 0 < a.missing
    → awaiting (noted list presence) a ≡ waiting list presence a
waits list presence a is = grind (arith, some-missing)

-- once none of its rows is missing a return is noted, or its line blamed if it can't happen (`returned`)
all-came : (list : List NumberedEvent) (presence : List Presence) (a : Awaited) → a.missing ≡ 0
    → awaiting (noted list presence) a ≡ returned (noted list presence) a
all-came list presence a is = cc

-- a silent line among rows changes nothing
come-silent : (list : List NumberedEvent) (presence : List Presence) (a : Awaited) (number : ℕ) (line : List ℕ)
    → is_silent line ≡ true
    → noted_line false (waiting list presence a) number line ≡ waiting list presence a
unfolding noted_line noted_row
come-silent list presence a number line silent = cc

-- a line among rows that isn't silent is read as a row
come-row : (list : List NumberedEvent) (presence : List Presence) (a : Awaited) (number : ℕ) (line : List ℕ)
    (row : Option Xid) → is_silent line ≡ false
    → row_said (unblank line) ≡ row → noted_line false (waiting list presence a) number line
    ≡ with_row (noted list presence) a number row
unfolding noted_line noted_row
come-row list presence a number line row full said = cc

-- a row that can be read is added to those that came
with-row-some : (list : List NumberedEvent) (presence : List Presence) (a : Awaited) (number : ℕ) (xid : Xid)
    → with_row (noted list presence) a number (Some xid)
    ≡ awaiting (noted list presence) (record a { missing = a.missing - 1; rows = a.rows ++ xid ∷ [] })
unfolding with_row
with-row-some list presence a number xid = refl

-- a return whose rows have come is noted with them, if no line among them was faulty and the return can happen
returned-so : (list : List NumberedEvent) (presence : List Presence) (a : Awaited) → a.faults ≡ []
    → cause_of (slice_get presence a.session) (Returns a.session (ShowsRows [])) ≡ None
    → returned (noted list presence) a
    ≡ noted (list ++ record { number = a.number; told = Returns a.session (ShowsRows a.rows) } ∷ [])
    (slice_set presence a.session Presence.Idle)
returned-so list presence a clean fits = grind (arith, cause-shown, noted-so)

-- if a return can happen, and no faulty line came, the lines of the rows that are missing are read as that return, with
-- the rows that came and exactly these
rows-read : (count : ℕ) (lines : List (List ℕ)) (more : List Xid) → RowsOf count lines more
    → (list : List NumberedEvent) (presence : List Presence) (a : Awaited) (number : ℕ)
    → a.missing ≡ count → a.faults ≡ [] → cause_of (slice_get presence a.session) (Returns a.session (ShowsRows []))
    ≡ None
    → noted_lines false (awaiting (noted list presence) a) number lines
    ≡ noted (list ++ record { number = a.number; told = Returns a.session (ShowsRows (a.rows ++ more)) } ∷ [])
    (slice_set presence a.session Presence.Idle)
unfolding noted_lines
rows-read count lines more no_row list presence a number is clean fits =
    all-came list presence a is ∙ returned-so list presence a clean fits
    ∙ ap (λ (l : List Xid). noted (list ++ record { number = a.number; told = Returns a.session (ShowsRows l) } ∷ [])
    (slice_set presence a.session Presence.Idle)) (sym (append-nil a.rows))
rows-read count lines more (silent_row {count = c} {line = line}
    {lines = rest} silent came) list presence a number is clean fits =
    let here = waits list presence a (omega (arith, is)) in
    ap (λ (n : Notes). noted_lines false n (number + 1) rest) (ap (λ (n : Notes). noted_line false n number line) here
    ∙ come-silent list presence a number line silent ∙ sym here)
    ∙ rows-read (suc c) rest more came list presence a (number + 1) is clean fits
rows-read count lines more (one_row {count = c} {line = line} {lines = rest} {xid = xid}
    {rows = fewer} filled said came) list presence a number is clean fits =
    let b : Awaited = record a { missing = a.missing - 1; rows = a.rows ++ xid ∷ [] } in
    let here = waits list presence a (omega (arith, is)) in
    ap (λ (n : Notes). noted_lines false n (number + 1) rest)
    (ap (λ (n : Notes). noted_line false n number line) here ∙ come-row list presence a number line
    (Some xid) filled said
    ∙ with-row-some list presence a number xid)
    ∙ rows-read c rest fewer came list presence b (number + 1) (omega (arith, is)) clean fits
    ∙ ap (λ (l : List Xid). noted (list ++ record { number = a.number; told = Returns a.session (ShowsRows l) } ∷ [])
    (slice_set presence a.session Presence.Idle))
    (append_assoc a.rows (xid ∷ []) fewer)

-- a return of this many rows, before the first of them was read
abbrev first-awaited : ℕ → ℕ → ℕ → Awaited
first-awaited session number count =
    record { session = session; number = number; missing = count; rows = []; faults = [] }

-- after a line that announces rows, the lines behind it are read with the notes that `awaiting` gives: that return is
-- held back, or taken at once if it has no rows
awaits-said : (lines : List (List ℕ)) (line : List ℕ) (more : List (List ℕ)) (list : List NumberedEvent)
    (read : IsRead lines list) (session count : ℕ)
    → reading_of_line line ≡ Awaits session count
    → noted_lines false no_notes 1 (lines ++ line ∷ more)
    ≡ noted_lines false (awaiting (noted list read.presence) (first-awaited session (length lines + 1) count))
    (length lines + 1 + 1) more
unfolding noted_said
awaits-said lines line more list read session count is =
    lines-more lines line more list read
    ∙ ap (λ (n : Notes). noted_lines false n (length lines + 1 + 1) more)
    (said-of (Awaits session count) list read.presence line (length lines + 1) is)

-- a line that announces rows, with the lines of its rows behind it, is read as the return that shows them, if that can
-- happen
rows-lines-read : (lines : List (List ℕ)) (line : List ℕ) (more : List (List ℕ)) (list : List NumberedEvent)
    (session count : ℕ) (rows : List Xid)
    → reading_of_line line ≡ Awaits session count → RowsOf count more rows
    → Fits list (Returns session (ShowsRows rows)) → IsRead lines list
    → IsRead (lines ++ line ∷ more)
    (list ++ record { number = length lines + 1; told = Returns session (ShowsRows rows) } ∷ [])
rows-lines-read lines line more list session count rows is came fits read =
    let told = Returns session (ShowsRows rows) in
    let within : session < 17 = subst Within is (line_within line) in
    let here = cause-shown (slice_get read.presence session) session (ShowsRows []) (ShowsRows rows)
    ∙ fits-here read.presence list told within read.placed ∙ fits in
    record {
      presence = slice_set read.presence session Presence.Idle;
      placed = placed-next read.presence list (length lines + 1) told within read.placed fits;
      is =
          awaits-said lines line more list read session count is
          ∙ rows-read count more rows came list read.presence (first-awaited session (length lines + 1) count)
          (length lines + 1 + 1) refl refl here;
    }

-- what lines tell is what is read of them, and none is faulty
lines-read : (lines : List (List ℕ)) (list : List NumberedEvent) → Tells lines list → IsRead lines list
lines-read lines list no_line = no-line-read
lines-read lines list (silent_line before line same tells is) =
    silent-read before line same is (lines-read before same tells)
lines-read lines list (call_line before line old session text tells is fits) =
    happens-read (Calls session text) before line old is fits (lines-read before old tells)
lines-read lines list (return_line before line old session shown tells is fits) =
    happens-read (Returns session shown) before line old is fits (lines-read before old tells)
lines-read lines list (rows_lines before line more old session count rows tells is came fits) =
    rows-lines-read before line more old session count rows is came fits (lines-read before old tells)
lines-read lines list (unknown_line before line old session tells is fits) =
    happens-read (ReturnsUnknown session) before line old is fits (lines-read before old tells)
lines-read lines list (lost_line before line old session tells is fits) =
    happens-read (Leaves session) before line old is fits (lines-read before old tells)
lines-read lines list (gone_line before line front back session tells is ends_so last fits) =
    closed-read session before line front back is ends_so last fits (lines-read before (front ++ back) tells)

-- what lines tell is what is read of them, if the texts of calls aren't tested, and no line is faulty
pub text-told : (text : List ℕ) (list : List NumberedEvent) → Tells (lines_of text) list
    → ((notes_of text).faults ≡ []) × (list ≡ (notes_of text).told)
unfolding notes_by
text-told text list tells = grind (arith, lines-read)
