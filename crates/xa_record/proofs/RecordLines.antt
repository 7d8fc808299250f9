-- What is read of a record without a faulty line is what its lines tell.
use Rattle.std.proofs.Common.{◌≡◌, ◌≢◌, ℕ, zero, suc, ◌+◌, ◌-◌, ◌==◌, ◌<◌, Bool, true, false, if◌then◌else◌, Option}
use Rattle.std.proofs.Common.{Some, None, List, [], ◌∷◌, ◌++◌, length, take, drop, slice_get, refl, ap, sym, ◌∙◌, subst}
use Rattle.std.proofs.{Common.{arith, append_assoc, append-nil}, lemmas.{Bool.Decides.nat_tests, Grind.common_steps}}
use Rattle.std.proofs.lemmas.List.{take-append-drop}
use Rattle.xa_xid.specs.{Bytes.unblank, declared.xid.Xid.Xid}
use Rattle.xa_lines.specs.Script.{lines_of}
use Rattle.xa_record.specs.{declared.{line_fault.LineFault.LineFault, presence.Presence.Presence}, Lines.Shown}
use Rattle.xa_record.specs.Lines.{ShowsRows, Told, Calls, Returns, ReturnsUnknown, Leaves, LineSaid, Nothing, Bad, Says}
use Rattle.xa_record.specs.{Lines.{Awaits, Closed, is_silent, reading_of_line}, Rows.row_said, Reading.NumberedEvent}
use Rattle.xa_record.specs.Reading.{Awaited, Notes, fault_text, blamed, blamed_if, blamed_too, noted_if, closed_if}
use Rattle.xa_record.specs.Reading.{cause_of, session_of, up_to_return, returned, with_row, noted_row, noted_said}
use Rattle.xa_record.specs.Reading.{noted_line, noted_lines, no_notes, awaiting, note_of, note_closed, note_strictly}
use Rattle.xa_record.specs.{Reading.{ended_by, notes_by}, Records.{RowsOf, no_row, silent_row, one_row, on_next_line}}
use Rattle.xa_record.specs.Records.{Fits, Tells, no_line, silent_line, call_line, return_line, rows_lines, unknown_line}
use Rattle.xa_record.{specs.Records.{lost_line, gone_line}, proofs.LastReturns.{ends, ends-in}}
use Rattle.xa_record.proofs.SessionsWithin.{Within, line_within}
use Rattle.xa_record.proofs.Presences.{Placed, placed-none, fits-here, placed-next, placed-closed}

-- if two texts together are empty, so is the first
nothing-before : (xs ys : List ℕ) → xs ++ ys ≡ [] → xs ≡ []
nothing-before [] ys none = refl
nothing-before (x ∷ xs) ys none = absurd (cc)

-- if two texts together are empty, so is the second
nothing-behind : (xs ys : List ℕ) → xs ++ ys ≡ [] → ys ≡ []
nothing-behind [] ys none = none
nothing-behind (x ∷ xs) ys none = absurd (cc)

-- a text behind which a fault was written isn't empty
blamed-some : (faults : List ℕ) (number : ℕ) (fault : LineFault) → faults ++ fault_text number fault ≢ []
blamed-some faults number fault none = absurd (let text = nothing-behind faults (fault_text number fault) none in cc)

-- what is written for faulty lines among the rows of a return that are still to come
abbrev held : Option Awaited → List ℕ
held None = []
held (Some a) = a.faults

-- no faulty line was read
record Clean (notes : Notes) : Type 0 where
  noted : notes.faults ≡ []
  none_held : held notes.awaited ≡ []

-- if no fault is written after an event, none was before, and the event has none
noted-clean : (o : Option LineFault) (notes : Notes) (number : ℕ) (told : Told)
    → (noted_if o notes number told).faults ≡ [] → (notes.faults ≡ []) × (o ≡ None)
unfolding noted_if blamed
noted-clean o notes number told clean = grind (arith, blamed-some)

-- if no fault is written after a connection was found closed, none was before, and its line has none
closed-clean : (o : Option LineFault) (notes : Notes) (number session : ℕ)
    → (closed_if o notes number session).faults ≡ [] → (notes.faults ≡ []) × (o ≡ None)
unfolding closed_if blamed
closed-clean o notes number session clean = grind (arith, blamed-some)

-- if no fault is written after a line may have been blamed, it wasn't
blamed-clean : (o : Option LineFault) (notes : Notes) (number : ℕ) → (blamed_if o notes number).faults ≡ []
    → blamed_if o notes number ≡ notes
unfolding blamed
blamed-clean o notes number clean = grind (arith, blamed-some)

-- if no fault is written after an event, it is noted alike whether the texts of calls are tested or not
strictly-clean : (strict : Bool) (notes : Notes) (number : ℕ) (told : Told)
    → (note_strictly strict notes number told).faults ≡ []
    → note_strictly strict notes number told ≡ note_of notes number told
strictly-clean strict notes number told clean = grind (arith, blamed-clean)

-- if there is no fault after a return whose rows have come (`b`), or are still to come, there was none before
awaiting-clean : (b : Bool) (notes : Notes) (a : Awaited)
    → Clean (if b then returned notes a else record notes { awaited = Some a })
    → (notes.faults ≡ []) × (a.faults ≡ [])
awaiting-clean b notes a clean = grind (arith, noted-clean, nothing-before, nothing-behind)

-- if there is no fault after a line that isn't in the place of a row, none was before
said-clean : (strict : Bool) (said : LineSaid) (notes : Notes) (number : ℕ)
    → Clean (noted_said strict notes number said) → notes.faults ≡ []
unfolding noted_said blamed
said-clean strict Nothing notes number clean = clean.noted
said-clean strict Bad notes number clean = absurd (blamed-some notes.faults number LineFault.NotALine clean.noted)
said-clean strict (Says told) notes number clean =
    let same = strictly-clean strict notes number told clean.noted in
    (noted-clean (cause_of (slice_get notes.presence (session_of told)) told) notes number told
    (ap (λ (n : Notes). n.faults) (sym same) ∙ clean.noted)).0
said-clean strict (Closed session) notes number clean =
    (closed-clean (cause_of (slice_get notes.presence session) (Leaves session)) notes number session clean.noted).0
said-clean strict (Awaits session count) notes number clean =
    (awaiting-clean (count == 0) notes
    (record { session = session; number = number; missing = count; rows = []; faults = [] }) clean).0

-- if there is no fault after a line in the place of a row, it is one, and there was none before
row-clean : (row : Option Xid) (notes : Notes) (a : Awaited) (number : ℕ) → Clean (with_row notes a number row)
    → (notes.faults ≡ []) × (a.faults ≡ []) × (row ≢ None)
unfolding with_row
row-clean None notes a number clean =
    let b : Awaited =
    record a { missing = a.missing - 1; faults = a.faults ++ fault_text number LineFault.NotARow } in
    absurd (blamed-some a.faults number LineFault.NotARow (awaiting-clean (b.missing == 0) notes b clean).1)
row-clean (Some xid) notes a number clean =
    let b : Awaited = record a { missing = a.missing - 1; rows = a.rows ++ xid ∷ [] } in
    let before = awaiting-clean (b.missing == 0) notes b clean in (before.0, before.1, λ none. absurd (cc))

-- if there is no fault after a line among rows, silent or not, none was before
quiet-clean : (silent : Bool) (notes : Notes) (a : Awaited) (number : ℕ) (row : Option Xid)
    → Clean (if silent then record notes { awaited = Some a } else with_row (record notes { awaited = None }) a number
    row)
    → Clean (record notes { awaited = Some a })
quiet-clean silent notes a number row clean = grind (arith, row-clean)

-- if there is no fault after a line, none was before; the notes are given by their four parts
line-clean : (strict : Bool) (list : List NumberedEvent) (faults : List ℕ) (presence : List Presence)
    (awaited : Option Awaited) (number : ℕ) (line : List ℕ)
    → Clean (noted_line strict (record { told = list; faults = faults; presence = presence; awaited = awaited }) number
    line)
    → Clean (record { told = list; faults = faults; presence = presence; awaited = awaited })
unfolding noted_line noted_row
line-clean strict list faults presence None number line clean =
    record { noted = said-clean strict (reading_of_line line) _ number clean; none_held = refl }
line-clean strict list faults presence (Some a) number line clean =
    quiet-clean (is_silent line) (record { told = list; faults = faults; presence = presence; awaited = Some a }) a
    number (row_said (unblank line)) clean

-- if there is no fault after lines, none was before
lines-clean : (strict : Bool) (lines : List (List ℕ)) (notes : Notes) (number : ℕ)
    → Clean (noted_lines strict notes number lines) → Clean notes
unfolding noted_lines
lines-clean strict [] notes number clean = clean
lines-clean strict (line ∷ lines) notes number clean =
    line-clean strict notes.told notes.faults notes.presence notes.awaited number line
    (lines-clean strict lines (noted_line strict notes number line) (number + 1) clean)

-- a return with rows is on `line`, behind `before`; `came` are the lines behind it that were read, and `a.missing` rows
-- are still to come, whose lines (`extends`) complete the lines of all `count` rows
record Part (done : List (List ℕ)) (a : Awaited) (list : List NumberedEvent) : Type 0 where
  before : List (List ℕ)
  line : List ℕ
  came : List (List ℕ)
  count : ℕ
  parts : done ≡ before ++ line ∷ came
  tells : Tells before list
  says : reading_of_line line ≡ Awaits a.session count
  number : a.number ≡ length before + 1
  extends : (lines : List (List ℕ)) (more : List Xid) → RowsOf a.missing lines more
      → RowsOf count (came ++ lines) (a.rows ++ more)

-- what was read of these lines: with no row to come they tell the events, else they tell those before the return's
-- line
abbrev Stands : List (List ℕ) → Option Awaited → List NumberedEvent → Type 0
Stands done None list = Tells done list
Stands done (Some a) list = Part done a list × ((a.missing == 0) ≡ false)

-- the notes keep of sessions what their events say (`Placed`), and have the events that the lines tell (`Stands`)
record Right (done : List (List ℕ)) (notes : Notes) : Type 0 where
  placed : Placed notes.presence notes.told
  stands : Stands done notes.awaited notes.told

-- notes with these events, faults and presences, that await no row
abbrev made : List NumberedEvent → List ℕ → List Presence → Notes
made list faults presence = record { told = list; faults = faults; presence = presence; awaited = None }

-- a number that tests as 0 is 0
pub is-zero : (n : ℕ) → (n == 0) ≡ true → n ≡ 0
is-zero n is = grind (arith, nat_tests)

-- an event's number is that of its line, the next after those read
told-at : (lines : List (List ℕ)) (list : List NumberedEvent) (done : List (List ℕ)) (number : ℕ) (told : Told)
    → number ≡ length lines + 1
    → Tells done (list ++ on_next_line lines told ∷ []) → Tells done
    (list ++ record { number = number; told = told } ∷ [])
told-at lines list done number told is tells = grind (arith)

-- whether a return can happen doesn't depend on what it shows
pub cause-shown : (o : Option Presence) (session : ℕ) (one two : Shown)
    → cause_of o (Returns session one) ≡ cause_of o (Returns session two)
cause-shown o session one two = grind (arith)

-- a return whose rows are to come is of a session below 17
part-within : (done : List (List ℕ)) (a : Awaited) (list : List NumberedEvent) → Part done a list → a.session < 17
part-within done a list part = subst Within part.says (line_within part.line)

-- if no row of a return is missing and the return can happen, the lines tell it with its rows
part-whole : (done : List (List ℕ)) (a : Awaited) (list : List NumberedEvent) → a.missing ≡ 0 → Part done a list
    → Fits list (Returns a.session (ShowsRows a.rows))
    → Tells done (list ++ record { number = a.number; told = Returns a.session (ShowsRows a.rows) } ∷ [])
part-whole done a list none part fits =
    let nothing_more : RowsOf a.missing [] [] = subst (λ (n : ℕ). RowsOf n [] []) (sym none) no_row in
    let all : RowsOf part.count part.came a.rows =
    subst (λ (l : List (List ℕ)). RowsOf part.count l a.rows) (append-nil part.came)
    (subst (λ (l : List Xid). RowsOf part.count (part.came ++ []) l) (append-nil a.rows)
    (part.extends [] [] nothing_more)) in
    subst (λ (l : List (List ℕ)). Tells l (list ++ record
    { number = a.number; told = Returns a.session (ShowsRows a.rows) } ∷ [])) (sym part.parts)
    (told-at part.before list (part.before ++ part.line ∷ part.came) a.number
    (Returns a.session (ShowsRows a.rows)) part.number
    (rows_lines part.before part.line part.came list a.session part.count a.rows part.tells part.says all fits))

-- once the last row of a return has come, the notes with the return are right, if they have no fault
all-next : (list : List NumberedEvent) (faults : List ℕ) (presence : List Presence) (done : List (List ℕ)) (a : Awaited)
    → a.missing ≡ 0 → Part done a list → Placed presence list → Clean (returned (made list faults presence) a)
    → Right done (returned (made list faults presence) a)
unfolding noted_if
all-next list faults presence done a none part placed clean =
    by (cause_of (slice_get presence a.session) told) refl
    (noted-clean (cause_of (slice_get presence a.session) told) (made list faults presence) a.number told
    (nothing-before _ a.faults clean.noted)).1
  where
    told : Told
    told = Returns a.session (ShowsRows a.rows)

    by : (o : Option LineFault) → cause_of (slice_get presence a.session) told ≡ o → o ≡ None
        → Right done (blamed_too (noted_if o (made list faults presence) a.number told) a.faults)
    by (Some fault) is fits = absurd (cc)
    by None is fits_now =
        let within = part-within done a list part in
        let fits : Fits list told = sym (fits-here presence list told within placed) ∙ is in
        record {
          placed = placed-next presence list a.number told within placed fits;
          stands = part-whole done a list none part fits;
        }

-- after the line of a return and some of its rows, the notes with the return, if all its rows have come, or else with
-- it held back, are right, if they have no fault
awaiting-next : (list : List NumberedEvent) (faults : List ℕ) (presence : List Presence) (done : List (List ℕ))
    (a : Awaited) → Part done a list → Placed presence list → Clean (awaiting (made list faults presence) a)
    → Right done (awaiting (made list faults presence) a)
awaiting-next list faults presence done a part placed = by (a.missing == 0) refl
  where
    one : Bool → Notes
    one b = if b then returned (made list faults presence) a else record (made list faults presence)
        { awaited = Some a }

    by : (b : Bool) → (a.missing == 0) ≡ b → Clean (one b) → Right done (one b)
    by true is clean = all-next list faults presence done a (is-zero a.missing is) part placed clean
    by false is clean = record { placed = placed; stands = (part, is) }

-- a line that says an event which can happen tells that event
happens-tells : (told : Told) (done : List (List ℕ)) (list : List NumberedEvent) (line : List ℕ)
    → reading_of_line line ≡ Says told → Fits list told → Tells done list
    → Tells (done ++ line ∷ []) (list ++ on_next_line done told ∷ [])
happens-tells (Calls session text) done list line is fits tells = call_line done line list session text tells is fits
happens-tells (Returns session shown) done list line is fits tells =
    return_line done line list session shown tells is fits
happens-tells (ReturnsUnknown session) done list line is fits tells = unknown_line done line list session tells is fits
happens-tells (Leaves session) done list line is fits tells = lost_line done line list session tells is fits

-- after a line that says an event the notes are right, if they have no fault
happens-next : (told : Told) (list : List NumberedEvent) (faults : List ℕ) (presence : List Presence)
    (done : List (List ℕ)) (number : ℕ) (line : List ℕ)
    → reading_of_line line ≡ Says told → number ≡ length done + 1 → session_of told < 17 → Placed presence list
    → Tells done list → (note_of (made list faults presence) number told).faults ≡ []
    → Right (done ++ line ∷ []) (note_of (made list faults presence) number told)
unfolding noted_if
happens-next told list faults presence done number line is at within placed tells clean =
    grind (arith, fits-here, happens-tells, noted-clean, placed-next, told-at)

-- after a line that says that a connection was found closed the notes are right, if they have no fault
closed-next : (session : ℕ) (list : List NumberedEvent) (faults : List ℕ) (presence : List Presence)
    (done : List (List ℕ)) (number : ℕ) (line : List ℕ)
    → reading_of_line line ≡ Closed session → number ≡ length done + 1 → session < 17 → Placed presence list
    → Tells done list → (note_closed (made list faults presence) number session).faults ≡ []
    → Right (done ++ line ∷ []) (note_closed (made list faults presence) number session)
unfolding closed_if
closed-next session list faults presence done number line is at within placed tells clean =
    by (cause_of (slice_get presence session) (Leaves session)) refl
    (closed-clean (cause_of (slice_get presence session) (Leaves session)) (made list faults presence) number session
    clean).1
  where
    one : ℕ → NumberedEvent
    one n = record { number = n; told = Leaves session }

    place : ℕ
    place = up_to_return session list

    whole : take place list ++ drop place list ≡ list
    whole = take-append-drop place list

    by : (o : Option LineFault) → cause_of (slice_get presence session) (Leaves session) ≡ o → o ≡ None
        → Right (done ++ line ∷ []) (closed_if o (made list faults presence) number session)
    by (Some fault) some fits = absurd (cc)
    by None none fits_now =
        let fits : Fits list (Leaves session) = sym (fits-here presence list (Leaves session) within placed) ∙ none in
        let parts = ends session list in
        let told : Tells (done ++ line ∷ []) (take place list ++ one (length done + 1) ∷ drop place list) =
        gone_line done line (take place list) (drop place list) session (subst (Tells done) (sym whole) tells) is
        (ends-in session place list parts) parts.1
        (subst (λ (l : List NumberedEvent). Fits l (Leaves session)) (sym whole) fits) in
        record {
          placed = placed-closed presence (take place list) (drop place list) number session within
              (subst (Placed presence) (sym whole) placed);
          stands = subst (λ (n : ℕ). Tells (done ++ line ∷ []) (take place list ++ one n ∷ drop place list))
              (sym at) told;
        }

-- after a line that isn't in the place of a row, whatever it says, the notes are right, if they have no fault
said-next : (strict : Bool) (said : LineSaid) (list : List NumberedEvent) (faults : List ℕ) (presence : List Presence)
    (done : List (List ℕ)) (number : ℕ) (line : List ℕ)
    → reading_of_line line ≡ said → number ≡ length done + 1 → Within said → Placed presence list → Tells done list
    → Clean (noted_said strict (made list faults presence) number said)
    → Right (done ++ line ∷ []) (noted_said strict (made list faults presence) number said)
unfolding noted_said blamed
said-next strict Nothing list faults presence done number line is at within placed tells clean =
    record { placed = placed; stands = silent_line done line list tells is }
said-next strict Bad list faults presence done number line is at within placed tells clean =
    absurd (blamed-some faults number LineFault.NotALine clean.noted)
said-next strict (Says told) list faults presence done number line is at within placed tells clean =
    let same = strictly-clean strict (made list faults presence) number told clean.noted in
    subst (Right (done ++ line ∷ [])) (sym same)
    (happens-next told list faults presence done number line is at within placed tells
    (ap (λ (n : Notes). n.faults) (sym same) ∙ clean.noted))
said-next strict (Closed session) list faults presence done number line is at within placed tells clean =
    closed-next session list faults presence done number line is at within placed tells clean.noted
said-next strict (Awaits session count) list faults presence done number line is at within placed tells clean =
    let a : Awaited = record { session = session; number = number; missing = count; rows = []; faults = [] } in
    let part : Part (done ++ line ∷ []) a list =
    record {
      before = done;
      line = line;
      came = [];
      count = count;
      parts = refl;
      tells = tells;
      says = is;
      number = at;
      extends = λ lines more came. came;
    } in
    awaiting-next list faults presence (done ++ line ∷ []) a part placed clean

-- with a silent line in front, the lines of the missing rows, at least one, are still lines of these rows
silent-more : (line : List ℕ) (missing : ℕ) (lines : List (List ℕ)) (more : List Xid) → (missing == 0) ≡ false
    → is_silent line ≡ true → RowsOf missing lines more
    → RowsOf missing (line ∷ lines) more
silent-more line zero lines more is silent came = absurd (cc)
silent-more line (suc missing) lines more is silent came = silent_row silent came

-- a row's line and the lines of the other rows behind it are the lines of all these rows
one-more : (line : List ℕ) (missing : ℕ) (xid : Xid) (lines : List (List ℕ)) (more : List Xid) → (missing == 0) ≡ false
    → is_silent line ≡ false
    → row_said (unblank line) ≡ Some xid → RowsOf (missing - 1) lines more → RowsOf missing (line ∷ lines) (xid ∷ more)
one-more line zero xid lines more is full said came = absurd (cc)
one-more line (suc missing) xid lines more is full said came =
    one_row full said (subst (λ (n : ℕ). RowsOf n lines more) (omega arith) came)

-- the lines read so far and one more are those before a return's line, that line, and those that came behind it with
-- the one more
longer : (done : List (List ℕ)) (line : List ℕ) (a : Awaited) (list : List NumberedEvent) (part : Part done a list)
    → done ++ line ∷ [] ≡ part.before ++ part.line ∷ (part.came ++ line ∷ [])
longer done line a list part = grind (arith, append_assoc)

-- after a silent line the same rows are to come
part-silent : (done : List (List ℕ)) (line : List ℕ) (a : Awaited) (list : List NumberedEvent)
    → (a.missing == 0) ≡ false → is_silent line ≡ true → Part done a list
    → Part (done ++ line ∷ []) a list
part-silent done line a list is silent part = grind (arith, append_assoc, longer, silent-more)

-- after a row's line one row less is to come
part-row : (done : List (List ℕ)) (line : List ℕ) (a : Awaited) (list : List NumberedEvent) (xid : Xid)
    → (a.missing == 0) ≡ false → is_silent line ≡ false
    → row_said (unblank line) ≡ Some xid → Part done a list
    → Part (done ++ line ∷ []) (record a { missing = a.missing - 1; rows = a.rows ++ xid ∷ [] }) list
part-row done line a list xid is full said part = grind (arith, append_assoc, longer, one-more)

-- after a line in the place of a row that isn't silent the notes are right, if they have no fault
row-next : (row : Option Xid) (list : List NumberedEvent) (faults : List ℕ) (presence : List Presence)
    (done : List (List ℕ)) (a : Awaited) (number : ℕ) (line : List ℕ)
    → row_said (unblank line) ≡ row → (a.missing == 0) ≡ false → is_silent line ≡ false → Part done a list
    → Placed presence list → Clean (with_row (made list faults presence) a number row)
    → Right (done ++ line ∷ []) (with_row (made list faults presence) a number row)
unfolding with_row
row-next None list faults presence done a number line said is full part placed clean =
    absurd ((row-clean None (made list faults presence) a number clean).2 refl)
row-next (Some xid) list faults presence done a number line said is full part placed clean =
    awaiting-next list faults presence (done ++ line ∷ [])
    (record a { missing = a.missing - 1; rows = a.rows ++ xid ∷ [] })
    (part-row done line a list xid is full said part) placed clean

-- after a line in the place of a row, silent or not, the notes are right, if they have no fault
quiet-next : (silent : Bool) (list : List NumberedEvent) (faults : List ℕ) (presence : List Presence)
    (done : List (List ℕ)) (a : Awaited) (number : ℕ) (line : List ℕ)
    → is_silent line ≡ silent → (a.missing == 0) ≡ false → Part done a list → Placed presence list
    → Clean (if silent then record (made list faults presence) { awaited = Some a } else
    with_row (made list faults presence) a number (row_said (unblank line)))
    → Right (done ++ line ∷ []) (if silent then record (made list faults presence) { awaited = Some a } else
    with_row (made list faults presence) a number (row_said (unblank line)))
quiet-next true list faults presence done a number line silent is part placed clean =
    record { placed = placed; stands = (part-silent done line a list is silent part, is) }
quiet-next false list faults presence done a number line full is part placed clean =
    row-next (row_said (unblank line)) list faults presence done a number line refl is full part placed clean

-- after any line, whether rows are awaited or not, the notes are right, if they have no fault
line-next : (strict : Bool) (list : List NumberedEvent) (faults : List ℕ) (presence : List Presence)
    (awaited : Option Awaited) (done : List (List ℕ)) (number : ℕ) (line : List ℕ)
    → number ≡ length done + 1 → Placed presence list → Stands done awaited list
    → Clean (noted_line strict (record { told = list; faults = faults; presence = presence; awaited = awaited }) number
    line)
    → Right (done ++ line ∷ []) (noted_line strict
    (record { told = list; faults = faults; presence = presence; awaited = awaited }) number line)
unfolding noted_line noted_row
line-next strict list faults presence None done number line at placed stands clean =
    said-next strict (reading_of_line line) list faults presence done number line refl at (line_within line) placed
    stands clean
line-next strict list faults presence (Some a) done number line at placed stands clean =
    quiet-next (is_silent line) list faults presence done a number line refl stands.1 stands.0 placed clean

-- with one line more, the number of lines done is one more
length-line : (done : List (List ℕ)) (line : List ℕ) → length (done ++ line ∷ []) ≡ length done + 1
length-line done line = grind (arith, common_steps)

-- the lines are the same whether the next one is counted at the end of those done or at the front of those to do
line-end : (done : List (List ℕ)) (line : List ℕ) (todo : List (List ℕ))
    → (done ++ line ∷ []) ++ todo ≡ done ++ line ∷ todo
line-end done line todo = append_assoc done (line ∷ []) todo

-- if the notes are right for the lines done, they are right after all lines to do, if they have no fault then
lines-next : (strict : Bool) (todo done : List (List ℕ)) (notes : Notes) (number : ℕ) → number ≡ length done + 1
    → Right done notes → Clean (noted_lines strict notes number todo)
    → Right (done ++ todo) (noted_lines strict notes number todo)
unfolding noted_lines
lines-next strict [] done notes number at right clean =
    subst (λ (l : List (List ℕ)). Right l notes) (sym (append-nil done)) right
lines-next strict (line ∷ todo) done notes number at right clean =
    let new = noted_line strict notes number line in
    let here : Right (done ++ line ∷ []) new =
    line-next strict notes.told notes.faults notes.presence notes.awaited done number line at right.placed right.stands
    (lines-clean strict todo new (number + 1) clean) in
    subst (λ (l : List (List ℕ)). Right l (noted_lines strict new (number + 1) todo)) (line-end done line todo)
    (lines-next strict todo (done ++ line ∷ []) new (number + 1)
    (ap (λ (n : ℕ). n + 1) (at ∙ sym (length-line done line))) here clean)

-- if no fault is written once the record has ended, none was written before, and no row is to come
ended-clean : (awaited : Option Awaited) (notes : Notes) → (ended_by awaited notes).faults ≡ []
    → (notes.faults ≡ []) × (awaited ≡ None)
unfolding blamed
ended-clean awaited notes clean = grind (arith, blamed-some, nothing-before)

-- of right notes without a row to come the lines tell the events
ended-tells : (lines : List (List ℕ)) (awaited : Option Awaited) (notes : Notes) → awaited ≡ None
    → Stands lines awaited notes.told → Tells lines (ended_by awaited notes).told
ended-tells lines awaited notes is tells = grind (arith)

-- if nothing was written for faults, the lines tell what is read of them, with the texts of calls tested or not
pub text-tells : (strict : Bool) (text : List ℕ) → (notes_by strict text).faults ≡ []
    → Tells (lines_of text) (notes_by strict text).told
unfolding notes_by
text-tells strict text clean =
    let notes = noted_lines strict no_notes 1 (lines_of text) in
    let end = ended-clean notes.awaited notes clean in
    let right = lines-next strict (lines_of text) [] no_notes 1 refl
    (record { placed = placed-none; stands = no_line })
    (record { noted = end.0; none_held = ap held end.1 }) in
    ended-tells (lines_of text) notes.awaited notes end.1 right.stands
