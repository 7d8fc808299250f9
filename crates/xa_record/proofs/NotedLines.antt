-- Reading a record line by line.
use Rattle.std.proofs.Common.{◌≡◌, ℕ, ◌+◌, ◌==◌, Bool, true, None, List, [], ◌∷◌, ◌++◌, map, length, slice_get}
use Rattle.std.proofs.{Common.{slice_set, refl, arith}, lemmas.{Grind.common_steps, List.map-append}}
use Rattle.std.specs.List.{insert, take-map, drop-map}
use Rattle.xa_lines.specs.Script.{lines_of}
use Rattle.xa_record.specs.{declared.presence.Presence.{Presence, TheVariants.Lost}, Lines.{Told, Leaves}}
use Rattle.xa_record.specs.{declared.line_event.NumberedEvent.NumberedEvent as NumberedRead, Kept.numbered_kept}
use Rattle.xa_record.specs.Reading.{NumberedEvent, Notes, session_of, presence_after, cause_of, note_of, noted_if}
use Rattle.xa_record.specs.Reading.{up_to_return, closed_if, note_closed, noted_line, noted_lines}

-- the loop over lines: once one was cut off and noted, the lines behind it are noted with the notes that it leaves
pub noted_lines-line : (strict : Bool) (notes : Notes) (number : ℕ) (text line rest : List ℕ) → lines_of text
    ≡ line ∷ lines_of rest
    → noted_lines strict notes number (lines_of text)
    ≡ noted_lines strict (noted_line strict notes number line) (number + 1) (lines_of rest)
unfolding noted_lines
noted_lines-line strict notes number text line rest cut = rw cut refl

-- the loop over lines ends: no line is left, and the notes stay
pub noted_lines-end : (strict : Bool) (notes : Notes) (number : ℕ) (text : List ℕ) → (length text == 0) ≡ true
    → noted_lines strict notes number (lines_of text) ≡ notes
unfolding noted_lines lines_of
noted_lines-end strict notes number text empty = grind (arith, common_steps)

-- the notes with another list of events, and other presences of sessions
abbrev pub made : Notes → List NumberedEvent → List Presence → Notes
made notes list presence = record notes { told = list; presence = presence }

-- if an event is possible, the notes with it at the end, and with the presence of its session after it, are those of
-- `note_of`
pub numbered-so : (notes : Notes) (number : ℕ) (told : Told) (list : List NumberedEvent) (presence : List Presence)
    → cause_of (slice_get notes.presence (session_of told)) told ≡ None
    → list ≡ notes.told ++ record { number = number; told = told } ∷ []
    → presence ≡ slice_set notes.presence (session_of told) (presence_after told)
    → made notes list presence ≡ note_of notes number told
unfolding noted_if
numbered-so notes number told list presence no_fault one two = cc

-- if a client can be gone, the notes with its loss behind the session's last return, and the session as lost, are those
-- of `note_closed`
pub closed-so : (notes : Notes) (number session : ℕ) (list : List NumberedEvent) (presence : List Presence)
    → cause_of (slice_get notes.presence session) (Leaves session) ≡ None
    → list ≡ insert notes.told (up_to_return session notes.told) (record { number = number; told = Leaves session })
    → presence ≡ slice_set notes.presence session Lost
    → made notes list presence ≡ note_closed notes number session
unfolding closed_if
closed-so notes number session list presence no_fault one two = cc

-- putting an event in at a place is, as definitions see it, putting it in at that place of their list
pub map-insert : (list : List NumberedRead) (place : ℕ) (one : NumberedRead)
    → map numbered_kept (insert list place one) ≡ insert (map numbered_kept list) place (numbered_kept one)
map-insert list place one = grind (arith, drop-map, map-append, take-map)
