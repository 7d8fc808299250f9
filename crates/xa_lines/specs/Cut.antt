-- Streams for tests, which give and take bytes in pieces, and then fault, each time or once.
--     left_in, taken_by           the bytes that a reader has yet to give;  those that a writer took
--     reads_left_in, room_in      how many more reads or bytes it takes before it faults
--     piece_of, piece_into        the greatest number of bytes at a time
--     goes_on_behind, goes_on_writing  whether it faults once and then goes on
--     has_faulted, has_refused    whether it has faulted
--     reads_after, writes_after   how often it was read or written after that
--     faults_next, refuses_next   whether it faults where it is used next
use Rattle.std.specs.Prelude.{ℕ, Bool, ◌==◌, ◌&&◌, not, cond, List}
use Rattle.xa_lines.specs.declared.{cut_reader.CutReader.CutReader, cut_writer.CutWriter.CutWriter}

-- the bytes that a reader has yet to give
abbrev pub left_in : CutReader → List ℕ
left_in reader = reader.rest.now

-- how many more reads it answers before it faults
abbrev pub reads_left_in : CutReader → ℕ
reads_left_in reader = reader.reads

-- the greatest number of bytes that it gives at a time
abbrev pub piece_of : CutReader → ℕ
piece_of reader = reader.piece

-- whether it faults once and then goes on
abbrev pub goes_on_behind : CutReader → Bool
goes_on_behind reader = reader.once

-- whether a reader has faulted
abbrev pub has_faulted : CutReader → Bool
has_faulted reader = reader.faulted

-- how often the reader was read after it had told its fault
abbrev pub reads_after : CutReader → ℕ
reads_after reader = reader.after

-- whether the reader faults at its next use: no reads are left, and it faults each time or hasn't faulted yet
abbrev pub faults_next : CutReader → Bool
faults_next reader = reader.reads == 0 && not (reader.once && reader.faulted)

-- the bytes that a writer took
abbrev pub taken_by : CutWriter → List ℕ
taken_by writer = writer.taken.items

-- how many more bytes it takes before it faults
abbrev pub room_in : CutWriter → ℕ
room_in writer = writer.room

-- the greatest number of bytes that it takes at a time
abbrev pub piece_into : CutWriter → ℕ
piece_into writer = writer.piece

-- whether it faults once and then goes on
abbrev pub goes_on_writing : CutWriter → Bool
goes_on_writing writer = writer.once

-- whether a writer has faulted
abbrev pub has_refused : CutWriter → Bool
has_refused writer = writer.faulted

-- how often the writer was written to after it had told its fault
abbrev pub writes_after : CutWriter → ℕ
writes_after writer = writer.after

-- whether the writer refuses the next byte: no room is left, and it faults each time or hasn't faulted yet
abbrev pub refuses_next : CutWriter → Bool
refuses_next writer = writer.room == 0 && not (writer.once && writer.faulted)

-- how many of these bytes the writer takes next, at most: as many as it has room for, or all if it faults once and has
-- faulted
abbrev pub takes_next : CutWriter → ℕ → ℕ
takes_next writer count = cond (writer.once && writer.faulted) count writer.room
