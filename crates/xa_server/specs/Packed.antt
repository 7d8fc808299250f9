-- Rows that are packed: bytes with their keys and values, and the places where each row is among these.
--     row_of, rows_of      the row of a place, the rows of places
--     end_of, Fits         where a row ends;  that it ends within the bytes, and its value isn't too long
--     seen, FitsText       a row that is looked at;  that its value isn't too long
use Rattle.std.specs.Prelude.{ℕ, ◌+◌, ◌≤◌, List, take, drop, length, IfSome, map as each}
use Rattle.std.specs.{Option.{option_map, option_map_or}, Coded.{Coded, coded×, coded_option}}
use Rattle.xa_xid.specs.Xid.{Text, coded_text}
use Rattle.xa_server.specs.{declared.packed.{Place.Place, Row.Row}, Coding.coded_key, State.Write}

-- a row of a run: its key, and its value, if it wasn't deleted
abbrev pub PackedRow : Type 0
PackedRow = List ℕ × Write

-- how such a row is encoded
abbrev pub coded_row : Coded PackedRow
coded_row = coded× coded_key (coded_option coded_text)

-- a text of these bytes
abbrev pub text_of : List ℕ → Text
text_of bytes = record { items = bytes }

-- so many bytes from a place on
abbrev pub part_of : List ℕ → ℕ → ℕ → List ℕ
part_of bytes start count = take count (drop start bytes)

-- the row of a place: its key, and its value right behind that, if it has one
abbrev pub row_of : List ℕ → Place → PackedRow
row_of bytes place = (
  part_of bytes place.start place.key,
  option_map (λ count. text_of (part_of bytes (place.start + place.key) count)) place.value,
)

-- the rows of these places
abbrev pub rows_of : List ℕ → List Place → List PackedRow
rows_of bytes places = each (row_of bytes) places

-- how long a row's value is, 0 if it has none
abbrev pub value_length : Place → ℕ
value_length place = option_map_or (λ count. count) place.value 0

-- where a row ends
abbrev pub end_of : Place → ℕ
end_of place = place.start + place.key + value_length place

-- a row is among the bytes, and its value isn't too long
abbrev pub Fits : List ℕ → Place → Type 0
Fits bytes place = (end_of place ≤ length bytes) × (value_length place ≤ 64)

-- a row that is looked at
abbrev pub seen : Row → PackedRow
seen row = (row.key.now, option_map (λ bytes. text_of bytes.now) row.value)

-- a value isn't too long
abbrev pub FitsText : Row → Type 0
FitsText row = IfSome row.value (λ bytes. length bytes.now ≤ 64)
