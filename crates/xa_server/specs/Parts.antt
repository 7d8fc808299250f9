-- The values of rows in parts: each key belongs to one of 64.
--     with_byte, part_of     a number after one more byte;  the part of a key
--     in_parts, parted       the same of each part, from the one with this number on;  the values of all parts
--     only, sorted_out       the writes to rows of one part;  of each part
--     first_part, other_parts      the first of some parts;  the others
--     rows_at, AllAscend     the writes to the rows of one of several parts;  each part's are in order
use Rattle.std.specs.Prelude.{◌≡◌, true, ◌+◌, ◌*◌, ◌/◌, ◌%◌, ◌^◌, ◌==◌, ℕ, zero, suc, cond, List, [], ◌∷◌, Some, None}
use Rattle.std.specs.{Prelude.{filter, fold}, FinMap.is_sorted}
use Rattle.xa_xid.specs.Xid.{Text, bytes_cmp}
use Rattle.xa_server.specs.{State.Write, Step.with_writes, View.{gather, mapped}, Layers.{Writes, under}}
use Rattle.std.specs.FinMap as map

-- the values of rows, by their keys
abbrev pub Values : Type 0
Values = map.FinMap bytes_cmp Text

-- a number below 2^32 after one more byte: the factor is odd, and is 2^32 divided by the golden ratio, rounded down
unfoldable pub with_byte : ℕ → ℕ → ℕ
with_byte number byte = ((number * 2654435769) % 2 ^ 32 + byte) % 2 ^ 32

-- the part of a key: six bits of a number made of its bytes
unfoldable pub part_of : List ℕ → ℕ
part_of key = (fold with_byte 0 key / 65536) % 64

-- what a part has of the keys that belong to it, as a run
unfoldable pub of_part : ℕ → Values → Writes
-- what a part has of its own keys
of_part number values =
    gather (λ (row : List ℕ × Text). cond (part_of row.0 == number) (Some (Some row.1)) None)
    (mapped (λ key value. (key, value)) values)

-- what parts have of the keys that belong to each, the first one with this number
abbrev pub in_parts : ℕ → List Values → List Writes
in_parts number [] = []
in_parts number (part ∷ parts) = of_part number part ∷ in_parts (suc number) parts

-- the values in parts
unfoldable pub parted : List Values → Values
parted parts = under (in_parts 0 parts)

-- writes to rows, in the order of their keys
abbrev pub Rows : Type 0
Rows = List (List ℕ × Write)

-- the writes to rows of one part
abbrev pub only : ℕ → Rows → Rows
only number rows = filter (λ row. part_of row.0 == number) rows

-- the writes to the rows of so many parts, the first one with this number
abbrev pub sorted_out : ℕ → ℕ → Rows → List Rows
sorted_out zero number rows = []
sorted_out (suc count) number rows = only number rows ∷ sorted_out count (suc number) rows

-- the first of parts; empty if there is none
abbrev pub first_part : List Values → Values
first_part [] = map.empty
first_part (part ∷ parts) = part

-- the others of parts
abbrev pub other_parts : List Values → List Values
other_parts [] = []
other_parts (part ∷ parts) = parts

-- all parts after writes to the rows of each
abbrev pub all_rewritten : List Rows → List Values → List Values
all_rewritten [] parts = []
all_rewritten (rows ∷ more) parts = with_writes rows (first_part parts) ∷ all_rewritten more (other_parts parts)

-- the writes to the rows of one of several parts
abbrev pub rows_at : ℕ → List Rows → Rows
rows_at n [] = []
rows_at zero (rows ∷ more) = rows
rows_at (suc n) (rows ∷ more) = rows_at n more

-- the writes to each part's rows are in the order of their keys
abbrev pub AllAscend : List Rows → Type 0
AllAscend lists = (n : ℕ) → is_sorted bytes_cmp (rows_at n lists) ≡ true
