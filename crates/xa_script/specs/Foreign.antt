-- Forms of a text whose lines are likely not read as its writer meant them. Every rule here is the project's own:
-- docs/HISTORIES.md.
use Rattle.std.specs.Prelude.{ℕ, Bool, true, false, not, ◌==◌, ◌&&◌, ◌||◌, nat_le, if◌then◌else◌, Option, Some, None}
use Rattle.std.specs.{Prelude.{List, [], ◌∷◌}, List.list_any}
use Rattle.xa_script.specs.declared.foreign.Foreign.{Foreign, TheVariants.{Marked, Utf16, Returns, Mixed}}

-- the text begins with the byte order mark of UTF-8
abbrev pub begins_with_mark : List ℕ → Bool
begins_with_mark (one ∷ two ∷ three ∷ rest) = one == 239 && two == 187 && three == 191
begins_with_mark text = false

-- the text has at least four bytes, and begins with a byte order mark of UTF-16, or with two units of it whose first
-- bytes, or whose second bytes, are both zero
abbrev pub begins_as_utf16 : List ℕ → Bool
begins_as_utf16 (one ∷ two ∷ three ∷ four ∷ rest) =
    (one == 255 && two == 254 || one == 254 && two == 255) || (one == 0 && three == 0 || two == 0 && four == 0)
begins_as_utf16 text = false

-- a byte is in a text
abbrev pub has_byte : ℕ → List ℕ → Bool
has_byte byte text = list_any (λ other. other == byte) text

-- a byte begins a line of a record: a digit, or the sign of a comment
abbrev pub begins_line : ℕ → Bool
begins_line byte = byte == 35 || nat_le 48 byte && nat_le byte 57

-- a byte that begins a line is directly behind a carriage return; `returned`: one comes right before the text
abbrev pub goes_on : (returned : Bool) → List ℕ → Bool
goes_on returned [] = false
goes_on returned (byte ∷ bytes) = returned && begins_line byte || goes_on (byte == 13) bytes

-- the first of these forms that the text has: in UTF-16, behind a byte order mark, with carriage returns and no line
-- feed, or with what begins a line directly behind a carriage return; None if it has none
abbrev pub foreign_of : List ℕ → Option Foreign
foreign_of text =
    if begins_as_utf16 text then Some Utf16
    else (if begins_with_mark text then Some Marked
    else (if has_byte 13 text && not (has_byte 10 text) then Some Returns
    else (if goes_on false text then Some Mixed else None)))
