-- Lists of entries: prefixes, and the entries of a session.
--     Begins front list           `front` is a prefix of `list`
--     is_of session entry         whether an entry is of a session
--     entries_of session list     the entries of a session, in their order
use Rattle.std.specs.Prelude.{◌≡◌, ℕ, Bool, List, length, take, filter, nat_eq}
use Rattle.xa_words.specs.Entry.{Entry}

-- the first is a prefix of the second
abbrev pub Begins : List Entry → List Entry → Type 0
Begins front list = take (length front) list ≡ front

-- whether an entry is of a session
abbrev pub is_of : ℕ → Entry → Bool
is_of session entry = nat_eq entry.session session

-- the entries of a session, in their order
abbrev pub entries_of : ℕ → List Entry → List Entry
entries_of session list = filter (is_of session) list
