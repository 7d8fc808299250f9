-- The 21 numbers by which a log entry is written.
--     of_xid, of_texts    the parts of a statement about a branch;  of another one
use Rattle.std.specs.Prelude.{◌≡◌, ◌≢◌, ◌<◌, ◌≤◌, ℕ, ◌+◌, ◌/◌, ◌%◌, List, [], ◌∷◌, ◌++◌, length, slice_index, true}
use Rattle.std.specs.{Prelude.false, Int.{w64, from_be_bytes, to_be_bytes}}
use Rattle.xa_xid.specs.declared.{xid.Xid.Xid, statement.Statement.Statement}
use Rattle.xa_words.specs.Entry.{Entry}

-- a kind, a formatID (0 if the kind has none), and two texts (empty if the kind has none)
pub record Parts : Type 0 where
  pub kind : ℕ
  pub format_id : ℕ
  pub first : List ℕ
  pub second : List ℕ

-- the parts of a statement of this kind about a branch
abbrev pub of_xid : ℕ → Xid → Parts
of_xid kind xid = record { kind = kind; format_id = xid.format_id; first = xid.gtrid.items; second = xid.bqual.items }

-- the parts of a statement of this kind about a row: its key, and the value of a PUT; or of one without texts
abbrev pub of_texts : ℕ → List ℕ → List ℕ → Parts
of_texts kind first second = record { kind = kind; format_id = 0; first = first; second = second }

-- the table of kinds; no entry has kind 0 (own rule)
abbrev pub parts_of : Statement → Parts
parts_of (Statement.Start xid) = of_xid 1 xid
parts_of (Statement.End xid) = of_xid 2 xid
parts_of (Statement.Prepare xid) = of_xid 3 xid
parts_of (Statement.Commit xid false) = of_xid 4 xid
parts_of (Statement.Commit xid true) = of_xid 5 xid
parts_of (Statement.Rollback xid) = of_xid 6 xid
parts_of (Statement.Get key) = of_texts 7 key []
parts_of (Statement.Put key value) = of_texts 8 key value.items
parts_of (Statement.Del key) = of_texts 9 key []
parts_of Statement.Disconnect = of_texts 10 [] []
parts_of (Statement.Recover convert) = of_texts 0 [] []
parts_of Statement.Unsupported = of_texts 0 [] []

-- the eight bytes of a text from a place on, zeros past its end
abbrev pub eight_bytes : List ℕ → ℕ → List ℕ
eight_bytes text place =
    slice_index text place ∷ slice_index text (place + 1) ∷ slice_index text (place + 2) ∷ slice_index text (place + 3)
    ∷ slice_index text (place + 4) ∷ slice_index text (place + 5) ∷ slice_index text (place + 6) ∷ slice_index text
    (place + 7) ∷ []

-- the eight bytes from a place on as one number, the highest byte first (own rule)
unfoldable pub text_word : List ℕ → ℕ → ℕ
text_word text place = from_be_bytes w64 (eight_bytes text place)

-- the first 64 bytes of a text as eight numbers of eight bytes each, zeros past its end
abbrev pub text_words : List ℕ → List ℕ
text_words text =
    text_word text 0 ∷ text_word text 8 ∷ text_word text 16 ∷ text_word text 24
    ∷ text_word text 32 ∷ text_word text 40 ∷ text_word text 48 ∷ text_word text 56 ∷ []

-- the 21 numbers: session, kind, the lengths of the two texts, formatID, and eight numbers for each text
abbrev pub lay_out : ℕ → Parts → List ℕ
lay_out session parts =
    session ∷ parts.kind ∷ length parts.first ∷ length parts.second ∷ parts.format_id
    ∷ text_words parts.first ++ text_words parts.second

-- the 21 numbers of an entry
unfoldable pub words_of : Entry → List ℕ
-- the numbers of an entry
words_of entry = lay_out entry.session (parts_of entry.statement)

-- the byte that eight numbers hold at a place, the highest byte of each first
unfoldable pub byte_of : List ℕ → ℕ → ℕ
-- the byte at a place of eight such numbers
byte_of words place = slice_index (to_be_bytes w64 (slice_index words (place / 8))) (place % 8)

-- the parts of a row statement or a Disconnect: all but Disconnect have a key, and only Put has a second text
pub record RowParts (parts : Parts) : Type 0 where
  pub low : 6 < parts.kind
  pub high : parts.kind ≤ 10
  pub key : parts.kind < 10 → 0 < length parts.first
  pub no_key : parts.kind ≡ 10 → length parts.first ≡ 0
  pub no_value : parts.kind ≢ 8 → length parts.second ≡ 0
