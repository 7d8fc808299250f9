-- What is received, cut into lines.
use Rattle.std.specs.Prelude.{◌≡◌, ℕ, nat_le, ◌==◌, Bool, true, false, cond, List, [], ◌∷◌, ◌++◌, length, All}
use Rattle.std.specs.List.{flat_map}
use Rattle.xa_lines.specs.declared.{TheConstants.LINE_BYTES, begun_line.BegunLine.BegunLine}

-- a line, as far as it is kept
pub data Received : Type 0 where
  -- the whole of it, without its line feed
  Whole : List ℕ → Received
  -- it has more bytes than are kept
  TooLong : Received

-- what is kept of a line: all of it, up to 65,536 bytes (own rule)
unfoldable pub received_line : List ℕ → Received
-- what is kept of a line
received_line line = cond (nat_le (length line) LINE_BYTES) (Whole line) TooLong

-- a line with one byte more
abbrev pub longer : Received → ℕ → Received
longer (Whole line) byte = received_line (line ++ byte ∷ [])
longer TooLong byte = TooLong

-- nothing of a line has come
abbrev pub is_nothing : Received → Bool
is_nothing (Whole []) = true
is_nothing (Whole (byte ∷ bytes)) = false
is_nothing TooLong = false

-- no byte of the line is a line feed
abbrev pub HasNoFeed : List ℕ → Type 0
HasNoFeed line = All (λ byte. (byte == 10) ≡ false) line

-- a line, and the line feed that ends it
abbrev pub with_feed : List ℕ → List ℕ
with_feed line = line ++ 10 ∷ []

-- the bytes are these lines, each with its line feed, and then what has come of the next
pub record IsCutIntoLines (bytes : List ℕ) (lines : List (List ℕ)) (begun : List ℕ) : Type 0 where
  pub whole : bytes ≡ flat_map with_feed lines ++ begun
  pub each : All HasNoFeed lines
  pub last : HasNoFeed begun

-- the line that has come in part
abbrev pub held_by : BegunLine → Received
held_by line = cond line.is_long TooLong (Whole line.bytes.items)
