-- What sessions have left of their lines, at each session's number.
use Rattle.std.specs.Prelude.{ℕ, ◌==◌, cond, List}

-- the lines of all sessions, with those of one session replaced; a line may be of any type
abbrev pub with_lines : {L : Type 0} → (ℕ → List L) → ℕ → List L → ℕ → List L
with_lines lines session rest = λ other. cond (other == session) rest (lines other)
