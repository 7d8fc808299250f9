-- What a contract sees of a log and of a pass.
-- A pass is seen as a `Known` (src/known.rt): number, seen, mine, looks, tries, since.
use Rattle.std.specs.Prelude.{ℕ, ◌≤◌, List, [], All}
use Rattle.atomic_table.specs.Seated.{TableId}
use Rattle.xa_words.specs.Entry.{Entry}
use Rattle.decision_log.specs.declared.known.Known.{Known}

-- the words of the log, which no other log shares, and its two sizes
pub record LogIdentity : Type 0 where
  pub table : TableId
  pub sessions : ℕ
  pub capacity : ℕ

-- a pass before its first call
abbrev pub newcomer : ℕ → Known
newcomer number = record { number = number; seen = []; mine = []; looks = 0; tries = 0; since = 0 }

-- the entries are of sessions 1 to a number
abbrev pub AllOf : ℕ → List Entry → Type 0
AllOf sessions list = All (λ entry. (1 ≤ entry.session) × (entry.session ≤ sessions)) list
