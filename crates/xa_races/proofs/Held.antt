-- The text of a race that was held.
use Rattle.std.proofs.Common.{◌≡◌, ℕ, zero, suc, Bool, ◌+◌, Vec, Global, List, [], ◌∷◌, map, take, ap, ◌∙◌, arith}
use Rattle.std.proofs.Common.{zero-add}
use Rattle.xa_xid.specs.declared.statement.Statement.{Statement}
use Rattle.xa_races.specs.{Race.{part_at, statements_of}, Outcome.{AreListsFrom, IsRacedInLog, IsRacedOn}}
use Rattle.xa_races.specs.HeldOn.{IsHeldInLog, IsHeldEndless}

-- a race held at a gate over a log is a race over that log: the gate only delays sessions
pub raced_in_log : (gate : ℕ → ℕ → Bool → Type 0) (capacity : ℕ) (lines : List (List ℕ)) (text : List ℕ)
    → IsHeldInLog gate capacity lines text
    → IsRacedInLog capacity lines text
raced_in_log gate capacity lines text is =
    record { runs = is.runs; outcome = is.outcome; are_runs = is.are_runs; held = is.held; text_is = is.text_is }

-- a race held at a gate over a store without an end is a race over that store: the gate only delays sessions
pub raced_on : (gate : ℕ → ℕ → Bool → Type 0) (rows : ℕ) (lines : List (List ℕ)) (text : List ℕ)
    → IsHeldEndless gate rows lines text
    → IsRacedOn lines text
raced_on gate rows lines text is = grind (arith)

-- if the list at each index has the statements of session `index + session`, the first `count` lists are those of the
-- sessions from `session` on
pub lists_from : (session : ℕ) (lines : List (List ℕ)) (count : ℕ) (lists : List (Vec Statement Global))
    → ((index : ℕ) → part_at (map (λ list. list.items) lists) index ≡ statements_of (index + session) lines)
    → AreListsFrom session lines (map (λ list. list.items) (take count lists))
lists_from session lines zero lists given = tt
lists_from session lines (suc count) [] given = tt
lists_from session lines (suc count) (list ∷ lists) given = (
  given 0 ∙ ap (λ n. statements_of n lines) (zero-add session),
  lists_from (session + 1) lines count lists
      (λ index. given (suc index) ∙ ap (λ n. statements_of n lines)
      (let same : suc index + session ≡ index + (session + 1) = omega arith in same)),
)
