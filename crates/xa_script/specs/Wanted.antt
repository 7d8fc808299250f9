-- What is wanted where a text stops being a statement.
use Rattle.std.specs.Prelude.{◌==◌, ◌++◌, ◌+◌, not, ℕ, Bool, false, List, Result, Ok, Err, length, codes}
use Rattle.xa_xid.specs.declared.statement.Statement.{Statement}
use Rattle.xa_statement.specs.Reading.{read_of}

-- whether reading goes wrong at this place
abbrev pub goes_wrong_at : ℕ → Result Statement ℕ → Bool
goes_wrong_at place (Ok statement) = false
goes_wrong_at place (Err at) = at == place

-- whether reading `front`, a blank and the token doesn't go wrong where the token begins. If `front` begins some
-- statement, that is whether some statement goes on with the token
abbrev pub takes_next : (front token : List ℕ) → Bool
takes_next front token = not (goes_wrong_at (length front + 1) (read_of (front ++ (codes " " ++ token))))
