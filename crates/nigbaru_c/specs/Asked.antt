-- What a call asks of a session, and what comes of it.
use Rattle.std.specs.Prelude.{◌≡◌, ℕ, List, Ok, Err, Option, None, Some}
use Rattle.xa_xid.specs.declared.statement.Statement.{Statement}
use Rattle.xa_statement.specs.{Grammar.Spells, FaultPlace.FaultAt}
use Rattle.xa_endless.specs.declared.session.EndlessSession.{EndlessSession}
use Rattle.nigbaru_c.specs.{Holds.session_of, Outcome.{Fits, HasTried, status_of}, Telling.Tells}
use Rattle.nigbaru_c.specs.declared.{asked.Asked.Asked, chair.Chair.Chair, outcome.Outcome.Outcome, told.Told.Told}

-- what comes of it: a session that is held has tried the statement, and answered it or not for a cause; asked for
-- nothing it is unchanged, and the outcome says why. Without a session the outcome is Vacant, and none is held
-- afterwards. There is no other outcome
abbrev pub Answers : Asked → Outcome → Option EndlessSession → Option EndlessSession → Type 0
Answers asked Outcome.Vacant None None = Unit {0}
Answers (Asked.For statement) (Outcome.Answered answer) (Some old) (Some new) = HasTried statement (Ok answer) old new
Answers (Asked.For statement) (Outcome.Unanswered fault) (Some old) (Some new) = HasTried statement (Err fault) old new
Answers Asked.Unfit Outcome.OutOfRange (Some old) (Some new) = new ≡ old
Answers asked outcome old new = ⊥

-- what a call does that asks for this: it returns the status of an outcome, C is told its fields, and the outcome comes
-- of what is asked
abbrev pub Does : Asked → ℕ → Told → Option Chair → Option Chair → Type 0
Does asked status told old new =
    (outcome : Outcome) × (status ≡ status_of outcome) × Tells outcome told
    × Answers asked outcome (session_of old) (session_of new)
