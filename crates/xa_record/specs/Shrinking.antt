-- A smaller record that no order explains either.
-- Every rule here is the project's own: docs/HISTORIES.md#smaller-records.
use Rattle.std.specs.Prelude.{◌≡◌, ℕ, Bool, true, false, Option, Some, None, List, [], ◌∷◌, ◌++◌, codes}
use Rattle.xa_xid.specs.Bytes.{unblank}
use Rattle.xa_server.specs.State.{State}
use Rattle.xa_judge.specs.{declared.{event.Event.Event, verdict.Verdict.Verdict}, Verdicts.IsVerdict}
use Rattle.xa_record.specs.{declared.{allowance.Allowance.Allowance, asked.Asked.Asked}, Events.AreEvents}
use Rattle.xa_record.specs.Reading.{notes_by}

-- a line without the blanks at its beginning and with a line feed at its end, if it is chosen; else nothing
abbrev pub line_if : Bool → List ℕ → List ℕ
line_if true line = unblank line ++ codes "\n"
line_if false line = []

-- the lines that are chosen, in their order; lines without a choice aren't
unfoldable pub chosen_text : List Bool → List (List ℕ) → List ℕ
-- some of the lines, in their order
chosen_text [] lines = []
chosen_text (keeps ∷ more) [] = []
chosen_text (keeps ∷ more) (line ∷ lines) = line_if keeps line ++ chosen_text more lines

-- a verdict says that no order explains what was seen
abbrev pub is_illegal : Verdict → Bool
is_illegal (Verdict.Legal moves) = false
is_illegal (Verdict.Illegal place answers) = true
is_illegal (Verdict.Undecided place) = false

-- a right verdict on events is that no order explains them
abbrev pub AreUnexplained : State → List Event → (limit : ℕ) → Type 0
AreUnexplained base events limit =
    (verdict : Verdict) × IsVerdict base events limit verdict × (is_illegal verdict ≡ true)

-- no line of a record is faulty, and no order explains what is read of it
pub record IsUnexplained (base : State) (allowances : List Allowance) (asked : Asked) (written : List ℕ)
    : Type 0 where
  pub faultless : (notes_by asked.strict_calls written).faults ≡ []
  pub events : List Event
  pub are : AreEvents allowances (notes_by asked.strict_calls written).told events
  pub unexplained : AreUnexplained base events asked.limit

-- the record is made of some of the lines, in their order, and no order explains it
pub record IsSmaller (base : State) (allowances : List Allowance) (asked : Asked) (lines : List (List ℕ))
    (written : List ℕ) : Type 0 where
  pub keeps : List Bool
  pub chosen : written ≡ chosen_text keeps lines
  pub unexplained : IsUnexplained base allowances asked written

-- if there is a record, it is such a one
abbrev pub IsSmallerIfSome : State → List Allowance → Asked → List (List ℕ) → Option (List ℕ) → Type 0
IsSmallerIfSome base allowances asked lines None = Unit {0}
IsSmallerIfSome base allowances asked lines (Some written) = IsSmaller base allowances asked lines written

-- if one is asked for, what is found, if anything is, is such a record; else nothing is found. That no record is
-- smaller isn't promised
abbrev pub IsSmallerSought : Bool → State → List Allowance → Asked → List (List ℕ) → Option (List ℕ) → Type 0
IsSmallerSought true base allowances asked lines found = IsSmallerIfSome base allowances asked lines found
IsSmallerSought false base allowances asked lines found = found ≡ None
