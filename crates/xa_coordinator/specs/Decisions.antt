-- The states of the numbers of global transactions. A contract sees decisions as the list of the states of 1,
-- 2, ..
--     decides, is_not_closed      whether a state is Decided;  whether it was given and isn't Closed
--     IsFirstOvertaken the first such number of a list that isn't too long
use Rattle.std.specs.Prelude.{ℕ, ◌≡◌, ◌<◌, ◌≤◌, Bool, true, false, Option, Some, None, if◌then◌else◌, ◌==◌, ◌-◌, List}
use Rattle.std.specs.Prelude.{length, slice_get, slice_set}
use Rattle.xa_coordinator.specs.{Limits.most_numbers, declared.fault.DecisionsFault.DecisionsFault}
use Rattle.xa_coordinator.specs.declared.decisions.Decision.{Decision, TheVariants.{Undecided, Decided, Closed}}

-- the state of the number; numbers are given from 1 on (own rule)
unfoldable pub decision_of : List Decision → ℕ → Option Decision
-- the state of a number, if it was given
decision_of decisions number = if number == 0 then None else slice_get decisions (number - 1)

-- the decision to commit was recorded
abbrev pub decides : Option Decision → Bool
decides (Some Decided) = true
decides decision = false

-- a number of this state was given, and no recovery has closed it
abbrev pub is_not_closed : Option Decision → Bool
is_not_closed None = false
is_not_closed (Some Closed) = false
is_not_closed decision = true

-- the number was given, and its commit is recorded
abbrev pub is_decided : List Decision → ℕ → Bool
is_decided decisions number = decides (decision_of decisions number)

-- the number was given, and no recovery has closed it
abbrev pub may_be_decided : List Decision → ℕ → Bool
may_be_decided decisions number = is_not_closed (decision_of decisions number)

-- the decisions with this number, which is at least 1, decided; the others have the states that they had
unfoldable pub with_decided : List Decision → ℕ → List Decision
-- the decisions with this number decided
with_decided decisions number = slice_set decisions (number - 1) Decided

-- the state of a number after a recovery: closed if it was undecided, else as it was
abbrev pub closed_of : Decision → Decision
closed_of Undecided = Closed
closed_of decision = decision

-- the number is undecided, and a later one is closed
pub record IsOvertaken (decisions : List Decision) (number : ℕ) : Type 0 where
  pub undecided : decision_of decisions number ≡ Some Undecided
  pub later : ℕ
  pub behind : number < later
  pub closed : decision_of decisions later ≡ Some Closed

-- decisions as they can stand: no more numbers than can be given, and none of them is overtaken
pub record CanStand (decisions : List Decision) : Type 0 where
  pub most : length decisions ≤ most_numbers
  pub none : (number : ℕ) → IsOvertaken decisions number → ⊥

-- the list isn't too long, and of the numbers in it that are overtaken this is the first
pub record IsFirstOvertaken (decisions : List Decision) (number : ℕ) : Type 0 where
  pub most : length decisions ≤ most_numbers
  pub overtaken : IsOvertaken decisions number
  pub first : (other : ℕ) → IsOvertaken decisions other → number ≤ other

-- why the list isn't taken: it has more than `most_numbers`; or its first overtaken number is this one; or memory is
-- missing, which is wanted only for a list that can be decisions
abbrev pub IsNoList : List Decision → DecisionsFault → Type 0
IsNoList decisions DecisionsFault.TooMany = most_numbers < length decisions
IsNoList decisions (DecisionsFault.Overtaken number) = IsFirstOvertaken decisions number
IsNoList decisions DecisionsFault.NoMemory = CanStand decisions
