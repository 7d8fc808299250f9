-- How far a judge tells that it is.
use Rattle.std.specs.{Prelude.{◌≡◌, ℕ, ◌+◌, ◌<◌, Option, MatchOption, List, ◌++◌, length, take}, List.All}
use Rattle.xa_server.specs.State.{State}
use Rattle.xa_judge.specs.declared.{configuration.Configuration.Configuration, event.Event.Event, moves.Move.Move}
use Rattle.xa_judge.specs.{declared.{so_far.SoFar.SoFar, verdict.Verdict.Verdict}, Advances.Continues}
use Rattle.xa_judge.specs.{Explained.{Config, opening_config, LeadsThrough}, Found.{Has, Reaches}, Late.IsKept}

-- one report makes `new` of the progress `old`, as `gives` says, and tells that `done` events of `all` are judged and
-- that so many configurations are kept
pub record IsReport {S : Type 0} (gives : S → SoFar → S → Type 0) (done all configurations : ℕ) (old new : S) : Type 0
  where
    pub so_far : SoFar
    pub told : gives old so_far new
    pub place : so_far.done ≡ done
    pub count : so_far.all ≡ all
    pub size : so_far.configurations ≡ configurations

-- this many events, of which the first has this place, are reported, one after another, and no others. `fits` holds of
-- how many events of this pass were reported before one, and of the number of configurations told
pub data AreReports {S : Type 0} (gives : S → SoFar → S → Type 0) (fits : ℕ → ℕ → Type 0) (first all : ℕ) (old : S)
    : ℕ → S → Type 0 where
  no_report : AreReports gives fits first all old 0 old
  one_more : (count : ℕ) (mid : S) (size : ℕ) (new : S) → AreReports gives fits first all old count mid
      → fits count size → IsReport gives (first + count) all size mid new
      → AreReports gives fits first all old (count + 1) new

-- so many configurations may be kept after `count` events of a pass: at least one, and exactly one before the pass's
-- first event
pub record IsSize (count size : ℕ) : Type 0 where
  pub some : 0 < size
  pub one : count ≡ 0 → size ≡ 1

-- the events, of which there are so many in all, are reported in passes, one after another, and nothing else is. A
-- pass may begin and end at any event
pub data ArePasses {S : Type 0} (gives : S → SoFar → S → Type 0) (all : ℕ) (old : S) : S → Type 0 where
  no_pass : ArePasses gives all old old
  one_pass : (mid : S) (first count : ℕ) (new : S) → ArePasses gives all old mid
      → AreReports gives IsSize first all mid count new → ArePasses gives all old new

-- how many events a verdict is about: all for LEGAL, else those up to and including the one at its place
abbrev pub seen_for : List Event → Verdict → ℕ
seen_for events (Verdict.Legal moves) = length events
seen_for events (Verdict.Illegal place answers) = place + 1
seen_for events (Verdict.Undecided place) = place + 1

-- the events are reported in passes, of which the last one goes up to this many
pub record IsToldUpTo {S : Type 0} (gives : S → SoFar → S → Type 0) (all seen : ℕ) (old new : S) : Type 0 where
  pub mid : S
  pub passes : ArePasses gives all old mid
  pub first : ℕ
  pub count : ℕ
  pub last : AreReports gives IsSize first all mid count new
  pub up_to : first + count ≡ seen

-- how it is told what was found: a verdict in passes, the last of which goes up to what decides it (`seen_for`). If
-- nothing was found, there were only passes
abbrev pub IsToldOf : {S : Type 0} → (S → SoFar → S → Type 0) → List Event → Option Verdict → S → S → Type 0
IsToldOf gives events found old new = MatchOption found (ArePasses gives (length events) old new)
    (λ verdict. IsToldUpTo gives (length events) (seen_for events verdict) old new)

-- where moves lead from the opening through the events seen and more, some lead from a configuration of the list
-- through these more events, to the same end
abbrev pub IsComplete : State → List Event → List Configuration → Type 0
IsComplete base seen list =
    (more : List Event) (moves : List Move) (new : Config) → LeadsThrough (opening_config base) (seen ++ more) moves new
    → Continues list more new

-- `size` is the length (`IsSize`) of the list that is kept before the event at this place. Each of the list is reached,
-- and may be kept there (`IsKept`). All that is still explained goes on from one of them
pub record IsSizeOfKept (base : State) (events : List Event) (place size : ℕ) : Type 0 where
  pub known : List Configuration
  pub length_is : size ≡ length known
  pub is_size : IsSize place size
  pub trunk : List Move
  pub reach : All (Reaches base (take place events) trunk) known
  pub complete : IsComplete base (take place events) known
  pub kept : (config : Config) → Has known config → IsKept base events place config
