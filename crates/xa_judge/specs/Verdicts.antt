-- When a verdict is right.
--     IsAnswerAfter, CouldBe     a session can have an answer after events;  the call that returns at a place can
use Rattle.std.specs.Prelude.{◌≡◌, ◌≢◌, ℕ, ◌+◌, ◌<◌, List, Some, length, take, slice_get}
use Rattle.std.specs.List.{All, AllPairs, Contains}
use Rattle.xa_server.specs.State.{State}
use Rattle.xa_judge.specs.declared.{answer.Answer.Answer, client_state.ClientState.TheVariants.Answered}
use Rattle.xa_judge.specs.declared.{event.{Event.{Event, TheVariants.Return}, Seen.Seen}, moves.Move.Move}
use Rattle.xa_judge.specs.declared.verdict.Verdict.{Verdict, TheVariants.{Legal, Illegal, Undecided}}
use Rattle.xa_judge.specs.{Explained.{Config, opening_config, LeadsThrough, Explained}, Late.{IsCounted, IsKept}}

-- an order explains the events before this place; none explains those up to and including the one at this
-- place, nor all
pub record IsRefuted (base : State) (events : List Event) (place : ℕ) : Type 0 where
  pub within : place < length events
  pub before : Explained base (take place events)
  pub refuted : Explained base (take (place + 1) events) → ⊥
  pub whole : Explained base events → ⊥

-- some moves lead through the events to this configuration
pub record IsReachedByMoves (base : State) (events : List Event) (config : Config) : Type 0 where
  pub moves : List Move
  pub runs : LeadsThrough (opening_config base) events moves config

-- some moves lead through the events to a configuration in which the session has this answer
pub record IsAnswerAfter (base : State) (events : List Event) (session : ℕ) (answer : Answer) : Type 0 where
  pub config : Config
  pub reached : IsReachedByMoves base events config
  pub answered : slice_get config.clients session ≡ Some (Answered answer)

-- some order explains the events before this place, and gives this answer to the call that returns there
pub record CouldBe (base : State) (events : List Event) (place : ℕ) (answer : Answer) : Type 0 where
  pub session : ℕ
  pub seen : Seen
  pub returns : slice_get events place ≡ Some (Return session seen)
  pub after : IsAnswerAfter base (take place events) session answer

-- the answers are exactly those that some order gives to the call that returns at the place
pub record AreAllAnswers (base : State) (events : List Event) (place : ℕ) (answers : List Answer) : Type 0 where
  pub each : All (CouldBe base events place) answers
  pub all : (answer : Answer) → CouldBe base events place answer → Contains answers answer

-- no two configurations of the list are the same
abbrev pub AreDifferent : List Config → Type 0
AreDifferent list = AllPairs (λ one other. one ≢ other) list

-- acts may have to take effect before the event at this place. Taken as late as they can be, they and the events
-- before lead to more configurations than are allowed, no two of them the same
pub record IsWide (base : State) (events : List Event) (limit place : ℕ) : Type 0 where
  pub within : place < length events
  pub many : List Config
  pub over : limit < length many
  pub differ : AreDifferent many
  pub reached : All (IsReachedByMoves base (take place events)) many
  pub event : Event
  pub at : slice_get events place ≡ Some event
  pub counted : All (IsCounted (IsKept base events place) event) many

-- the verdict on the events is right: the moves of Legal lead through all of them; at the place of Illegal they are
-- refuted, and its answers are all that the call there could have; before the place of Undecided there are more than
-- `limit` configurations (`IsWide`)
abbrev pub IsVerdict : State → List Event → ℕ → Verdict → Type 0
IsVerdict base events limit (Legal moves) = (new : Config) × LeadsThrough (opening_config base) events moves.items new
IsVerdict base events limit (Illegal place answers) =
    IsRefuted base events place × AreAllAnswers base events place answers.items
IsVerdict base events limit (Undecided place) = IsWide base events limit place
