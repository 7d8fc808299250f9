-- What one more event leads to.
--     IsCallOf, IsReturnOf, IsNoReturn     an event is a call of a session;  a return to it;  no return at all
use Rattle.std.specs.{Prelude.{◌≡◌, ℕ, ◌<◌, List, [], ◌∷◌, Some, vec_len, slice_get}, List.{All, Contains}}
use Rattle.xa_server.specs.State.{State}
use Rattle.xa_judge.specs.declared.{client_state.ClientState.ClientState, answer.Answer.Answer, event.Event.Event}
use Rattle.xa_judge.specs.declared.{moves.Move.Move, configuration.Configuration.Configuration, advance.Advance.Advance}
use Rattle.xa_judge.specs.{Explained.{Config, observed, LeadsThrough}, Late.{IsCounted, IsKeptAfter}}
use Rattle.xa_judge.specs.{Found.{Has, Reaches, IsSpread, KeepsReach, ReachesPast, IsSeenIn}, Verdicts.IsAnswerAfter}

-- from one of these configurations, some moves lead through the events to this one
pub record Continues (list : List Configuration) (events : List Event) (new : Config) : Type 0 where
  pub one : Config
  pub has : Has list one
  pub moves : List Move
  pub runs : LeadsThrough one events moves new

-- the event is a call of this session
abbrev pub IsCallOf : ℕ → Event → Type 0
IsCallOf session (Event.Call other request) = other ≡ session
IsCallOf session (Event.Return other seen) = ⊥
IsCallOf session (Event.Lost other) = ⊥
IsCallOf session (Event.Unknown other) = ⊥

-- the event is a return to this session
abbrev pub IsReturnOf : ℕ → Event → Type 0
IsReturnOf session (Event.Call other request) = ⊥
IsReturnOf session (Event.Return other seen) = other ≡ session
IsReturnOf session (Event.Lost other) = ⊥
IsReturnOf session (Event.Unknown other) = ⊥

-- the event is no return
abbrev pub IsNoReturn : Event → Type 0
IsNoReturn (Event.Call session request) = Unit {0}
IsNoReturn (Event.Return session seen) = ⊥
IsNoReturn (Event.Lost session) = Unit {0}
IsNoReturn (Event.Unknown session) = Unit {0}

-- what the event leaves of the old list, if no act comes before it. Known: a list with each configuration to which
-- the event leads, at least one, and no other, reached if the old list is (`ReachesPast`). Impossible: the event can be
-- seen in none of the old list, and `answers` are given back. Never TooMany
abbrev pub IsSeenFrom : List Configuration → List Answer → Event → Advance → Type 0
IsSeenFrom old answers event (Advance.Known list) =
    (0 < vec_len list) × ((one new : Config) → Has old one → observed one event ≡ Some new → Has list.items new)
    × ReachesPast event old list.items
    × ((new : Config) → Has list.items new → IsSeenIn old event new)
IsSeenFrom old answers event (Advance.Impossible others) =
    ((one new : Config) → Has old one → observed one event ≡ Some new → ⊥) × (others.items ≡ answers)
IsSeenFrom old answers event Advance.TooMany = ⊥

-- each of these answers the session can have after the events, whenever all of the list is reached by them; and each
-- that it has after acts from one of the list is among them
pub record AreAnswersTo (list : List Configuration) (session : ℕ) (answers : List Answer) : Type 0 where
  pub each : (base : State) (events : List Event) (trunk : List Move) → All (Reaches base events trunk) list
      → All (IsAnswerAfter base events session) answers
  pub all : (new : Config) (answer : Answer) → Continues list [] new
      → slice_get new.clients session ≡ Some (ClientState.Answered answer) → Contains answers answer

-- before a return these are the answers that its session can have; before another event there is none
abbrev pub AreAnswers : List Configuration → Event → List Answer → Type 0
AreAnswers list (Event.Return session seen) answers = AreAnswersTo list session answers
AreAnswers list event answers = answers ≡ []

-- what the event leads to. Known: a list with at least one configuration. Whatever goes on past the event from the
-- old list goes on from this one, which has only what is reached if the old list is (`ReachesPast`) and what may be
-- kept after the event (`IsKeptAfter`). Impossible: nothing goes on past the event, and the answers are those that a
-- return's session can have (`AreAnswers`). TooMany: acts may have to come before the event, and lead to more than
-- `limit` different configurations (`IsCounted`), which are reached if the old list is
abbrev pub IsAdvance : List Configuration → Event → ℕ → Advance → Type 0
IsAdvance old event limit (Advance.Known list) =
    (0 < vec_len list) × ((more : List Event) (new : Config) → Continues old (event ∷ more) new
    → Continues list.items more new) × ReachesPast event old list.items
    × ((new : Config) → Has list.items new → IsKeptAfter (Has old) event new)
IsAdvance old event limit (Advance.Impossible answers) =
    ((more : List Event) (new : Config) → Continues old (event ∷ more) new → ⊥) × AreAnswers old event answers.items
IsAdvance old event limit Advance.TooMany =
    (many : List Configuration) × IsSpread limit many × KeepsReach old many
    × ((config : Config) → Has many config → IsCounted (Has old) event config)
