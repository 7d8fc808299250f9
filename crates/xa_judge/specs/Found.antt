-- The configurations that a judge keeps.
--     config_of, configs    a configuration as the definitions see it;  all of a list
--     KeepsReach, ReachesPast    a list is reached if another one is;  by one event more
--     AddsUnlessThere, IsSeenAdded     a list may have one more;  one to which an event leads
--     IsAnswerAdded, IsAnsweredIn      a client's answer is added;  a session has an answer in one of a list
--     IsPathOf, IsShortened      the moves to the first of a list;  a longer trunk leads to the same ones
--     IsSettledIn, IsSeenIn    it comes of one of a list, by what a session called for;  by an event
--     IsExpandedBelow, IsClosedBelow      the list has what acts that count lead to
use Rattle.std.specs.Prelude.{◌≡◌, ◌≢◌, ◌⊎◌, ℕ, ◌<◌, false, Option, Some, None, List, [], ◌∷◌, ◌++◌, length, map}
use Rattle.std.specs.{Prelude.{slice_get, slice_set}, List.{All, Contains}}
use Rattle.xa_server.specs.State.{State}
use Rattle.xa_judge.specs.declared.{event.Event.Event, client_state.ClientState.ClientState, answer.Answer.Answer}
use Rattle.xa_judge.specs.declared.{moves.{Act.Act, Move.Move}, configuration.Configuration.Configuration}
use Rattle.xa_judge.specs.Explained.{Config, opening_config, effect_of, observed, LeadsThrough, IsSession}
use Rattle.xa_judge.specs.{Late.{after_settling, is_over, IsNextTo}, Verdicts.AreDifferent}

-- a configuration as the definitions see it
abbrev pub config_of : Configuration → Config
config_of one = record { state = one.server; clients = one.clients.items }

-- the configuration with this state and these clients, of which this session's is replaced
abbrev pub moved_to : State → List ClientState → ℕ → ClientState → Config
moved_to state clients session client = record { state = state; clients = slice_set clients session client }

-- the configurations as definitions see them, without what the program keeps beside them
abbrev pub configs : List Configuration → List Config
configs list = map config_of list

-- the trunk, and then the configuration's own path, lead through the events to the configuration
unfoldable pub Reaches : State → List Event → List Move → Configuration → Type 0
-- the trunk and a configuration's path lead to it
Reaches base events trunk one = LeadsThrough (opening_config base) events (trunk ++ one.path) (config_of one)

-- the list has this configuration
abbrev pub Has : List Configuration → Config → Type 0
Has list config = Contains (configs list) config

-- the list has more configurations than the limit of which no two are the same
pub record IsSpread (limit : ℕ) (list : List Configuration) : Type 0 where
  pub many : List Config
  pub over : limit < length many
  pub differ : AreDifferent many
  pub has : All (Has list) many

-- if each of the old list is reached, so is each of the new one
abbrev pub KeepsReach : List Configuration → List Configuration → Type 0
KeepsReach old new = (base : State) (events : List Event) (trunk : List Move) → All (Reaches base events trunk) old
    → All (Reaches base events trunk) new

-- if each of the old list is reached, each of the new one is reached with this event in addition
abbrev pub ReachesPast : Event → List Configuration → List Configuration → Type 0
ReachesPast event old new =
    (base : State) (events : List Event) (trunk : List Move) → All (Reaches base events trunk) old
    → All (Reaches base (events ++ event ∷ []) trunk) new

-- the configuration is as it was; or the session's statement leads to it from the old one, and its path has this
-- effect more
abbrev pub IsSettledFrom : ℕ → Configuration → Configuration → Type 0
IsSettledFrom session old new =
    (new ≡ old) ⊎ (IsSession session × (effect_of (config_of old) session Act.Statement ≡ Some (config_of new))
    × (new.path ≡ old.path ++ Move.Effect session Act.Statement ∷ []))

-- the list had this configuration and is as it was; or it has this one at its end in addition
abbrev pub AddsUnlessThere : List Configuration → Configuration → List Configuration → Type 0
AddsUnlessThere old one new = (Has old (config_of one) × (new ≡ old)) ⊎ (new ≡ old ++ one ∷ [])

-- the session's act leads to this configuration from the one at the place
pub record IsEffectAt (list : List Configuration) (place session : ℕ) (act : Act) (next : Configuration) : Type 0 where
  pub before : Configuration
  pub at : slice_get list place ≡ Some before
  pub leads : effect_of (config_of before) session act ≡ Some (config_of next)

-- the event can't be seen, and the list is as it was; or the configuration to which it leads is added unless it is
-- there, with the event at the end of its path
abbrev pub IsSeenAdded : Event → Configuration → List Configuration → List Configuration → Type 0
IsSeenAdded event one old new =
    ((observed (config_of one) event ≡ None) × (new ≡ old))
    ⊎ ((next : Configuration) × (observed (config_of one) event ≡ Some (config_of next))
    × (next.path ≡ one.path ++ Move.Event ∷ [])
    × AddsUnlessThere old next new)

-- the list has the client's answer in addition, or is as it was if the client has none
abbrev pub IsAnswerAdded : Option ClientState → List Answer → List Answer → Type 0
IsAnswerAdded (Some (ClientState.Answered answer)) old new = new ≡ old ++ answer ∷ []
IsAnswerAdded other old new = new ≡ old

-- the session has this answer in a configuration of the list
pub record IsAnsweredIn (list : List Configuration) (session : ℕ) (answer : Answer) : Type 0 where
  pub one : Config
  pub has : Has list one
  pub stands : slice_get one.clients session ≡ Some (ClientState.Answered answer)

-- the list has only the configuration before all events, with an empty path
abbrev pub IsOpening : State → List Configuration → Type 0
IsOpening base list =
    (one : Configuration) × (list ≡ one ∷ []) × (config_of one ≡ opening_config base) × (one.path ≡ [])

-- the moves are the trunk and the path of the first configuration
abbrev pub IsPathOf : List Move → List Configuration → List Move → Type 0
IsPathOf trunk list moves = (one : Configuration) × (slice_get list 0 ≡ Some one) × (moves ≡ trunk ++ one.path)

-- the new list has the same configurations. If the trunk and the old paths lead to them, the longer trunk and the new
-- paths do
pub record IsShortened (trunk longer : List Move) (old new : List Configuration) : Type 0 where
  pub same : configs new ≡ configs old
  pub reach : (base : State) (events : List Event) → All (Reaches base events trunk) old
      → All (Reaches base events longer) new

-- the list has more at its end, which is reached if the list is
pub record Grows (old new : List Configuration) : Type 0 where
  pub more : List Configuration
  pub parts : new ≡ old ++ more
  pub reach : KeepsReach old new

-- what the new list has was in the old one, or an act that counts (`IsNextTo`) leads to it from this configuration
abbrev pub AddsOnly : Option ℕ → Config → List Configuration → List Configuration → Type 0
AddsOnly returning one old new = (config : Config) → Has new config → Has old config ⊎ IsNextTo returning one config

-- this is what a configuration of the list becomes once what the session called for takes effect
abbrev pub IsSettledIn : List Configuration → ℕ → Config → Type 0
IsSettledIn list session config = (one : Config) × Has list one × (config ≡ after_settling one session)

-- the event leads to this from one of the list
abbrev pub IsSeenIn : List Configuration → Event → Config → Type 0
IsSeenIn list event config = (one : Config) × Has list one × (observed one event ≡ Some config)

-- the list has what acts of sessions below a number lead to from this configuration. Left out are acts of the session
-- that is to return, and all acts if that session is answered
abbrev pub IsExpandedBelow : ℕ → Configuration → Option ℕ → List Configuration → Type 0
IsExpandedBelow count one returning list =
    (session : ℕ) (act : Act) (new : Config) → session < count → IsSession session → returning ≢ Some session
    → is_over returning (config_of one) ≡ false
    → effect_of (config_of one) session act ≡ Some new → Has list new

-- the list has what acts of any session lead to from each configuration before this place, but for those that
-- `IsExpandedBelow` leaves out
abbrev pub IsClosedBelow : ℕ → Option ℕ → List Configuration → Type 0
IsClosedBelow count returning list = (place : ℕ) (one : Configuration) → place < count → slice_get list place ≡ Some one
    → IsExpandedBelow 17 one returning list
