-- Orders of lines that sessions give side by side, and the outcome of each order.
-- Every rule here is the project's own: docs/COMMANDS.md#explore.
--     Told, Parts          a line;  the lines of a script: those before, those side by side, those after
--     Config, opening      a server, and what each line side by side was answered;  the same before any of
--                          them is carried out
--     Precedes, AtMost     one order comes before another;  or is the same
--     Pairwise, Any        a relation holds of each two of a list, the earlier one first;  a property holds
--                          of one of a list
use Rattle.std.specs.Prelude.{◌≡◌, ◌≢◌, ◌⊎◌, ℕ, ◌<◌, ◌≤◌, Bool, ◌==◌, ◌&&◌, Option, Some, List, [], ◌∷◌, ◌++◌, length}
use Rattle.std.specs.{Prelude.{replicate, position, slice_get, slice_set}, List.{All, zip, concat}}
use Rattle.std.specs.Option.{option_map, option_map_or}
use Rattle.xa_server.specs.State.{State, no_state}
use Rattle.xa_lines.specs.{Script.is_empty_line, Transcript.{answer_to, state_then}}
use Rattle.xa_statement.specs.Reading.{read_of}
use Rattle.xa_orders.specs.declared.outcome.Outcome.{Outcome}

-- a line: its session, and the text of its statement
pub record Told : Type 0 where
  pub session : ℕ
  pub text : List ℕ

-- the lines that are carried out before, those side by side, and those carried out after them
pub record Parts : Type 0 where
  pub before : List Told
  pub beside : List Told
  pub later : List Told

-- what is written for lines that are carried out one after another; a script's run writes the same for such lines
unfoldable pub told_text : State → List Told → List ℕ
told_text state [] = []
told_text state (told ∷ lines) = answer_to state told.session (read_of told.text)
    ++ told_text (state_then state told.session (read_of told.text)) lines

-- the state after these lines, one after another
unfoldable pub told_state : State → List Told → State
told_state state [] = state
told_state state (told ∷ lines) = told_state (state_then state told.session (read_of told.text)) lines

-- a server, and what each of the lines side by side was answered: an empty text if it wasn't carried out yet
pub record Config : Type 0 where
  pub state : State
  pub answers : List (List ℕ)

-- the configuration in which none of the lines is carried out yet
abbrev pub opening : List Told → State → Config
opening lines state = record { state = state; answers = replicate (length lines) [] }

-- whether the line is the session's, and wasn't carried out: its answer is empty
abbrev pub is_left : ℕ → Told × List ℕ → Bool
is_left session pair = (pair.0.session == session) && is_empty_line pair.1

-- the place of the session's first line that wasn't carried out; None if there is none
abbrev pub next_place : ℕ → List Told → List (List ℕ) → Option ℕ
next_place session lines answers = position (is_left session) (zip lines answers)

-- the text of the line at a place; the empty one if there is none
abbrev pub text_at : List Told → ℕ → List ℕ
text_at lines place = option_map_or (λ told. told.text) (slice_get lines place) []

-- the session's statement of this text, on the line at this place, is carried out
abbrev pub carried_out : ℕ → List ℕ → Config → ℕ → Config
carried_out session text config place =
    record {
      state = state_then config.state session (read_of text);
      answers = slice_set config.answers place (answer_to config.state session (read_of text));
    }

-- the configuration after the session's next line is carried out; None if it has none left
unfoldable pub turn : List Told → Config → ℕ → Option Config
-- the session's next line is carried out
turn lines config session = option_map (λ place. carried_out session (text_at lines place) config place)
    (next_place session lines config.answers)

-- a session's number, from 1 to 16
abbrev pub IsSession : ℕ → Type 0
IsSession session = (1 ≤ session) × (session ≤ 16)

-- sessions take turns in this order, and lead from old to new
abbrev pub LeadsTo : List Told → Config → List ℕ → Config → Type 0
LeadsTo lines old [] new = new ≡ old
LeadsTo lines old (session ∷ order) new =
    (mid : Config) × IsSession session × (turn lines old session ≡ Some mid) × LeadsTo lines mid order new

-- the configuration before the lines side by side
abbrev pub base_of : Parts → Config
base_of parts = opening parts.beside (told_state no_state parts.before)

-- what all lines were answered, in the order in which the script has them
abbrev pub outcome_text : Parts → Config → List ℕ
outcome_text parts config =
    told_text no_state parts.before ++ concat config.answers ++ told_text config.state parts.later

-- in this order each line side by side is carried out, and all lines are answered with this text
pub record Gives (parts : Parts) (order text : List ℕ) : Type 0 where
  pub config : Config
  pub whole : length order ≡ length parts.beside
  pub leads : LeadsTo parts.beside (base_of parts) order config
  pub text_is : text ≡ outcome_text parts config

-- two orders differ at a place that both have, and at the first such place the first one has the smaller session
abbrev pub Precedes : List ℕ → List ℕ → Type 0
Precedes (one ∷ order) (other ∷ others) = (one < other) ⊎ ((one ≡ other) × Precedes order others)
Precedes order others = ⊥

-- the order is the other one, or precedes it
abbrev pub AtMost : List ℕ → List ℕ → Type 0
AtMost order others = (order ≡ others) ⊎ Precedes order others

-- any two elements are related as R says, the earlier one first
abbrev pub Pairwise : {A : Type 0} → (A → A → Type 0) → List A → Type 0
Pairwise R [] = Unit {0}
Pairwise R (one ∷ list) = All (R one) list × Pairwise R list

-- some element is as P says
abbrev pub Any : {A : Type 0} → (A → Type 0) → List A → Type 0
Any P [] = ⊥
Any P (one ∷ list) = P one ⊎ Any P list

-- the orders of these ascend, each once
abbrev pub IsAscending : {A : Type 0} → (A → List ℕ) → List A → Type 0
IsAscending order list = Pairwise (λ one other. Precedes (order one) (order other)) list

-- these are the outcomes: each is given by its order; each that an order gives is there, with an order that
-- is at most that one; none is there twice; and the orders ascend
pub record IsExplored (parts : Parts) (outcomes : List Outcome) : Type 0 where
  pub each : All (λ one. Gives parts one.order.items one.text.items) outcomes
  pub all : (order text : List ℕ) → Gives parts order text
      → Any (λ one. (one.text.items ≡ text) × AtMost one.order.items order) outcomes
  pub once : Pairwise (λ one other. one.text.items ≢ other.text.items) outcomes
  pub ascending : IsAscending (λ one. one.order.items) outcomes
