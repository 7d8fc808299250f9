-- The ways that a search keeps.
--     IsTurn, IsNextOf     a way is another one with one more turn;  ways are what one more turn leads to, each
--                          configuration with its least order
--     IsWideNext, IsWide   one more turn leads to more ways than allowed;  orders of one length do
use Rattle.std.specs.{Prelude.{◌≡◌, ◌≢◌, ◌⊎◌, ℕ, ◌<◌, Some, None, List, [], ◌∷◌, ◌++◌, length}, List.All}
use Rattle.xa_orders.specs.{declared.way.Way.Way, Orders.{Told, Config, opening, turn, IsSession, LeadsTo, Precedes}}
use Rattle.xa_orders.specs.Orders.{AtMost, Any, Pairwise, IsAscending}
use Rattle.xa_server.specs.State.{State}

-- the configuration to which the way has come
abbrev pub config_of : Way → Config
config_of way = record { state = way.server; answers = way.answers }

-- the sessions in the order in which they took their turns
abbrev pub order_of : Way → List ℕ
order_of way = way.order.items

-- the way's order has this many turns, and leads to the way's configuration
pub record IsReached (lines : List Told) (base : Config) (count : ℕ) (way : Way) : Type 0 where
  pub count_is : length way.order.items ≡ count
  pub leads : LeadsTo lines base way.order.items (config_of way)

-- some way of the list has this configuration, and an order that is at most this one
abbrev pub HasBy : List Way → Config → List ℕ → Type 0
HasBy ways config order = Any (λ way. (config_of way ≡ config) × AtMost way.order.items order) ways

-- each way is reached by this many turns; wherever so many turns lead, one of the ways has come there by an order that
-- is at most theirs; and the orders of the ways ascend
pub record IsLevel (lines : List Told) (base : Config) (count : ℕ) (ways : List Way) : Type 0 where
  pub each : All (IsReached lines base count) ways
  pub all : (order : List ℕ) (config : Config) → length order ≡ count → LeadsTo lines base order config
      → HasBy ways config order
  pub ascending : IsAscending order_of ways

-- a turn of this session leads from the way to the new one
pub record IsTurn (lines : List Told) (session : ℕ) (way new : Way) : Type 0 where
  pub is_session : IsSession session
  pub leads : turn lines (config_of way) session ≡ Some (config_of new)
  pub order_is : new.order.items ≡ way.order.items ++ session ∷ []

-- the list has each configuration to which the way's turn of a session below the number leads (17: of any session),
-- with an order that is at most the way's and that turn
abbrev pub Covers : List Told → ℕ → Way → List Way → Type 0
Covers lines number way list =
    (session : ℕ) (config : Config) → session < number → IsSession session
    → turn lines (config_of way) session ≡ Some config
    → HasBy list config (way.order.items ++ session ∷ [])

-- each of the list is one of the ways with one more turn; of each turn of each of the ways the list has what it leads
-- to, with an order that is at most that one; and its orders ascend
pub record IsNextOf (lines : List Told) (ways list : List Way) : Type 0 where
  pub each : All (λ new. Any (λ way. (session : ℕ) × IsTurn lines session way new) ways) list
  pub all : All (λ way. Covers lines 17 way list) ways
  pub ascending : IsAscending order_of list

-- the order of each way of the list comes before this way's
abbrev pub AllPrecede : List Way → Way → Type 0
AllPrecede ways way = All (λ one. Precedes one.order.items way.order.items) ways

-- the list has a way with the same configuration, and is as it was; or it has this way in addition
abbrev pub AddsUnlessThere : List Way → Way → List Way → Type 0
AddsUnlessThere old one new = (Any (λ way. config_of way ≡ config_of one) old × (new ≡ old)) ⊎ (new ≡ old ++ one ∷ [])

-- there is no such session, or it has no line left, and the list is as it was; or the way to which its turn leads is
-- added, or the list has a way with its configuration, and is as it was
abbrev pub IsTurnAdded : List Told → Way → ℕ → List Way → List Way → Type 0
IsTurnAdded lines way session old new =
    ((IsSession session → turn lines (config_of way) session ≡ None) × (new ≡ old))
    ⊎ ((next : Way) × IsTurn lines session way next × AddsUnlessThere old next new)

-- the list is one way: no turn is taken yet, and its configuration is that before all lines side by side
abbrev pub IsOpening : List Told → State → List Way → Type 0
IsOpening lines state ways =
    (one : Way) × (ways ≡ one ∷ []) × (config_of one ≡ opening lines state) × (one.order.items ≡ [])

-- no two of the ways have come to the same: some line was answered otherwise, or the servers differ
abbrev pub AreDifferent : List Way → Type 0
AreDifferent ways = Pairwise (λ one other. config_of one ≢ config_of other) ways

-- the list has so many ways of which no two have come to the same
pub record HasDifferent (count : ℕ) (ways : List Way) : Type 0 where
  pub many : List Way
  pub counted : length many ≡ count
  pub differ : AreDifferent many
  pub among : All (λ one. Any (λ way. way ≡ one) ways) many

-- the list has more ways than `limit` of which no two have come to the same
pub record IsSpread (limit : ℕ) (ways : List Way) : Type 0 where
  pub count : ℕ
  pub over : limit < count
  pub different : HasDifferent count ways

-- one more turn leads to more ways than `limit`, no two of which have come to the same
pub record IsWideNext (lines : List Told) (ways : List Way) (limit : ℕ) : Type 0 where
  pub many : List Way
  pub over : limit < length many
  pub differ : AreDifferent many
  pub each : All (λ new. Any (λ way. (session : ℕ) × IsTurn lines session way new) ways) many

-- orders of some length lead to more ways than `limit`, no two of which have come to the same
pub record IsWide (lines : List Told) (base : Config) (limit : ℕ) : Type 0 where
  pub count : ℕ
  pub many : List Way
  pub over : limit < length many
  pub differ : AreDifferent many
  pub reached : All (IsReached lines base count) many
