-- The sessions of which acts have to be tried before a session's call ends, where later returns are known.
--     IsIn, IsWithin               a session is in a set;  a set is part of another one
--     AreApartFrom, IsPersistent   what sessions outside of a set have open is apart from what one has;  from the set
--     IsExpandedFor, IsTriedFor    a list has what acts of some sessions lead to;  of a persistent set
--     AreClosedFor, IsClosedFor    a list has this of each configuration;  up to a place, in all
-- Every rule here is the project's own: crates/xa_judge/README.md.
use Rattle.std.specs.Prelude.{◌≡◌, ℕ, Bool, true, false, Some, List, slice_get, ◌<◌}
use Rattle.xa_judge.specs.declared.{moves.Act.Act, configuration.Configuration.Configuration}
use Rattle.xa_judge.specs.{Explained.{Config, effect_of, IsSession}, Found.{config_of, Has}, Late.call_is_answered}
use Rattle.xa_judge.specs.{Foreseen.{Hint, IsAllowed, ReplacesFor, HasNextFor}, Apart.IsApartAt}

-- the session is in the set: a list with `true` at the place of its number
abbrev pub IsIn : List Bool → ℕ → Type 0
IsIn all session = slice_get all session ≡ Some true

-- each session of the old set is in the new one
abbrev pub IsWithin : List Bool → List Bool → Type 0
IsWithin old new = (session : ℕ) → IsIn old session → IsIn new session

-- what each session with a number below `count` that isn't in the set has open is apart from what this session has
abbrev pub AreApartFrom : Config → List Bool → ℕ → ℕ → Type 0
AreApartFrom config all session count = (other : ℕ) → other < count → IsSession other → (IsIn all other → ⊥)
    → IsApartAt config other session

-- the set has this session, and what other sessions have open is apart from what those of the set have open
pub record IsPersistent (config : Config) (session : ℕ) (all : List Bool) : Type 0 where
  pub has : IsIn all session
  pub apart : (inside : ℕ) → IsSession inside → IsIn all inside → AreApartFrom config all inside 17

-- the list has what allowed acts of sessions of the set with numbers below `count` lead to from this configuration, or
-- what is as good
abbrev pub IsExpandedFor : List Hint → List Bool → ℕ → Config → List Configuration → Type 0
IsExpandedFor hints all count one list = (session : ℕ) → session < count → IsSession session → IsIn all session
    → HasNextFor hints one session list

-- the list has what allowed acts of a persistent set with this session lead to from the configuration
abbrev pub IsTriedFor : List Hint → ℕ → Config → List Configuration → Type 0
IsTriedFor hints session one list =
    (all : List Bool) × IsPersistent one session all × IsExpandedFor hints all 17 one list

-- the list has this (`IsTriedFor`) from each configuration before the place in which the session isn't answered
abbrev pub AreClosedFor : List Hint → ℕ → ℕ → List Configuration → Type 0
AreClosedFor hints session count list = (place : ℕ) (one : Configuration) → place < count
    → slice_get list place ≡ Some one → call_is_answered (config_of one) session ≡ false
    → IsTriedFor hints session (config_of one) list

-- what each allowed act of sessions of the set leads to from the configuration is had, or what is as good
abbrev pub HasTried : List Hint → List Bool → Config → (Config → Type 0) → Type 0
HasTried hints all kept has = (new : Config) (session : ℕ) (act : Act) → IsSession session → IsIn all session
    → effect_of kept session act ≡ Some new → IsAllowed hints kept session
    → (other : Config) × has other × ReplacesFor hints new other

-- from each configuration in which the session isn't answered, a list has what allowed acts of a persistent set with
-- this session lead to, or what is as good
abbrev pub IsClosedFor : List Hint → ℕ → (Config → Type 0) → Type 0
IsClosedFor hints session has = (kept : Config) → has kept → call_is_answered kept session ≡ false
    → (all : List Bool) × IsPersistent kept session all × HasTried hints all kept has
