-- What is kept is no more than what acts lead to that take effect as late as they can.
--     adds_none, adds_more, adds_effect     what an act adds to a list
--     unheard_at, heard_more      an open call of a session whose client is gone, in some of a list;  in none
--     SettledOnly, SeenOnly, settled_none  what is left of a list, and what was made;  before the first step
--     settled_only, seen_only     what was made of a list comes of it
--     opens_kept, kept_on      all of a list may be kept before all events;  after one event more
use Rattle.std.proofs.lemmas.{Bool.{cases_lt, Decides.nat_tests}, Grind.common_steps, Option.slice_get_read}
use Rattle.std.proofs.Common.{◌≡◌, ◌≢◌, ◌⊎◌, ℕ, ◌+◌, ◌<◌, suc, Option, Some, List, [], ◌∷◌, ◌++◌, length, get_or, true}
use Rattle.std.{proofs.Common.{false, refl, ap, sym, ◌∙◌, subst, inl, inr, arith}, specs.Option.option_map}
use Rattle.std.specs.{Prelude.slice_get, List.Contains}
use Rattle.xa_server.specs.State.{State}
use Rattle.xa_judge.specs.declared.{event.Event.{Event, TheVariants.{Call, Return, Lost, Unknown}}, moves.Act.Act}
use Rattle.xa_judge.specs.{declared.configuration.Configuration.Configuration, Explained.{Config, effect_of, IsSession}}
use Rattle.xa_judge.specs.Late.{after_settling, has_unheard, is_over, IsReachedFrom, at_once, by_act, IsAnyUnheard}
use Rattle.xa_judge.specs.{Late.{Widens, IsCounted, IsReady, IsKeptAfter, IsKept}, Found.{config_of, Has, IsShortened}}
use Rattle.xa_judge.specs.Found.{AddsUnlessThere, IsSeenAdded, IsOpening, AddsOnly, IsSettledIn, IsSeenIn}
use Rattle.xa_judge.proofs.{Places.{get_within, place_mapped}, Loops.{has_last, has_pushed}}

-- an empty list has nothing
has_none : (c : Config) → Has [] c → ⊥
has_none c has = omega (arith, has.1)

-- what a list has once a configuration was added unless it was there, it had before or is that one
added_last : (old new : List Configuration) (one : Configuration) (c : Config) → AddsUnlessThere old one new → Has new c
    → Has old c ⊎ (config_of one ≡ c)
added_last old new one c is has = grind (arith, common_steps, nat_tests)

-- if a list stays as it is, nothing was added but what an act that counts leads to from `one` (`AddsOnly`)
pub adds_none : (returning : Option ℕ) (one : Config) (list : List Configuration) → AddsOnly returning one list list
adds_none returning one list = λ config has. inl has

-- if each of two steps adds only what an act that counts leads to from `one` (`AddsOnly`), so do both together
pub adds_more : (returning : Option ℕ) (one : Config) (old mid new : List Configuration)
    → AddsOnly returning one old mid
    → AddsOnly returning one mid new → AddsOnly returning one old new
adds_more returning one old mid new first second = grind (arith)

-- if what an act leads to from the configuration at a place is added unless it is there, and the act is of another
-- session than the returning one, which isn't answered, only what an act that counts leads to is added (`AddsOnly`)
pub adds_effect : (old new : List Configuration) (place : ℕ) (one next : Configuration) (found : Option Configuration)
    (session : ℕ) (act : Act)
    → slice_get old place ≡ Some one → IsSession session
    → option_map config_of found ≡ effect_of (config_of one) session act
    → found ≡ Some next → AddsUnlessThere old next new
    → (other : Configuration) (returning : Option ℕ) → slice_get old place ≡ Some other → returning ≢ Some session
    → is_over returning (config_of other) ≡ false
    → AddsOnly returning (config_of other) old new
adds_effect old new place one next found session act at is effect also added other returning there apart unanswered =
    grind (arith, common_steps, nat_tests)

-- if acts that count lead from the first list to all of the old one (`IsReachedFrom`), they lead to all of the new
-- one, to which only what one such act leads to from the configuration at a place was added (`AddsOnly`)
pub reached_more : (first old new : List Configuration) (place : ℕ) (returning : Option ℕ) → place < length old
    → ((config : Config) → Has old config → IsReachedFrom (Has first) returning config)
    → ((one : Configuration) → slice_get old place ≡ Some one → AddsOnly returning (config_of one) old new)
    → (config : Config) → Has new config → IsReachedFrom (Has first) returning config
reached_more first old new place returning within before adds config has =
    let at = get_within old place within in
    elim (adds at.0 at.1 config has) [
      | inl there ↦ before config there
      | inr next ↦ by_act (config_of at.0) config
          (before (config_of at.0) (place_mapped config_of old place at.0 at.1)) next
    ]

-- in a loop over a list: what is left is of the list, and what was made is what one of it becomes once what the
-- session called for takes effect
abbrev pub SettledOnly : ℕ → List Configuration → List Configuration → List Configuration → Type 0
SettledOnly session first rest list =
    ((config : Config) → Has rest config → Has first config)
    × ((config : Config) → Has list config → IsSettledIn first session config)

-- in a loop over a list: what is left is of the list, and what was made is what the event leads to from one of it
abbrev pub SeenOnly : Event → List Configuration → List Configuration → List Configuration → Type 0
SeenOnly event first rest list =
    ((config : Config) → Has rest config → Has first config)
    × ((config : Config) → Has list config → IsSeenIn first event config)

-- if all of a list is in a first one, so is its last configuration
last_of : (first known rest : List Configuration) (one : Configuration) → known ≡ rest ++ one ∷ []
    → ((config : Config) → Has known config → Has first config) → Has first (config_of one)
last_of first known rest one parts of = of (config_of one) (has_pushed rest known one parts)

-- if all of a list is in a first one, so is all of it but its last configuration
rest_of : (first known rest : List Configuration) (one : Configuration) → known ≡ rest ++ one ∷ []
    → ((config : Config) → Has known config → Has first config) → (config : Config) → Has rest config → Has first config
rest_of first known rest one parts of config has = grind (arith, common_steps, nat_tests)

-- one round of the loop that settles configurations: `SettledOnly` still holds once the last one was taken off, and
-- what it settles to put behind the list
pub settled_only : (session : ℕ) (first known rest list new : List Configuration) (one next : Configuration)
    → known ≡ rest ++ one ∷ [] → new ≡ list ++ next ∷ []
    → config_of next ≡ after_settling (config_of one) session
    → SettledOnly session first known list → SettledOnly session first rest new
settled_only session first known rest list new one next parts pushed is only = (
  rest_of first known rest one parts only.0,
  λ config has. elim (has_last list new next config pushed has) [
    | inl there ↦ only.1 config there
    | inr same ↦ (config_of one, last_of first known rest one parts only.0, sym same ∙ is)
  ],
)

-- one round of the loop in which configurations see an event: `SeenOnly` still holds once the last one was taken off,
-- and what the event leads to from it, if it can be seen there, was added unless it was there
pub seen_only : (event : Event) (first known rest list new : List Configuration) (one : Configuration)
    → known ≡ rest ++ one ∷ [] → IsSeenAdded event one list new
    → SeenOnly event first known list → SeenOnly event first rest new
seen_only event first known rest list new one parts (inl none) only = (
  rest_of first known rest one parts only.0,
  λ config has. only.1 config (subst (λ l. Has l config) none.1 has),
)
seen_only event first known rest list new one parts (inr some) only = (
  rest_of first known rest one parts only.0,
  λ config has. elim (added_last list new some.0 config some.3 has) [
    | inl there ↦ only.1 config there
    | inr same ↦ (config_of one, last_of first known rest one parts only.0, some.1 ∙ ap Some same)
  ],
)

-- before the first step the whole list is left to go over, and nothing was made of it
pub settled_none : (session : ℕ) (first : List Configuration) → SettledOnly session first first []
settled_none session first = (λ config has. has, λ config has. absurd (has_none config has))

-- if at a place of a list the session's client is gone with an open call, that is so in some configuration of the
-- list (`IsAnyUnheard`)
pub unheard_at : (known : List Configuration) (place session : ℕ) (one : Configuration) → place < length known
    → one ≡ get_or known place one → has_unheard (config_of one) session ≡ true → IsAnyUnheard (Has known) session
unheard_at known place session one within at is = (
  config_of one,
  place_mapped config_of known place one (slice_get_read known (length known) place one refl within at),
  is,
)

-- one round of the loop that looks for an open call which nobody hears: if the session has none in the configurations
-- before a place, nor in the one there, it has none in those up to that place
pub heard_more : (known : List Configuration) (place session : ℕ) (one : Configuration) → place < length known
    → one ≡ get_or known place one → has_unheard (config_of one) session ≡ false
    → ((k : ℕ) (other : Configuration) → k < place → slice_get known k ≡ Some other
    → has_unheard (config_of other) session ≡ false)
    → (k : ℕ) (other : Configuration) → k < place + 1 → slice_get known k ≡ Some other
    → has_unheard (config_of other) session ≡ false
heard_more known place session one within at is before k other below found = grind (arith, cases_lt, slice_get_read)

-- what is reached by acts (`IsReachedFrom`) if some configurations are kept is reached if more are
reached_of_more : (P Q : Config → Type 0) (returning : Option ℕ) (config : Config)
    → ((one : Config) → P one → Q one) → IsReachedFrom P returning config → IsReachedFrom Q returning config
reached_of_more P Q returning _ wider (at_once config is) = at_once config (wider config is)
reached_of_more P Q returning _ wider (by_act one config before next) =
    by_act one config (reached_of_more P Q returning one wider before) next

-- if acts may have to take effect before an event (`Widens`) while some configurations are kept, so they may with more
widens_of_more : (P Q : Config → Type 0) (event : Event) → ((one : Config) → P one → Q one) → Widens P event
    → Widens Q event
widens_of_more P Q (Call session request) wider is = (is.0, wider is.0 is.1, is.2)
widens_of_more P Q (Return session seen) wider is = is
widens_of_more P Q (Lost session) wider is = is
widens_of_more P Q (Unknown session) wider is = is

-- a configuration that counts for an event (`IsCounted`) if some are kept counts for it if more are
pub counted_of_more : (P Q : Config → Type 0) (event : Event) (config : Config) → ((one : Config) → P one → Q one)
    → IsCounted P event config → IsCounted Q event config
counted_of_more P Q event config wider is = grind (arith, reached_of_more, widens_of_more)

-- a configuration that stands directly before an event (`IsReady`) if some are kept stands there if more are
ready_of_more : (P Q : Config → Type 0) (event : Event) (config : Config) → ((one : Config) → P one → Q one)
    → IsReady P event config → IsReady Q event config
ready_of_more P Q (Call session request) config wider (inl is) = inl (wider config is)
ready_of_more P Q (Call session request) config wider (inr is) =
    inr (counted_of_more P Q (Call session request) config wider is)
ready_of_more P Q (Return session seen) config wider is =
    (is.0, counted_of_more P Q (Return session seen) is.0 wider is.1, is.2)
ready_of_more P Q (Lost session) config wider is = wider config is
ready_of_more P Q (Unknown session) config wider is = counted_of_more P Q (Unknown session) config wider is

-- the opening configuration, which alone is in the list, is the one that is kept before all events
pub opens_kept : (base : State) (events : List Event) (list : List Configuration) → IsOpening base list
    → (config : Config) → Has list config → IsKept base events 0 config
opens_kept base events list is config has = grind (arith)

-- if each of the old list may be kept before the event at a place (`IsKept`), and each of the next list after that
-- event (`IsKeptAfter`), each of the new list may be kept before the next place. The new list is the next one with
-- common first moves taken out (`IsShortened`)
pub kept_on : (base : State) (events : List Event) (place : ℕ) (event : Event) (trunk longer : List _)
    (old next new : List Configuration)
    → slice_get events place ≡ Some event
    → ((config : Config) → Has old config → IsKept base events place config)
    → ((config : Config) → Has next config → IsKeptAfter (Has old) event config)
    → IsShortened trunk longer next new
    → (config : Config) → Has new config → IsKept base events (place + 1) config
kept_on base events place event trunk longer old next new at kept leads short config has =
    let after = leads config (subst (λ l. Contains l config) short.same has) in
    subst (λ n. IsKept base events n config) more (
      event,
      at,
      (after.0, ready_of_more (Has old) (IsKept base events place) event after.0 kept after.1, after.2),
    )
  where
    more : suc place ≡ place + 1
    more = omega arith
