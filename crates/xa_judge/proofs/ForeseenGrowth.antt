-- Lists of configurations, as they grow.
--     extends_none, extends_more, still_at, still_has     a list has more at its end
--     next_added, both_added                              what an act leads to is added;  what a session's two do
--     expanded_more, closed_more, closed_all              loops over sessions and places;  after them a list is closed
--     seen_added, unseen                                  what an event leads to is added;  or it can't be seen
--     SeesBothFor, sees_more, sees_end                    a loop in which each of a list sees an event
use Rattle.std.proofs.Common.{◌≡◌, ◌⊎◌, ℕ, Bool, false, Option, Some, None, List, [], ◌∷◌, ◌++◌, ap, sym, ◌∙◌, subst}
use Rattle.std.proofs.{Common.{inl, inr, ◌+◌, ◌<◌, length, arith, append_assoc, append-nil}, lemmas.Bool.cases_lt}
use Rattle.std.{proofs.lemmas.Option.same_Some, specs.{Prelude.slice_get, Option.option_map}}
use Rattle.xa_judge.specs.declared.{configuration.Configuration.Configuration, moves.Act.Act, event.Event.Event}
use Rattle.xa_judge.specs.{Explained.{Config, effect_of, observed, IsSession}, Found.{config_of, Has, AddsUnlessThere}}
use Rattle.xa_judge.specs.{Late.call_is_answered, Foreseen.{Hint, ReplacesFor, ExtendsBy, HasNextFor, HasSeenFor}}
use Rattle.xa_judge.specs.Persistent.{IsIn, IsExpandedFor, IsTriedFor, AreClosedFor, IsClosedFor}
use Rattle.xa_judge.proofs.{Loops.has_last, Places.{get_front, get_within, mapped_place}, Growth.{has_more, has_added}}

-- a list extends itself
pub extends_none : (list : List Configuration) → ExtendsBy list list
extends_none list = ([], sym (append-nil list))

-- a list that is extended twice is extended
pub extends_more : (old mid new : List Configuration) → ExtendsBy old mid → ExtendsBy mid new → ExtendsBy old new
extends_more old mid new first then = grind (arith, append_assoc)

-- what stands at a place of a list stands there in one that extends it
pub still_at : (old new : List Configuration) (place : ℕ) (one : Configuration) → ExtendsBy old new
    → slice_get old place ≡ Some one → slice_get new place ≡ Some one
still_at old new place one grows at = grind (arith, get_front)

-- a configuration of a list is in each list that extends it
pub still_has : (old new : List Configuration) (one : Config) → ExtendsBy old new → Has old one → Has new one
still_has old new one grows has = subst (λ l. Has l one) (sym grows.1) (has_more old grows.0 one has)

-- a list with one configuration added unless it is there extends the old one
pub adds_one : (old new : List Configuration) (one : Configuration) → AddsUnlessThere old one new → ExtendsBy old new
adds_one old new one is = grind (arith, append-nil)

-- once what an act leads to from the configuration at a place, or what is as good (`ReplacesFor`), was added unless
-- it was there, the list has it
pub next_added : (hints : List Hint) (old list : List Configuration) (place : ℕ) (here next added : Configuration)
    (found : Option Configuration) (session : ℕ) (act : Act)
    → slice_get old place ≡ Some here
    → option_map config_of found ≡ effect_of (config_of here) session act → found ≡ Some next
    → ReplacesFor hints (config_of next) (config_of added) → AddsUnlessThere old added list
    → (one : Configuration) (new : Config) → slice_get old place ≡ Some one
    → effect_of (config_of one) session act ≡ Some new
    → (other : Config) × Has list other × ReplacesFor hints new other
next_added hints old list place here next added found session act at is some replaces adds one new there leads =
    let same : here ≡ one = same_Some here one (sym at ∙ there) in
    let made : config_of next ≡ new =
    same_Some (config_of next) new (sym (ap (option_map config_of) some) ∙ is
    ∙ ap (λ o. effect_of (config_of o) session act) same ∙ leads) in (
      config_of added,
      has_added old list added adds,
      subst (λ c. ReplacesFor hints c (config_of added)) made replaces,
    )

-- if the list has what a session's statement leads to from the configuration at a place, and then what its DISCONNECT
-- does, it has what each of its acts leads to (`HasNextFor`)
pub both_added : (hints : List Hint) (old mid new : List Configuration) (place session : ℕ)
    → ExtendsBy old mid → ExtendsBy mid new
    → ((one : Configuration) (next : Config) → slice_get old place ≡ Some one
    → effect_of (config_of one) session Act.Statement ≡ Some next
    → (other : Config) × Has mid other × ReplacesFor hints next other)
    → ((one : Configuration) (next : Config) → slice_get mid place ≡ Some one
    → effect_of (config_of one) session Act.Disconnect ≡ Some next
    → (other : Config) × Has new other × ReplacesFor hints next other)
    → (one : Configuration) → slice_get old place ≡ Some one → HasNextFor hints (config_of one) session new
both_added hints old mid new place session first then has after one at Act.Statement next leads allowed =
    let other = has one next at leads in (other.0, still_has mid new other.0 then other.1, other.2)
both_added hints old mid new place session first then has after one at Act.Disconnect next leads allowed =
    after one next (still_at old mid place one first at) leads

-- a list that has what sessions of a set below a number lead to from a configuration (`IsExpandedFor`) has what those
-- up to it lead to, once it has this session's, if the set has that one
pub expanded_more : (hints : List Hint) (all : List Bool) (number : ℕ) (one : Config) (mid new : List Configuration)
    → ExtendsBy mid new → IsExpandedFor hints all number one mid
    → (IsSession number → IsIn all number → HasNextFor hints one number new)
    → IsExpandedFor hints all (number + 1) one new
expanded_more hints all number one mid new grows before here = λ session below is inside.
    elim (cases_lt session number) [
      | inl less ↦ λ act next leads allowed.
          let other = before session less is inside act next leads allowed in
          (other.0, still_has mid new other.0 grows other.1, other.2)
      | inr over ↦
          let e : number ≡ session = omega (arith, below, over) in
          subst (λ n. HasNextFor hints one n new) e
          (here (subst IsSession (sym e) is) (subst (IsIn all) (sym e) inside))
    ]

-- a list that has what acts of a persistent set lead to (`IsTriedFor`) still has it once extended
tried_still : (hints : List Hint) (session : ℕ) (one : Config) (old new : List Configuration)
    → ExtendsBy old new → IsTriedFor hints session one old → IsTriedFor hints session one new
tried_still hints session one old new grows tried = (
  tried.0,
  tried.1,
  λ other below its inside act next leads allowed.
      let has = tried.2 other below its inside act next leads allowed in
      (has.0, still_has old new has.0 grows has.1, has.2),
)

-- a list that has what acts of persistent sets lead to from each place before one (`AreClosedFor`) has it from each
-- place up to that one, once it has what they lead to from there
pub closed_more : (hints : List Hint) (session : ℕ) (place : ℕ) (old new : List Configuration)
    → place < length old → ExtendsBy old new → AreClosedFor hints session place old
    → ((one : Configuration) → slice_get old place ≡ Some one → call_is_answered (config_of one) session ≡ false
    → IsTriedFor hints session (config_of one) new)
    → AreClosedFor hints session (place + 1) new
closed_more hints session place old new within grows before here = λ at one below there unanswered.
    elim (cases_lt at place) [
      | inl less ↦
          let was = get_within old at (omega (arith, less, within)) in
          let same : was.0 ≡ one =
          same_Some was.0 one (sym (still_at old new at was.0 grows was.1) ∙ there) in
          subst (λ r. IsTriedFor hints session (config_of r) new) same
          (tried_still hints session (config_of was.0) old new grows (before at was.0 less was.1
          (subst (λ r. call_is_answered (config_of r) session ≡ false) (sym same) unanswered)))
      | inr over ↦
          let e : at ≡ place = omega (arith, below, over) in
          let was = get_within old place within in
          let same : was.0 ≡ one =
          same_Some was.0 one (sym (still_at old new place was.0 grows was.1)
          ∙ subst (λ n. slice_get new n ≡ Some one) e there) in
          subst (λ r. IsTriedFor hints session (config_of r) new) same (here was.0 was.1
          (subst (λ r. call_is_answered (config_of r) session ≡ false) (sym same) unanswered))
    ]

-- a list that has what acts of persistent sets lead to from each of its places is closed
pub closed_all : (hints : List Hint) (session : ℕ) (list : List Configuration)
    → AreClosedFor hints session (length list) list → IsClosedFor hints session (Has list)
closed_all hints session list closed = λ kept there unanswered.
    let at = mapped_place config_of list kept there in
    let tried = subst (λ c. IsTriedFor hints session c list) at.4
    (closed at.0 at.1 at.2 at.3 (subst (λ c. call_is_answered c session ≡ false) (sym at.4) unanswered)) in (
      tried.0,
      tried.1,
      λ new other act is inside leads allowed. tried.2 other (omega (arith, is.1)) is inside act new leads allowed,
    )

-- once what the event leads to from a configuration, or what is as good (`ReplacesFor`), was added unless it was
-- there, the list has it
pub seen_added : (hints : List Hint) (old list : List Configuration) (one next added : Configuration)
    (found : Option Configuration) (event : Event)
    → option_map config_of found ≡ observed (config_of one) event → found ≡ Some next
    → ReplacesFor hints (config_of next) (config_of added) → AddsUnlessThere old added list
    → (new : Config) → observed (config_of one) event ≡ Some new
    → (other : Config) × Has list other × ReplacesFor hints new other
seen_added hints old list one next added found event is some replaces adds new leads =
    let made : config_of next ≡ new =
    same_Some (config_of next) new (sym (ap (option_map config_of) some) ∙ is ∙ leads) in (
      config_of added,
      has_added old list added adds,
      subst (λ c. ReplacesFor hints c (config_of added)) made replaces,
    )

-- where nothing was found to which the event leads, it can't be seen: if it is, anything follows
pub unseen : (found : Option Configuration) (config new : Config) (event : Event) {P : Type 0}
    → option_map config_of found ≡ observed config event → found ≡ None → observed config event ≡ Some new → P
unseen found config new event is also leads = cc

-- in a loop over a list: each configuration is still to come, or what the event leads to from it is there
abbrev pub SeesBothFor : List Hint → Event → List Configuration → List Configuration → List Configuration → Type 0
SeesBothFor hints event first rest list = (one next : Config) → Has first one → observed one event ≡ Some next
    → Has rest one ⊎ ((other : Config) × Has list other × ReplacesFor hints next other)

-- one round of a loop in which each of a list sees an event: if the list has grown, and has what the event leads to
-- from the last configuration, that one may be taken off (`SeesBothFor`)
pub sees_more : (hints : List Hint) (event : Event) (first known rest list new : List Configuration)
    (one : Configuration) → known ≡ rest ++ one ∷ [] → ExtendsBy list new
    → ((next : Config) → observed (config_of one) event ≡ Some next
    → (other : Config) × Has new other × ReplacesFor hints next other)
    → SeesBothFor hints event first known list → SeesBothFor hints event first rest new
sees_more hints event first known rest list new one parts grows here has = λ c next was at. elim (has c next was at) [
  | inl there ↦ elim (has_last rest known one c parts there) [
    | inl still ↦ inl still
    | inr same ↦ inr (here next (ap (λ d. observed d event) same ∙ at))
  ]
  | inr done ↦ inr (done.0, still_has list new done.0 grows done.1, done.2)
]

-- at the end of a loop in which each of a list sees an event (`SeesBothFor`), no configuration is still to come, so
-- the new list has what the event leads to from each (`HasSeenFor`)
pub sees_end : (hints : List Hint) (event : Event) (first rest list : List Configuration) → rest ≡ []
    → SeesBothFor hints event first rest list → HasSeenFor hints event (Has first) (Has list)
sees_end hints event first rest list is has = grind (arith)
