-- Loops over configurations.
--     KeepsReachBoth, ReachesPastBoth   events lead to what is left of a list, and to what was made of the rest
--     SettlesBoth, SeesBoth             each configuration is still to come, or what is made of it is there
--     has_pushed, has_last              a list with one more at its end
--     settles_step, settles_reach       in each, what a session called for takes effect;  so all are reached
--     sees_step, sees_reach             each sees an event;  so all are reached, with one event more
--     answers_step, answers_more        the answers that a session has in them;  no other ones, and all of them
--     effect_added, effects_added       what one act leads to is added;  what both acts of a session lead to
--     others_more, closed_more          what acts of sessions up to one lead to is there;  from each place up to one
--     contained_more, contained_end     elements that are taken up one after another
use Rattle.std.proofs.lemmas.{Bool.{cases_lt, Decides.nat_tests}, Grind.common_steps}
use Rattle.std.proofs.lemmas.{Option.{same_Some, none-some, slice_get_read}, List.take_all}
use Rattle.std.proofs.{lemmas.List.Elements.{All-push, All-pop, Contains-append_left, Contains-push}, Common.{◌≡◌, ◌≢◌}}
use Rattle.std.proofs.Common.{◌⊎◌, ℕ, ◌+◌, ◌<◌, ◌≤◌, take, Option, Some, None, List, [], ◌∷◌, ◌++◌, length, get_or}
use Rattle.std.{proofs.Common.{refl, ap, sym, ◌∙◌, subst, inl, inr, arith}, specs.Prelude.{slice_get, IfSome}}
use Rattle.std.specs.{Option.option_map, List.{All, Contains}}
use Rattle.xa_server.specs.State.{State}
use Rattle.xa_judge.specs.declared.{answer.Answer.Answer, client_state.ClientState.ClientState, event.Event.Event}
use Rattle.xa_judge.specs.declared.{moves.{Act.Act, Move.Move}, configuration.Configuration.Configuration}
use Rattle.xa_judge.specs.{Explained.{Config, effect_of, observed, IsSession}, Late.after_settling, Found.config_of}
use Rattle.xa_judge.specs.Found.{Has, Reaches, Grows, AddsUnlessThere, IsSettledFrom, IsSeenAdded, IsAnsweredIn}
use Rattle.xa_judge.specs.Found.{IsAnswerAdded, IsExpandedBelow, IsClosedBelow}
use Rattle.xa_judge.proofs.{Places.{get_within, place_mapped}, Growth.{has_still, has_added, has_kept, still_there}}
use Rattle.xa_judge.proofs.Growth.{all_added, reaches_effect, reaches_event, grows_added}

-- in a loop over a list: if the events lead to all of it, they lead to what is left and to what was made of the rest
abbrev pub KeepsReachBoth : List Configuration → List Configuration → List Configuration → Type 0
KeepsReachBoth first rest list =
    (base : State) (events : List Event) (trunk : List Move) → All (Reaches base events trunk) first
    → All (Reaches base events trunk) rest × All (Reaches base events trunk) list

-- in a loop over a list: if the events lead to all of it, they lead to what is left, and with one more to what was
-- made
abbrev pub ReachesPastBoth : Event → List Configuration → List Configuration → List Configuration → Type 0
ReachesPastBoth event first rest list =
    (base : State) (events : List Event) (trunk : List Move) → All (Reaches base events trunk) first
    → All (Reaches base events trunk) rest × All (Reaches base (events ++ event ∷ []) trunk) list

-- in a loop over a list: each of its configurations is still to come, or the list has what it settles to
-- (`after_settling`)
abbrev pub SettlesBoth : ℕ → List Configuration → List Configuration → List Configuration → Type 0
SettlesBoth session first rest list = (one : Config) → Has first one
    → Has rest one ⊎ Has list (after_settling one session)

-- in a loop over a list: each of its configurations is still to come, or the list has what the event leads to from it
abbrev pub SeesBoth : Event → List Configuration → List Configuration → List Configuration → Type 0
SeesBoth event first rest list = (one new : Config) → Has first one → observed one event ≡ Some new
    → Has rest one ⊎ Has list new

-- the configuration that was put behind a list is in it
pub has_pushed : (list new : List Configuration) (one : Configuration) → new ≡ list ++ one ∷ []
    → Has new (config_of one)
has_pushed list new one is = has_added list new one (inr is)

-- what is in a list with one more at its end is in the list before it, or is that one
pub has_last : (rest known : List Configuration) (one : Configuration) (c : Config) → known ≡ rest ++ one ∷ []
    → Has known c
    → Has rest c ⊎ (config_of one ≡ c)
has_last rest known one c parts has = grind (arith, common_steps, nat_tests)

-- one round of the loop that settles: the last of `known` is taken off, and what it settles to is put behind the
-- list. Each of the first list is still to come, or has what it settles to in the list (`SettlesBoth`), also after
-- the round
pub settles_step : (session : ℕ) (first known rest list new : List Configuration) (one next : Configuration)
    → known ≡ rest ++ one ∷ []
    → new ≡ list ++ next ∷ [] → config_of next ≡ after_settling (config_of one) session
    → SettlesBoth session first known list → SettlesBoth session first rest new
settles_step session first known rest list new one next parts pushed is has = λ c was. elim (has c was) [
  | inl there ↦ elim (has_last rest known one c parts there) [
    | inl still ↦ inl still
    | inr here ↦ inr (subst (λ d. Has new d) (is ∙ ap (λ d. after_settling d session) here)
        (has_pushed list new next pushed))
  ]
  | inr done ↦ inr (has_kept list new next (after_settling c session) (inr pushed) done)
]

-- if the events lead to a configuration, they lead to the one that it settles to (`IsSettledFrom`)
reaches_settled : (base : State) (events : List Event) (trunk : List Move) (session : ℕ) (one next : Configuration)
    → IsSettledFrom session one next
    → Reaches base events trunk one → Reaches base events trunk next
reaches_settled base events trunk session one next is reach = grind (arith, reaches_effect)

-- one round of the loop that settles: if the events lead to what is left and to what was made (`KeepsReachBoth`),
-- they still do once the last one was taken off and its settled one put behind the list
pub settles_reach : (session : ℕ) (first known rest list new : List Configuration) (one next : Configuration)
    → known ≡ rest ++ one ∷ []
    → new ≡ list ++ next ∷ [] → IsSettledFrom session one next
    → KeepsReachBoth first known list → KeepsReachBoth first rest new
settles_reach session first known rest list new one next parts pushed from reach = λ base events trunk all.
    let both = reach base events trunk all in
    let cut = All-pop (Reaches base events trunk) known rest (Some one) parts both.0 in (
      cut.0,
      all_added (Reaches base events trunk) list new next (inr pushed) both.1
          (reaches_settled base events trunk session one next from cut.1),
    )

-- one round of the loop in which configurations see an event: the last of `known` is taken off, and what the event
-- leads to from it is added unless it is there. Each of the first list is still to come, or the list has what the
-- event leads to from it (`SeesBoth`), also after the round
pub sees_step : (event : Event) (first known rest list new : List Configuration) (one : Configuration)
    → known ≡ rest ++ one ∷ []
    → IsSeenAdded event one list new → SeesBoth event first known list → SeesBoth event first rest new
sees_step event first known rest list new one parts (inl none) has = λ c next was at. elim (has c next was at) [
  | inl there ↦ elim (has_last rest known one c parts there) [
    | inl still ↦ inl still
    | inr here ↦ absurd (none-some next (sym none.0 ∙ ap (λ d. observed d event) here ∙ at))
  ]
  | inr done ↦ inr (subst (λ l. Has l next) (sym none.1) done)
]
sees_step event first known rest list new one parts (inr some) has = λ c next was at. elim (has c next was at) [
  | inl there ↦ elim (has_last rest known one c parts there) [
    | inl still ↦ inl still
    | inr here ↦ inr (subst (λ d. Has new d) (same_Some (config_of some.0) next
        (sym some.1 ∙ ap (λ d. observed d event) here ∙ at))
        (has_added list new some.0 some.3))
  ]
  | inr done ↦ inr (has_kept list new some.0 next some.3 done)
]

-- one round of the loop in which configurations see an event: if the events lead to what is left, and with this one
-- more to what was made (`ReachesPastBoth`), they still do after the round
pub sees_reach : (event : Event) (first known rest list new : List Configuration) (one : Configuration)
    → known ≡ rest ++ one ∷ []
    → IsSeenAdded event one list new → ReachesPastBoth event first known list → ReachesPastBoth event first rest new
sees_reach event first known rest list new one parts (inl none) reach = λ base events trunk all.
    let both = reach base events trunk all in
    let cut = All-pop (Reaches base events trunk) known rest (Some one) parts both.0 in
    (cut.0, subst (λ l. All (Reaches base (events ++ event ∷ []) trunk) l) (sym none.1) both.1)
sees_reach event first known rest list new one parts (inr some) reach = λ base events trunk all.
    let both = reach base events trunk all in
    let cut = All-pop (Reaches base events trunk) known rest (Some one) parts both.0 in (
      cut.0,
      all_added (Reaches base (events ++ event ∷ []) trunk) list new some.0 some.3 both.1
          (reaches_event base events trunk one some.0 event cut.1 some.1 some.2),
    )

-- each answer that the session has in a configuration before a place is in the list
abbrev pub HasAnswersBefore : ℕ → List Configuration → ℕ → List Answer → Type 0
HasAnswersBefore count known session answers =
    (place : ℕ) (one : Configuration) (answer : Answer) → place < count → slice_get known place ≡ Some one
    → slice_get one.clients.items session ≡ Some (ClientState.Answered answer) → Contains answers answer

-- one round of a loop that takes up a session's answers: each of the list is one that the session has in some
-- configuration, also once the one at this place was added
pub answers_step : (known : List Configuration) (place session : ℕ) (one : Configuration) (old new : List Answer)
    → place < length known
    → one ≡ get_or known place one → IsAnswerAdded (slice_get one.clients.items session) old new
    → All (IsAnsweredIn known session) old → All (IsAnsweredIn known session) new
answers_step known place session one old new within at added all = by (slice_get one.clients.items session) refl added
  where
    by : (o : Option ClientState) → slice_get one.clients.items session ≡ o → IsAnswerAdded o old new
        → All (IsAnsweredIn known session) new
    by None is same = subst (λ l. All (IsAnsweredIn known session) l) (sym same) all
    by (Some ClientState.Idle) is same = subst (λ l. All (IsAnsweredIn known session) l) (sym same) all
    by (Some (ClientState.Called request)) is same = subst (λ l. All (IsAnsweredIn known session) l) (sym same) all
    by (Some (ClientState.Answered answer)) is more =
        subst (λ l. All (IsAnsweredIn known session) l) (sym more)
        (All-push (IsAnsweredIn known session) old answer all
        (record {
          one = config_of one;
          has = place_mapped config_of known place one (slice_get_read known (length known) place one refl within at);
          stands = is;
        }))
    by (Some (ClientState.Gone request)) is same = subst (λ l. All (IsAnsweredIn known session) l) (sym same) all
    by (Some ClientState.Left) is same = subst (λ l. All (IsAnsweredIn known session) l) (sym same) all

-- one round of a loop that takes up a session's answers: a list with each one that the session has before a place has
-- each one up to it, once the answer there was added
pub answers_more : (known : List Configuration) (place session : ℕ) (one : Configuration) (old new : List Answer)
    → place < length known
    → one ≡ get_or known place one → IsAnswerAdded (slice_get one.clients.items session) old new
    → HasAnswersBefore place known session old → HasAnswersBefore (place + 1) known session new
answers_more known place session one old new within at added before k other answer below found stands =
    elim (cases_lt k place) [
      | inl less ↦ kept (slice_get one.clients.items session) added (before k other answer less found stands)
      | inr more ↦
          let here : slice_get known place ≡ Some one = slice_get_read known (length known) place one refl within at in
          let same : k ≡ place = omega (arith, below, more) in
          let is : one ≡ other = same_Some one other (sym here ∙ ap (slice_get known) (sym same) ∙ found) in
          let there : slice_get one.clients.items session ≡ Some (ClientState.Answered answer) =
          ap (λ (c : Configuration). slice_get c.clients.items session) is ∙ stands in
          let pushed : new ≡ old ++ answer ∷ [] = subst (λ o. IsAnswerAdded o old new) there added in
          subst (λ l. Contains l answer) (sym pushed) (Contains-push old answer)
    ]
  where
    kept : (o : Option ClientState) → IsAnswerAdded o old new → Contains old answer → Contains new answer
    kept None same has = subst (λ l. Contains l answer) (sym same) has
    kept (Some ClientState.Idle) same has = subst (λ l. Contains l answer) (sym same) has
    kept (Some (ClientState.Called request)) same has = subst (λ l. Contains l answer) (sym same) has
    kept (Some (ClientState.Answered last)) more has =
        subst (λ l. Contains l answer) (sym more) (Contains-append_left old (last ∷ []) answer has)
    kept (Some (ClientState.Gone request)) same has = subst (λ l. Contains l answer) (sym same) has
    kept (Some ClientState.Left) same has = subst (λ l. Contains l answer) (sym same) has

-- a list that has what acts lead to from each place before one (`IsClosedBelow`) has it from each place up to that
-- one, once it has what they lead to from there
pub closed_more : (place : ℕ) (returning : Option ℕ) (old new : List Configuration) → place < length old
    → IsClosedBelow place returning old → Grows old new
    → ((one : Configuration) → slice_get old place ≡ Some one → IsExpandedBelow 17 one returning new)
    → IsClosedBelow (place + 1) returning new
closed_more place returning old new within before grows here k one below found =
    let was = get_within old k (omega (arith, below, within)) in
    let same : was.0 ≡ one = same_Some was.0 one (sym (still_there old new k was.0 grows was.1) ∙ found) in
    subst (λ o. IsExpandedBelow 17 o returning new) same (elim (before_or_at k place below) [
      | inl less ↦ λ session act c low is apart unanswered at. has_still old new c grows
          (before k was.0 less was.1 session act c low is apart unanswered at)
      | inr at ↦ here was.0 (ap (slice_get old) (sym at) ∙ was.1)
    ])
  where
    before_or_at : (k place : ℕ) → k < place + 1 → (k < place) ⊎ (k ≡ place)
    before_or_at k place below = elim (cases_lt k place) [ inl less ↦ inl less | inr more ↦ inr (omega arith) ]

-- once what an act leads to from the configuration at a place was added unless it was there, the list has grown, and
-- has what the act leads to from there
pub effect_added : (old new : List Configuration) (place : ℕ) (one next : Configuration) (found : Option Configuration)
    (session : ℕ) (act : Act)
    → slice_get old place ≡ Some one → IsSession session
    → option_map config_of found ≡ effect_of (config_of one) session act
    → IfSome found (λ n. n.path ≡ one.path ++ Move.Effect session act ∷ [])
    → found ≡ Some next → AddsUnlessThere old next new
    → Grows old new × ((other : Configuration) (config : Config) → slice_get old place ≡ Some other
    → effect_of (config_of other) session act ≡ Some config
    → Has new config)
effect_added old new place one next found session act at is effect path some added = (
  grows_added old new place one next session act at is led
      (subst (λ o. IfSome o (λ n. n.path ≡ one.path ++ Move.Effect session act ∷ [])) some path) added,
  λ other config there leads.
      let same : one ≡ other = same_Some one other (sym at ∙ there) in
      subst (λ d. Has new d) (same_Some (config_of next) config
      (sym led ∙ ap (λ o. effect_of (config_of o) session act) same ∙ leads))
      (has_added old new next added),
)
  where
    led : effect_of (config_of one) session act ≡ Some (config_of next)
    led = sym effect ∙ ap (option_map config_of) some

-- if the list has what a session's statement leads to from the configuration at a place, and then what its DISCONNECT
-- does, it has what each of its acts leads to
pub effects_added : (old mid new : List Configuration) (place session : ℕ) → Grows old mid → Grows mid new
    → ((one : Configuration) (config : Config) → slice_get old place ≡ Some one
    → effect_of (config_of one) session Act.Statement ≡ Some config → Has mid config)
    → ((one : Configuration) (config : Config) → slice_get mid place ≡ Some one
    → effect_of (config_of one) session Act.Disconnect ≡ Some config → Has new config)
    → (one : Configuration) (act : Act) (config : Config) → slice_get old place ≡ Some one
    → effect_of (config_of one) session act ≡ Some config
    → Has new config
effects_added old mid new place session first second has then one Act.Statement config at leads =
    has_still mid new config second (has one config at leads)
effects_added old mid new place session first second has then one Act.Disconnect config at leads =
    then one config (still_there old mid place one first at) leads

-- one round of the loop over sessions: a list that has what acts of sessions below a number lead to from a
-- configuration (`IsExpandedBelow`) has it of sessions up to that number, once it has what acts of this one lead to
pub others_more : (old now new : List Configuration) (place number : ℕ) (returning : Option ℕ) (one : Configuration)
    → Grows old now → Grows now new
    → slice_get old place ≡ Some one → IsExpandedBelow number one returning now
    → ((other : Configuration) (act : Act) (config : Config) → slice_get now place ≡ Some other → IsSession number
    → returning ≢ Some number
    → effect_of (config_of other) number act ≡ Some config → Has new config)
    → IsExpandedBelow (number + 1) one returning new
others_more old now new place number returning one first second at before here session act config below is apart
    unanswered leads =
    elim (cases_lt session number) [
      | inl less ↦ has_still now new config second (before session act config less is apart unanswered leads)
      | inr more ↦
          let same : session ≡ number = omega arith in
          here one act config (still_there old now place one first at) (subst IsSession same is)
          (λ e. apart (e ∙ ap Some (sym same)))
          (ap (λ n. effect_of (config_of one) n act) (sym same) ∙ leads)
    ]

-- ---- elements that are taken up one after another

module _ {X : Type 0} where
  -- one round of a loop that takes up elements: those before the place and the one there are in the new list
  pub contained_more : (xs : List X) (i : ℕ) (x : X) (old new : List X) → i < length xs → x ≡ get_or xs i x
      → ((other : X) → Contains old other → Contains new other) → Contains new x
      → ((other : X) → Contains (take i xs) other → Contains old other)
      → (other : X) → Contains (take (i + 1) xs) other → Contains new other
  contained_more xs i x old new within at keeps here before other has = grind (arith, common_steps, nat_tests)

  -- once all were taken up, each of them is in the new list
  pub contained_end : (xs : List X) (i : ℕ) (list : List X) → length xs ≤ i
      → ((other : X) → Contains (take i xs) other → Contains list other)
      → (other : X) → Contains xs other → Contains list other
  contained_end xs i list over before other has = grind (arith, take_all)
