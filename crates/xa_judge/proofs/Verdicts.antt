-- What a verdict rests on.
--     complete_more, reach_more               a list has all that is explained, with one event more;  and no more
--     legal, refuted, wide                    LEGAL, ILLEGAL, UNDECIDED is right
--     opens_reached, opens_complete           before the first event
--     continues_shortened, some_shortened     common first moves are taken out
use Rattle.std.proofs.lemmas.{Bool.Decides.nat_tests, Grind.common_steps, Option.same_Some}
use Rattle.std.proofs.lemmas.List.{take_more, take-append-drop, take_all, Elements.{All-cons, All-nil, All-head}}
use Rattle.std.proofs.Common.{◌≡◌, ℕ, ◌+◌, ◌<◌, Some, List, slice_get, [], ◌∷◌, ◌++◌, length, take, drop, get_or, ap}
use Rattle.std.{proofs.Common.{sym, ◌∙◌, subst, arith, append_assoc, append-nil}, specs.List.{All, Contains}}
use Rattle.xa_server.specs.State.{State}
use Rattle.xa_judge.specs.declared.{answer.Answer.Answer, client_state.ClientState.TheVariants.Answered}
use Rattle.xa_judge.specs.declared.{event.Event.{Event, TheVariants.{Call, Return, Lost, Unknown}}, moves.Move.Move}
use Rattle.xa_judge.specs.{declared.configuration.Configuration.Configuration, Late.{IsCounted, IsKept}}
use Rattle.xa_judge.specs.{Explained.{Config, opening_config, LeadsThrough, Explained}, Found.{config_of, configs, Has}}
use Rattle.xa_judge.specs.Found.{Reaches, IsSpread, KeepsReach, ReachesPast, IsShortened, IsOpening, IsPathOf}
use Rattle.xa_judge.{specs.{Advances.{Continues, AreAnswers}, Told.IsComplete}, proofs.Places.{get_within, length_map}}
use Rattle.xa_judge.{specs.Verdicts.{IsRefuted, CouldBe, AreAllAnswers, IsWide}, proofs.Growth.all_at}
use Rattle.xa_judge.proofs.{Advances.reached_of, Late.counted_of_more}

-- if a list is complete for the events before a place (`IsComplete`), and whatever goes on from it past the event
-- there goes on from a new list, the new one is complete for the events up to and including that one
pub complete_more : (base : State) (events : List Event) (place : ℕ) (event : Event) (old new : List Configuration)
    → place < length events
    → event ≡ get_or events place event → IsComplete base (take place events) old
    → ((more : List Event) (end : Config) → Continues old (event ∷ more) end → Continues new more end)
    → IsComplete base (take (place + 1) events) new
complete_more base events place event old new within at complete leads = grind (arith, common_steps, nat_tests)

-- if the events before a place lead to each of the old list, the events up to and including the one there lead to
-- each of the new list, which is what that event makes of the old one (`ReachesPast`)
pub reach_more : (base : State) (events : List Event) (place : ℕ) (event : Event) (trunk : List Move)
    (old new : List Configuration) → place < length events
    → event ≡ get_or events place event
    → All (Reaches base (take place events) trunk) old → ReachesPast event old new
    → All (Reaches base (take (place + 1) events) trunk) new
reach_more base events place event trunk old new within at all leads = grind (arith, common_steps, nat_tests)

-- if the events lead to each configuration of a list that isn't empty, some order explains them
pub explained_by : (base : State) (seen : List Event) (trunk : List Move) (list : List Configuration) → 0 < length list
    → All (Reaches base seen trunk) list
    → Explained base seen
unfolding Reaches
explained_by base seen trunk list some all =
    let first = get_within list 0 some in
    (trunk ++ first.0.path, config_of first.0, all_at (Reaches base seen trunk) list 0 first.0 all first.1)

-- LEGAL is right: if all events lead to each of a list, the moves to its first one (`IsPathOf`) lead through them
pub legal : (base : State) (events : List Event) (trunk moves : List Move) (list : List Configuration)
    → All (Reaches base (take (length events) events) trunk) list → IsPathOf trunk list moves
    → (new : Config) × LeadsThrough (opening_config base) events moves new
unfolding Reaches
legal base events trunk moves list all path =
    let reach : Reaches base (take (length events) events) trunk path.0 =
    all_at (Reaches base (take (length events) events) trunk) list 0 path.0 all path.1 in (
      config_of path.0,
      subst (λ l. LeadsThrough (opening_config base) l moves (config_of path.0))
          (take_all (length events) events (omega arith))
          (subst (λ m. LeadsThrough (opening_config base) (take (length events) events) m (config_of path.0))
          (sym path.2) reach),
    )

-- ILLEGAL is right: some order explains the events before this one, and none explains it, if no order goes on past it
-- from a complete list, not empty, to which the events before it lead
pub refuted : (base : State) (events : List Event) (place : ℕ) (event : Event) (trunk : List Move)
    (list : List Configuration) → place < length events
    → event ≡ get_or events place event → 0 < length list
    → All (Reaches base (take place events) trunk) list → IsComplete base (take place events) list
    → ((more : List Event) (end : Config) → Continues list (event ∷ more) end → ⊥)
    → IsRefuted base events place
refuted base events place event trunk list within at some all complete none = record {
  within = within;
  before = explained_by base (take place events) trunk list some all;
  refuted = λ explained.
      let e = subst (Explained base) upto explained in none [] e.1 (complete (event ∷ []) e.0 e.1 e.2);
  whole = λ explained.
      let e = subst (Explained base) parts explained in none (drop (place + 1) events) e.1
      (complete (event ∷ drop (place + 1) events) e.0 e.1 e.2);
}
  where
    upto : take (place + 1) events ≡ take place events ++ event ∷ []
    upto = take_more events place event within ∙ ap (λ x. take place events ++ x ∷ []) (sym at)

    parts : events ≡ take place events ++ event ∷ drop (place + 1) events
    parts =
        sym (take-append-drop (place + 1) events) ∙ ap (λ l. l ++ drop (place + 1) events) upto
        ∙ append_assoc (take place events) (event ∷ []) (drop (place + 1) events)

-- if the events before a place lead to each configuration of a complete list, the answers that the session returning
-- there can have from the list are all that some order gives. At an event that isn't a return there are none
pub answers_given : (base : State) (events : List Event) (place : ℕ) (event : Event) (trunk : List Move)
    (list : List Configuration) (answers : List Answer)
    → slice_get events place ≡ Some event → All (Reaches base (take place events) trunk) list
    → IsComplete base (take place events) list
    → AreAnswers list event answers → AreAllAnswers base events place answers
answers_given base events place (Call session request) trunk list answers at all complete none = record {
  each = subst (λ l. All (CouldBe base events place) l) (sym none) (All-nil (CouldBe base events place));
  all = λ answer could. absurd (let other : Some (Call session request)
      ≡ Some (Return could.session could.seen) = sym at ∙ could.returns in cc);
}
answers_given base events place (Return session seen) trunk list answers at all complete are = record {
  each = λ k d below. record
      { session = session; seen = seen; returns = at; after = are.each base (take place events) trunk all k d below };
  all = λ answer could.
      let it = could.after in
      let event : Return could.session could.seen ≡ Return session seen =
      same_Some _ (Return session seen) (sym could.returns ∙ at) in
      let same : could.session ≡ session = cc in
      let runs : LeadsThrough (opening_config base) (take place events ++ []) it.reached.moves it.config =
      subst (λ l. LeadsThrough (opening_config base) l it.reached.moves it.config)
      (sym (append-nil (take place events))) it.reached.runs in
      are.all it.config answer (complete [] it.reached.moves it.config runs)
      (subst (λ n. slice_get it.config.clients n ≡ Some (Answered answer)) same it.answered);
}
answers_given base events place (Lost session) trunk list answers at all complete none = record {
  each = subst (λ l. All (CouldBe base events place) l) (sym none) (All-nil (CouldBe base events place));
  all = λ answer could. absurd (let other : Some (Lost session) ≡ Some (Return could.session could.seen) = sym at
      ∙ could.returns in cc);
}
answers_given base events place (Unknown session) trunk list answers at all complete none = record {
  each = subst (λ l. All (CouldBe base events place) l) (sym none) (All-nil (CouldBe base events place));
  all = λ answer could. absurd (let other : Some (Unknown session) ≡ Some (Return could.session could.seen) = sym at
      ∙ could.returns in cc);
}

-- UNDECIDED is right if acts that may have to take effect before the event lead from what is kept to more different
-- configurations than allowed
pub wide : (base : State) (events : List Event) (limit place : ℕ) (event : Event) (trunk : List Move)
    (list many : List Configuration)
    → place < length events → slice_get events place ≡ Some event
    → All (Reaches base (take place events) trunk) list
    → ((config : Config) → Has list config → IsKept base events place config)
    → IsSpread limit many → KeepsReach list many
    → ((config : Config) → Has many config → IsCounted (Has list) event config)
    → IsWide base events limit place
wide base events limit place event trunk list many within at all kept spread keeps counted = record {
  within = within;
  many = spread.many;
  over = spread.over;
  differ = spread.differ;
  reached = λ k d below.
      reached_of base (take place events) trunk many (get_or spread.many k d) (keeps base (take place events) trunk all)
      (spread.has k d below);
  event = event;
  at = at;
  counted = λ k d below.
      counted_of_more (Has list) (IsKept base events place) event (get_or spread.many k d) kept
      (counted (get_or spread.many k d) (spread.has k d below));
}

-- before all events each of the list with the opening configuration alone is reached, by no moves
pub opens_reached : (base : State) (list : List Configuration) → IsOpening base list → All (Reaches base [] []) list
unfolding Reaches
opens_reached base list is = grind (arith)

-- before all events the list with the opening configuration alone is complete
pub opens_complete : (base : State) (list : List Configuration) → IsOpening base list → IsComplete base [] list
opens_complete base list is more moves end runs = record {
  one = opening_config base;
  has = subst (λ l. Has l (opening_config base)) (sym is.1) (0, omega arith, is.2);
  moves = moves;
  runs = runs;
}

-- whatever goes on from a list goes on from the one with common first moves taken out (`IsShortened`)
pub continues_shortened : (trunk longer : List Move) (old new : List Configuration) (more : List Event) (end : Config)
    → IsShortened trunk longer old new
    → Continues old more end → Continues new more end
continues_shortened trunk longer old new more end is now =
    record {
      one = now.one;
      has = subst (λ l. Contains l now.one)
          (sym is.same) now.has;
      moves = now.moves;
      runs = now.runs;
    }

-- a list whose common first moves were taken out isn't empty if it wasn't before
pub some_shortened : (trunk longer : List Move) (old new : List Configuration) → IsShortened trunk longer old new
    → 0 < length old → 0 < length new
some_shortened trunk longer old new is also = grind (arith, length_map)

-- a list with one configuration is shortened by putting that one's whole path at the end of the trunk
pub shortened : (trunk longer : List Move) (old rest new : List Configuration) (only next : Configuration)
    → length rest ≡ 0 → old ≡ rest ++ only ∷ []
    → new ≡ rest ++ next ∷ [] → config_of next ≡ config_of only → next.path ≡ []
    → longer ≡ trunk ++ only.path → IsShortened trunk longer old new
unfolding Reaches
shortened trunk longer old [] new only next none was now same path parts = record {
  same = ap configs now ∙ ap (λ c. c ∷ []) same ∙ sym (ap configs was);
  reach = λ base events all.
      let reach : LeadsThrough (opening_config base) events (trunk ++ only.path) (config_of only) =
      All-head (Reaches base events trunk) only [] (subst (λ l. All (Reaches base events trunk) l) was all) in
      let end : trunk ++ only.path ≡ longer ++ next.path =
      sym parts ∙ sym (append-nil longer) ∙ ap (λ l. longer ++ l) (sym path) in
      let moved : LeadsThrough (opening_config base) events (longer ++ next.path) (config_of next) =
      subst (λ d. LeadsThrough (opening_config base) events (longer ++ next.path) d) (sym same)
      (subst (λ m. LeadsThrough (opening_config base) events m (config_of only)) end reach) in
      subst (λ l. All (Reaches base events longer) l) (sym now)
      (All-cons (Reaches base events longer) next [] moved (All-nil (Reaches base events longer)));
}
shortened trunk longer old (x ∷ rest) new only next none was now same path parts = absurd (omega (arith, none))
