-- Lists of configurations that grow.
--     has_more, has_still, still_there        what a list has is in one that grew out of it, at its place
--     has_added, has_kept                     a configuration is added unless it is there
--     grows_none, grows_more, grows_added     a list grows
--     reaches_effect, reaches_event           what an effect leads to is reached;  what an event does
--     all_added, all_at                       what holds of each of a list
use Rattle.std.proofs.lemmas.{Bool.Decides.nat_tests, Grind.common_steps}
use Rattle.std.proofs.lemmas.{Option.{slice_get_within, get_or_from_slice_get}, List.Elements.Contains-push}
use Rattle.std.proofs.Common.{◌≡◌, ℕ, Some, List, [], ◌∷◌, ◌++◌, sym, ◌∙◌, subst, inl, inr, append_assoc, arith}
use Rattle.std.{proofs.Common.append-nil, specs.{Prelude.slice_get, List.{All, Contains}}}
use Rattle.xa_server.specs.State.{State}
use Rattle.xa_judge.specs.declared.{event.Event.Event, moves.{Act.Act, Move.Move}}
use Rattle.xa_judge.specs.declared.moves.Move.TheVariants.{Event as Seeing, Effect}
use Rattle.xa_judge.{specs.declared.configuration.Configuration.Configuration, proofs.Waits.{runs_effect, runs_event}}
use Rattle.xa_judge.{specs.Explained.{Config, effect_of, observed, IsSession}, proofs.Places.{map_append, get_front}}
use Rattle.xa_judge.specs.Found.{config_of, configs, Has, Grows, Reaches, AddsUnlessThere}

-- what is in a list is in it with more behind it
pub has_more : (old more : List Configuration) (one : Config) → Has old one → Has (old ++ more) one
has_more old more one has = grind (arith, common_steps, nat_tests)

-- what was in a list is in one that grew out of it
pub has_still : (old new : List Configuration) (one : Config) → Grows old new → Has old one → Has new one
has_still old new one grows has = subst (λ l. Has l one) (sym grows.parts) (has_more old grows.more one has)

-- what stood at a place of a list stands there in one that grew out of it
pub still_there : (old new : List Configuration) (place : ℕ) (one : Configuration) → Grows old new
    → slice_get old place ≡ Some one
    → slice_get new place ≡ Some one
still_there old new place one grows found = grind (arith, get_front)

-- a configuration that is added unless it is there is there afterwards
pub has_added : (old new : List Configuration) (one : Configuration) → AddsUnlessThere old one new
    → Has new (config_of one)
has_added old new one (inl was) = subst (λ l. Has l (config_of one)) (sym was.1) was.0
has_added old new one (inr is) =
    subst (λ l. Has l (config_of one)) (sym is)
    (subst (λ l. Contains l (config_of one)) (sym (map_append config_of old (one ∷ [])))
    (Contains-push (configs old) (config_of one)))

-- what was in a list stays in it when a configuration is added unless it is there
pub has_kept : (old new : List Configuration) (one : Configuration) (other : Config) → AddsUnlessThere old one new
    → Has old other → Has new other
has_kept old new one other is has = grind (arith, common_steps, nat_tests)

-- a list has grown out of itself
pub grows_none : (list : List Configuration) → Grows list list
grows_none list = record { more = []; parts = sym (append-nil list); reach = λ base events trunk all. all }

-- a list that grew twice has grown
pub grows_more : (old mid new : List Configuration) → Grows old mid → Grows mid new → Grows old new
grows_more old mid new first second = grind (arith, append_assoc)

-- what an effect leads to from a configuration that is reached is reached
pub reaches_effect : (base : State) (events : List Event) (trunk : List Move) (old new : Configuration) (session : ℕ)
    (act : Act)
    → Reaches base events trunk old → IsSession session
    → effect_of (config_of old) session act ≡ Some (config_of new) → new.path ≡ old.path ++ Effect session act ∷ []
    → Reaches base events trunk new
unfolding Reaches
reaches_effect base events trunk old new session act reach is at path = grind (arith, append_assoc, runs_effect)

-- if events lead to a configuration, they lead with one more to the configuration that has seen it
pub reaches_event : (base : State) (events : List Event) (trunk : List Move) (old new : Configuration) (event : Event)
    → Reaches base events trunk old
    → observed (config_of old) event ≡ Some (config_of new) → new.path ≡ old.path ++ Seeing ∷ []
    → Reaches base (events ++ event ∷ []) trunk new
unfolding Reaches
reaches_event base events trunk old new event reach at path = grind (arith, append_assoc, runs_event)

-- what holds of each configuration of a list, and of one more, holds of each of the list once that one is added
-- unless it is there
pub all_added : (P : Configuration → Type 0) (old new : List Configuration) (one : Configuration)
    → AddsUnlessThere old one new → All P old → P one → All P new
all_added P old new one is all p = grind (arith, common_steps, nat_tests)

-- what holds of each holds of the one at a place
pub all_at : (P : Configuration → Type 0) (list : List Configuration) (place : ℕ) (one : Configuration) → All P list
    → slice_get list place ≡ Some one → P one
all_at P list place one all found = grind (arith, get_or_from_slice_get, slice_get_within)

-- a list grows if what an act leads to from one of its configurations is added unless it is there
pub grows_added : (old new : List Configuration) (place : ℕ) (one next : Configuration) (session : ℕ) (act : Act)
    → slice_get old place ≡ Some one
    → IsSession session
    → effect_of (config_of one) session act ≡ Some (config_of next) → next.path ≡ one.path ++ Effect session act ∷ []
    → AddsUnlessThere old next new
    → Grows old new
grows_added old new place one next session act found is at path added = record {
  more = parts.0;
  parts = parts.1;
  reach = λ base events trunk all.
      all_added (Reaches base events trunk) old new next added all
      (reaches_effect base events trunk one next session act
      (all_at (Reaches base events trunk) old place one all found) is at path);
}
  where
    by : AddsUnlessThere old next new → (more : List Configuration) × (new ≡ old ++ more)
    by (inl was) = ([], was.1 ∙ sym (append-nil old))
    by (inr is) = (next ∷ [], is)

    parts : (more : List Configuration) × (new ≡ old ++ more)
    parts = by added
