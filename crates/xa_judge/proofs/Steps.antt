-- One move more, on the way through events.
--     effect_leads, event_leads     moves that lead on by an effect, an event lead on from the configuration after it
--     some_leads, leads_some        walking the moves finds a configuration if and only if they lead to one
use Rattle.std.proofs.Common.{◌≡◌, ℕ, ◌+◌, ◌↔◌, zero, suc, true, Option, Some, None, IfSome, List, [], ◌∷◌, drop, arith}
use Rattle.std.proofs.{Common.{slice_get, ap, sym, ◌∙◌, subst, add-one}, lemmas.Bool.false≢true}
use Rattle.std.{proofs.lemmas.Option.{none-some, same_Some}, specs.Option.is_some}
use Rattle.xa_judge.specs.declared.{event.Event.Event, moves.{Act.Act, Move.Move}}
use Rattle.xa_judge.specs.{declared.configuration.Configuration.Configuration, Found.config_of, Following.Leads}
use Rattle.xa_judge.specs.Explained.{Config, effect_of, observed, opening_config, LeadsThrough, IsSession}
use Rattle.xa_server.specs.State.{State}

-- what a list has from a place on is what stands there, and then the rest
pub drop_got : {A : Type 0} (xs : List A) (i : ℕ) (x : A) → slice_get xs i ≡ Some x → drop i xs ≡ x ∷ drop (i + 1) xs
drop_got {A} xs i x found = subst (λ n. drop i xs ≡ x ∷ drop n xs) (sym (add-one i)) (by xs i found)
  where
    by : (xs : List A) (i : ℕ) → slice_get xs i ≡ Some x → drop i xs ≡ x ∷ drop (suc i) xs
    by [] i found = absurd (none-some x found)
    by (y ∷ ys) zero found = ap (λ a. a ∷ ys) (same_Some y x found)
    by (y ∷ ys) (suc i) found = by ys i found

-- moves that begin with an effect lead on from a configuration if and only if the later ones lead on from the one
-- after the effect
pub effect_leads : (old new : Config) (session : ℕ) (act : Act) (events : List Event) (later : List Move) (end : Config)
    → IsSession session
    → effect_of old session act ≡ Some new
    → LeadsThrough old events (Move.Effect session act ∷ later) end ↔ LeadsThrough new events later end
effect_leads old new session act events later end is leads = (
  λ runs. subst (λ c. LeadsThrough c events later end) (same_Some runs.0 new (sym runs.2 ∙ leads)) runs.3,
  λ runs. (new, is, leads, runs),
)

-- moves that begin with an event lead on from a configuration if and only if the later ones lead on from the one that
-- has seen it
pub event_leads : (old new : Config) (event : Event) (events more : List Event) (later : List Move) (end : Config)
    → events ≡ event ∷ more
    → observed old event ≡ Some new
    → LeadsThrough old events (Move.Event ∷ later) end ↔ LeadsThrough new more later end
event_leads old new event events more later end is leads = (
  λ runs.
      let first : LeadsThrough old (event ∷ more) (Move.Event ∷ later) end =
      subst (λ l. LeadsThrough old l (Move.Event ∷ later) end) is runs in
      subst (λ c. LeadsThrough c more later end) (same_Some first.0 new (sym first.1 ∙ leads)) first.2,
  λ runs.
      let first : LeadsThrough old (event ∷ more) (Move.Event ∷ later) end = (new, leads, runs) in
      subst (λ l. LeadsThrough old l (Move.Event ∷ later) end) (sym is) first,
)

-- with no move left, an event that is left is never seen
pub none_leads : (config : Config) (events : List Event) (seen : ℕ) (event : Event) (end : Config)
    → slice_get events seen ≡ Some event
    → LeadsThrough config (drop seen events) [] end → ⊥
none_leads config events seen event end found runs = grind (arith, drop_got)

-- if a configuration is found, and the moves lead to the one that is found, they lead through the events (`Leads`)
pub some_leads : (base : State) (events : List Event) (moves : List Move) (found : Option Configuration)
    → is_some found ≡ true
    → IfSome found (λ one. LeadsThrough (opening_config base) events moves (config_of one)) → Leads base events moves
some_leads base events moves None is leads = absurd (false≢true is)
some_leads base events moves (Some one) is leads = (config_of one, leads)

-- if the moves lead through the events, and lead nowhere if none is found, a configuration is found
pub leads_some : (base : State) (events : List Event) (moves : List Move) (found : Option Configuration)
    → (found ≡ None → (end : Config) → LeadsThrough (opening_config base) events moves end → ⊥)
    → Leads base events moves → is_some found ≡ true
leads_some base events moves found missing leads = grind (arith)
