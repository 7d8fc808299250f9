-- An order that explains what is before a line, and the store after it.
use Rattle.std.proofs.Common.{◌≡◌, ℕ, zero, suc, ◌≤◌, Option, Some, Result, Ok, Err, IfOk, MatchOption, List, [], ◌∷◌}
use Rattle.std.proofs.Common.{◌++◌, Vec, Global, length, map, take, ap, sym, ◌∙◌, subst, arith}
use Rattle.std.{proofs.lemmas.List.{take-map, length-take-le}, specs.List.AllZip}
use Rattle.xa_server.specs.State.{State}
use Rattle.xa_lines.specs.Listing.{listing}
use Rattle.xa_judge.specs.declared.{answer.Answer.Answer, event.Event.Event, moves.Move.Move, verdict.Verdict.Verdict}
use Rattle.xa_judge.specs.{Explained.{Config, opening_config, LeadsThrough, Explained}, Verdicts.{IsVerdict, IsWide}}
use Rattle.xa_record.{specs.declared.line_event.NumberedEvent.NumberedEvent as NumberedRead, proofs.Pairs.calls-length}
use Rattle.xa_record.specs.{Events.{IsCallOf, AreCalls}, Kept.numbered_kept, Reading.NumberedEvent, Reports.keys_named}

-- the moves lead through the events, to some configuration
abbrev pub Lead : State → List Event → List Move → Type 0
Lead base events moves = (config : Config) × LeadsThrough (opening_config base) events moves config

-- if a result is the listing of a store to which moves lead, by the keys that the events name, the moves lead to a
-- configuration of which it is the listing
pub listed : {E : Type 0} (result : Result (Vec ℕ Global) E) (base : State) (events : List Event) (moves : List Move)
    (store : State) (keys : List (List ℕ)) (front : List ℕ)
    → front ≡ [] → (config : Config) × LeadsThrough (opening_config base) events moves config × (config.state ≡ store)
    → keys ≡ keys_named events
    → IfOk result (λ text. text.items ≡ front ++ listing store keys)
    → IfOk result (λ text. (config : Config) × LeadsThrough (opening_config base) events moves config
    × (text.items ≡ listing config.state (keys_named events)))
listed (Ok text) base events moves store keys front none lead named is = (
  lead.0,
  lead.1,
  is ∙ ap (λ l. l ++ listing store keys) none ∙ ap (λ s. listing s keys) (sym lead.2)
      ∙ ap (listing lead.0.state) named,
)
listed (Err fault) base events moves store keys front none lead named is = tt

-- the moves of a right LEGAL verdict lead through what is seen
pub legal_leads : (base : State) (events : List Event) (limit : ℕ) (verdict : Verdict) (moves : Vec Move Global)
    → IsVerdict base events limit verdict → verdict ≡ Verdict.Legal moves → Lead base events moves.items
legal_leads base events limit verdict moves right is = subst (IsVerdict base events limit) is right

-- a right verdict on events that an order explains isn't ILLEGAL
pub illegal_not : (base : State) (events : List Event) (limit : ℕ) (verdict : Verdict) (place : ℕ)
    (answers : Vec Answer Global)
    → IsVerdict base events limit verdict → verdict ≡ Verdict.Illegal place answers → Explained base events → ⊥
illegal_not base events limit verdict place answers right is explained = grind (arith)

-- what holds place by place of two lists holds of the first `count` of each
AllZip-take : {A B : Type 0} (R : A → B → Type 0) (count : ℕ) (xs : List A) (ys : List B) → AllZip R xs ys
    → AllZip R (take count xs) (take count ys)
AllZip-take R zero xs ys all = tt
AllZip-take R (suc count) [] [] all = tt
AllZip-take R (suc count) [] (y ∷ ys) all = absurd all
AllZip-take R (suc count) (x ∷ xs) [] all = absurd all
AllZip-take R (suc count) (x ∷ xs) (y ∷ ys) all = (all.0, AllZip-take R count xs ys all.1)

-- a place among the events, or at their end, is the length of the program's list up to there
pub place_within : (numbered : List NumberedRead) (events : List Event) (place : ℕ)
    → AreCalls (map numbered_kept numbered) events → place ≤ length events
    → place ≡ length (take place numbered)
place_within numbered events place are within = grind (arith, calls-length, length-take-le)

-- if events are the calls that lines say (`AreCalls`), the events before a place are those of the lines before it
pub events_before : (numbered : List NumberedRead) (events : List Event) (place : ℕ)
    → AreCalls (map numbered_kept numbered) events
    → AreCalls (map numbered_kept (take place numbered)) (take place events)
events_before numbered events place are =
    subst (λ (l : List NumberedEvent). AreCalls l (take place events)) (take-map numbered_kept place numbered)
    (AllZip-take (λ one event. IsCallOf one.told event) place (map numbered_kept numbered) events are)

-- the moves that were found lead through what is seen
pub found_lead : (base : State) (found : Option (Vec Move Global)) (events : List Event) (limit : ℕ)
    (moves : Vec Move Global) (slice : List Move)
    → MatchOption found ((place : ℕ) × IsWide base events limit place) (λ some. Lead base events some.items)
    → found ≡ Some moves → slice ≡ moves.items
    → Lead base events slice
found_lead base found events limit moves slice lead is same =
    subst (Lead base events) (sym same)
    (subst (λ (o : Option (Vec Move Global)). MatchOption o ((place : ℕ) × IsWide base events limit place)
    (λ some. Lead base events some.items)) is lead)
