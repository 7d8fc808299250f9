-- The verdict at a return that shows none of the answers that its call can have.
--     all_more, all_end    loops over answers
use Rattle.std.proofs.Common.{◌≡◌, ℕ, ◌+◌, ◌<◌, true, false, Some, List, [], ◌∷◌, ◌++◌, length, take, arith, refl, ap}
use Rattle.std.proofs.{Common.{sym, ◌∙◌, subst, get_or, ◌≤◌}, lemmas.{Bool.false≢true, List.{take_more, take_all}}}
use Rattle.std.proofs.lemmas.{List.Elements.{All-contains, All-push}, Option.{same_Some, get_or_from_slice_get}}
use Rattle.std.specs.{List.{All, Contains}, Prelude.slice_get}
use Rattle.xa_server.specs.State.{State}
use Rattle.xa_judge.specs.declared.{answer.Answer.Answer, event.{Seen.Seen, Event.{Event, TheVariants.Return}}}
use Rattle.xa_judge.specs.declared.{client_state.ClientState.TheVariants.Answered, moves.Move.Move}
use Rattle.xa_judge.specs.Explained.{Config, opening_config, observed, returned, shows_answer, LeadsThrough, Explained}
use Rattle.xa_judge.{specs.Verdicts.{IsRefuted, IsAnswerAfter, AreAllAnswers}, proofs.Places.get_within}
use Rattle.xa_judge.proofs.KeyVerdicts.{explained_take}

-- ---- the last event

-- moves lead through the events before a last one, which can be seen then
record IsBeforeLast (old : Config) (events : List Event) (event : Event) : Type 0 where
  pub moves : List Move
  pub mid : Config
  pub runs : LeadsThrough old events moves mid
  pub next : Config
  pub sees : observed mid event ≡ Some next

-- moves that lead through events and a last one begin so (`IsBeforeLast`)
before_last : (old new : Config) (events : List Event) (event : Event) (moves : List Move)
    → LeadsThrough old (events ++ event ∷ []) moves new → IsBeforeLast old events event
before_last old new events event (Move.Effect session act ∷ moves) runs =
    let rest = before_last runs.0 new events event moves runs.3 in
    record {
      moves = Move.Effect session act ∷ rest.moves;
      mid = rest.mid;
      runs = (runs.0, runs.1, runs.2, rest.runs);
      next = rest.next;
      sees = rest.sees;
    }
before_last old new [] event (Move.Event ∷ moves) runs =
    record { moves = []; mid = old; runs = refl; next = runs.0; sees = runs.1 }
before_last old new (first ∷ events) event (Move.Event ∷ moves) runs =
    let rest = before_last runs.0 new events event moves runs.2 in
    record {
      moves = Move.Event ∷ rest.moves;
      mid = rest.mid;
      runs = (runs.0, runs.1, rest.runs);
      next = rest.next;
      sees = rest.sees;
    }
before_last old new [] event [] runs = absurd runs
before_last old new (first ∷ events) event [] runs = absurd runs

-- a return that can be seen shows the answer that its session has
shown : (mid next : Config) (session : ℕ) (seen : Seen) → observed mid (Return session seen) ≡ Some next
    → (answer : Answer) × (slice_get mid.clients session ≡ Some (Answered answer)) × (shows_answer seen answer ≡ true)
unfolding observed returned
shown mid next session seen sees = grind (arith)

-- if some order explains events that end with a return, some moves lead through those before it to a configuration in
-- which its session has an answer that the return shows
pub last_answered : (base : State) (events : List Event) (session : ℕ) (seen : Seen)
    → Explained base (events ++ Return session seen ∷ [])
    → (answer : Answer) × IsAnswerAfter base events session answer × (shows_answer seen answer ≡ true)
last_answered base events session seen explained =
    let before = before_last (opening_config base) explained.1 events (Return session seen) explained.0 explained.2 in
    let here = shown before.mid before.next session seen before.sees in (
      here.0,
      record {
        config = before.mid;
        reached = record { moves = before.moves; runs = before.runs };
        answered = here.1;
      },
      here.2,
    )

-- ---- the verdict

-- a return is refuted at its place, with these answers, if they are all that its call can have, there is at least one,
-- and the return shows none of them
pub illegal_return : (base : State) (events : List Event) (place session : ℕ) (seen : Seen) (answers : List Answer)
    → place < length events → slice_get events place ≡ Some (Return session seen) → 0 < length answers
    → All (IsAnswerAfter base (take place events) session) answers
    → ((answer : Answer) → IsAnswerAfter base (take place events) session answer → Contains answers answer)
    → All (λ answer. shows_answer seen answer ≡ false) answers
    → IsRefuted base events place × AreAllAnswers base events place answers
illegal_return base events place session seen answers within at some each all none = (
  record {
    within = within;
    before = before;
    refuted = refuted;
    whole = λ e. refuted (explained_take base events (place + 1) e);
  },
  record {
    each = λ k d below. record { session = session; seen = seen; returns = at; after = each k d below };
    all = λ answer could.
        let event : Return could.session could.seen ≡ Return session seen =
        same_Some _ (Return session seen) (sym could.returns ∙ at) in
        let same : could.session ≡ session = cc in
        all answer (subst (λ n. IsAnswerAfter base (take place events) n answer) same could.after);
  },
)
  where
    before : Explained base (take place events)
    before = let first = each 0 (get_within answers 0 some).0 some in
        (first.reached.moves, first.config, first.reached.runs)

    upto : take (place + 1) events ≡ take place events ++ Return session seen ∷ []
    upto = take_more events place (Return session seen) within
        ∙ ap (λ x. take place events ++ x ∷ [])
        (get_or_from_slice_get events place (Return session seen) (Return session seen) at)

    refuted : Explained base (take (place + 1) events) → ⊥
    refuted explained =
        let last = last_answered base (take place events) session seen (subst (Explained base) upto explained) in
        false≢true
        (sym (All-contains (λ a. shows_answer seen a ≡ false) answers last.0 none (all last.0 last.1)) ∙ last.2)

-- ---- loops over answers

module _ {X : Type 0} (P : X → Type 0) where
  -- what is so of those before a place and of the one there is so of those up to it
  pub all_more : (xs : List X) (i : ℕ) (x : X) → i < length xs → x ≡ get_or xs i x → All P (take i xs) → P x
      → All P (take (i + 1) xs)
  all_more xs i x within at all here =
      subst (λ l. All P l) (sym (take_more xs i x within ∙ ap (λ y. take i xs ++ y ∷ []) (sym at)))
      (All-push P (take i xs) x all here)

  -- past the end of the list, what is so of those before the place is so of all
  pub all_end : (xs : List X) (i : ℕ) → length xs ≤ i → All P (take i xs) → All P xs
  all_end xs i over all = subst (λ l. All P l) (take_all i xs over) all
