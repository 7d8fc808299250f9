-- Verdicts on a record, by those on its parts.
--     within_of                           what stands somewhere stands within the list
--     cut_take, cut_at                    the first events are cut likewise;  and each event fits where it stands
--     picked_take, picked_at              the events of a part among the first ones;  and the event at a place
--     whole_explained, part_explained     what is explained in both parts is explained;  and the other way round
--     illegal_part, legal_before          the verdict on a record by one part's;  what is explained in a legal part
use Rattle.std.proofs.Common.{◌≡◌, ℕ, ◌+◌, ◌<◌, ◌≤◌, zero, suc, Bool, true, false, Some, List, [], ◌∷◌, Vec, Global}
use Rattle.std.proofs.Common.{length, take, refl, ap, sym, ◌∙◌, subst, arith, replicate}
use Rattle.std.{proofs.lemmas.{Option.{none-some, same_Some}, Bool.false≢true}, specs.Prelude.{slice_get, not}}
use Rattle.xa_server.specs.State.{State}
use Rattle.xa_judge.specs.declared.{answer.Answer.Answer, event.{Seen.Seen, Event.{Event, TheVariants.Return}}}
use Rattle.xa_judge.specs.declared.{client_state.ClientState.TheVariants.Idle, moves.Move.Move, verdict.Verdict.Verdict}
use Rattle.xa_judge.specs.{declared.turn.Turn.Turn, Explained.{Config, opening_config, LeadsThrough, Explained}}
use Rattle.xa_judge.specs.Keys.{FitsTurn, first_turns, IsCut, turns_after, turns_past, picked, count_in, session_of}
use Rattle.xa_judge.specs.{Keys.HasNoBranch, Verdicts.{IsRefuted, CouldBe, AreAllAnswers, IsVerdict}}
use Rattle.xa_judge.proofs.{Places.get_within, KeyRuns.{in_parts, whole_of}, KeyClients.{AreClients, AreParts}}

-- ---- before all events

-- if all turns are Nobody, and all clients idle, the clients belong together (`AreClients`)
clients_first : (named : List ℕ → Bool) (count at : ℕ)
    → AreClients named (slice_get (replicate count Turn.Nobody) at) (slice_get (replicate count Idle) at)
    (slice_get (replicate count Idle) at) (slice_get (replicate count Idle) at)
clients_first named zero at = (refl, refl, refl)
clients_first named (suc count) zero = (refl, refl, refl)
clients_first named (suc count) (suc at) = clients_first named count at

-- if all turns are Nobody, none is Ending
none_ends : (count at : ℕ) → slice_get (replicate count Turn.Nobody) at ≡ Some Turn.Ending → ⊥
none_ends zero at e = none-some Turn.Ending e
none_ends (suc count) zero e = apart e
  where
    apart : Some Turn.Nobody ≡ Some Turn.Ending → ⊥
    apart e = cc
none_ends (suc count) (suc at) e = none_ends count at e

-- before all events, from a state without branches, the opening configuration is the whole and both parts
pub parts_first : (named : List ℕ → Bool) (base : State) → HasNoBranch base
    → AreParts named first_turns (opening_config base) (opening_config base) (opening_config base)
unfolding opening_config first_turns
parts_first named base is = grind (arith)

-- ---- places

module _ {A : Type 0} where
  -- what stands somewhere stands within the list
  pub within_of : (xs : List A) (i : ℕ) (x : A) → slice_get xs i ≡ Some x → i < length xs
  within_of [] i x at = absurd (none-some x at)
  within_of (y ∷ xs) zero x at = omega arith
  within_of (y ∷ xs) (suc i) x at = omega (arith, within_of xs i x at)

-- if events are cut, so are the first ones of them, in the same way
pub cut_take : (named : List ℕ → Bool) (turns : List Turn) (count : ℕ) (sides : List Bool)
    (events : List Event) → IsCut named turns sides events
    → IsCut named turns (take count sides) (take count events)
cut_take named turns zero sides events cut = tt
cut_take named turns (suc count) [] [] cut = tt
cut_take named turns (suc count) [] (event ∷ events) cut = absurd cut
cut_take named turns (suc count) (side ∷ sides) [] cut = absurd cut
cut_take named turns (suc count) (side ∷ sides) (event ∷ events) cut =
    (cut.0, cut.1, cut.2, cut_take named (turns_past turns side event) count sides events cut.3)

-- each event of a record that is cut may stand where it does: it fits the turn that its session has by then
pub cut_at : (named : List ℕ → Bool) (turns : List Turn) (place : ℕ) (sides : List Bool)
    (events : List Event) (side : Bool) (event : Event) → IsCut named turns sides events
    → slice_get sides place ≡ Some side → slice_get events place ≡ Some event
    → (turn : Turn) × (slice_get (turns_after turns (take place sides) (take place events)) (session_of event)
    ≡ Some turn) × FitsTurn named turn event side
cut_at named turns place [] [] side event cut at there = absurd (none-some side at)
cut_at named turns place [] (first ∷ events) side event cut at there = absurd cut
cut_at named turns place (one ∷ sides) [] side event cut at there = absurd cut
cut_at named turns zero (one ∷ sides) (first ∷ events) side event cut at there =
    let P : Event → Type 0 = λ e. (turn : Turn) × (slice_get turns (session_of e) ≡ Some turn)
    × FitsTurn named turn e side in
    subst P (same_Some first event there) (
      cut.0,
      cut.1,
      subst (λ s. FitsTurn named cut.0 first s) (same_Some one side at) cut.2,
    )
cut_at named turns (suc place) (one ∷ sides) (first ∷ events) side event cut at there =
    cut_at named (turns_past turns one first) place sides events side event cut.3 at there

-- the events of a part among the first ones are the first ones of the part
pub picked_take : (wanted : Bool) (count : ℕ) (sides : List Bool) (events : List Event)
    → picked wanted (take count sides) (take count events)
    ≡ take (count_in wanted (take count sides)) (picked wanted sides events)
picked_take true zero sides events = refl
picked_take false zero sides events = refl
picked_take true (suc count) [] [] = refl
picked_take false (suc count) [] [] = refl
picked_take true (suc count) [] (event ∷ events) = refl
picked_take false (suc count) [] (event ∷ events) = refl
picked_take true (suc count) (true ∷ sides) [] = refl
picked_take true (suc count) (false ∷ sides) [] = by (count_in true (take count sides))
  where
    by : (k : ℕ) → ◌≡◌ {A = List Event} [] (take k [])
    by zero = refl
    by (suc k) = refl
picked_take false (suc count) (true ∷ sides) [] = by (count_in false (take count sides))
  where
    by : (k : ℕ) → ◌≡◌ {A = List Event} [] (take k [])
    by zero = refl
    by (suc k) = refl
picked_take false (suc count) (false ∷ sides) [] = refl
picked_take true (suc count) (true ∷ sides) (event ∷ events) =
    ap (λ l. event ∷ l) (picked_take true count sides events)
picked_take true (suc count) (false ∷ sides) (event ∷ events) = picked_take true count sides events
picked_take false (suc count) (true ∷ sides) (event ∷ events) = picked_take false count sides events
picked_take false (suc count) (false ∷ sides) (event ∷ events) =
    ap (λ l. event ∷ l) (picked_take false count sides events)

-- up to and with a place a part has one event more than before it, if the event there is of this part
pub count_more : (wanted : Bool) (place : ℕ) (sides : List Bool) → slice_get sides place ≡ Some wanted
    → count_in wanted (take (suc place) sides) ≡ suc (count_in wanted (take place sides))
count_more wanted place [] at = absurd (none-some wanted at)
count_more true zero (true ∷ sides) at = refl
count_more true zero (false ∷ sides) at = absurd (false≢true (same_Some false true at))
count_more false zero (true ∷ sides) at = absurd (false≢true (sym (same_Some true false at)))
count_more false zero (false ∷ sides) at = refl
count_more true (suc place) (true ∷ sides) at = ap suc (count_more true place sides at)
count_more true (suc place) (false ∷ sides) at = count_more true place sides at
count_more false (suc place) (true ∷ sides) at = count_more false place sides at
count_more false (suc place) (false ∷ sides) at = ap suc (count_more false place sides at)

-- an event of a part stands in that part at the place that is the number of the part's events before it
pub picked_at : (named : List ℕ → Bool) (turns : List Turn) (wanted : Bool) (place : ℕ)
    (sides : List Bool) (events : List Event) → IsCut named turns sides events
    → slice_get sides place ≡ Some wanted
    → slice_get (picked wanted sides events) (count_in wanted (take place sides)) ≡ slice_get events place
picked_at named turns wanted place [] events cut at = absurd (none-some wanted at)
picked_at named turns wanted place (side ∷ sides) [] cut at = absurd cut
picked_at named turns true zero (true ∷ sides) (event ∷ events) cut at = refl
picked_at named turns true zero (false ∷ sides) (event ∷ events) cut at =
    absurd (false≢true (same_Some false true at))
picked_at named turns false zero (true ∷ sides) (event ∷ events) cut at =
    absurd (false≢true (sym (same_Some true false at)))
picked_at named turns false zero (false ∷ sides) (event ∷ events) cut at = refl
picked_at named turns true (suc place) (true ∷ sides) (event ∷ events) cut at =
    picked_at named (turns_past turns true event) true place sides events cut.3 at
picked_at named turns true (suc place) (false ∷ sides) (event ∷ events) cut at =
    picked_at named (turns_past turns false event) true place sides events cut.3 at
picked_at named turns false (suc place) (true ∷ sides) (event ∷ events) cut at =
    picked_at named (turns_past turns true event) false place sides events cut.3 at
picked_at named turns false (suc place) (false ∷ sides) (event ∷ events) cut at =
    picked_at named (turns_past turns false event) false place sides events cut.3 at

-- ---- explained

-- what is explained in both parts is explained
pub whole_explained : (named : List ℕ → Bool) (base : State) (sides : List Bool)
    (events : List Event) → HasNoBranch base
    → IsCut named first_turns sides events
    → Explained base (picked true sides events) → Explained base (picked false sides events)
    → Explained base events
whole_explained named base sides events apart cut chosen rest =
    let found = whole_of named first_turns (opening_config base) (opening_config base) (opening_config base)
    chosen.1 rest.1 sides events chosen.0 rest.0 cut (parts_first named base apart) chosen.2 rest.2 in
    (found.moves, found.end, found.runs)

-- what is explained is explained in each part
pub part_explained : (named : List ℕ → Bool) (base : State) (sides : List Bool)
    (events : List Event) (wanted : Bool) → HasNoBranch base
    → IsCut named first_turns sides events
    → Explained base events → Explained base (picked wanted sides events)
part_explained named base sides events true apart cut explained =
    let found = in_parts named first_turns (opening_config base) (opening_config base) (opening_config base)
    explained.1 sides events explained.0 cut (parts_first named base apart) explained.2 in
    (found.chosen_moves, found.chosen_end, found.chosen_runs)
part_explained named base sides events false apart cut explained =
    let found = in_parts named first_turns (opening_config base) (opening_config base) (opening_config base)
    explained.1 sides events explained.0 cut (parts_first named base apart) explained.2 in
    (found.rest_moves, found.rest_end, found.rest_runs)

-- what is explained in the wanted part and in the other one is explained, whichever part is wanted
both_explained : (named : List ℕ → Bool) (base : State) (sides : List Bool) (events : List Event)
    (wanted : Bool) → HasNoBranch base
    → IsCut named first_turns sides events
    → Explained base (picked wanted sides events) → Explained base (picked (not wanted) sides events)
    → Explained base events
both_explained named base sides events true apart cut part other =
    whole_explained named base sides events apart cut part other
both_explained named base sides events false apart cut part other =
    whole_explained named base sides events apart cut other part

-- what is refuted in a part is refuted at its place in the record, if the other part is explained up to there
pub refuted_part : (named : List ℕ → Bool) (base : State) (sides : List Bool) (events : List Event)
    (wanted : Bool) (place : ℕ) → HasNoBranch base
    → IsCut named first_turns sides events
    → slice_get sides place ≡ Some wanted
    → IsRefuted base (picked wanted sides events) (count_in wanted (take place sides))
    → Explained base (picked (not wanted) (take place sides) (take place events))
    → IsRefuted base events place
refuted_part named base sides events wanted place apart cut at is other =
    let there = get_within (picked wanted sides events) (count_in wanted (take place sides)) is.within in
    let more : place + 1 ≡ suc place = omega arith in
    let count : count_in wanted (take (suc place) sides) ≡ count_in wanted (take place sides) + 1 =
    count_more wanted place sides at ∙ omega arith in
    record {
      within = within_of events place there.0
          (sym (picked_at named first_turns wanted place sides events cut at) ∙ there.1);
      before = both_explained named base (take place sides) (take place events) wanted apart
          (cut_take named first_turns place sides events cut)
          (subst (Explained base) (sym (picked_take wanted place sides events)) is.before) other;
      refuted = λ explained. is.refuted (subst (λ n. Explained base (take n (picked wanted sides events))) count
          (subst (Explained base) (picked_take wanted (suc place) sides events)
          (part_explained named base (take (suc place) sides) (take (suc place) events) wanted apart
          (cut_take named first_turns (suc place) sides events cut)
          (subst (λ n. Explained base (take n events)) more explained))));
      whole = λ explained. is.whole (part_explained named base sides events wanted apart cut explained);
    }

-- ---- answers

-- the configuration of one part; true stands for the chosen one
abbrev pub part_of : Bool → Config → Config → Config
part_of true chosen rest = chosen
part_of false chosen rest = rest

-- where a call of a part may return, its session has the same client in the whole and in this part
same_client : (named : List ℕ → Bool) (turns : List Turn) (whole chosen rest : Config)
    (session : ℕ) (seen : Seen) (turn : Turn) (wanted : Bool) → AreParts named turns whole chosen rest
    → slice_get turns session ≡ Some turn
    → FitsTurn named turn (Return session seen) wanted
    → slice_get whole.clients session ≡ slice_get ((part_of wanted chosen rest).clients) session
same_client named turns whole chosen rest session seen turn wanted parts at fits = grind (arith)

-- an answer that a call could have in its part, it could have in the record, if the other part is explained up to
-- there
could_whole : (named : List ℕ → Bool) (base : State) (sides : List Bool) (events : List Event)
    (wanted : Bool) (place : ℕ) (answer : Answer) → HasNoBranch base
    → IsCut named first_turns sides events
    → slice_get sides place ≡ Some wanted
    → Explained base (picked (not wanted) (take place sides) (take place events))
    → CouldBe base (picked wanted sides events) (count_in wanted (take place sides)) answer
    → CouldBe base events place answer
could_whole named base sides events true place answer apart cut at other could =
    let returns = sym (picked_at named first_turns true place sides events cut at) ∙ could.returns in
    let open_config = opening_config base in
    let found = whole_of named first_turns open_config open_config open_config could.after.config other.1
    (take place sides) (take place events) could.after.reached.moves other.0
    (cut_take named first_turns place sides events cut) (parts_first named base apart)
    (subst (λ l. LeadsThrough open_config l could.after.reached.moves could.after.config)
    (sym (picked_take true place sides events)) could.after.reached.runs) other.2 in
    let turn = cut_at named first_turns place sides events true (Return could.session could.seen) cut at returns in
    record {
      session = could.session;
      seen = could.seen;
      returns = returns;
      after = record {
        config = found.end;
        reached = record { moves = found.moves; runs = found.runs };
        answered = same_client named _ found.end could.after.config other.1 could.session could.seen turn.0 true
            found.parts turn.1 turn.2 ∙ could.after.answered;
      };
    }
could_whole named base sides events false place answer apart cut at other could =
    let returns = sym (picked_at named first_turns false place sides events cut at) ∙ could.returns in
    let open_config = opening_config base in
    let found = whole_of named first_turns open_config open_config open_config other.1 could.after.config
    (take place sides) (take place events) other.0 could.after.reached.moves
    (cut_take named first_turns place sides events cut) (parts_first named base apart) other.2
    (subst (λ l. LeadsThrough open_config l could.after.reached.moves could.after.config)
    (sym (picked_take false place sides events)) could.after.reached.runs) in
    let turn = cut_at named first_turns place sides events false (Return could.session could.seen) cut at
    returns in
    record {
      session = could.session;
      seen = could.seen;
      returns = returns;
      after = record {
        config = found.end;
        reached = record { moves = found.moves; runs = found.runs };
        answered = same_client named _ found.end other.1 could.after.config could.session could.seen turn.0 false
            found.parts turn.1 turn.2 ∙ could.after.answered;
      };
    }

-- an answer that a call could have in the record, it could have in its part
could_part : (named : List ℕ → Bool) (base : State) (sides : List Bool) (events : List Event)
    (wanted : Bool) (place : ℕ) (answer : Answer) → HasNoBranch base
    → IsCut named first_turns sides events
    → slice_get sides place ≡ Some wanted
    → CouldBe base events place answer
    → CouldBe base (picked wanted sides events) (count_in wanted (take place sides)) answer
could_part named base sides events true place answer apart cut at could =
    let open_config = opening_config base in
    let found = in_parts named first_turns open_config open_config open_config could.after.config
    (take place sides) (take place events) could.after.reached.moves
    (cut_take named first_turns place sides events cut) (parts_first named base apart)
    could.after.reached.runs in
    let turn = cut_at named first_turns place sides events true (Return could.session could.seen) cut at
    could.returns in
    record {
      session = could.session;
      seen = could.seen;
      returns = picked_at named first_turns true place sides events cut at ∙ could.returns;
      after = record {
        config = found.chosen_end;
        reached = record {
          moves = found.chosen_moves;
          runs = subst (λ l. LeadsThrough open_config l found.chosen_moves found.chosen_end)
              (picked_take true place sides events) found.chosen_runs;
        };
        answered = sym (same_client named _ could.after.config found.chosen_end found.rest_end could.session
            could.seen turn.0 true found.parts turn.1 turn.2) ∙ could.after.answered;
      };
    }
could_part named base sides events false place answer apart cut at could =
    let open_config = opening_config base in
    let found = in_parts named first_turns open_config open_config open_config could.after.config
    (take place sides) (take place events) could.after.reached.moves
    (cut_take named first_turns place sides events cut) (parts_first named base apart)
    could.after.reached.runs in
    let turn = cut_at named first_turns place sides events false (Return could.session could.seen) cut at
    could.returns in
    record {
      session = could.session;
      seen = could.seen;
      returns = picked_at named first_turns false place sides events cut at ∙ could.returns;
      after = record {
        config = found.rest_end;
        reached = record {
          moves = found.rest_moves;
          runs = subst (λ l. LeadsThrough open_config l found.rest_moves found.rest_end)
              (picked_take false place sides events) found.rest_runs;
        };
        answered = sym (same_client named _ could.after.config found.chosen_end found.rest_end could.session
            could.seen turn.0 false found.parts turn.1 turn.2) ∙ could.after.answered;
      };
    }

-- all the answers that a call could have in its part are all that it could have in the record, if the other part is
-- explained up to there
pub answers_part : (named : List ℕ → Bool) (base : State) (sides : List Bool) (events : List Event)
    (wanted : Bool) (place : ℕ) (answers : List Answer) → HasNoBranch base
    → IsCut named first_turns sides events
    → slice_get sides place ≡ Some wanted
    → Explained base (picked (not wanted) (take place sides) (take place events))
    → AreAllAnswers base (picked wanted sides events) (count_in wanted (take place sides)) answers
    → AreAllAnswers base events place answers
answers_part named base sides events wanted place answers apart cut at other are =
    grind (arith, could_part, could_whole)

-- ---- verdicts

-- moves that lead through events begin with moves that lead through the first `count` of them
cut_short : (old new : Config) (events : List Event) (count : ℕ) (moves : List Move) → LeadsThrough old events moves new
    → (fewer : List Move) × (end : Config) × LeadsThrough old (take count events) fewer end
cut_short old new events count (Move.Effect session act ∷ moves) runs =
    let rest = cut_short runs.0 new events count moves runs.3 in
    (Move.Effect session act ∷ rest.0, rest.1, (runs.0, runs.1, runs.2, rest.2))
cut_short old new [] count (Move.Event ∷ moves) runs = absurd runs
cut_short old new (event ∷ events) zero (Move.Event ∷ moves) runs = ([], old, refl)
cut_short old new (event ∷ events) (suc count) (Move.Event ∷ moves) runs =
    let rest = cut_short runs.0 new events count moves runs.2 in
    (Move.Event ∷ rest.0, rest.1, (runs.0, runs.1, rest.2))
cut_short old new [] zero [] runs = ([], old, refl)
cut_short old new [] (suc count) [] runs = ([], old, refl)
cut_short old new (event ∷ events) count [] runs = absurd runs

-- what is explained is explained up to each of its events
pub explained_take : (base : State) (events : List Event) (count : ℕ) → Explained base events
    → Explained base (take count events)
explained_take base events count explained =
    cut_short (opening_config base) explained.1 events count explained.0 explained.2

-- the first few of a list's first ones are the list's first few
taken_twice : {A : Type 0} (few many : ℕ) (xs : List A) → few ≤ many → take few (take many xs) ≡ take few xs
taken_twice zero many xs le = refl
taken_twice (suc few) zero xs le = absurd (omega arith)
taken_twice (suc few) (suc many) [] le = refl
taken_twice (suc few) (suc many) (x ∷ xs) le = ap (λ l. x ∷ l) (taken_twice few many xs (omega arith))

-- a part that is illegal at its event `index`, which stands at `place` in the record, makes the record illegal there,
-- with the same answers, if the other part is explained up to there
pub illegal_part : (named : List ℕ → Bool) (base : State) (sides : List Bool) (events : List Event)
    (wanted : Bool) (index place explained limit : ℕ) (answers : Vec Answer Global) → HasNoBranch base
    → IsCut named first_turns sides events
    → slice_get sides place ≡ Some wanted
    → count_in wanted (take place sides) ≡ index
    → count_in (not wanted) (take place sides) ≤ explained
    → IsVerdict base (picked wanted sides events) limit (Verdict.Illegal index answers)
    → Explained base (take explained (picked (not wanted) sides events))
    → IsVerdict base events limit (Verdict.Illegal place answers)
illegal_part named base sides events wanted index place explained limit answers none cut at count few is other =
    let beside : Explained base (picked (not wanted) (take place sides) (take place events)) =
    subst (Explained base) (sym (picked_take (not wanted) place sides events))
    (subst (Explained base) (taken_twice (count_in (not wanted) (take place sides)) explained
    (picked (not wanted) sides events) few)
    (explained_take base (take explained (picked (not wanted) sides events)) (count_in (not wanted) (take place sides))
    other)) in (
      refuted_part named base sides events wanted place none cut at
          (subst (IsRefuted base (picked wanted sides events)) (sym count) is.0) beside,
      answers_part named base sides events wanted place answers.items none cut at beside
          (subst (λ i. AreAllAnswers base (picked wanted sides events) i answers.items) (sym count) is.1),
    )

-- events with the verdict LEGAL are explained up to each of them
pub legal_before : (base : State) (events : List Event) (limit count : ℕ) (moves : Vec Move Global) (verdict : Verdict)
    → IsVerdict base events limit verdict → verdict ≡ Verdict.Legal moves
    → Explained base (take count events)
legal_before base events limit count moves verdict right is =
    let told = subst (IsVerdict base events limit) is right in
    explained_take base events count (moves.items, told.0, told.1)
