-- Moves through a record, and through its two parts.
--     first_then, split         acts before the next event
--     IsInParts, in_parts       moves through the whole lead through each part as well
--     IsWhole, whole_of         moves through both parts lead through the whole
use Rattle.std.proofs.Common.{arith, ◌≡◌, ℕ, Bool, true, false, Option, Some, None, List, [], ◌∷◌, ◌++◌, refl, sym}
use Rattle.std.{proofs.Common.subst, specs.Prelude.slice_get}
use Rattle.xa_judge.specs.declared.{event.Event.Event, moves.{Act.Act, Move.Move}, turn.Turn.Turn}
use Rattle.xa_judge.specs.Explained.{Config, effect_of, observed, LeadsThrough}
use Rattle.xa_judge.{specs.Keys.{IsCut, turns_after, turns_past, picked}, proofs.KeyClients.{forth, back, AreClients}}
use Rattle.xa_judge.proofs.KeyClients.{AreParts, ChosenTogether, RestTogether, chosen_acts, rest_acts, absent_rests}
use Rattle.xa_judge.proofs.KeyClients.{idle_rests, chosen_seen, rest_seen, is_rest}

-- ---- moves before the next event

-- if acts lead from a configuration to another, and moves from there through events, they all lead through these
-- events
pub first_then : (old mid new : Config) (events : List Event) (acts moves : List Move) → LeadsThrough old [] acts mid
    → LeadsThrough mid events moves new
    → LeadsThrough old events (acts ++ moves) new
first_then old mid new events (Move.Effect session act ∷ acts) moves runs on =
    (runs.0, runs.1, runs.2, first_then runs.0 mid new events acts moves runs.3 on)
first_then old mid new events (Move.Event ∷ acts) moves runs on = absurd runs
first_then old mid new events [] moves runs on = subst (λ c. LeadsThrough c events moves new) runs on

-- moves lead from `old` through the event and more to `new`, in three: acts before the event, the event, and the
-- moves from there on
pub record IsSplit (old : Config) (event : Event) (events : List Event) (new : Config) : Type 0 where
  pub acts : List Move
  pub mid : Config
  pub leads : LeadsThrough old [] acts mid
  pub next : Config
  pub sees : observed mid event ≡ Some next
  pub moves : List Move
  pub runs : LeadsThrough next events moves new

-- moves that lead through an event and more begin with acts, then see the event, and then lead through the rest
-- (`IsSplit`)
pub split : (old new : Config) (event : Event) (events : List Event) (moves : List Move)
    → LeadsThrough old (event ∷ events) moves new
    → IsSplit old event events new
split old new event events (Move.Effect session act ∷ moves) runs =
    let rest = split runs.0 new event events moves runs.3 in
    record {
      acts = Move.Effect session act ∷ rest.acts;
      mid = rest.mid;
      leads = (runs.0, runs.1, runs.2, rest.leads);
      next = rest.next;
      sees = rest.sees;
      moves = rest.moves;
      runs = rest.runs;
    }
split old new event events (Move.Event ∷ moves) runs = record {
  acts = [];
  mid = old;
  leads = refl;
  next = runs.0;
  sees = runs.1;
  moves = moves;
  runs = runs.2;
}
split old new event events [] runs = absurd runs

-- ---- whose act it is

-- by its turn, if it has one, a session's clients in the whole and in the parts belong together (`AreClients`)
pub clients_at : (named : List ℕ → Bool) (turns : List Turn) (whole chosen rest : Config) (session : ℕ)
    (turn : Option Turn) → AreParts named turns whole chosen rest
    → slice_get turns session ≡ turn
    → AreClients named turn (slice_get whole.clients session) (slice_get chosen.clients session)
    (slice_get rest.clients session)
clients_at named turns whole chosen rest session turn parts at = grind (arith)

-- an act in the chosen part is of a session whose open call belongs to it
chosen_turn : (named : List ℕ → Bool) (turns : List Turn) (whole chosen rest mid : Config)
    (session : ℕ) (act : Act) → AreParts named turns whole chosen rest
    → effect_of chosen session act ≡ Some mid
    → slice_get turns session ≡ Some Turn.Chosen
chosen_turn named turns whole chosen rest mid session act parts leads = grind (arith, absent_rests, idle_rests)

-- an act in the other part is of a session whose open call belongs to that part, or that may have a branch
rest_turn : (named : List ℕ → Bool) (turns : List Turn) (whole chosen rest mid : Config)
    (session : ℕ) (act : Act) → AreParts named turns whole chosen rest
    → effect_of rest session act ≡ Some mid
    → (turn : Turn) × (slice_get turns session ≡ Some turn) × (is_rest turn ≡ true)
rest_turn named turns whole chosen rest mid session act parts leads = grind (arith, absent_rests, idle_rests, is_rest)

-- ---- from the whole to the parts

-- moves lead through the events of each part, to ends that are parts of the whole's end `new`
pub record IsInParts (named : List ℕ → Bool) (turns : List Turn) (chosen rest new : Config)
    (chosen_events rest_events : List Event) : Type 0 where
  pub chosen_moves : List Move
  pub rest_moves : List Move
  pub chosen_end : Config
  pub rest_end : Config
  pub chosen_runs : LeadsThrough chosen chosen_events chosen_moves chosen_end
  pub rest_runs : LeadsThrough rest rest_events rest_moves rest_end
  pub parts : AreParts named turns new chosen_end rest_end

-- acts that lead on in the whole lead on in its parts, each in the part of its session, by its turn
acts_in : (named : List ℕ → Bool) (turns : List Turn) (whole chosen rest new : Config)
    (acts : List Move) → AreParts named turns whole chosen rest
    → LeadsThrough whole [] acts new
    → IsInParts named turns chosen rest new [] []
acts_in named turns whole chosen rest new (Move.Effect session act ∷ acts) parts runs =
    by (λ w c r. acts_in named turns w c r new acts) (slice_get turns session) refl
  where
    rest_act : ((w c r : Config) → AreParts named turns w c r → LeadsThrough w [] acts new
        → IsInParts named turns c r new [] [])
        → (turn : Turn) → slice_get turns session ≡ Some turn → is_rest turn ≡ true
        → IsInParts named turns chosen rest new [] []
    rest_act rest_of turn at rests =
        let one = forth (RestTogether named turns chosen) (effect_of whole session act)
        (effect_of rest session act) runs.0 (rest_acts named turns whole chosen rest session turn act parts at rests)
        runs.2 in
        let more = rest_of runs.0 chosen one.0 one.2 runs.3 in
        record {
          chosen_moves = more.chosen_moves;
          rest_moves = Move.Effect session act ∷ more.rest_moves;
          chosen_end = more.chosen_end;
          rest_end = more.rest_end;
          chosen_runs = more.chosen_runs;
          rest_runs = (one.0, runs.1, one.1, more.rest_runs);
          parts = more.parts;
        }

    by : ((w c r : Config) → AreParts named turns w c r → LeadsThrough w [] acts new
        → IsInParts named turns c r new [] [])
        → (turn : Option Turn) → slice_get turns session ≡ turn → IsInParts named turns chosen rest new [] []
    by rest_of None at = absurd (absent_rests whole runs.0 session act
        (clients_at named turns whole chosen rest session None parts at).0 runs.2)
    by rest_of (Some Turn.Nobody) at = absurd (idle_rests whole runs.0 session act
        (clients_at named turns whole chosen rest session (Some Turn.Nobody) parts at).0 runs.2)
    by rest_of (Some Turn.Chosen) at =
        let one = forth (ChosenTogether named turns rest) (effect_of whole session act)
        (effect_of chosen session act) runs.0 (chosen_acts named turns whole chosen rest session act parts at)
        runs.2 in
        let more = rest_of runs.0 one.0 rest one.2 runs.3 in
        record {
          chosen_moves = Move.Effect session act ∷ more.chosen_moves;
          rest_moves = more.rest_moves;
          chosen_end = more.chosen_end;
          rest_end = more.rest_end;
          chosen_runs = (one.0, runs.1, one.1, more.chosen_runs);
          rest_runs = more.rest_runs;
          parts = more.parts;
        }
    by rest_of (Some Turn.Other) at = rest_act rest_of Turn.Other at refl
    by rest_of (Some Turn.Within) at = rest_act rest_of Turn.Within at refl
    by rest_of (Some Turn.Rest) at = rest_act rest_of Turn.Rest at refl
    by rest_of (Some Turn.Ending) at = rest_act rest_of Turn.Ending at refl
acts_in named turns whole chosen rest new (Move.Event ∷ acts) parts runs = absurd runs
acts_in named turns whole chosen rest new [] parts runs = record {
  chosen_moves = [];
  rest_moves = [];
  chosen_end = chosen;
  rest_end = rest;
  chosen_runs = refl;
  rest_runs = refl;
  parts = subst (λ c. AreParts named turns c chosen rest) (sym runs) parts;
}

-- if events are cut in two (`IsCut`), moves that lead through them in the whole lead through each part's events in
-- that part as well, and to parts again (`IsInParts`)
pub in_parts : (named : List ℕ → Bool) (turns : List Turn) (whole chosen rest new : Config)
    (sides : List Bool) (events : List Event) (moves : List Move) → IsCut named turns sides events
    → AreParts named turns whole chosen rest
    → LeadsThrough whole events moves new
    → IsInParts named (turns_after turns sides events) chosen rest new (picked true sides events)
    (picked false sides events)
in_parts named turns whole chosen rest new [] [] moves cut parts runs =
    acts_in named turns whole chosen rest new moves parts runs
in_parts named turns whole chosen rest new [] (event ∷ events) moves cut parts runs = absurd cut
in_parts named turns whole chosen rest new (side ∷ sides) [] moves cut parts runs = absurd cut
in_parts named turns whole chosen rest new (true ∷ sides) (event ∷ events) moves cut parts runs =
    let s = split whole new event events moves runs in
    let before = acts_in named turns whole chosen rest s.mid s.acts parts s.leads in
    let seen = forth (ChosenTogether named (turns_past turns true event) before.rest_end) (observed s.mid event)
    (observed before.chosen_end event) s.next
    (chosen_seen named turns s.mid before.chosen_end before.rest_end event cut.0 before.parts cut.1 cut.2)
    s.sees in
    let more = in_parts named (turns_past turns true event) s.next seen.0 before.rest_end new sides events s.moves
    cut.3 seen.2 s.runs in
    record {
      chosen_moves = before.chosen_moves ++ Move.Event ∷ more.chosen_moves;
      rest_moves = before.rest_moves ++ more.rest_moves;
      chosen_end = more.chosen_end;
      rest_end = more.rest_end;
      chosen_runs = first_then chosen before.chosen_end more.chosen_end (event ∷ picked true sides events)
          before.chosen_moves (Move.Event ∷ more.chosen_moves) before.chosen_runs (seen.0, seen.1, more.chosen_runs);
      rest_runs = first_then rest before.rest_end more.rest_end (picked false sides events) before.rest_moves
          more.rest_moves before.rest_runs more.rest_runs;
      parts = more.parts;
    }
in_parts named turns whole chosen rest new (false ∷ sides) (event ∷ events) moves cut parts runs =
    let s = split whole new event events moves runs in
    let before = acts_in named turns whole chosen rest s.mid s.acts parts s.leads in
    let seen = forth (RestTogether named (turns_past turns false event) before.chosen_end) (observed s.mid event)
    (observed before.rest_end event) s.next
    (rest_seen named turns s.mid before.chosen_end before.rest_end event cut.0 before.parts cut.1 cut.2)
    s.sees in
    let more = in_parts named (turns_past turns false event) s.next before.chosen_end seen.0 new sides events
    s.moves cut.3 seen.2 s.runs in
    record {
      chosen_moves = before.chosen_moves ++ more.chosen_moves;
      rest_moves = before.rest_moves ++ Move.Event ∷ more.rest_moves;
      chosen_end = more.chosen_end;
      rest_end = more.rest_end;
      chosen_runs = first_then chosen before.chosen_end more.chosen_end (picked true sides events) before.chosen_moves
          more.chosen_moves before.chosen_runs more.chosen_runs;
      rest_runs = first_then rest before.rest_end more.rest_end (event ∷ picked false sides events) before.rest_moves
          (Move.Event ∷ more.rest_moves) before.rest_runs (seen.0, seen.1, more.rest_runs);
      parts = more.parts;
    }

-- ---- from the parts to the whole

-- moves lead through the events in the whole, to an end of which these two ends are the parts
pub record IsWhole (named : List ℕ → Bool) (turns : List Turn) (whole chosen_end rest_end : Config)
    (events : List Event) : Type 0 where
  pub moves : List Move
  pub end : Config
  pub runs : LeadsThrough whole events moves end
  pub parts : AreParts named turns end chosen_end rest_end

-- acts in the chosen part lead on in the whole, and the other part stays
chosen_first : (named : List ℕ → Bool) (turns : List Turn) (whole chosen rest new : Config)
    (acts : List Move) → AreParts named turns whole chosen rest
    → LeadsThrough chosen [] acts new
    → IsWhole named turns whole new rest []
chosen_first named turns whole chosen rest new (Move.Effect session act ∷ acts) parts runs =
    let turn = chosen_turn named turns whole chosen rest runs.0 session act parts runs.2 in
    let one = back (ChosenTogether named turns rest) (effect_of whole session act) (effect_of chosen session act)
    runs.0 (chosen_acts named turns whole chosen rest session act parts turn) runs.2 in
    let more = chosen_first named turns one.0 runs.0 rest new acts one.2 runs.3 in
    record {
      moves = Move.Effect session act ∷ more.moves;
      end = more.end;
      runs = (one.0, runs.1, one.1, more.runs);
      parts = more.parts;
    }
chosen_first named turns whole chosen rest new (Move.Event ∷ acts) parts runs = absurd runs
chosen_first named turns whole chosen rest new [] parts runs = record {
  moves = [];
  end = whole;
  runs = refl;
  parts = subst (λ c. AreParts named turns whole c rest) (sym runs) parts;
}

-- acts in the other part lead on in the whole, and the chosen part stays
rest_first : (named : List ℕ → Bool) (turns : List Turn) (whole chosen rest new : Config)
    (acts : List Move) → AreParts named turns whole chosen rest
    → LeadsThrough rest [] acts new
    → IsWhole named turns whole chosen new []
rest_first named turns whole chosen rest new (Move.Effect session act ∷ acts) parts runs =
    let turn = rest_turn named turns whole chosen rest runs.0 session act parts runs.2 in
    let one = back (RestTogether named turns chosen) (effect_of whole session act) (effect_of rest session act)
    runs.0 (rest_acts named turns whole chosen rest session turn.0 act parts turn.1 turn.2) runs.2 in
    let more = rest_first named turns one.0 chosen runs.0 new acts one.2 runs.3 in
    record {
      moves = Move.Effect session act ∷ more.moves;
      end = more.end;
      runs = (one.0, runs.1, one.1, more.runs);
      parts = more.parts;
    }
rest_first named turns whole chosen rest new (Move.Event ∷ acts) parts runs = absurd runs
rest_first named turns whole chosen rest new [] parts runs = record {
  moves = [];
  end = whole;
  runs = refl;
  parts = subst (λ c. AreParts named turns whole chosen c) (sym runs) parts;
}

-- if events are cut in two (`IsCut`), and moves lead through each part's events in that part, some lead through all
-- events in the whole, to an end of which the two ends are the parts (`IsWhole`)
pub whole_of : (named : List ℕ → Bool) (turns : List Turn)
    (whole chosen rest chosen_end rest_end : Config) (sides : List Bool) (events : List Event)
    (chosen_moves rest_moves : List Move) → IsCut named turns sides events
    → AreParts named turns whole chosen rest
    → LeadsThrough chosen (picked true sides events) chosen_moves chosen_end
    → LeadsThrough rest (picked false sides events) rest_moves rest_end
    → IsWhole named (turns_after turns sides events) whole chosen_end rest_end events
whole_of named turns whole chosen rest chosen_end rest_end [] [] chosen_moves rest_moves cut parts runs others =
    let one = chosen_first named turns whole chosen rest chosen_end chosen_moves parts runs in
    let two = rest_first named turns one.end chosen_end rest rest_end rest_moves one.parts others in
    record {
      moves = one.moves ++ two.moves;
      end = two.end;
      runs = first_then whole one.end two.end [] one.moves two.moves one.runs two.runs;
      parts = two.parts;
    }
whole_of named turns whole chosen rest chosen_end rest_end [] (event ∷ events) chosen_moves rest_moves cut parts
    runs others = absurd cut
whole_of named turns whole chosen rest chosen_end rest_end (side ∷ sides) [] chosen_moves rest_moves cut parts
    runs others = absurd cut
whole_of named turns whole chosen rest chosen_end rest_end (true ∷ sides) (event ∷ events) chosen_moves rest_moves
    cut parts runs others =
    let s = split chosen chosen_end event (picked true sides events) chosen_moves runs in
    let before = chosen_first named turns whole chosen rest s.mid s.acts parts s.leads in
    let seen = back (ChosenTogether named (turns_past turns true event) rest) (observed before.end event)
    (observed s.mid event) s.next
    (chosen_seen named turns before.end s.mid rest event cut.0 before.parts cut.1 cut.2) s.sees in
    let more = whole_of named (turns_past turns true event) seen.0 s.next rest chosen_end rest_end sides events
    s.moves rest_moves cut.3 seen.2 s.runs others in
    record {
      moves = before.moves ++ Move.Event ∷ more.moves;
      end = more.end;
      runs = first_then whole before.end more.end (event ∷ events) before.moves (Move.Event ∷ more.moves) before.runs
          (seen.0, seen.1, more.runs);
      parts = more.parts;
    }
whole_of named turns whole chosen rest chosen_end rest_end (false ∷ sides) (event ∷ events) chosen_moves rest_moves
    cut parts runs others =
    let s = split rest rest_end event (picked false sides events) rest_moves others in
    let before = rest_first named turns whole chosen rest s.mid s.acts parts s.leads in
    let seen = back (RestTogether named (turns_past turns false event) chosen) (observed before.end event)
    (observed s.mid event) s.next
    (rest_seen named turns before.end chosen s.mid event cut.0 before.parts cut.1 cut.2) s.sees in
    let more = whole_of named (turns_past turns false event) seen.0 chosen s.next chosen_end rest_end sides events
    chosen_moves s.moves cut.3 seen.2 runs s.runs in
    record {
      moves = before.moves ++ Move.Event ∷ more.moves;
      end = more.end;
      runs = first_then whole before.end more.end (event ∷ events) before.moves (Move.Event ∷ more.moves) before.runs
          (seen.0, seen.1, more.runs);
      parts = more.parts;
    }
