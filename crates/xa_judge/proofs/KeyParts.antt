-- Lists that are cut, event by event.
--     CutSoFar, cut_more, cut_all              the parts of events, while they are found one after another
--     same_side, other_side                    two truth values are the same by a test;  or differ
--     picked_in, picked_out                    an event is picked;  or isn't
--     picked_next, picked_past, picked_end     the events of one part, while they are picked
use Rattle.std.proofs.lemmas.{Bool.Decides.nat_tests, Grind.common_steps, Option.{none-some, same_Some}}
use Rattle.std.proofs.{lemmas.List.at_drop_more, Common.{◌≡◌, ◌≢◌, ◌⊎◌, ℕ, ◌+◌, ◌<◌, ◌≤◌, zero, suc, Bool, true, false}}
use Rattle.std.proofs.Common.{Some, List, [], ◌∷◌, ◌++◌, length, take, drop, get_or, refl, ap, sym, ◌∙◌, subst, inl}
use Rattle.std.{proofs.Common.{inr, arith, append_assoc, append-nil, min}, specs.Prelude.slice_get}
use mathlib.Core.Bool.{beq}
use Rattle.xa_judge.{specs.declared.{event.Event.Event, turn.Turn.Turn}, proofs.Places.get_within}
use Rattle.xa_judge.specs.Keys.{FitsTurn, IsCut, first_turns, session_of, turns_past, picked, count_in}

-- ---- the parts of events

-- if the events from this place on are cut, with these turns before them, all are cut: `sides` are the parts of those
-- before
pub record CutSoFar (named : List ℕ → Bool) (turns : List Turn) (sides : List Bool)
    (events : List Event) (place : ℕ) : Type 0 where
  pub on : (more : List Bool) → IsCut named turns more (drop place events)
      → IsCut named first_turns (sides ++ more) events

-- one event more is cut, in a part in which it may stand by its session's turn
pub cut_more : (named : List ℕ → Bool) (turns : List Turn) (sides : List Bool) (events : List Event)
    (place : ℕ) (event : Event) (turn : Turn) (side : Bool) → CutSoFar named turns sides events place
    → place < length events
    → event ≡ get_or events place event
    → slice_get turns (session_of event) ≡ Some turn
    → FitsTurn named turn event side
    → CutSoFar named (turns_past turns side event) (sides ++ side ∷ []) events (place + 1)
cut_more named turns sides events place event turn side so_far within is at fits = record {
  on = λ more cut.
      let all : drop place events ≡ event ∷ drop (place + 1) events =
      at_drop_more (λ l. l) events place event within ∙ ap (λ e. e ∷ drop (place + 1) events) (sym is) in
      subst (λ l. IsCut named first_turns l events) (sym (append_assoc sides (side ∷ []) more))
      (so_far.on (side ∷ more) (subst (IsCut named turns (side ∷ more)) (sym all) (turn, at, fits, cut)));
}

-- once no event is left, all events are cut
pub cut_all : (named : List ℕ → Bool) (turns : List Turn) (sides : List Bool) (events : List Event)
    (place : ℕ) → CutSoFar named turns sides events place
    → length events ≤ place
    → IsCut named first_turns sides events
cut_all named turns sides events place so_far over =
    subst (λ l. IsCut named first_turns l events) (append-nil sides)
    (so_far.on [] (subst (IsCut named turns []) (sym (dropped events place over)) tt))
  where
    dropped : (l : List Event) (n : ℕ) → length l ≤ n → drop n l ≡ []
    dropped [] zero le = refl
    dropped [] (suc n) le = refl
    dropped (x ∷ l) zero le = absurd (omega arith)
    dropped (x ∷ l) (suc n) le = dropped l n (omega arith)

-- ---- the events of one part

-- two truth values are the same if the test for that holds
pub same_side : (left right : Bool) → beq left right ≡ true → left ≡ right
same_side left right is = grind (arith)

-- two truth values differ if the test whether they are the same fails
pub other_side : (left right : Bool) → beq left right ≡ false → left ≢ right
other_side left right is = grind (arith)

-- an event of the wanted part is picked, before those that are picked behind it
pub picked_in : (wanted side : Bool) (sides : List Bool) (event : Event) (events : List Event) → side ≡ wanted
    → picked wanted (side ∷ sides) (event ∷ events) ≡ event ∷ picked wanted sides events
picked_in wanted side sides event events is = grind (arith)

-- an event of the part that isn't wanted isn't picked
pub picked_out : (wanted side : Bool) (sides : List Bool) (event : Event) (events : List Event) → side ≢ wanted
    → picked wanted (side ∷ sides) (event ∷ events) ≡ picked wanted sides events
picked_out wanted side sides event events is = grind (arith)

-- of no events none is picked
picked_none : (wanted : Bool) (sides : List Bool) → picked wanted sides [] ≡ []
picked_none wanted sides = grind (arith)

-- no event is picked of which it isn't told to which part it belongs
none_picked : (wanted : Bool) (events : List Event) → picked wanted [] events ≡ []
none_picked wanted events = grind (arith)

-- past the end of either list no event is picked
pub picked_end : (wanted : Bool) (place : ℕ) (sides : List Bool) (events : List Event)
    → (length sides ≤ place) ⊎ (length events ≤ place)
    → picked wanted (drop place sides) (drop place events) ≡ []
picked_end wanted zero [] events over = none_picked wanted events
picked_end wanted zero (side ∷ sides) [] over = picked_none wanted (side ∷ sides)
picked_end wanted zero (side ∷ sides) (event ∷ events) (inl over) = absurd (omega arith)
picked_end wanted zero (side ∷ sides) (event ∷ events) (inr over) = absurd (omega arith)
picked_end wanted (suc place) [] events over = none_picked wanted (drop (suc place) events)
picked_end wanted (suc place) (side ∷ sides) [] over = picked_none wanted (drop (suc place) (side ∷ sides))
picked_end wanted (suc place) (side ∷ sides) (event ∷ events) (inl over) =
    picked_end wanted place sides events (inl (omega arith))
picked_end wanted (suc place) (side ∷ sides) (event ∷ events) (inr over) =
    picked_end wanted place sides events (inr (omega arith))

-- one round of a loop that picks events: what was picked (`part`) and what is picked from this place on are the
-- wanted part. So it is from the next place on, with the event there put behind `part` if it is of the wanted part
pub picked_next : (wanted d : Bool) (place : ℕ) (sides : List Bool) (event : Event) (events part : List Event)
    → place < length sides → place < length events
    → event ≡ get_or events place event
    → part ++ picked wanted (drop place sides) (drop place events) ≡ picked wanted sides events
    → ((get_or sides place d ≡ wanted)
    → (part ++ event ∷ []) ++ picked wanted (drop (place + 1) sides) (drop (place + 1) events)
    ≡ picked wanted sides events)
    × ((get_or sides place d ≢ wanted) → part ++ picked wanted (drop (place + 1) sides) (drop (place + 1) events)
    ≡ picked wanted sides events)
picked_next wanted d place sides event events part in_sides in_events there so_far =
    grind (arith, common_steps, nat_tests)

-- ---- how many there are

-- up to and with the event at a place, a part has as many as before it, and one more if that event is of it
count_in_here : (wanted side : Bool) (place : ℕ) (sides : List Bool) → slice_get sides place ≡ Some side
    → count_in wanted (take (suc place) sides)
    ≡ count_in wanted (take place sides) + count_in wanted (side ∷ [])
count_in_here wanted side place [] at = absurd (none-some side at)
count_in_here true side zero (true ∷ sides) at = ap (λ s. count_in true (s ∷ [])) (same_Some true side at) ∙ omega arith
count_in_here true side zero (false ∷ sides) at =
    ap (λ s. count_in true (s ∷ [])) (same_Some false side at) ∙ omega arith
count_in_here false side zero (true ∷ sides) at =
    ap (λ s. count_in false (s ∷ [])) (same_Some true side at) ∙ omega arith
count_in_here false side zero (false ∷ sides) at =
    ap (λ s. count_in false (s ∷ [])) (same_Some false side at) ∙ omega arith
count_in_here true side (suc place) (true ∷ sides) at =
    ap suc (count_in_here true side place sides at) ∙ omega arith
count_in_here true side (suc place) (false ∷ sides) at = count_in_here true side place sides at
count_in_here false side (suc place) (true ∷ sides) at = count_in_here false side place sides at
count_in_here false side (suc place) (false ∷ sides) at =
    ap suc (count_in_here false side place sides at) ∙ omega arith

-- an event of the wanted part counts as one
one_in : (wanted side : Bool) → side ≡ wanted → count_in wanted (side ∷ []) ≡ 1
one_in wanted side is = grind (arith)

-- an event of the part that isn't wanted doesn't count
one_out : (wanted side : Bool) → side ≢ wanted → count_in wanted (side ∷ []) ≡ 0
one_out wanted side is = grind (arith)

-- what is read at a place of the list stands there
got : (xs : List Bool) (i : ℕ) (d : Bool) → i < length xs → slice_get xs i ≡ Some (get_or xs i d)
got [] i d within = absurd (omega arith)
got (x ∷ xs) zero d within = refl
got (x ∷ xs) (suc i) d within = got xs i d (omega arith)

-- one round of a loop that counts events: up to and with a place a part has one more than before it, if the event
-- there is of this part, and as many if not
pub count_next : (wanted d : Bool) (place : ℕ) (sides : List Bool) → place < length sides
    → (get_or sides place d ≡ wanted → count_in wanted (take (place + 1) sides)
    ≡ count_in wanted (take place sides) + 1)
    × (get_or sides place d ≢ wanted → count_in wanted (take (place + 1) sides)
    ≡ count_in wanted (take place sides))
count_next wanted d place sides within =
    let side = get_or sides place d in
    let more : place + 1 ≡ suc place = omega arith in
    let step = ap (λ n. count_in wanted (take n sides)) more
    ∙ count_in_here wanted side place sides (got sides place d within) in (
      λ e. step ∙ ap (λ n. count_in wanted (take place sides) + n) (one_in wanted side e),
      λ e. step ∙ ap (λ n. count_in wanted (take place sides) + n) (one_out wanted side e) ∙ omega arith,
    )

-- if the least of two numbers is at most a third one, so is one of the two
pub one_at_most : (m n place : ℕ) → min m n ≤ place → (m ≤ place) ⊎ (n ≤ place)
one_at_most m n place le = grind (arith)

-- what stands at a place is read there
read_at : (xs : List Event) (i : ℕ) (x : Event) → slice_get xs i ≡ Some x → x ≡ get_or xs i x
read_at [] i x found = refl
read_at (y ∷ xs) zero x found = sym (same_Some y x found)
read_at (y ∷ xs) (suc i) x found = read_at xs i x found

-- one round of the loop that picks events, if the event at the place isn't of the wanted part: what was picked stays
pub picked_past : (wanted d : Bool) (place : ℕ) (sides : List Bool) (events part : List Event)
    → place < length sides → place < length events
    → part ++ picked wanted (drop place sides) (drop place events) ≡ picked wanted sides events
    → get_or sides place d ≢ wanted
    → part ++ picked wanted (drop (place + 1) sides) (drop (place + 1) events) ≡ picked wanted sides events
picked_past wanted d place sides events part in_sides in_events so_far out =
    let there = get_within events place in_events in
    (picked_next wanted d place sides there.0 events part in_sides in_events (read_at events place there.0 there.1)
    so_far).1 out
