-- A history from a place on, and what a session has left to say there.
--     statements_in, answers_in     what a session's lines say;  what they were answered
--     Remains           the session's lines that are left explain its entries from the place on
--     Drained           the first line that is left doesn't stand at the place without entering there
--     skipped, entering, waiting      what is left behind a line that doesn't enter;  behind one that enters;  behind
--                                     another session's entry, if the session is drained
--     enters_there      a line that enters at the place is the entry there
--     Due, due          the first line that is left was answered at the place;  so was that of the next entry's session
--     ended             at the end of the history no line is left
use Rattle.std.proofs.Common.{◌≡◌, ◌≢◌, ℕ, zero, suc, ◌+◌, ◌-◌, ◌≤◌, Bool, true, false, cond, Some, List, [], ◌∷◌}
use Rattle.std.proofs.Common.{length, map, drop, refl, ap, sym, ◌∙◌, subst, inl, inr, arith, add-one}
use Rattle.std.{proofs.lemmas.{List.drop-drop, Option.{none-some, same_Some, slice_get_past}}, specs.Prelude.slice_get}
use Rattle.xa_xid.specs.declared.statement.Statement.{Statement}
use Rattle.xa_words.specs.Entry.{Entry}
use Rattle.xa_server.specs.{State.State, Step.enters}
use Rattle.decision_log.specs.History.{entries_of, is_of}
use Rattle.xa_session.specs.{Replay.state_at, Answer.entry_of, declared.answer.Answer.Answer}
use Rattle.xa_store.specs.Legal.{Answered, entered}
use Rattle.xa_races.proofs.Tests.{same_number, same_test, apart_test}

-- a statement of a session, and what it was answered
pub record Said : Type 0 where
  pub statement : Statement
  pub answer : Answer

-- if a history's first entry is the session's own, the session's entries are that one, and then those of the rest
entries_of-own : (session : ℕ) (entry : Entry) (list : List Entry) → entry.session ≡ session
    → entries_of session (entry ∷ list) ≡ entry ∷ entries_of session list
entries_of-own session entry list own = grind (arith, same_test)

-- if a history's first entry is another session's, the session's entries are those of the rest
pub entries_of-other : (session : ℕ) (entry : Entry) (list : List Entry) → entry.session ≢ session
    → entries_of session (entry ∷ list) ≡ entries_of session list
entries_of-other session entry list apart = grind (arith, apart_test)

-- a history from a place on begins with the entry at the place
from_place : (history : List Entry) (place : ℕ) (entry : Entry) → slice_get history place ≡ Some entry
    → drop place history ≡ entry ∷ drop (suc place) history
from_place [] place entry is = absurd (none-some entry is)
from_place (x ∷ xs) zero entry is = ap (λ e. e ∷ xs) (same_Some x entry is)
from_place (x ∷ xs) (suc place) entry is = from_place xs place entry is

-- if the entry at a place is the session's own, its entries from there on are that one, and then those from the next
-- place on
own_from : (history : List Entry) (place session : ℕ) (entry : Entry) → slice_get history place ≡ Some entry
    → entry.session ≡ session
    → entries_of session (drop place history) ≡ entry ∷ entries_of session (drop (suc place) history)
own_from history place session entry is own = grind (arith, entries_of-own, from_place)

-- if the entry at a place is another session's, the session's entries from there on are those from the next place on
other_from : (history : List Entry) (place session : ℕ) (entry : Entry) → slice_get history place ≡ Some entry
    → entry.session ≢ session
    → entries_of session (drop place history) ≡ entries_of session (drop (suc place) history)
other_from history place session entry is apart = grind (arith, entries_of-other, from_place)

-- a list with one element more, or not, is at least as long
more_of : (b : Bool) (entry : Entry) (list : List Entry) → length list ≤ length (cond b (entry ∷ list) list)
more_of b entry list = grind (arith)

-- dropping a front of the history leaves at most as many entries of a session
count_drop : (session : ℕ) (list : List Entry) (count : ℕ)
    → length (entries_of session (drop count list)) ≤ length (entries_of session list)
count_drop session list zero = omega arith
count_drop session [] (suc count) = omega arith
count_drop session (x ∷ xs) (suc count) =
    omega (arith, count_drop session xs count, more_of (is_of session x) x (entries_of session xs))

-- a session has no more entries from a later place on
count_from : (session : ℕ) (history : List Entry) (first later : ℕ) → first ≤ later
    → length (entries_of session (drop later history)) ≤ length (entries_of session (drop first history))
count_from session history first later order =
    let place : first + (later - first) ≡ later = omega arith in
    subst (λ (l : List Entry). length (entries_of session l) ≤ length (entries_of session (drop first history)))
    (drop-drop (later - first) first history ∙ ap (λ (n : ℕ). drop n history) place)
    (count_drop session (drop first history) (later - first))

-- the step of `fits`: one statement more, logged (`b`) or not, makes no more entries than the session has left
fits_one : (base : State) (history : List Entry) (session from : ℕ) (statement : Statement) (answer : Answer)
    (statements : List Statement)
    (answers : List Answer) (b : Bool) → from ≤ answer.place
    → (b ≡ true → slice_get history answer.place ≡ Some (entry_of session statement))
    → Answered base history session (cond b (answer.place + 1) answer.place) statements answers
    → ((place : ℕ) → Answered base history session place statements answers
    → length (entered base history session statements answers) ≤ length (entries_of session (drop place history)))
    → length (cond b (entry_of session statement ∷ entered base history session statements answers)
    (entered base history session statements answers))
    ≤ length (entries_of session (drop from history))
fits_one base history session from statement answer statements answers true order next rest fit =
    let left : length (entered base history session statements answers) ≤ length
    (entries_of session (drop (suc answer.place) history)) =
    fit (suc answer.place) (subst (λ (n : ℕ). Answered base history session n statements answers)
    (add-one answer.place) rest) in
    let own = ap length (own_from history answer.place session (entry_of session statement) (next refl) refl) in
    omega (arith, left, own, count_from session history from answer.place order)
fits_one base history session from statement answer statements answers false order next rest fit =
    omega (arith, fit answer.place rest, count_from session history from answer.place order)

-- of statements that are answered from a place on no more enter than the session has entries from there on
fits : (base : State) (history : List Entry) (session from : ℕ) (statements : List Statement) (answers : List Answer)
    → Answered base history session from statements answers
    → length (entered base history session statements answers) ≤ length (entries_of session (drop from history))
fits base history session from [] [] answered = omega arith
fits base history session from [] (answer ∷ answers) answered = absurd answered
fits base history session from (statement ∷ statements) [] answered = absurd answered
fits base history session from (statement ∷ statements) (answer ∷ answers) answered =
    fits_one base history session from statement answer statements answers
    (enters (state_at base history answer.place) session statement) answered.0 answered.1.next answered.2
    (λ place rest. fits base history session place statements answers rest)

-- equal lists have equal rests
tails : (first second : Entry) (xs ys : List Entry) → first ∷ xs ≡ second ∷ ys → xs ≡ ys
tails first second xs ys same = cc

-- a list with a first element isn't empty
some_left : (entry : Entry) (list : List Entry) → entry ∷ list ≡ [] → ⊥
some_left entry list same = cc

-- lines of any kind, of which each has a statement and what it was answered
module _ {L : Type 0} (spoken : L → Said) where
  -- the statements of a session's lines
  abbrev pub statements_in : List L → List Statement
  statements_in lines = map (λ line. (spoken line).statement) lines

  -- what a session's lines were answered
  abbrev pub answers_in : List L → List Answer
  answers_in lines = map (λ line. (spoken line).answer) lines

  -- the session's lines that are left are answered from the place on, and those of them that are logged are its entries
  -- from there on
  pub record Remains (base : State) (history : List Entry) (place session : ℕ) (lines : List L) : Type 0 where
    pub answered : Answered base history session place (statements_in lines) (answers_in lines)
    pub mine : entries_of session (drop place history) ≡ entered base history session (statements_in lines)
        (answers_in lines)

  -- the first line that is left enters, if it stands at the place
  abbrev pub Drained : State → List Entry → ℕ → ℕ → List L → Type 0
  Drained base history place session [] = Unit {0}
  Drained base history place session (line ∷ lines) = (spoken line).answer.place ≡ place
      → enters (state_at base history place) session (spoken line).statement ≡ true

  -- a line that doesn't enter the history leaves the rest of its session's lines to come, at the same place
  pub skipped : (base : State) (history : List Entry) (place session : ℕ) (line : L) (rest : List L)
      → Remains base history place session (line ∷ rest)
      → (spoken line).answer.place ≡ place
      → enters (state_at base history place) session (spoken line).statement ≡ false
      → Remains base history place session rest
  skipped base history place session line rest left at out = grind (arith)

  -- behind a line whose statement entered at this place, the session has its other lines left from the next place on
  pub entering : (base : State) (history : List Entry) (place session : ℕ) (line : L) (rest : List L)
      (entry : Entry)
      → Remains base history place session (line ∷ rest) → (spoken line).answer.place ≡ place
      → enters (state_at base history place) session (spoken line).statement ≡ true
      → slice_get history place ≡ Some entry
      → entry.session ≡ session
      → Remains base history (suc place) session rest
  entering base history place session line rest entry left at in' is own = grind (arith, add-one, own_from, tails)

  -- the line that enters at a place is the entry there
  pub enters_there : (base : State) (history : List Entry) (place session : ℕ) (line : L) (rest : List L)
      → Remains base history place session (line ∷ rest)
      → (spoken line).answer.place ≡ place
      → enters (state_at base history place) session (spoken line).statement ≡ true
      → slice_get history place ≡ Some (entry_of session (spoken line).statement)
  enters_there base history place session line rest left at in' = grind (arith)

  -- behind an entry of another session, a drained session has left what it had left before that entry
  pub waiting : (base : State) (history : List Entry) (place session : ℕ) (lines : List L) (entry : Entry)
      → Remains base history place session lines
      → Drained base history place session lines → slice_get history place ≡ Some entry
      → entry.session ≢ session → Remains base history (suc place) session lines
  waiting base history place session lines entry left drained is apart =
      grind (arith, enters_there, other_from, same_Some)

  -- the first of these lines was answered at the place
  pub record Due (place : ℕ) (lines : List L) : Type 0 where
    pub line : L
    pub rest : List L
    pub is : lines ≡ line ∷ rest
    pub at : (spoken line).answer.place ≡ place

  -- if the history's entry at a place is the session's, it has a line left, and the first one was answered there
  pub due : (base : State) (history : List Entry) (place session : ℕ) (lines : List L) (entry : Entry)
      → Remains base history place session lines
      → slice_get history place ≡ Some entry → entry.session ≡ session → Due place lines
  due base history place session [] entry left is own =
      absurd (some_left entry _ (sym (own_from history place session entry is own) ∙ left.mine))
  due base history place session (line ∷ rest) entry left is own = elim (same_number (spoken line).answer.place place) [
    | inl at ↦ record { line = line; rest = rest; is = refl; at = at }
    | inr apart ↦ absurd (too_many apart)
  ]
    where
      too_many : (spoken line).answer.place ≢ place → ⊥
      too_many apart =
          let order : suc place ≤ (spoken line).answer.place = omega (arith, left.answered.0) in
          let few = fits base history session (suc place) (statements_in (line ∷ rest)) (answers_in (line ∷ rest))
          (order, left.answered.1, left.answered.2) in
          let many = ap length (sym (own_from history place session entry is own) ∙ left.mine) in
          omega (arith, few, many)

  -- at the end of the history a session that is drained has no line left: none can enter any more, and drained means
  -- that none stands there without entering
  pub ended : (base : State) (history : List Entry) (place session : ℕ) (lines : List L)
      → Remains base history place session lines
      → Drained base history place session lines → place ≡ length history → lines ≡ []
  ended base history place session lines left drained end = grind (arith, enters_there, none-some, slice_get_past)
