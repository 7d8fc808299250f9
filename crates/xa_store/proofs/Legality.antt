-- Answers in order: one more of them, and in a longer history; a session on its way through its statements, and a
-- run that stops.
use Rattle.std.proofs.Common.{◌≡◌, ◌⊎◌, ℕ, Bool, true, false, cond, ◌+◌, ◌<◌, ◌≤◌, List, [], ◌∷◌, ◌++◌, length, take}
use Rattle.std.proofs.Common.{refl, ap, sym, ◌∙◌, subst, inl, inr, ⊎_elim, Some, arith, length-append, append-nil}
use Rattle.std.{proofs.lemmas.List.{length-take-le, append_assoc}, specs.Prelude.slice_get}
use Rattle.xa_xid.specs.declared.statement.Statement.{Statement}
use Rattle.xa_words.specs.Entry.{Entry}
use Rattle.xa_server.specs.{State.State, Replies.reply_to, Step.enters}
use Rattle.decision_log.specs.{declared.known.Known.Known, History.{Begins, entries_of}}
use Rattle.decision_log.proofs.Histories.{begins_itself, begins_through, length_begins, get_begins}
use Rattle.xa_session.specs.{Replay.{state_after, state_at}, Answer.{entry_of, AnswersAt, IsAnswered}}
use Rattle.xa_session.{specs.declared.answer.Answer.Answer, proofs.Replaying.state_at-begins}
use Rattle.xa_store.specs.{Gathered.IsTakenIn, Legal.{next_place, Answered, entered, IsLegal, LetsIn, Halts}}
use Rattle.xa_store.specs.{Legal.{IsReachedInRun, GoesNoFurther, Stops}, declared.race_fault.RaceFault.RaceFault}
use borrow.Author.Count.{below_more}

-- a test holds or fails
either_way : (b : Bool) → (b ≡ true) ⊎ (b ≡ false)
either_way true = inl refl
either_way false = inr refl

-- from which place of the history on the next answer may stand, after these statements and answers
unfoldable pub reached : State → List Entry → ℕ → ℕ → List Statement → List Answer → ℕ
reached base history session from [] answers = from
reached base history session from (statement ∷ statements) [] = from
reached base history session from (statement ∷ statements) (answer ∷ answers) =
    reached base history session (next_place base history session statement answer) statements answers

module _ (base : State) (history : List Entry) (session : ℕ) where
  -- if statements were answered in order, one more is, at a place that isn't before the one that they have reached
  pub answered_more : (from : ℕ) (statements : List Statement) (answers : List Answer) (statement : Statement)
      (answer : Answer)
      → Answered base history session from statements answers
      → reached base history session from statements answers ≤ answer.place
      → AnswersAt base history session statement answer.place answer.reply
      → Answered base history session from (statements ++ statement ∷ []) (answers ++ answer ∷ [])
  unfolding reached
  answered_more from [] [] statement answer before behind at = (behind, at, tt)
  answered_more from [] (a ∷ answers) statement answer before behind at = absurd before
  answered_more from (s ∷ statements) [] statement answer before behind at = absurd before
  answered_more from (s ∷ statements) (a ∷ answers) statement answer before behind at = (
    before.0,
    before.1,
    answered_more (next_place base history session s a) statements answers statement answer
        before.2 behind at,
  )

  -- with one more answer, the place that is reached is the next place after that answer
  pub reached_more : (from : ℕ) (statements : List Statement) (answers : List Answer) (statement : Statement)
      (answer : Answer)
      → Answered base history session from statements answers
      → reached base history session from (statements ++ statement ∷ []) (answers ++ answer ∷ [])
      ≡ next_place base history session statement answer
  unfolding reached
  reached_more from [] [] statement answer before = refl
  reached_more from [] (a ∷ answers) statement answer before = absurd before
  reached_more from (s ∷ statements) [] statement answer before = absurd before
  reached_more from (s ∷ statements) (a ∷ answers) statement answer before =
      reached_more (next_place base history session s a) statements answers statement answer before.2

  -- the entry of a statement, if it is logged at its answer's place; else nothing
  added : Statement → Answer → List Entry
  added statement answer =
      cond (enters (state_at base history answer.place) session statement) (entry_of session statement ∷ []) []

  -- an element that is put before a list or not may as well be put before the first of its two parts
  cond_front : (b : Bool) (x : Entry) (xs ys : List Entry)
      → cond b (x ∷ (xs ++ ys)) (xs ++ ys) ≡ cond b (x ∷ xs) xs ++ ys
  cond_front true x xs ys = refl
  cond_front false x xs ys = refl

  -- with one more answer, the statements that are logged are those before, and then this one if it is logged
  entered_more : (from : ℕ) (statements : List Statement) (answers : List Answer) (statement : Statement)
      (answer : Answer)
      → Answered base history session from statements answers
      → entered base history session (statements ++ statement ∷ []) (answers ++ answer ∷ [])
      ≡ entered base history session statements answers ++ added statement answer
  unfolding added
  entered_more from [] [] statement answer before = refl
  entered_more from [] (a ∷ answers) statement answer before = absurd before
  entered_more from (s ∷ statements) [] statement answer before = absurd before
  entered_more from (s ∷ statements) (a ∷ answers) statement answer before =
      let enters_there = enters (state_at base history a.place) session s in
      let old = entered base history session statements answers in
      let rest = entered_more (next_place base history session s a) statements answers statement answer before.2 in
      ap (λ list. cond enters_there (entry_of session s ∷ list) list) rest
      ∙ cond_front enters_there (entry_of session s) old (added statement answer)

-- in a longer history

module _ (base : State) (history longer : List Entry) (session : ℕ) (begins : Begins history longer) where
  -- an answer at a place of a history is one at that place of a longer history
  answers_longer : (statement : Statement) (answer : Answer)
      → AnswersAt base history session statement answer.place answer.reply
      → AnswersAt base longer session statement answer.place answer.reply
  answers_longer statement answer at =
      let same = state_at-begins base history longer answer.place begins at.within in
      record {
        within = omega (arith, length_begins history longer begins, at.within);
        reply_is = at.reply_is ∙ ap (λ s. reply_to s session statement) (sym same);
        next =
            λ entering. get_begins history longer answer.place (entry_of session statement) begins
            (at.next (ap (λ s. enters s session statement) (sym same) ∙ entering));
      }

  -- the next place after an answer is the same in a longer history
  next_longer : (statement : Statement) (answer : Answer)
      → AnswersAt base history session statement answer.place answer.reply
      → next_place base longer session statement answer ≡ next_place base history session statement answer
  next_longer statement answer at =
      ap (λ s. cond (enters s session statement) (answer.place + 1) answer.place)
      (state_at-begins base history longer answer.place begins at.within)

  -- statements that were answered in order in a history are so in a longer one
  pub answered_longer : (from : ℕ) (statements : List Statement) (answers : List Answer)
      → Answered base history session from statements answers
      → Answered base longer session from statements answers
  answered_longer from [] [] before = tt
  answered_longer from [] (a ∷ answers) before = absurd before
  answered_longer from (s ∷ statements) [] before = absurd before
  answered_longer from (s ∷ statements) (a ∷ answers) before = (
    before.0,
    answers_longer s a before.1,
    subst (λ n. Answered base longer session n statements answers) (sym (next_longer s a before.1))
        (answered_longer (next_place base history session s a) statements answers before.2),
  )

  -- the place that answers have reached is the same in a longer history
  pub reached_longer : (from : ℕ) (statements : List Statement) (answers : List Answer)
      → Answered base history session from statements answers
      → reached base longer session from statements answers ≡ reached base history session from statements answers
  unfolding reached
  reached_longer from [] [] before = refl
  reached_longer from [] (a ∷ answers) before = absurd before
  reached_longer from (s ∷ statements) [] before = absurd before
  reached_longer from (s ∷ statements) (a ∷ answers) before =
      ap (λ n. reached base longer session n statements answers) (next_longer s a before.1)
      ∙ reached_longer (next_place base history session s a) statements answers before.2

  -- the statements that are logged at the places of their answers are the same in a longer history
  pub entered_longer : (from : ℕ) (statements : List Statement) (answers : List Answer)
      → Answered base history session from statements answers
      → entered base longer session statements answers ≡ entered base history session statements answers
  entered_longer from [] [] before = refl
  entered_longer from [] (a ∷ answers) before = absurd before
  entered_longer from (s ∷ statements) [] before = absurd before
  entered_longer from (s ∷ statements) (a ∷ answers) before =
      let same = state_at-begins base history longer a.place begins before.1.within in
      let rest = entered_longer (next_place base history session s a) statements answers before.2 in
      ap (λ list. cond (enters (state_at base longer a.place) session s) (entry_of session s ∷ list) list) rest
      ∙ ap (λ t. cond (enters t session s) (entry_of session s ∷ entered base history session statements answers)
      (entered base history session statements answers)) same

-- one session's answers up to now: legal in what it has seen, and none stands behind that
pub record IsOnTheWay (base : State) (old now : Known) (statements : List Statement)
    (answers : List Answer) : Type 0 where
  pub number : now.number ≡ old.number
  pub legal : IsLegal base now.seen old statements answers
  pub within : reached base now.seen old.number (length old.seen) statements answers ≤ length now.seen

-- before its first statement a session is on its way, with no answer yet
pub sets_out : (base : State) (old : Known) → entries_of old.number old.seen ≡ old.mine → IsOnTheWay base old old [] []
unfolding reached
sets_out base old part = record {
  number = refl;
  legal = record { seen = begins_itself old.seen; answered = tt; mine = part ∙ sym (append-nil old.mine) };
  within = omega arith;
}

module _ (base : State) (old now new : Known) (statements : List Statement) (answers : List Answer)
    (statement : Statement) (answer : Answer) where
  -- if a session is on its way and one more statement is answered, the entries of its number in what it has seen are
  -- its old ones and then those of its statements that are logged, with the new one
  mine_more : entries_of now.number now.seen ≡ now.mine → entries_of new.number new.seen ≡ new.mine
      → IsOnTheWay base old now statements answers
      → IsAnswered base statement answer now new
      → entries_of old.number new.seen ≡ old.mine ++ entered base new.seen old.number (statements ++ statement ∷ [])
      (answers ++ answer ∷ [])
  unfolding added
  mine_more part part' way is =
      let begins = is.advances.seen in
      let number = way.number in
      let number' : new.number ≡ old.number = is.advances.number ∙ way.number in
      let legal = way.legal in
      let answered' = answered_longer base now.seen new.seen old.number begins
      (length old.seen) statements answers legal.answered in
      let more = entered_more base new.seen old.number (length old.seen) statements answers statement answer
      answered' in
      let same = entered_longer base now.seen new.seen old.number begins
      (length old.seen) statements answers legal.answered in
      let had : now.mine ≡ old.mine ++ entered base new.seen old.number statements answers =
      sym part ∙ ap (λ n. entries_of n now.seen) number ∙ legal.mine ∙ ap (λ list. old.mine ++ list) (sym same) in
      let Gets : List Entry → Type 0 = λ list. new.mine ≡ now.mine ++ list in
      let enters_there = enters (state_at base new.seen answer.place) now.number statement in
      let there : enters_there ≡ enters (state_at base new.seen answer.place) old.number statement =
      ap (λ n. enters (state_at base new.seen answer.place) n statement) number in
      let gets : Gets (added base new.seen old.number statement answer) =
      ⊎_elim
      (λ entering. subst (λ b. Gets (cond b (entry_of old.number statement ∷ []) [])) (sym entering ∙ there)
      ((is.entered entering).mine ∙ ap (λ n. now.mine ++ entry_of n statement ∷ []) number))
      (λ other. subst (λ b. Gets (cond b (entry_of old.number statement ∷ []) [])) (sym other ∙ there)
      ((is.outside other).mine ∙ sym (append-nil now.mine)))
      (either_way enters_there) in
      ap (λ n. entries_of n new.seen) (sym number') ∙ part' ∙ gets
      ∙ ap (λ list. list ++ added base new.seen old.number statement answer) had
      ∙ append_assoc old.mine (entered base new.seen old.number statements answers)
      (added base new.seen old.number statement answer)
      ∙ ap (λ list. old.mine ++ list) (sym more)

  -- an answer doesn't stand behind what is seen after it
  within_more : IsAnswered base statement answer now new → now.number ≡ old.number
      → next_place base new.seen old.number statement answer ≤ length new.seen
  within_more is number =
      let enters_there = enters (state_at base new.seen answer.place) now.number statement in
      let there : enters_there ≡ enters (state_at base new.seen answer.place) old.number statement =
      ap (λ n. enters (state_at base new.seen answer.place) n statement) number in
      ⊎_elim
      (λ entering. subst (λ b. cond b (answer.place + 1) answer.place ≤ length new.seen) (sym entering ∙ there)
      (let e = is.entered entering in
      omega (
        arith,
        ap length e.seen,
        length-append (take answer.place new.seen) (entry_of now.number statement ∷ []),
        length-take-le answer.place new.seen is.at.within,
      )))
      (λ other. subst (λ b. cond b (answer.place + 1) answer.place ≤ length new.seen) (sym other ∙ there) is.at.within)
      (either_way enters_there)

  -- if a session is on its way and one more statement is answered, it is on its way with that answer, too
  pub goes_on : entries_of now.number now.seen ≡ now.mine → entries_of new.number new.seen ≡ new.mine
      → IsOnTheWay base old now statements answers
      → IsAnswered base statement answer now new
      → IsOnTheWay base old new (statements ++ statement ∷ []) (answers ++ answer ∷ [])
  goes_on part part' way is =
      let begins = is.advances.seen in
      let legal = way.legal in
      let answered' = answered_longer base now.seen new.seen old.number begins
      (length old.seen) statements answers legal.answered in
      let reached' = reached_longer base now.seen new.seen old.number begins
      (length old.seen) statements answers legal.answered in
      record {
        number = is.advances.number ∙ way.number;
        legal = record {
          seen = begins_through old.seen now.seen new.seen legal.seen begins;
          answered =
              answered_more base new.seen old.number (length old.seen) statements answers statement answer answered'
              (omega (arith, reached', way.within, is.not_before))
              (subst (λ n. AnswersAt base new.seen n statement answer.place answer.reply) way.number is.at);
          mine = mine_more part part' way is;
        };
        within =
            subst (λ n. n ≤ length new.seen) (sym (reached_more base new.seen old.number
            (length old.seen) statements answers statement answer answered'))
            (within_more is way.number);
      }

-- what is legal in what the session has seen is so in every history that has all that it knows
pub legal_longer : (base : State) (history : List Entry) (old new : Known) (statements : List Statement)
    (answers : List Answer) → new.number ≡ old.number
    → entries_of new.number new.seen ≡ new.mine → IsTakenIn history new
    → IsLegal base new.seen old statements answers → IsLegal base history old statements answers
legal_longer base history old new statements answers number part taken legal = record {
  seen = begins_through old.seen new.seen history legal.seen taken.seen;
  answered = answered_longer base new.seen history old.number taken.seen
      (length old.seen) statements answers legal.answered;
  mine =
      ap (λ n. entries_of n history) (sym number) ∙ taken.mine ∙ sym part ∙ ap (λ n. entries_of n new.seen) number
      ∙ legal.mine
      ∙ ap (λ list. old.mine ++ list) (sym (entered_longer base new.seen history old.number taken.seen
      (length old.seen) statements answers legal.answered));
}

-- if the gate can have let the session in at its first `count` statements, and at the next one, it can have at one
-- more
pub lets_in_more : (gate : ℕ → ℕ → Bool → Type 0) (session count : ℕ) → LetsIn gate session count
    → gate session count true → LetsIn gate session (count + 1)
lets_in_more gate session count before here = below_more (λ line. gate session line true) count before here

-- a fault at one statement is a fault of the run
module _ (gate : ℕ → ℕ → Bool → Type 0) (base : State) (capacity : ℕ) (before now new : Known)
    (statements : List Statement) (answers : List Answer) (place : ℕ)
    (statement : Statement) where
  -- if the statements before this one were answered, and this one isn't, for this fault, the run goes no further
  pub no_further : (fault : RaceFault) → place < length statements → entries_of now.number now.seen ≡ now.mine
      → entries_of new.number new.seen ≡ new.mine
      → IsOnTheWay base before now (take place statements) answers
      → Halts gate base capacity statement place fault now new
      → GoesNoFurther base before statements fault new
  no_further (RaceFault.GateShut session line) below part part' way is =
      subst (λ known. IsReachedInRun base known.seen before statements session line) (sym is.2.same)
      (record {
        number = is.0 ∙ way.number;
        below = omega (arith, is.1);
        answers = answers;
        legal = subst (λ n. IsLegal base now.seen before (take n statements) answers) (sym is.1) way.legal;
      })
  no_further (RaceFault.Full session line) below part part' way is =
      let unanswered = is.2.unanswered in
      let taken : IsTakenIn new.seen now = record {
        seen = unanswered.advances.seen;
        mine = ap (λ n. entries_of n new.seen) (sym unanswered.advances.number) ∙ part' ∙ unanswered.mine;
      } in
      let legal = legal_longer base new.seen before now (take place statements) answers way.number part taken
      way.legal in
      record {
        number = is.0 ∙ way.number;
        below = omega (arith, is.1);
        answers = answers;
        legal = subst (λ n. IsLegal base new.seen before (take n statements) answers) (sym is.1) legal;
      }
  no_further RaceFault.NoMemory below part part' way is = tt
  no_further RaceFault.ThreadRefused below part part' way is = absurd is

  -- if the statements before this one were answered, and this one isn't, for this fault, the run stops with it
  pub stops : (fault : RaceFault) → place < length statements → slice_get statements place ≡ Some statement
      → entries_of now.number now.seen ≡ now.mine
      → entries_of new.number new.seen ≡ new.mine
      → IsOnTheWay base before now (take place statements) answers
      → Halts gate base capacity statement place fault now new
      → Stops gate base capacity before statements fault
  stops (RaceFault.GateShut session line) below given part part' way is =
      record {
        history = new.seen;
        reached = no_further (RaceFault.GateShut session line) below part part' way is;
        shut = is.2.shut;
      }
  stops (RaceFault.Full session line) below given part part' way is = record {
    history = new.seen;
    reached = no_further (RaceFault.Full session line) below part part' way is;
    statement = statement;
    given = ap (slice_get statements) is.1 ∙ given;
    enters = ap (λ n. enters (state_after base new.seen) n statement) is.0 ∙ is.2.enters;
    full = is.2.full;
  }
  stops RaceFault.NoMemory below given part part' way is = tt
  stops RaceFault.ThreadRefused below given part part' way is = absurd is
