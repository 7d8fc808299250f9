-- What lines were answered in a race, some order of them gives.
use Rattle.std.proofs.Common.{◌≡◌, ℕ, suc, ◌≤◌, List, [], ◌∷◌, ◌++◌, length, refl, ap, sym, ◌∙◌, arith}
use Rattle.std.specs.List.{concat}
use Rattle.xa_xid.specs.declared.statement.Statement.{Statement}
use Rattle.xa_words.specs.Entry.{Entry}
use Rattle.xa_server.specs.State.{State, no_state}
use Rattle.xa_session.specs.{Replay.{state_at, state_after}, declared.answer.Answer.Answer}
use Rattle.xa_session.proofs.Replaying.{state_after-nil, state_at-whole}
use Rattle.xa_store.specs.Legal.{Answered, next_place}
use Rattle.xa_orders.specs.{declared.outcome.Outcome.Outcome, Orders.{Told, Parts, Config, opening, IsSession, Gives}}
use Rattle.xa_orders.specs.Orders.{AtMost, Any, IsExplored, told_text, told_state}
use Rattle.xa_races.{specs.CountedRaced.{statements_of, IsRaced, HasCome}, proofs.Tests.all_at}
use Rattle.xa_races.proofs.{Histories.{Said, Remains, statements_in, answers_in}, Schedules.goes, Turns.{Lines, Stands}}
use Rattle.xa_races.proofs.Turns.{Goes, emits, all_filled, owed_by, said_of, opening_agrees, opening_left, all_empty}

-- what a line of a session says and is answered: the line itself, which is both
abbrev itself : Said → Said
itself said = said

-- a session has as many answers as statements
answered_long : (base : State) (history : List Entry) (session : ℕ) (statements : List Statement)
    (answers : List Answer) (from : ℕ)
    → Answered base history session from statements answers → length answers ≡ length statements
answered_long base history session [] [] from answered = refl
answered_long base history session [] (answer ∷ answers) from answered = absurd answered
answered_long base history session (statement ∷ statements) [] from answered = absurd answered
answered_long base history session (statement ∷ statements) (answer ∷ answers) from answered =
    ap suc (answered_long base history session statements answers
    (next_place base history session statement answer) answered.2)

-- lines made of statements and as many answers have these statements
said_statements : (statements : List Statement) (answers : List Answer) → length answers ≡ length statements
    → statements_in itself (said_of statements answers) ≡ statements
said_statements [] answers long = refl
said_statements (statement ∷ statements) [] long = absurd (omega arith)
said_statements (statement ∷ statements) (answer ∷ answers) long =
    ap (λ l. statement ∷ l) (said_statements statements answers (omega (arith, long)))

-- lines made of statements and as many answers have these answers
said_answers : (statements : List Statement) (answers : List Answer) → length answers ≡ length statements
    → answers_in itself (said_of statements answers) ≡ answers
said_answers [] [] long = refl
said_answers [] (answer ∷ answers) long = absurd (omega arith)
said_answers (statement ∷ statements) [] long = absurd (omega arith)
said_answers (statement ∷ statements) (answer ∷ answers) long =
    ap (λ l. answer ∷ l) (said_answers statements answers (omega (arith, long)))

-- lines raced from the state `base` to the state `new`, and `texts` was written for them
module _ (base : State) (lines : List Told) (texts : List (List ℕ)) (new : State)
    (raced : IsRaced base lines texts new) where
  -- each session has as many answers as statements
  long : (session : ℕ) → IsSession session → length (raced.answers session) ≡ length (statements_of session lines)
  long session is = grind (arith, answered_long)

  -- the statements of each session, each with its answer
  abbrev all_said : Lines
  all_said = λ session. said_of (statements_of session lines) (raced.answers session)

  -- each session's statements with their answers are what remains of it at the beginning of the race's history
  remain : (session : ℕ) → IsSession session → Remains itself base raced.history 0 session (all_said session)
  remain session is = grind (arith, answers_in, long, said_answers, said_statements, statements_in)

  -- before any turn no line has an answer, and each session has its statements with their answers left to say
  stands : Stands lines texts (state_after base raced.history) all_said (opening lines base)
  stands = grind (arith, long, opening_agrees, opening_left)

  abbrev end : State
  end = state_after base raced.history

  -- at the end of the history, when no session has a line left, this is the end: no more turn is needed
  done : (said : Lines) (config : Config) → Stands lines texts end said config
      → config.state ≡ state_at base raced.history (length raced.history)
      → ((session : ℕ) → IsSession session → said session ≡ []) → Goes lines texts end config
  done said config how state none =
      let filled = all_filled lines config.answers texts how.agrees raced.sessions
      (λ session is. how.left_is session is ∙ ap (owed_by session) (none session is)) in
      record {
        order = [];
        new = config;
        leads = refl;
        answers = filled.0;
        state = state ∙ state_at-whole base raced.history;
        count = sym filled.1;
      }

  -- turns of all lines lead to the texts and the state of the race
  pub raced_goes : Goes lines texts end (opening lines base)
  raced_goes =
      goes itself (λ (c : Config). c.state) (Stands lines texts end) (λ rest c. Goes lines texts end c) base
      raced.history (emits lines texts end) done (length raced.history) 0 (omega arith)
      (λ at entry found. all_at (λ (e : Entry). (1 ≤ e.session)
      × (e.session ≤ 16)) raced.history at entry raced.own found) all_said (opening lines base)
      (record { remain = remain; state = sym (state_after-nil base); stands = stands })

-- a text that came is given by some order of the lines: the law that a race shows no other outcome
pub came_given : (parts : Parts) (text : List ℕ) → HasCome parts text → (order : List ℕ) × Gives parts order text
came_given parts text came =
    let all = raced_goes (told_state no_state parts.before) parts.beside came.texts came.state came.raced in (
      all.order,
      record {
        config = all.new;
        whole = all.count ∙ all_empty parts.beside;
        leads = all.leads;
        text_is = came.text_is
            ∙ ap (λ (l : List (List ℕ)). told_text no_state parts.before ++ concat l
            ++ told_text came.state parts.later) (sym all.answers)
            ∙ ap (λ (s : State). told_text no_state parts.before ++ concat all.new.answers
            ++ told_text s parts.later) (came.raced.new_is ∙ sym all.state);
      },
    )

-- a text that came is that of an outcome that is explored
pub came_outcome : (parts : Parts) (outcomes : List Outcome) (text : List ℕ) → IsExplored parts outcomes
    → HasCome parts text
    → (order : List ℕ) × Any (λ one. (one.text.items ≡ text) × AtMost one.order.items order) outcomes
came_outcome parts outcomes text explored came =
    let given = came_given parts text came in
    (given.0, explored.all given.0 text given.1)
