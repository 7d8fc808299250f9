-- Sessions take turns at their lines, each of which is answered as it is to be in the end.
--     Owed, left     what a line says and is to be answered;  what a session's lines that weren't carried out say, and
--                    are to be answered
--     Next, next     what is so once a session's first line without an answer got one;  that line can get it
--     Lines, said_text, owed_by     what each session has left to say;  the printed answer of a line;  its lines, each
--                    with that answer
--     Stands, Goes   how things stand;  turns lead from there to the end
--     emits          a line of a session has its turn
--     all_empty, opening_agrees, opening_left     no line was carried out yet
use Rattle.std.proofs.Common.{◌≡◌, ◌≢◌, ◌⊎◌, ℕ, suc, ◌+◌, ◌<◌, ◌==◌, ◌&&◌, Bool, true, false, cond, Some, Result, Ok}
use Rattle.std.proofs.Common.{List, [], ◌∷◌, length, map, replicate, decimal, refl, ap, sym, ◌∙◌, subst, inl, inr}
use Rattle.std.{proofs.{Common.arith, lemmas.List.Elements.{All-head, All-tail}}, specs.Prelude.slice_set}
use Rattle.std.specs.List.{All, zip, position_or_len}
use Rattle.xa_xid.specs.declared.statement.Statement.{Statement}
use Rattle.xa_statement.specs.Reading.{read_of}
use Rattle.xa_server.specs.{State.State, declared.reply.Reply.Reply, Replies.reply_to, Step.after}
use Rattle.xa_session.specs.declared.answer.Answer.{Answer}
use Rattle.xa_lines.specs.{Script.is_empty_line, Printed.{reply_text, converts, answer_text}}
use Rattle.xa_lines.specs.Transcript.{answer_to, state_then}
use Rattle.xa_orders.specs.Orders.{Told, Config, is_left, text_at, carried_out, turn, IsSession, LeadsTo}
use Rattle.xa_races.specs.{CountedRaced.{IsReadLine, statements_of, printed, texts_of}, LinesLeft.with_lines}
use Rattle.xa_races.proofs.Tests.{same_number, same_test, apart_test, same_of_test, first_passes, first_fails}
use Rattle.xa_races.proofs.{Tests.{position_is, lines_own, lines_other}, Histories.Said}

-- each line has no answer yet (an empty text), or that of the end: what the lines have so far comes first, what they
-- have in the end behind it. Both have as many texts as there are lines
abbrev pub Agrees : List Told → List (List ℕ) → List (List ℕ) → Type 0
Agrees [] [] [] = Unit {0}
Agrees (told ∷ lines) (answer ∷ answers) (text ∷ texts) = ((answer ≡ []) ⊎ (answer ≡ text)) × Agrees lines answers texts
Agrees lines answers texts = ⊥

-- what a line says, and is to be answered
abbrev pub Owed : Type 0
Owed = Result Statement ℕ × List ℕ

-- the lines of a session that have no answer yet (an empty text), each with the answer that it is to get
abbrev pub left : ℕ → List Told → List (List ℕ) → List (List ℕ) → List Owed
left session (told ∷ lines) (answer ∷ answers) (text ∷ texts) =
    cond (is_left session (told, answer)) ((read_of told.text, text) ∷ left session lines answers texts)
    (left session lines answers texts)
left session lines answers texts = []

-- how many lines have no answer yet
abbrev pub empties : List (List ℕ) → ℕ
empties [] = 0
empties (answer ∷ answers) = cond (is_empty_line answer) (suc (empties answers)) (empties answers)

-- what is so after the session's first line without an answer, which says `read`, got this text: `rest` is what the
-- session has left then, and the other sessions have left what they had
pub record Next (session : ℕ) (lines : List Told) (answers texts : List (List ℕ)) (read : Result Statement ℕ)
    (text : List ℕ) (rest : List Owed) : Type 0 where
  pub place : ℕ
  pub below : place < length (zip lines answers)
  pub first : position_or_len (is_left session) (zip lines answers) ≡ place
  pub read_is : read_of (text_at lines place) ≡ read
  pub agrees : Agrees lines (slice_set answers place text) texts
  pub own : left session lines (slice_set answers place text) texts ≡ rest
  pub others : (other : ℕ) → other ≢ session → left other lines (slice_set answers place text) texts
      ≡ left other lines answers texts
  pub fewer : empties answers ≡ suc (empties (slice_set answers place text))

-- the first element, or this if there is none
abbrev head_or : {A : Type 0} → List A → A → A
head_or [] d = d
head_or (x ∷ xs) d = x

-- the elements after the first
abbrev tail_of : {A : Type 0} → List A → List A
tail_of [] = []
tail_of (x ∷ xs) = xs

-- equal lists of pairs have equal first pairs and equal rests
heads : {A B : Type 0} (x y : A) (a b : B) (xs ys : List (A × B)) → (x, a) ∷ xs ≡ (y, b) ∷ ys
    → (x ≡ y) × (a ≡ b) × (xs ≡ ys)
heads {A} {B} x y a b xs ys same = grind (arith)

-- if both of two tests hold, so does the first
and_first : (a b : Bool) → (a && b) ≡ true → a ≡ true
and_first a b both = grind (arith)

-- if both of two tests hold, so does the second
and_second : (a b : Bool) → (a && b) ≡ true → b ≡ true
and_second a b both = grind (arith)

-- two tests don't both hold if the second doesn't
and_false : (a : Bool) → (a && false) ≡ false
and_false a = grind (arith)

-- a session that isn't the line's has nothing left there
not_its : (session other : ℕ) (told : Told) (answer : List ℕ) → (told.session == session) ≡ true → other ≢ session
    → is_left other (told, answer) ≡ false
not_its session other told answer its apart = grind (arith, apart_test, same_of_test)

-- a line that has an answer isn't left
filled_not : (session : ℕ) (told : Told) (text : List ℕ) → is_empty_line text ≡ false
    → is_left session (told, text) ≡ false
filled_not session told text filled = grind (arith, and_false)

-- the first line that a session has left can be answered next; the other sessions' lines stay as they are
pub next : (session : ℕ) (lines : List Told) (answers texts : List (List ℕ)) (read : Result Statement ℕ) (text : List ℕ)
    (rest : List Owed)
    → is_empty_line text ≡ false → Agrees lines answers texts → left session lines answers texts ≡ (read, text) ∷ rest
    → Next session lines answers texts read text rest
next session [] [] [] read text rest filled agrees is = absurd cc
next session [] [] (x ∷ xs) read text rest filled agrees is = absurd agrees
next session [] (a ∷ answers) texts read text rest filled agrees is = absurd agrees
next session (told ∷ lines) [] texts read text rest filled agrees is = absurd agrees
next session (told ∷ lines) (answer ∷ answers) [] read text rest filled agrees is = absurd agrees
next session (told ∷ lines) (answer ∷ answers) (last ∷ texts) read text rest filled agrees is =
    by (λ owed. next session lines answers texts read text rest filled agrees.1 owed)
    (is_left session (told, answer)) refl
  where
    here : is_left session (told, answer) ≡ true → Next session (told ∷ lines) (answer ∷ answers)
        (last ∷ texts) read text rest
    here own_line =
        let parts : (read_of told.text ≡ read) × (last ≡ text) × (left session lines answers texts ≡ rest) =
        heads (read_of told.text) read last text (left session lines answers texts) rest
        (sym (ap (λ b. cond b ((read_of told.text, last) ∷ left session lines answers texts)
        (left session lines answers texts)) own_line) ∙ is) in
        let its : (told.session == session) ≡ true = and_first (told.session == session)
        (is_empty_line answer) own_line in
        let empty : is_empty_line answer ≡ true = and_second (told.session == session)
        (is_empty_line answer) own_line in
        record {
          place = 0;
          below = omega arith;
          first = first_passes (is_left session) (told, answer) (zip lines answers) own_line;
          read_is = parts.0;
          agrees = (inr (sym parts.1), agrees.1);
          own =
              ap (λ b. cond b ((read_of told.text, last) ∷ left session lines answers texts)
              (left session lines answers texts))
              (filled_not session told text filled) ∙ parts.2;
          others = λ other apart.
              ap (λ b. cond b ((read_of told.text, last) ∷ left other lines answers texts)
              (left other lines answers texts))
              (filled_not other told text filled ∙ sym (not_its session other told answer its apart));
          fewer =
              ap (λ b. cond b (suc (empties answers)) (empties answers)) empty
              ∙ ap (λ b. suc (cond b (suc (empties answers)) (empties answers))) (sym filled);
        }

    there : is_left session (told, answer) ≡ false → Next session lines answers texts read text rest
        → Next session (told ∷ lines) (answer ∷ answers) (last ∷ texts) read text rest
    there not_own later =
        let place : ℕ = later.place in
        let after' : List (List ℕ) = slice_set answers place text in
        record {
          place = suc place;
          below = omega (arith, later.below);
          first = first_fails (is_left session) (told, answer) (zip lines answers) not_own ∙ ap (λ n. 1 + n) later.first
              ∙ one_more place;
          read_is = later.read_is;
          agrees = (agrees.0, later.agrees);
          own = ap (λ b. cond b ((read_of told.text, last) ∷ left session lines after' texts)
              (left session lines after' texts)) not_own ∙ later.own;
          others = λ other apart.
              ap (λ l. cond (is_left other (told, answer)) ((read_of told.text, last) ∷ l) l)
              (later.others other apart);
          fewer = ap (λ n. cond (is_empty_line answer) (suc n) n) later.fewer
              ∙ suc_out (is_empty_line answer) (empties after');
        }
      where
        one_more : (n : ℕ) → 1 + n ≡ suc n
        one_more n = omega arith

        suc_out : (b : Bool) (n : ℕ) → cond b (suc (suc n)) (suc n) ≡ suc (cond b (suc n) n)
        suc_out true n = refl
        suc_out false n = refl

    by : (left session lines answers texts ≡ (read, text) ∷ rest → Next session lines answers texts read text rest)
        → (b : Bool)
        → is_left session (told, answer) ≡ b
        → Next session (told ∷ lines) (answer ∷ answers) (last ∷ texts) read text rest
    by later true own_line = here own_line
    by later false not_own = there not_own (later
        (sym (ap (λ b. cond b ((read_of told.text, last) ∷ left session lines answers texts)
        (left session lines answers texts)) not_own) ∙ is))

-- what each session has left to say
abbrev pub Lines : Type 0
Lines = ℕ → List Said

-- the printed answer of a session's line
abbrev pub said_text : ℕ → Said → List ℕ
said_text session said = answer_text (decimal session) (reply_text (converts said.statement) said.answer.reply)

-- the statements of a session's lines, each with the answer that it is to get
abbrev pub owed_by : ℕ → List Said → List Owed
owed_by session said = map (λ one. (Ok one.statement, said_text session one)) said

-- a printed answer isn't empty, so that an empty text can mark a line without one
said_filled : (session : ℕ) (said : Said) → is_empty_line (said_text session said) ≡ false
said_filled session said = ends (decimal session) (reply_text (converts said.statement) said.answer.reply)
  where
    ends : (who text : List ℕ) → is_empty_line (answer_text who text) ≡ false
    ends [] text = refl
    ends (byte ∷ who) text = refl

-- lines, what they are to be answered, and the state in the end
module _ (told : List Told) (texts : List (List ℕ)) (end : State) where
  -- what each session has left to say is what its lines that weren't carried out are to be answered
  pub record Stands (lines : Lines) (config : Config) : Type 0 where
    pub agrees : Agrees told config.answers texts
    pub left_is : (session : ℕ) → IsSession session → left session told config.answers texts
        ≡ owed_by session (lines session)

  -- turns lead from the configuration to these texts and to the state `end`, one for each line that has no answer yet
  pub record Goes (config : Config) : Type 0 where
    pub order : List ℕ
    pub new : Config
    pub leads : LeadsTo told config order new
    pub answers : new.answers ≡ texts
    pub state : new.state ≡ end
    pub count : length order ≡ empties config.answers

  -- a session whose first line without an answer is at this place has its turn there
  taken : (config : Config) (session place : ℕ) → position_or_len (is_left session) (zip told config.answers) ≡ place
      → place < length (zip told config.answers)
      → turn told config session ≡ Some (carried_out session (text_at told place) config place)
  unfolding turn
  taken config session place first below = grind (arith, position_is)

  -- if a session's next line gets the server's reply, turns lead from here to the end if they do so from where the
  -- line was carried out
  pub emits : (lines : Lines) (session : ℕ) (said : Said) (rest : List Said) (config : Config) → IsSession session
      → lines session ≡ said ∷ rest
      → Stands lines config → said.answer.reply ≡ reply_to config.state session said.statement
      → ((new : Config) → new.state ≡ after config.state session said.statement
      → Stands (with_lines lines session rest) new → Goes new) → Goes config
  emits lines session said rest config is own stands reply go =
      let text : List ℕ = said_text session said in
      let found : Next session told config.answers texts (Ok said.statement) text (owed_by session rest) =
      next session told config.answers texts (Ok said.statement) text (owed_by session rest)
      (said_filled session said) stands.agrees
      (stands.left_is session is ∙ ap (owed_by session) own) in
      let new : Config =
      record {
        state = after config.state session said.statement;
        answers = slice_set config.answers found.place text;
      } in
      let answered : answer_to config.state session (read_of (text_at told found.place)) ≡ text =
      ap (answer_to config.state session) found.read_is
      ∙ ap (λ (r : Reply). answer_text (decimal session) (reply_text (converts said.statement) r)) (sym reply) in
      let state : state_then config.state session (read_of (text_at told found.place))
      ≡ after config.state session said.statement =
      ap (state_then config.state session) found.read_is in
      let carried : carried_out session (text_at told found.place) config found.place ≡ new =
      ap (λ (s : State). record {
        state = s;
        answers = slice_set config.answers found.place
            (answer_to config.state session (read_of (text_at told found.place)));
      }) state
      ∙ ap (λ (a : List ℕ). record
      { state = after config.state session said.statement; answers = slice_set config.answers found.place a })
      answered in
      let next' : Goes new = go new refl (record {
        agrees = found.agrees;
        left_is = λ other it. elim (same_number other session) [
          | inl same ↦ subst (λ (n : ℕ). left n told new.answers texts ≡ owed_by n (with_lines lines session rest n))
              (sym same)
              (found.own ∙ ap (owed_by session) (sym (lines_own lines session rest)))
          | inr apart ↦ found.others other apart ∙ stands.left_is other it
              ∙ ap (owed_by other) (sym (lines_other lines session other rest apart))
        ];
      }) in
      record {
        order = session ∷ next'.order;
        new = next'.new;
        leads = (new, is, taken config session found.place found.first found.below ∙ ap Some carried, next'.leads);
        answers = next'.answers;
        state = next'.state;
        count = ap suc next'.count ∙ sym found.fewer;
      }

-- if no session has a line left, all lines were carried out
pub all_filled : (told : List Told) (answers texts : List (List ℕ)) → Agrees told answers texts
    → All (λ one. IsSession one.session) told
    → ((session : ℕ) → IsSession session → left session told answers texts ≡ [])
    → (answers ≡ texts) × (empties answers ≡ 0)
all_filled [] [] [] agrees sessions none = (refl, refl)
all_filled [] [] (x ∷ xs) agrees sessions none = absurd agrees
all_filled [] (a ∷ answers) texts agrees sessions none = absurd agrees
all_filled (told ∷ lines) [] texts agrees sessions none = absurd agrees
all_filled (told ∷ lines) (answer ∷ answers) [] agrees sessions none = absurd agrees
all_filled (told ∷ lines) (answer ∷ answers) (text ∷ texts) agrees sessions none =
    by (λ rest. all_filled lines answers texts agrees.1 (All-tail
    (λ (one : Told). IsSession one.session) told lines sessions) rest) (is_empty_line answer) refl
  where
    own : IsSession told.session
    own = All-head (λ (one : Told). IsSession one.session) told lines sessions

    is_text : is_empty_line answer ≡ false → ((answer ≡ []) ⊎ (answer ≡ text)) → answer ≡ text
    is_text filled (inl empty) = absurd (let wrong : true ≡ false = sym (ap is_empty_line empty) ∙ filled in cc)
    is_text filled (inr same) = same

    by : (((session : ℕ) → IsSession session → left session lines answers texts ≡ [])
        → (answers ≡ texts) × (empties answers ≡ 0)) → (b : Bool)
        → is_empty_line answer ≡ b
        → (answer ∷ answers ≡ text ∷ texts) × (empties (answer ∷ answers) ≡ 0)
    by later true empty =
        let open' : is_left told.session (told, answer) ≡ true =
        ap (λ b. b && is_empty_line answer) (same_test told.session) ∙ empty in
        let some : (read_of told.text, text) ∷ left told.session lines answers texts ≡ [] =
        sym (ap (λ b. cond b ((read_of told.text, text) ∷ left told.session lines answers texts)
        (left told.session lines answers texts)) open')
        ∙ none told.session own in
        absurd cc
    by later false filled =
        let rest : (answers ≡ texts) × (empties answers ≡ 0) =
        later (λ session is. sym (ap (λ b. cond b ((read_of told.text, text) ∷ left session lines answers texts)
        (left session lines answers texts))
        (filled_not session told answer filled)) ∙ none session is) in (
          ap (λ l. answer ∷ l) rest.0 ∙ ap (λ a. a ∷ texts) (is_text filled agrees.0),
          ap (λ b. cond b (suc (empties answers)) (empties answers)) filled ∙ rest.1,
        )

-- at the beginning no line has an answer
pub all_empty : (lines : List Told) → empties (replicate (length lines) []) ≡ length lines
all_empty [] = refl
all_empty (told ∷ lines) = ap suc (all_empty lines)

-- lines without an answer yet agree with the answers that they are to get
pub opening_agrees : (lines : List Told) (texts : List (List ℕ)) → length texts ≡ length lines
    → Agrees lines (replicate (length lines) []) texts
opening_agrees [] [] long = tt
opening_agrees [] (text ∷ texts) long = absurd (omega (arith, long))
opening_agrees (told ∷ lines) [] long = absurd (omega (arith, long))
opening_agrees (told ∷ lines) (text ∷ texts) long = (inl refl, opening_agrees lines texts (omega (arith, long)))

-- statements, each with its answer
abbrev pub said_of : List Statement → List Answer → List Said
said_of [] answers = []
said_of (statement ∷ statements) [] = []
said_of (statement ∷ statements) (answer ∷ answers) =
    record { statement = statement; answer = answer } ∷ said_of statements answers

-- a line of the session gives it its statement
given_own : (session : ℕ) (told : Told) (lines : List Told) (statement : Statement) → (told.session == session) ≡ true
    → read_of told.text ≡ Ok statement
    → statements_of session (told ∷ lines) ≡ statement ∷ statements_of session lines
unfolding statements_of
given_own session told lines statement its read = cc

-- a line of another session adds no statement to this session's
given_other : (session : ℕ) (told : Told) (lines : List Told) → (told.session == session) ≡ false
    → statements_of session (told ∷ lines) ≡ statements_of session lines
unfolding statements_of
given_other session told lines other = cc

-- without lines a session gives no statement
given_none : (session : ℕ) → statements_of session [] ≡ []
unfolding statements_of
given_none session = refl

-- before any line is carried out, a session has its own line left, with its answer, and then those behind it
left_own : (session : ℕ) (told : Told) (lines : List Told) (text : List ℕ) (texts : List (List ℕ))
    → (told.session == session) ≡ true
    → left session (told ∷ lines) (replicate (length (told ∷ lines)) []) (text ∷ texts)
    ≡ (read_of told.text, text) ∷ left session lines (replicate (length lines) []) texts
left_own session told lines text texts its = cc

-- before any line is carried out, a session has nothing left of another session's line, only of those behind it
left_other : (session : ℕ) (told : Told) (lines : List Told) (text : List ℕ) (texts : List (List ℕ))
    → (told.session == session) ≡ false
    → left session (told ∷ lines) (replicate (length (told ∷ lines)) []) (text ∷ texts)
    ≡ left session lines (replicate (length lines) []) texts
left_other session told lines text texts other = cc

-- before any of these lines is carried out, a session has all its statements of them left, each with its answer, if it
-- has as many answers, and its lines have these as their texts
abbrev OpensWith : ℕ → List Told → List (List ℕ) → List Answer → Type 0
OpensWith session lines texts answers = length answers ≡ length (statements_of session lines)
    → texts_of session lines texts ≡ printed session (statements_of session lines) answers
    → left session lines (replicate (length lines) []) texts
    ≡ owed_by session (said_of (statements_of session lines) answers)

-- so it is if each line is read and has a text
pub opening_left : (session : ℕ) (lines : List Told) (texts : List (List ℕ)) (answers : List Answer)
    → All IsReadLine lines → length texts ≡ length lines → length answers ≡ length (statements_of session lines)
    → texts_of session lines texts ≡ printed session (statements_of session lines) answers
    → left session lines (replicate (length lines) []) texts
    ≡ owed_by session (said_of (statements_of session lines) answers)
opening_left session [] texts answers read long enough is =
    ap (λ l. owed_by session (said_of l answers)) (sym (given_none session))
opening_left session (told ∷ lines) [] answers read long enough is = absurd (omega (arith, long))
opening_left session (told ∷ lines) (text ∷ texts) answers read long enough is =
    by (λ others equal texts_are. opening_left session lines texts others (All-tail IsReadLine told lines read)
    (omega (arith, long)) equal texts_are) (told.session == session) refl
  where
    of : IsReadLine told
    of = All-head IsReadLine told lines read

    own : ((others : List Answer) → OpensWith session lines texts others)
        → (given : List Answer) → length given ≡ suc (length (statements_of session lines))
        → text ∷ texts_of session lines texts ≡ printed session (of.0 ∷ statements_of session lines) given
        → (read_of told.text, text) ∷ left session lines (replicate (length lines) []) texts
        ≡ owed_by session (said_of (of.0 ∷ statements_of session lines) given)
    own rest [] equal same = absurd (omega (arith, equal))
    own rest (answer ∷ others) equal same =
        let text_is : text ≡ answer_text (decimal session) (reply_text (converts of.0) answer.reply) =
        ap (λ (l : List (List ℕ)). head_or l text) same in
        let texts_are : texts_of session lines texts ≡ printed session (statements_of session lines) others =
        ap (λ (l : List (List ℕ)). tail_of l) same in
        ap (λ r. (r, text) ∷ left session lines (replicate (length lines) []) texts) of.1
        ∙ ap (λ t. (Ok of.0, t) ∷ left session lines (replicate (length lines) []) texts) text_is
        ∙ ap (λ l. (Ok of.0, said_text session (record { statement = of.0; answer = answer })) ∷ l)
        (rest others (omega (arith, equal)) texts_are)

    by : ((others : List Answer) → OpensWith session lines texts others) → (b : Bool) → (told.session == session) ≡ b
        → left session (told ∷ lines) (replicate (length (told ∷ lines)) []) (text ∷ texts)
        ≡ owed_by session (said_of (statements_of session (told ∷ lines)) answers)
    by rest true its =
        let given : statements_of session (told ∷ lines) ≡ of.0 ∷ statements_of session lines =
        given_own session told lines of.0 its of.1 in
        left_own session told lines text texts its
        ∙ own rest answers (enough ∙ ap length given)
        (sym (ap (λ b. cond b (text ∷ texts_of session lines texts) (texts_of session lines texts)) its) ∙ is
        ∙ ap (λ l. printed session l answers) given)
        ∙ ap (λ l. owed_by session (said_of l answers)) (sym given)
    by rest false other =
        let given : statements_of session (told ∷ lines) ≡ statements_of session lines =
        given_other session told lines other in
        left_other session told lines text texts other
        ∙ rest answers (enough ∙ ap length given)
        (sym (ap (λ b. cond b (text ∷ texts_of session lines texts) (texts_of session lines texts)) other) ∙ is
        ∙ ap (λ l. printed session l answers) given)
        ∙ ap (λ l. owed_by session (said_of l answers)) (sym given)
