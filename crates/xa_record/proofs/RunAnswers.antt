-- What `run` writes for a line, and the lines of an order as one text.
use Rattle.std.proofs.Common.{◌≡◌, ℕ, Result, Ok, Err, List, [], ◌∷◌, ◌++◌, refl, ap, sym, ◌∙◌, subst}
use Rattle.xa_xid.specs.declared.statement.Statement.{Statement}
use Rattle.xa_server.specs.State.{State}
use Rattle.xa_statement.specs.Reading.{read_of}
use Rattle.xa_lines.specs.Script.{Line, Given, line_of}
use Rattle.xa_lines.specs.Transcript.{answer_of, state_after_line, answer_to as written_for, state_then}
use Rattle.xa_judge.specs.{declared.{request.Request.Request, moves.Move.Move}, Explained.next_state}
use Rattle.xa_record.specs.{Events.request_read, Reading.NumberedEvent}
use Rattle.xa_record.specs.VerdictText.{with_call, effect_text, order_text}
use Rattle.xa_record.specs.Replaying.{order_lines, joined, GivesRequest, AnswersSo}

-- what `run` writes for a statement that was read, or couldn't be, is the answer to that request
answered_by : (state : State) (session : ℕ) (read : Result Statement ℕ)
    → AnswersSo state session (request_read read) (written_for state session read)
answered_by state session (Ok statement) = refl
answered_by state session (Err place) = (place, refl)

-- what `run` writes for a session's text is the answer to the request that the text makes
answered_given : (state : State) (session : ℕ) (text : List ℕ)
    → AnswersSo state session (request_read (read_of text)) (answer_of state (Given session text))
unfolding answer_of
answered_given state session text = answered_by state session (read_of text)

-- each line of an order's script is answered by `run` as the request that it gives
pub line_answered : (state : State) (line : List ℕ) (session : ℕ) (request : Request)
    → GivesRequest line session request
    → AnswersSo state session request (answer_of state (line_of line))
line_answered state line session request gives =
    subst (λ (l : Line). AnswersSo state session request (answer_of state l)) (sym gives.given)
    (subst (λ (r : Request). AnswersSo state session r (answer_of state (Given session gives.text))) (sym gives.asks)
    (answered_given state session gives.text))

-- the state after a text, read or not, is the state after the request that it makes
then_by : (state : State) (session : ℕ) (read : Result Statement ℕ)
    → state_then state session read ≡ next_state state session (request_read read)
then_by state session (Ok statement) = refl
then_by state session (Err place) = refl

-- the state after a line that gives a text to a session is the state after that request
then_given : (state : State) (session : ℕ) (text : List ℕ)
    → state_after_line state (Given session text) ≡ next_state state session (request_read (read_of text))
unfolding state_after_line
then_given state session text = then_by state session (read_of text)

-- the state after a line of an order's script is the state after the request that it gives
pub line_followed : (state : State) (line : List ℕ) (session : ℕ) (request : Request)
    → GivesRequest line session request
    → state_after_line state (line_of line) ≡ next_state state session request
line_followed state line session request gives =
    ap (state_after_line state) gives.given ∙ then_given state session gives.text
    ∙ ap (next_state state session) (sym gives.asks)

-- the text of an order is its lines, each with a line feed
pub order_joined : (calls : List (List ℕ)) (numbered : List NumberedEvent) (moves : List Move)
    → order_text calls numbered moves ≡ joined (order_lines calls numbered moves)
unfolding order_text order_lines joined
order_joined calls numbered [] = refl
order_joined calls numbered (Move.Effect session act ∷ moves) =
    ap (λ (l : List ℕ). effect_text calls session act ++ l) (order_joined calls numbered moves)
order_joined calls [] (Move.Event ∷ moves) = order_joined calls [] moves
order_joined calls (one ∷ more) (Move.Event ∷ moves) = order_joined (with_call one.told calls) more moves
