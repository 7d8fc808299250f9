-- What stands behind an answer is what is to stand there.
use Rattle.std.proofs.Common.{◌≡◌, ◌≢◌, ◌⊎◌, ◌++◌, ℕ, Bool, ◌||◌, ◌&&◌, List, [], true, false, not, Result, Ok, refl}
use Rattle.std.proofs.Common.{ap, sym, append-nil, inl, codes, decimal, arith}
use Rattle.std.specs.Prelude.{IfOk, OnOk, OnErr, MatchResult}
use Rattle.xa_xid.specs.declared.statement.Statement.{Statement}
use Rattle.xa_statement.specs.Reading.{read_of}
use Rattle.xa_server.specs.{State.State, Replies.{ok_if, refused_if, reply_to, table}}
use Rattle.xa_server.specs.declared.{association.Association.Association, xa_error.XaError.XaError, reply.Reply.Reply}
use Rattle.xa_server.specs.Step.{enters, is_list, is_recover, makes_record}
use Rattle.xa_lines.specs.Printed.{answer_text, reply_text, syntax_text}
use Rattle.xa_lines.specs.{Script.{Line, Blank, Bad, Given, line_of, is_comment_line}, Received.{Whole, TooLong}}
use Rattle.xa_lines.specs.Transcript.{answer_of, answer_to, state_after_line, state_then}
use Rattle.xa_lines.specs.{Statements.{IsAnswerTo, IsStatementAnswer, MayBeRefused, refused_text}, Listing.listing}
use Rattle.xa_lines.specs.Shown.{keys_asked, keys_of_read, listing_after, StandsBehind, IsAnswerShown, IsShown}
use Rattle.xa_lines.{specs.Shown.{comment_text, unshown_text}, proofs.Listed.key_listed}

-- what may answer a session's statement, as its text was read, may answer a session's line with that text
pub given_answer : (old new : State) (session : ℕ) (statement : List ℕ) (read : Result Statement ℕ) (text : List ℕ)
    → read_of statement ≡ read
    → IsStatementAnswer old session read text new → IsAnswerTo old (Given session statement) text new
unfolding answer_of state_after_line
given_answer old new session statement read text is also = grind (arith)

-- if the reply to a statement is told, and CONVERT XID makes no difference to it, that is the answer to the statement
pub reply_answers : (state : State) (session : ℕ) (statement : Statement) (reply : Reply) (told : List ℕ)
    → reply ≡ reply_to state session statement
    → ((convert : Bool) → told ≡ answer_text (decimal session) (reply_text convert reply))
    → told ≡ answer_to state session (Ok statement)
reply_answers state session statement reply told is words = grind (arith, decimal)

-- if memory may be refused for a statement, the text for a result answers it: after Ok its own answer, with the state
-- after it; after Err that memory was refused, with the old state
pub text_answered : {A E : Type 0} (items : A → List ℕ) (result : Result A E) (old new : State) (session : ℕ)
    (read : Result Statement ℕ) (text : List ℕ)
    → MayBeRefused old session read → IfOk result (λ answer. items answer ≡ answer_to old session read)
    → OnOk result (new ≡ state_then old session read) → OnErr result (new ≡ old)
    → MatchResult result (λ answer. text ≡ items answer) (λ _. text ≡ refused_text session)
    → IsStatementAnswer old session read text new
text_answered items result old new session read text may told then same given = grind (arith)

-- memory may be refused for an XA RECOVER
pub list_refused : (state : State) (session : ℕ) (statement : Statement) → is_recover statement ≡ true
    → MayBeRefused state session (Ok statement)
list_refused state session statement is = ap (λ b. b || (enters state session statement && makes_record statement)) is

-- a reply that is Ok or a refusal, by a test, is no list
ok_if-list : (b : Bool) (error : XaError) → is_list (ok_if b error) ≡ false
ok_if-list b error = grind (arith)

-- a reply that may become a refusal is no list if it was none
refused_if-list : (b : Bool) (error : XaError) (reply : Reply) → is_list reply ≡ false
    → is_list (refused_if b error reply) ≡ false
refused_if-list b error reply is = grind (arith)

-- the reply by the table is a list for XA RECOVER, and for nothing else
table-list : (state : State) (association : Association) (statement : Statement)
    → is_list (table state association statement) ≡ is_recover statement
unfolding table
table-list state association statement = grind (arith, not, ok_if-list, refused_if-list)

-- memory may be refused for a statement whose reply is a list
pub reply_answered : (state : State) (session : ℕ) (statement : Statement) (reply : Reply)
    → reply ≡ reply_to state session statement → is_list reply ≡ true
    → MayBeRefused state session (Ok statement)
unfolding reply_to
reply_answered state session statement reply is list = grind (arith, list_refused, table-list)

-- an answer with the right listing behind it is the answer that `show` promises
behind : (old : State) (line : Line) (answer text rest : List ℕ) (new : State)
    → IsAnswerTo old line answer new → rest ≡ listing_after old line new → StandsBehind rest answer text
    → IsAnswerShown old line text new
behind old line answer text rest new is same shown = grind (arith)

-- what is shown for a session's line is right if its answer is, and behind that stands the listing of the rows that the
-- line is about, or that memory was refused for it
pub given_shown : (old new : State) (session : ℕ) (statement : List ℕ) (read : Result Statement ℕ)
    (answer text : List ℕ) (keys : List (List ℕ))
    → read_of statement ≡ read → keys ≡ keys_of_read old session read
    → IsAnswerTo old (Given session statement) answer new → StandsBehind (listing new keys) answer text
    → IsAnswerShown old (Given session statement) text new
unfolding keys_asked listing_after
given_shown old new session statement read answer text keys is keys_are answered shown = grind (arith, behind)

-- what is shown for a session's line that is about rows is right if its answer is, and behind that stands that memory
-- was refused
pub given_unshown : (old new : State) (session : ℕ) (statement : List ℕ) (read : Result Statement ℕ)
    (answer text : List ℕ)
    → read_of statement ≡ read → keys_of_read old session read ≢ []
    → IsAnswerTo old (Given session statement) answer new → text ≡ answer ++ unshown_text
    → IsAnswerShown old (Given session statement) text new
unfolding keys_asked listing_after
given_unshown old new session statement read answer text is also answered refused = grind (arith, key_listed)

-- a blank line is answered with nothing
pub blank_shown : (state : State) (text : List ℕ) → text ≡ [] → IsAnswerShown state Blank text state
unfolding answer_of state_after_line listing_after
blank_shown state text none = record { answer = text; is = inl (none, refl); shown = inl (sym (append-nil text)) }

-- what is shown for a bad line is right if its answer is, and behind that stands the listing of branches and no rows,
-- or that memory was refused for it
pub bad_shown : (state : State) (answer text : List ℕ) (keys : List (List ℕ)) → keys ≡ []
    → answer ≡ answer_text (codes "-") (syntax_text 0)
    → StandsBehind (listing state keys) answer text → IsAnswerShown state Bad text state
unfolding answer_of state_after_line listing_after
bad_shown state answer text keys also is shown = grind (arith, behind)

-- a comment is shown right if it is repeated, or that memory is refused for it is said, and nothing changes
pub comment_shown : (old : State) (line text : List ℕ) (new : State) → true ≡ is_comment_line line
    → (text ≡ comment_text line) ⊎ (text ≡ unshown_text) → new ≡ old
    → IsShown old (Whole line) text new
unfolding IsShown
comment_shown old line text new is shown same = rw (sym is) (shown, same)

-- a line that is no comment is shown right if it is shown as what it says
pub line_shown : (old : State) (line text : List ℕ) (new : State) → false ≡ is_comment_line line
    → IsAnswerShown old (line_of line) text new
    → IsShown old (Whole line) text new
unfolding IsShown
line_shown old line text new is shown = rw (sym is) shown

-- a line that is too long is shown right if it is shown as a bad one
pub long_shown : (old : State) (text : List ℕ) (new : State) → IsAnswerShown old Bad text new
    → IsShown old TooLong text new
unfolding IsShown
long_shown old text new shown = shown
