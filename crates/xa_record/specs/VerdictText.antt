-- How the parts of a verdict are written. Every rule here is the project's own: docs/HISTORIES.md#verdicts.
use Rattle.std.specs.Prelude.{ℕ, true, Option, Some, None, Result, Ok, Err, List, [], ◌∷◌, ◌++◌, codes, decimal}
use Rattle.std.specs.{Prelude.{slice_get, slice_set, replicate}, BTreeSet.insert_key}
use Rattle.xa_xid.specs.{Xid.bytes_cmp, declared.statement.Statement.Statement}
use Rattle.xa_statement.specs.{Canonical.statement_text, Reading.read_of}
use Rattle.xa_lines.specs.Printed.{reply_text}
use Rattle.xa_judge.specs.declared.{answer.Answer.Answer, moves.{Act.Act, Move.Move}}
use Rattle.xa_record.specs.{Lines.{Told, Calls}, Reading.NumberedEvent}

-- the canonical form of a statement, or its text if it has none
abbrev pub canonical_text : Statement → List ℕ → List ℕ
canonical_text Statement.Unsupported text = text
canonical_text statement text = statement_text statement

-- the canonical form of the statement that a text was read as, if it has one; any other text as it is
abbrev pub text_read : Result Statement ℕ → List ℕ → List ℕ
text_read (Ok statement) text = canonical_text statement text
text_read (Err place) text = text

-- what is written for a text that a session called for
abbrev pub call_text : List ℕ → List ℕ
call_text text = text_read (read_of text) text

-- at each session's number, the text that it called for last, after this event
abbrev pub with_call : Told → List (List ℕ) → List (List ℕ)
with_call (Calls session text) calls = slice_set calls session text
with_call other calls = calls

-- what is written for a session's last call; nothing if it has called for nothing
abbrev pub text_of_call : Option (List ℕ) → List ℕ
text_of_call None = []
text_of_call (Some text) = call_text text

-- what is written for a session's act: what it called for last, or DISCONNECT
abbrev pub act_text : Act → Option (List ℕ) → List ℕ
act_text Act.Statement call = text_of_call call
act_text Act.Disconnect call = codes "DISCONNECT"

-- the line of an effect: the session, and the statement
abbrev pub effect_text : List (List ℕ) → ℕ → Act → List ℕ
effect_text calls session act = decimal session ++ codes " " ++ act_text act (slice_get calls session) ++ codes "\n"

-- the effects of an order, each on a line, if these events are still to happen, and the sessions called for these
-- texts last before them
unfoldable pub order_text : List (List ℕ) → List NumberedEvent → List Move → List ℕ
-- the effects of an order as a script
order_text calls numbered [] = []
order_text calls numbered (Move.Effect session act ∷ moves) =
    effect_text calls session act ++ order_text calls numbered moves
order_text calls [] (Move.Event ∷ moves) = order_text calls [] moves
order_text calls (numbered ∷ more) (Move.Event ∷ moves) = order_text (with_call numbered.told calls) more moves

-- at the beginning no session has called for a text; place 0 belongs to no session
abbrev pub no_calls : List (List ℕ)
no_calls = replicate 17 []

-- a reply as `run` prints it, with rows as CONVERT XID prints them; for a text that isn't a statement `ERROR 1064`
-- alone, without what `run` prints behind it
abbrev pub answer_text : Answer → List ℕ
answer_text (Answer.Reply reply) = reply_text true reply
answer_text Answer.Unread = codes "ERROR 1064"

-- these texts and those of answers, each once, ascending by their bytes
unfoldable pub with_answers : List (List ℕ) → List Answer → List (List ℕ)
with_answers texts [] = texts
with_answers texts (answer ∷ answers) = with_answers (insert_key bytes_cmp texts (answer_text answer)) answers

-- the texts of answers, each once, ascending by their bytes
abbrev pub texts_of : List Answer → List (List ℕ)
texts_of answers = with_answers [] answers

-- the COULD BE lines of an ILLEGAL verdict: one for each of these texts, in their order
unfoldable pub answers_text : List (List ℕ) → List ℕ
-- the COULD BE lines for these texts
answers_text [] = []
answers_text (text ∷ texts) = codes "COULD BE " ++ text ++ codes "\n" ++ answers_text texts

-- the number of an event's line; 0, which no line has, if there is no event
abbrev pub number_of_line : Option NumberedEvent → ℕ
number_of_line None = 0
number_of_line (Some numbered) = numbered.number

-- the number of the line that tells the event at this place; 0 if there is no event
abbrev pub line_number_at : List NumberedEvent → ℕ → ℕ
line_number_at numbered place = number_of_line (slice_get numbered place)

-- the first line of a verdict that names a line
abbrev pub line_text : List ℕ → ℕ → List ℕ
line_text word number = word ++ codes " line " ++ decimal number ++ codes "\n"
