-- What is written for an ILLEGAL line: what was seen there, and its call.
-- Every rule here is the project's own: docs/HISTORIES.md#verdicts.
use Rattle.std.specs.Prelude.{ℕ, ◌==◌, Bool, true, false, if◌then◌else◌, Option, Some, None, List, [], ◌∷◌, ◌++◌, codes}
use Rattle.std.specs.Prelude.{decimal, take, slice_get}
use Rattle.xa_server.specs.declared.reply.Reply.TheVariants.{Value, Recovered}
use Rattle.xa_lines.specs.Printed.{reply_text}
use Rattle.xa_record.specs.Lines.{Shown, ShowsOk, ShowsValue, ShowsRows, ShowsError, Told, Calls, Returns}
use Rattle.xa_record.specs.{Reading.{NumberedEvent, session_of}, VerdictText.{call_text, number_of_line}}

-- what a return shows, as `run` prints a reply, with rows as CONVERT XID prints them; of a refusal only
-- `ERROR` and its number
abbrev pub shown_text : Shown → List ℕ
shown_text ShowsOk = codes "OK"
shown_text (ShowsValue value) = reply_text true (Value value)
shown_text (ShowsRows rows) = reply_text true (Recovered rows)
shown_text (ShowsError number) = codes "ERROR " ++ decimal number

-- a return with a known answer as a line of a record, in canonical form; empty for anything else
abbrev pub seen_line : Told → List ℕ
seen_line (Returns session shown) = decimal session ++ codes " < " ++ shown_text shown
seen_line told = []

-- whether this is a call by the session
abbrev pub is_call_by : ℕ → Told → Bool
is_call_by session (Calls other text) = other == session
is_call_by session told = false

-- the last call of the session in a list, or `found` if the list has none
unfoldable pub last_call : ℕ → Option NumberedEvent → List NumberedEvent → Option NumberedEvent
-- the last call of a session
last_call session found [] = found
last_call session found (one ∷ more) =
    last_call session (if is_call_by session one.told then Some one else found) more

-- a call as a line of a record, with its text as `call_text` has it; empty for anything else
abbrev pub call_line : Told → List ℕ
call_line (Calls session text) = decimal session ++ codes " > " ++ call_text text
call_line told = []

-- the line of a call that was found, or nothing if none was
abbrev pub line_of_call : Option NumberedEvent → List ℕ
line_of_call None = []
line_of_call (Some numbered) = call_line numbered.told

-- what was seen, and the number and the line of its call; without a call these are 0 and empty
pub record Exchange : Type 0 where
  pub seen : List ℕ
  pub line : ℕ
  pub call : List ℕ

-- what was seen, and this call, if there is one
abbrev pub exchange_with : Told → Option NumberedEvent → Exchange
exchange_with told call = record { seen = seen_line told; line = number_of_line call; call = line_of_call call }

-- nothing was seen
abbrev pub no_exchange : Exchange
no_exchange = record { seen = []; line = 0; call = [] }

-- what was seen, if an event is there, and the last call of its session among the events before it
abbrev pub exchange_after : List NumberedEvent → Option NumberedEvent → Exchange
exchange_after before None = no_exchange
exchange_after before (Some one) = exchange_with one.told (last_call (session_of one.told) None before)

-- what was seen at this place among the events, and the last call of its session before that; nothing if no event is
-- there
abbrev pub exchange_at : List NumberedEvent → ℕ → Exchange
exchange_at numbered place = exchange_after (take place numbered) (slice_get numbered place)

-- what was seen at this place, with its call, if that is asked for
abbrev pub exchange_sought : Bool → List NumberedEvent → ℕ → Option Exchange
exchange_sought true numbered place = Some (exchange_at numbered place)
exchange_sought false numbered place = None
