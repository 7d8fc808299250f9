-- The forms of a report. Every rule here is the project's own: docs/HISTORIES.md#verdicts.
use Rattle.std.specs.Prelude.{ℕ, Option, Some, None, List, [], ◌∷◌, ◌++◌, codes, decimal, encode_utf8_all}
use Rattle.json.specs.Json.{Json, string, number, array, object, Items, no_items, item, Members, no_members, member}
use Rattle.json.specs.{Print.print, Tree.json_tokens}
use Rattle.xa_lines.specs.Script.{lines_of}
use Rattle.xa_record.specs.{declared.form.Form.Form, VerdictText.{line_text, answers_text}, Exchanges.Exchange}
use Rattle.xa_record.specs.Reports.{Reason, Report, Faulty, Empty, Legal, Illegal, Undecided}

-- the lines of an order and those of a store, each after its heading; nothing if there is no reason
abbrev pub reason_text : Option Reason → List ℕ
reason_text None = []
reason_text (Some reason) = codes "ORDER BEFORE\n" ++ reason.order ++ codes "STATE\n" ++ reason.state

-- what was seen, and its call with the number of its line; nothing if neither is told
abbrev pub exchange_text : Option Exchange → List ℕ
exchange_text None = []
exchange_text (Some exchange) =
    codes "SEEN " ++ exchange.seen ++ codes "\nCALL line " ++ decimal exchange.line ++ codes " " ++ exchange.call
    ++ codes "\n"

-- the lines of a smaller record, after its heading; nothing if there is none
abbrev pub smaller_text : Option (List ℕ) → List ℕ
smaller_text None = []
smaller_text (Some written) = codes "RECORD\n" ++ written

-- a report as lines, which is the form without `--json`
abbrev pub plain_text : Report → List ℕ
plain_text (Faulty faults) = faults
plain_text Empty = codes "EMPTY\n"
plain_text (Legal order) = codes "LEGAL\n" ++ order
plain_text (Illegal line texts grounds) =
    line_text (codes "ILLEGAL") line ++ exchange_text grounds.exchange ++ answers_text texts
    ++ reason_text grounds.reason ++ smaller_text grounds.smaller
plain_text (Undecided line) = line_text (codes "UNDECIDED") line

-- a text as a JSON string: each byte becomes the character with its number, so a byte from 128 on takes two
-- bytes
abbrev pub text_value : List ℕ → Json
text_value text = string (encode_utf8_all text)

-- each text as a string, in order
abbrev pub values_of : List (List ℕ) → Items
values_of [] = no_items
values_of (text ∷ texts) = item (text_value text) (values_of texts)

-- texts as an array of strings
abbrev pub texts_value : List (List ℕ) → Json
texts_value texts = array (values_of texts)

-- the key of the verdict with this word, before other keys
abbrev pub with_verdict : List ℕ → Members → Members
with_verdict word members = member (codes "verdict") (string word) members

-- the key of the line's number
abbrev pub with_line : ℕ → Members → Members
with_line line members = member (codes "line") (number (decimal line)) members

-- the key of the possible answers
abbrev pub with_could_be : List (List ℕ) → Members → Members
with_could_be texts members = member (codes "could_be") (texts_value texts) members

-- the keys of what was seen, of its call, and of the number of the call's line
abbrev pub with_exchange : Option Exchange → Members → Members
with_exchange None members = members
with_exchange (Some exchange) members =
    member (codes "seen") (text_value exchange.seen) (member (codes "call") (text_value exchange.call)
    (member (codes "call_line") (number (decimal exchange.line)) members))

-- the key of an order, a string for each line
abbrev pub with_order : List ℕ → Members → Members
with_order order members = member (codes "order") (texts_value (lines_of order)) members

-- the key of a store, a string for each line of its listing
abbrev pub with_state : List ℕ → Members → Members
with_state state members = member (codes "state") (texts_value (lines_of state)) members

-- the key of faulty lines, a string for each
abbrev pub with_faulty : List ℕ → Members → Members
with_faulty faults members = member (codes "faulty") (texts_value (lines_of faults)) members

-- the key of a smaller record, a string for each of its lines
abbrev pub with_smaller : Option (List ℕ) → Members → Members
with_smaller None members = members
with_smaller (Some written) members = member (codes "record") (texts_value (lines_of written)) members

-- the keys of an ILLEGAL verdict's reason, if there is one: an order before the line, and the store then
abbrev pub with_reason : Option Reason → Members → Members
with_reason None members = members
with_reason (Some reason) members = with_order reason.order (with_state reason.state members)

-- the keys of a report, in this order; keys that don't apply are left out
abbrev pub report_members : Report → Members
report_members (Faulty faults) = with_verdict (codes "FAULTY") (with_faulty faults no_members)
report_members Empty = with_verdict (codes "EMPTY") no_members
report_members (Legal order) = with_verdict (codes "LEGAL") (with_order order no_members)
report_members (Illegal line texts grounds) =
    with_verdict (codes "ILLEGAL") (with_line line (with_exchange grounds.exchange (with_could_be texts
    (with_reason grounds.reason (with_smaller grounds.smaller no_members)))))
report_members (Undecided line) = with_verdict (codes "UNDECIDED") (with_line line no_members)

-- a report as an object of JSON
abbrev pub report_value : Report → Json
report_value report = object (report_members report)

-- the text of that object, without blanks between its parts, and a line feed
abbrev pub json_text : Report → List ℕ
json_text report = print (json_tokens (report_value report)) ++ codes "\n"

-- a report in the asked form
abbrev pub text_in : Form → Report → List ℕ
text_in Form.Plain report = plain_text report
text_in Form.Json report = json_text report
