-- How what callers see of a run is written down as a record for the judge.
-- Every rule here is the project's own: docs/PROOF.md#from-one-call-to-linearizability.
use Rattle.std.specs.{Prelude.{◌≡◌, true, List}, List.AllZip}
use Rattle.xa_session.specs.Linear.{Sight, Call, Return, Fail}
use Rattle.xa_judge.specs.{declared.request.Request.TheVariants.Statement as Given, Explained.{shows_answer, IsSession}}
use Rattle.xa_judge.specs.declared.{answer.Answer.TheVariants.Reply as Replied, event.{Seen.Seen, Event.Event}}

-- a call is written down with its statement, of a session from 1 to 16; a return by something that shows its reply; a
-- fault as an answer that isn't known
abbrev pub Shows : Sight → Event → Type 0
Shows (Call session statement) event = IsSession session × (event ≡ Event.Call session (Given statement))
Shows (Return session reply) event =
    (seen : Seen) × (event ≡ Event.Return session seen) × (shows_answer seen (Replied reply) ≡ true)
Shows (Fail session) event = event ≡ Event.Unknown session

-- the events of a record show what callers saw, one by one and in this order
abbrev pub IsRecordOf : List Sight → List Event → Type 0
IsRecordOf seen events = AllZip Shows seen events
