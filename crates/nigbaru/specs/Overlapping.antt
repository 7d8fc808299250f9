-- How the runs of a race are written down as a record of overlapping calls.
-- Every rule here is the project's own: docs/PROOF.md#from-one-call-to-linearizability.
use Rattle.std.specs.Prelude.{◌≡◌, ℕ, zero, suc, ◌+◌, ◌<◌, true, Some, List, [], ◌∷◌, ◌++◌, length, map, slice_get}
use Rattle.xa_xid.specs.declared.statement.Statement.{Statement}
use Rattle.xa_server.specs.State.{State}
use Rattle.decision_log.specs.Known.{newcomer}
use Rattle.xa_session.specs.declared.answer.Answer.{Answer}
use Rattle.xa_store.specs.{Passes.known_of, declared.run.Run.Run}
use Rattle.xa_judge.specs.declared.{request.Request.Request, answer.Answer.TheVariants.Reply as Replied}
use Rattle.xa_judge.specs.{declared.event.{Seen.Seen, Event.Event}, Explained.{shows_answer, IsSession, Explained}}
use Rattle.xa_races.specs.LinesLeft.{with_lines}

-- a statement of a run, its answer in the race, and its return in the record, which shows the reply of that answer
pub record RunLine : Type 0 where
  pub statement : Statement
  pub answer : Answer
  pub seen : Seen
  pub shows : shows_answer seen (Replied answer.reply) ≡ true

-- at each session's number, its lines in order
abbrev pub Lines : Type 0
Lines = ℕ → List RunLine

-- the session's call for the first of these lines, as a list of one event; no event if there is no line
abbrev pub next_call : ℕ → List RunLine → List Event
next_call session [] = []
next_call session (line ∷ lines) = Event.Call session (Request.Statement line.statement) ∷ []

-- the calls of the sessions from this number down to 1 for their first lines; a session without a line makes none
unfoldable pub first_calls : ℕ → Lines → List Event
-- each session calls for its first line
first_calls zero lines = []
first_calls (suc count) lines = next_call (suc count) (lines (suc count)) ++ first_calls count lines

-- events after each session has called for its first line: some call returns and shows what its line has, its session
-- calls for the next line, if it has one, and so on until no line is left
pub data Overlap : Lines → List Event → Type 0 where
  over : {lines : Lines} → ((session : ℕ) → lines session ≡ []) → Overlap lines []
  returned : {lines : Lines} {session : ℕ} {line : RunLine} {rest : List RunLine} {events : List Event}
      → IsSession session → lines session ≡ line ∷ rest
      → Overlap (with_lines lines session rest) events
      → Overlap lines (Event.Return session line.seen ∷ (next_call session rest ++ events))

-- written down as overlapping calls of up to 16 sessions, in some order of the returns, the lines make a record that is
-- explained from this base
abbrev pub IsExplainedOverlap : State → Lines → Type 0
IsExplainedOverlap base lines =
    (events : List Event) × Overlap lines events × Explained base (first_calls 16 lines ++ events)

-- the runs are of the sessions 1, 2 and so on, which have seen nothing and done nothing before
abbrev pub AreFreshRuns : List Run → Type 0
AreFreshRuns runs = (place : ℕ) (run : Run) → slice_get runs place ≡ Some run → known_of run.pass ≡ newcomer (place + 1)

-- the lines of each session are the statements of its run, with these answers; a session without a run has
-- none
pub record AreLinesOf (runs : List Run) (answers : List (List Answer)) (lines : Lines) : Type 0 where
  pub none : lines 0 ≡ []
  pub past : (session : ℕ) → length runs < session → lines session ≡ []
  pub statements : (place : ℕ) (run : Run) → slice_get runs place ≡ Some run
      → map (λ line. line.statement) (lines (place + 1)) ≡ run.lines.items
  pub answered : (place : ℕ) (given : List Answer) → slice_get answers place ≡ Some given
      → map (λ line. line.answer) (lines (place + 1)) ≡ given
