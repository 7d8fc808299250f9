-- The answer that a session can get at a stage.
use Rattle.std.specs.Prelude.{ℕ, List, length}
use Rattle.xa_words.specs.Entry.{Entry}
use Rattle.xa_xid.specs.declared.statement.Statement.{Statement}
use Rattle.xa_server.specs.{State.State, Replies.reply_to}
use Rattle.xa_session.specs.{Replay.state_after, declared.answer.Answer.Answer}

-- the answer to a session's statement right after all entries of a history
abbrev pub answer_now : State → List Entry → ℕ → Statement → Answer
answer_now base history session statement =
    record { place = length history; reply = reply_to (state_after base history) session statement }
