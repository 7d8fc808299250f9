-- What a session of an unbounded store knows of its history, and how a statement is served.
use Rattle.std.specs.Prelude.{◌≡◌, ◌≤◌, ◌+◌, ℕ, true, false, List, [], ◌∷◌, ◌++◌, length, take, slice_get, Some}
use Rattle.xa_words.specs.Entry.{Entry}
use Rattle.xa_xid.specs.declared.statement.Statement.{Statement}
use Rattle.xa_server.specs.{State.State, Replies.reply_to, Step.{enters, after}}
use Rattle.decision_log.specs.{History.entries_of, declared.known.Known.Known}
use Rattle.xa_session.specs.{Answer.entry_of, Replay.state_at, declared.answer.Answer.Answer}
use Rattle.xa_coordinator.specs.declared.watch.Watch.{Watch}

-- what the session has seen is as much of the history as `watch` says, and all its own entries are in `mine`; it has
-- tried once for each of these, and `since` counts all its looks
abbrev pub known_by : ℕ → Watch → List Entry → Known
known_by session watch history = record {
  number = session;
  seen = take watch.seen history;
  mine = entries_of session history;
  looks = watch.looks;
  tries = length (entries_of session history);
  since = watch.looks;
}

-- no more than the history was seen, and each entry of its own
pub record HasSeenOwn (session : ℕ) (watch : Watch) (history : List Entry) : Type 0 where
  pub within : watch.seen ≤ length history
  pub own : entries_of session (take watch.seen history) ≡ entries_of session history

-- each entry was logged at its place, and is of session 1 or 2
pub record AllEntered (base : State) (history : List Entry) : Type 0 where
  pub entered : (place : ℕ) (entry : Entry) → slice_get history place ≡ Some entry
      → enters (state_at base history place) entry.session entry.statement ≡ true
  pub two : (place : ℕ) (entry : Entry) → slice_get history place ≡ Some entry
      → (1 ≤ entry.session) × (entry.session ≤ 2)

-- the reply is the server's, at the end of the history; a statement that is logged is carried out and becomes
-- the next entry, else nothing changes; the session has looked, and has seen all
pub record Serves (session : ℕ) (statement : Statement) (answer : Answer) (old : State) (history : List Entry)
    (watch : Watch) (new : State)
    (history' : List Entry) (watch' : Watch) : Type 0 where
  pub place : answer.place ≡ length history
  pub reply_is : answer.reply ≡ reply_to old session statement
  pub entered : enters old session statement ≡ true → (history' ≡ history ++ entry_of session statement ∷ [])
      × (new ≡ after old session statement)
  pub outside : enters old session statement ≡ false → (history' ≡ history) × (new ≡ old)
  pub looked : watch'.looks ≡ watch.looks + 1
  pub whole : watch'.seen ≡ length history'
