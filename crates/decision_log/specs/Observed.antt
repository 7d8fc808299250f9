-- What a pass learns from a step by which it sees the history.
-- Here `h` is a pass's view: what a seat of the log knows of that pass.
use Rattle.std.specs.Prelude.{◌≡◌, ◌≤◌, List, [], length}
use Rattle.xa_words.specs.Entry.{Entry}
use Rattle.decision_log.specs.{declared.view.{PassView.PassView, Turn.Turn}, History.{Begins, entries_of}, Known.AllOf}

-- what a pass learns of a history that it sees: it begins with all that the pass had seen, is no longer than the log
-- can have, each entry is of one of the log's sessions, and those of the pass's number are its own
pub record HistoryIs (h : PassView) (seen : List Entry) : Type 0 where
  pub begins : Begins h.known.seen seen
  pub room : length seen ≤ h.capacity
  pub all : AllOf h.sessions seen
  pub part : entries_of h.known.number seen ≡ h.known.mine

-- two passes, g and h, meet, and h has then seen `seen`: it begins with all that each of them had seen, and is what h
-- had seen if g had seen no more; in it the entries of each one's number are that one's own; it is no longer than the
-- log can have, and each entry is of one of the log's sessions
pub record MetAt (g h : PassView) (seen : List Entry) : Type 0 where
  pub begins : Begins h.known.seen seen
  pub whole : Begins g.known.seen seen
  pub of_first : entries_of g.known.number seen ≡ g.known.mine
  pub stays : length g.known.seen ≤ length h.known.seen → seen ≡ h.known.seen
  pub room : length seen ≤ h.capacity
  pub all : AllOf h.sessions seen
  pub part : entries_of h.known.number seen ≡ h.known.mine

-- a pass after it met another, and so has seen this history; it has no draft and no turn, and its counts stay
abbrev pub met : PassView → List Entry → PassView
met h seen = record {
  known = record {
    number = h.known.number;
    seen = seen;
    mine = h.known.mine;
    looks = h.known.looks;
    tries = h.known.tries;
    since = h.known.since;
  };
  sessions = h.sessions;
  capacity = h.capacity;
  draft = [];
  turn = Turn.Without;
}
