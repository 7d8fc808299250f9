-- An unbounded store, as contracts see it.
--     own_view, other_view     its own session, of number 1;  the other client's, of number 2
use Rattle.std.{specs.Prelude.{◌≡◌, false, true, None, List, [], ◌∷◌, map}, proofs.Common.{ap, ◌∙◌}}
use Rattle.xa_words.specs.Entry.{Entry}
use Rattle.xa_xid.specs.declared.statement.Statement.{Statement}
use Rattle.decision_log.specs.{Known.LogIdentity, declared.known.Known.Known}
use Rattle.xa_server.specs.State.{State}
use Rattle.xa_session.specs.{Answer.IsAnswered, View.{SessionView, StaysOfLog}, declared.answer.Answer.Answer}
use Rattle.xa_coordinator.specs.{Beside.HoldsAsBefore, Watched.known_by, declared.store.LastingStore.LastingStore}

-- all entries of the store since it began
abbrev pub history_of : LastingStore → List Entry
history_of store = map (λ one. one.value) store.history.items

-- what stands for a log in a store that keeps none: no words, and room for none
abbrev pub no_log : LogIdentity
no_log = record {
  table = record { words = 0; slots = 0; views_name = 0; atom = 0; block = 0; offset = 0; slot_names = [] };
  sessions = 2;
  capacity = 0;
}

-- the store's own session as contracts see it, with the other client's as the one beside it
abbrev pub own_view : LastingStore → SessionView
own_view store = record {
  identity = no_log;
  turns = false;
  base = store.first.value;
  known = known_by 1 store.own (history_of store);
  beside = known_by 2 store.other (history_of store) ∷ [];
  left = None;
  starved = true;
}

-- the other client's session, with the store's own as the one that it holds
abbrev pub other_view : LastingStore → SessionView
other_view store = record {
  identity = no_log;
  turns = false;
  base = store.first.value;
  known = known_by 2 store.other (history_of store);
  beside = known_by 1 store.own (history_of store) ∷ [];
  left = None;
  starved = true;
}

-- the session stays of its store, the one that it holds knows what it knew, and the statement was answered
pub record IsAnsweredBeside (statement : Statement) (old new : SessionView) (answer : Answer) : Type 0 where
  pub stays : StaysOfLog old new
  pub answered : IsAnswered old.base statement answer old.known new.known

-- a session of no log that holds no other
abbrev alone_at : State → Known → SessionView
alone_at base known = record {
  identity = no_log;
  turns = false;
  base = base;
  known = known;
  beside = [];
  left = None;
  starved = true;
}

-- the other client's session by itself
abbrev pub other_alone : LastingStore → SessionView
other_alone store = alone_at store.first.value (known_by 2 store.other (history_of store))

-- equal lists of one element have equal elements
head_is : (known known' : Known) → known ∷ [] ≡ known' ∷ [] → known ≡ known'
head_is known known' is = cc

-- using its own session leaves the other client's as it was
pub other-steady : (old new : LastingStore) → HoldsAsBefore (own_view old) (own_view new)
    → other_alone new ≡ other_alone old
other-steady old new same =
    ap (λ base. alone_at base (known_by 2 new.other (history_of new))) same.base
    ∙ ap (alone_at old.first.value) (head_is _ _ same.beside)
