-- At each stage a session without a call can be answered: the premises of the laws of runs can be met.
use Rattle.std.proofs.Common.{◌≡◌, ℕ, ◌+◌, ◌<◌, ◌≤◌, Bool, true, false, Some, None, List, [], ◌∷◌, ◌++◌, length, refl}
use Rattle.std.proofs.Common.{ap, sym, ◌∙◌, subst, arith}
use Rattle.xa_words.specs.Entry.{Entry}
use Rattle.xa_xid.specs.declared.statement.Statement.{Statement}
use Rattle.xa_server.specs.{State.State, Replies.reply_to, Step.enters}
use Rattle.decision_log.specs.{Machine.{Seen, Look, Add, Looks, Appends, IsState}, declared.known.Known.Known}
use Rattle.xa_session.specs.{Replay.state_after, declared.answer.Answer.Answer, Answer.{entry_of, IsAnswered}}
use Rattle.xa_session.specs.{Timed.{Call, Return, Log, Open, Stage, changed, known_at, Passes}, Met.answer_now}
use Rattle.xa_session.proofs.{Replaying.state_at-whole, Answering.{IsReply, answered_outside, answered_entered}}
use Rattle.xa_session.proofs.Moments.{known_by, changed_there, changed_other}

-- an answer is one by other counts of tries too
recounted : (base : State) (statement : Statement) (answer : Answer) (old : Known) (number : ℕ) (seen mine : List Entry)
    (looks tries since tries' since' : ℕ) → old.tries ≤ tries'
    → IsAnswered base statement answer old
    (record { number = number; seen = seen; mine = mine; looks = looks; tries = tries; since = since })
    → IsAnswered base statement answer old
    (record { number = number; seen = seen; mine = mine; looks = looks; tries = tries'; since = since' })
recounted base statement answer old number seen mine looks tries since tries' since' few is = record {
  advances =
      record {
        number = is.advances.number;
        seen = is.advances.seen;
        looks = is.advances.looks;
        tries = few;
      };
  looked = is.looked;
  not_before = is.not_before;
  at = is.at;
  entered = λ e. record { seen = (is.entered e).seen; mine = (is.entered e).mine };
  outside = λ e. record { whole = (is.outside e).whole; mine = (is.outside e).mine };
}

module _ (base : State) (stage : Stage) (n : ℕ) (statement : Statement) (state : IsState stage.machine)
    (none : stage.calls n ≡ None) where
  -- the history, what the session has of its own in it, and the server's state there
  abbrev history : List Entry
  history = stage.machine.history

  abbrev mine : List Entry
  mine = (stage.machine.knows n).mine

  abbrev here : State
  here = state_after base history

  abbrev answer : Answer
  answer = answer_now base history n statement

  abbrev call : Open
  call = record { statement = statement; old = known_at stage n }

  -- what the session knows after its look, and after its append
  abbrev whole : Seen
  whole = record { seen = history; mine = mine }

  abbrev entry : Entry
  entry = entry_of n statement

  abbrev longer : Seen
  longer = record { seen = history ++ entry ∷ []; mine = mine ++ entry ∷ [] }

  -- the stages after the call, after the look, after the append
  abbrev called_stage : Stage
  called_stage = record stage { calls = changed stage.calls n (Some call) }

  abbrev looked_stage : Stage
  looked_stage = record {
    machine = record
        { history = history; capacity = stage.machine.capacity; knows = changed stage.machine.knows n whole };
    looks = changed stage.looks n (stage.looks n + 1);
    calls = called_stage.calls;
  }

  abbrev added_stage : Stage
  added_stage = record {
    machine =
        record {
          history = history ++ entry ∷ [];
          capacity = stage.machine.capacity;
          knows = changed looked_stage.machine.knows n longer;
        };
    looks = looked_stage.looks;
    calls = looked_stage.calls;
  }

  -- after the look, and after the append, the session knows this
  knows_looked : known_at looked_stage n ≡ known_by n whole (stage.looks n + 1)
  knows_looked =
      ap (λ seen. known_by n seen (looked_stage.looks n)) (changed_there stage.machine.knows n whole)
      ∙ ap (known_by n whole) (changed_there stage.looks n (stage.looks n + 1))

  knows_added : known_at added_stage n ≡ known_by n longer (stage.looks n + 1)
  knows_added =
      ap (λ seen. known_by n seen (looked_stage.looks n)) (changed_there looked_stage.machine.knows n longer)
      ∙ ap (known_by n longer) (changed_there stage.looks n (stage.looks n + 1))

  -- the look and the append are events of the machine
  looks : Looks n called_stage.machine looked_stage.machine
  looks = record {
    history = refl;
    capacity = refl;
    seen = ap (λ (s : Seen). s.seen) (changed_there stage.machine.knows n whole);
    mine = ap (λ (s : Seen). s.mine) (changed_there stage.machine.knows n whole);
    others = λ other apart. changed_other stage.machine.knows n other whole apart;
  }

  adds : length history < stage.machine.capacity → Appends n entry looked_stage.machine added_stage.machine
  adds room = record {
    own = refl;
    whole = looks.seen;
    room = room;
    history = refl;
    capacity = refl;
    seen = ap (λ (s : Seen). s.seen) (changed_there looked_stage.machine.knows n longer)
        ∙ ap (λ list. list ++ entry ∷ []) (sym looks.seen);
    mine = ap (λ (s : Seen). s.mine) (changed_there looked_stage.machine.knows n longer)
        ∙ ap (λ list. list ++ entry ∷ []) (sym looks.mine);
    others = λ other apart. changed_other looked_stage.machine.knows n other longer apart;
  }

  -- the reply is the server's at the end of what is seen then
  replies : (entering : Bool) (since : ℕ) → enters here n statement ≡ entering
      → IsReply base statement answer entering
      (record { number = n; seen = history; mine = mine; looks = stage.looks n + 1; tries = 0; since = since })
  replies entering since is = record {
    place = refl;
    reply_is = ap (λ s. reply_to s n statement) (sym (state_at-whole base history));
    enters_is = sym is ∙ ap (λ s. enters s n statement) (sym (state_at-whole base history));
  }

  -- what is answered without an append
  outside_answered : enters here n statement ≡ false
      → IsAnswered base statement answer call.old (known_at looked_stage n)
  outside_answered out =
      subst (λ known. IsAnswered base statement answer call.old known) (sym knows_looked)
      (recounted base statement answer call.old n history mine (stage.looks n + 1) 0 1 0 0 (omega arith)
      (answered_outside base statement answer call.old
      (record { number = n; seen = history; mine = mine; looks = stage.looks n + 1; tries = 0; since = 1 })
      (record { number = refl; seen = state.seen n; mine = refl; looks = refl; tries = refl; since = refl })
      (replies false 1 out)))

  -- what is answered by an append
  entered_answered : enters here n statement ≡ true
      → IsAnswered base statement answer call.old (known_at added_stage n)
  entered_answered is_in =
      subst (λ known. IsAnswered base statement answer call.old known) (sym knows_added)
      (recounted base statement answer call.old n (history ++ entry ∷ []) (mine ++ entry ∷ []) (stage.looks n + 1) 1 0
      0 0 (omega arith)
      (answered_entered base statement answer call.old
      (record { number = n; seen = history; mine = mine; looks = stage.looks n + 1; tries = 0; since = 1 })
      (record {
        number = n;
        seen = history ++ entry ∷ [];
        mine = mine ++ entry ∷ [];
        looks = stage.looks n + 1;
        tries = 1;
        since = 0;
      })
      (record { number = refl; seen = state.seen n; mine = refl; looks = refl; tries = refl; since = refl })
      (replies true 1 is_in)
      (record { number = refl; seen = refl; mine = refl; looks = omega arith; tries = refl })))

  -- a statement that isn't logged now can be answered by a look
  pub outside_comes : enters here n statement ≡ false
      → (new : Stage) × Passes base (Call n statement ∷ Log (Look n) ∷ Return n answer ∷ []) stage new
  outside_comes out =
      let over : Stage = record looked_stage { calls = changed looked_stage.calls n None } in (
        over,
        (
          called_stage,
          (none, refl),
          (
            looked_stage,
            (looks, tt, refl, refl),
            (over, (call, changed_there stage.calls n (Some call), outside_answered out, refl), refl),
          ),
        ),
      )

  -- one that is can be answered by a look and an append, if there is room
  pub entered_comes : enters here n statement ≡ true → length history < stage.machine.capacity
      → (new : Stage)
      × Passes base (Call n statement ∷ Log (Look n) ∷ Log (Add n entry) ∷ Return n answer ∷ []) stage new
  entered_comes is_in room =
      let over : Stage = record added_stage { calls = changed added_stage.calls n None } in (
        over,
        (
          called_stage,
          (none, refl),
          (
            looked_stage,
            (looks, tt, refl, refl),
            (
              added_stage,
              (adds room, (call, changed_there stage.calls n (Some call), refl, looks.mine), refl, refl),
              (over, (call, changed_there stage.calls n (Some call), entered_answered is_in, refl), refl),
            ),
          ),
        ),
      )
