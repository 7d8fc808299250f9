-- What a look, a reply and an add make of an answer or a fault, what tries one after another come to, and what an
-- answer says of its statement.
use Rattle.std.proofs.Common.{◌≡◌, ◌+◌, ℕ, Bool, true, false, List, [], ◌∷◌, ◌++◌, length, take, refl, ap, sym, ◌∙◌}
use Rattle.std.proofs.Common.{subst, ⊎_elim, inl, inr, Some, Ok, Err, arith, length-append}
use Rattle.std.specs.Prelude.{slice_get, ◌⊎◌, Result, OnOk, OnErr, not, ◌&&◌}
use Rattle.xa_words.specs.Entry.{Entry}
use Rattle.xa_xid.specs.declared.statement.Statement.{Statement, TheVariants.Disconnect}
use Rattle.xa_server.specs.{State.{State, association_of}, Replies.reply_to}
use Rattle.xa_server.specs.{Step.{enters, may_enter, is_refused, may_take_memory}, declared.reply.Reply.Reply}
use Rattle.decision_log.specs.{History.Begins, Calls.{Looked, IsAdded}, declared.known.Known.Known}
use Rattle.decision_log.proofs.Histories.{begins_itself, begins_append, begins_through, length_begins}
use Rattle.xa_session.specs.{Replay.state_at, Answer.{entry_of, Advances, IsAnswered, IsUnanswered, IsKept, Fails}}
use Rattle.xa_session.specs.declared.{answer.Answer.Answer, replica.Replica.Replica, fault.Fault.Fault}
use Rattle.xa_session.proofs.{Entering.disconnect_accepted, Replaying.state_at-begins}

-- the entry that was put behind a history stands at its end
pub slice_get-last : (xs : List Entry) (entry : Entry) → slice_get (xs ++ entry ∷ []) (length xs) ≡ Some entry
slice_get-last [] entry = refl
slice_get-last (x ∷ xs) entry = slice_get-last xs entry

-- the answer's place is the end of what is seen, its reply is the server's there, and `enters_there` is whether the
-- statement is logged there
pub record IsReply (base : State) (statement : Statement) (answer : Answer) (enters_there : Bool)
    (known : Known) : Type 0 where
  pub place : answer.place ≡ length known.seen
  pub reply_is : answer.reply ≡ reply_to (state_at base known.seen (length known.seen)) known.number statement
  pub enters_is : enters_there ≡ enters (state_at base known.seen (length known.seen)) known.number statement

-- if a server is the state after as many entries as are seen, then its reply to the pass's own session, with the end of
-- what is seen as its place, is as `IsReply` says
pub replied : (base : State) (statement : Statement) (answer : Answer) (entering : Bool) (known : Known)
    (server : State) (session replayed : ℕ)
    → answer.place ≡ length known.seen → server ≡ state_at base known.seen replayed → replayed ≡ length known.seen
    → session ≡ known.number
    → answer.reply ≡ reply_to server session statement → entering ≡ enters server session statement
    → IsReply base statement answer entering known
replied base statement answer entering known server session replayed place state whole number reply entered =
    let there : server ≡ state_at base known.seen (length known.seen) = state ∙ ap (state_at base known.seen) whole in
    record {
      place = place;
      reply_is = reply ∙ ap (λ s. reply_to s session statement) there
          ∙ ap (λ n. reply_to (state_at base known.seen (length known.seen)) n statement) number;
      enters_is = entered ∙ ap (λ s. enters s session statement) there
          ∙ ap (λ n. enters (state_at base known.seen (length known.seen)) n statement) number;
    }

-- a look advances what a session knows (`Advances`): it has seen no less
pub advances_looked : (old new : Known) → Looked old new → Advances old new
advances_looked old new looked =
    record { number = looked.number; seen = looked.seen; looks = omega arith; tries = omega arith }

-- if each of two steps advances what a session knows, both together do
pub advances_through : (old mid new : Known) → Advances old mid → Advances mid new → Advances old new
advances_through old mid new first second = record {
  number = second.number ∙ first.number;
  seen = begins_through old.seen mid.seen new.seen first.seen second.seen;
  looks = omega arith;
  tries = omega arith;
}

-- after a look, the server's reply at the end of what is seen answers a statement that isn't logged there
pub answered_outside : (base : State) (statement : Statement) (answer : Answer) (old new : Known) → Looked old new
    → IsReply base statement answer false new
    → IsAnswered base statement answer old new
answered_outside base statement answer old new looked is =
    let state : ℕ → State = state_at base new.seen in
    let number : new.number ≡ old.number = looked.number in
    let not_entering : enters (state answer.place) old.number statement ≡ false =
    ap (λ place. enters (state place) old.number statement) is.place
    ∙ ap (λ n. enters (state (length new.seen)) n statement) (sym number) ∙ sym is.enters_is in
    record {
      advances = advances_looked old new looked;
      looked = omega arith;
      not_before = omega (arith, length_begins old.seen new.seen looked.seen, is.place);
      at = record {
        within = omega (arith, is.place);
        reply_is =
            is.reply_is ∙ ap (λ n. reply_to (state (length new.seen)) n statement) number
            ∙ ap (λ place. reply_to (state place) old.number statement) (sym is.place);
        next = λ entering. absurd (cc (not_entering, entering));
      };
      entered = λ entering. absurd (cc (not_entering, entering));
      outside = λ _. record { whole = sym is.place; mine = looked.mine };
    }

-- if after a look the server's reply at the end of what is seen is to a statement that is logged there, and then its
-- entry is appended, the statement is answered
pub answered_entered : (base : State) (statement : Statement) (answer : Answer) (old mid new : Known) → Looked old mid
    → IsReply base statement answer true mid
    → IsAdded (entry_of mid.number statement) mid new → IsAnswered base statement answer old new
answered_entered base statement answer old mid new looked is added =
    let number : mid.number ≡ old.number = looked.number in
    let entry : Entry = entry_of old.number statement in
    let seen : new.seen ≡ mid.seen ++ entry ∷ [] = added.seen
    ∙ ap (λ n. mid.seen ++ entry_of n statement ∷ []) number in
    let mine : new.mine ≡ old.mine ++ entry ∷ [] =
    added.mine ∙ ap (λ n. mid.mine ++ entry_of n statement ∷ []) number ∙ ap (λ list. list ++ entry ∷ []) looked.mine in
    let begins : Begins mid.seen new.seen = subst (λ list. Begins mid.seen list) (sym seen)
    (begins_append mid.seen (entry ∷ [])) in
    let state : state_at base new.seen answer.place ≡ state_at base mid.seen (length mid.seen) =
    ap (state_at base new.seen) is.place ∙ state_at-begins base mid.seen new.seen (length mid.seen) begins
    (omega arith) in
    let entering : enters (state_at base new.seen answer.place) old.number statement ≡ true =
    ap (λ s. enters s old.number statement) state ∙ ap (λ n. enters
    (state_at base mid.seen (length mid.seen)) n statement) (sym number) ∙ sym is.enters_is in
    let longer : length new.seen ≡ length mid.seen + 1 = ap length seen ∙ length-append mid.seen (entry ∷ []) in
    record {
      advances = record {
        number = added.number ∙ number;
        seen = begins_through old.seen mid.seen new.seen looked.seen begins;
        looks = omega arith;
        tries = omega arith;
      };
      looked = omega arith;
      not_before = omega (arith, length_begins old.seen mid.seen looked.seen, is.place);
      at = record {
        within = omega (arith, is.place, longer);
        reply_is =
            is.reply_is ∙ ap (λ n. reply_to (state_at base mid.seen (length mid.seen)) n statement) number
            ∙ ap (λ s. reply_to s old.number statement) (sym state);
        next = λ _. ap (λ place. slice_get new.seen place) is.place ∙ ap (λ list. slice_get list (length mid.seen)) seen
            ∙ slice_get-last mid.seen entry;
      };
      entered = λ _. record {
        seen = seen ∙ ap (λ list. list ++ entry ∷ []) (sym (ap (λ place. take place new.seen) is.place ∙ begins));
        mine = mine;
      };
      outside = λ other. absurd (cc (entering, other));
    }

-- after an append the entry stands at the place `replayed`, if that is how many entries were seen before
pub next_added : (entry : Entry) (old new : Known) (replayed : ℕ) → IsAdded entry old new → replayed ≡ length old.seen
    → slice_get new.seen replayed ≡ Some entry
next_added entry old new replayed added whole =
    ap (slice_get new.seen) whole ∙ ap (λ list. slice_get list (length old.seen)) added.seen
    ∙ slice_get-last old.seen entry

-- a replica had replayed all that was seen before an append, and then was to replay the entry: if it did (`result` is
-- Ok), it has replayed all that is seen now; else what a failure says (M) holds
pub kept_by : {E M : Type 0} (result : Result (Unit {0}) E) (entry : Entry) (old new : Known) (replayed grown : ℕ)
    → IsAdded entry old new
    → replayed ≡ length old.seen
    → OnOk result (grown ≡ replayed + 1) → OnErr result M → (grown ≡ length new.seen) ⊎ M
kept_by (Ok _) entry old new replayed grown added whole next memory =
    let longer = ap length added.seen ∙ length-append old.seen (entry ∷ []) in inl (omega arith)
kept_by (Err _) entry old new replayed grown added whole next memory = inr memory

-- a server was the state after all that was seen, an entry was appended, and then the replica has replayed all that is
-- seen, or the statement may take memory at that server: then the answer is kept, as `IsKept` says
pub kept_entered : (base : State) (statement : Statement) (answer : Answer) (entry : Entry) (mid new : Known)
    (replica : Replica) (server : State)
    (session replayed : ℕ)
    → answer.place ≡ length mid.seen → server ≡ state_at base mid.seen replayed → replayed ≡ length mid.seen
    → session ≡ mid.number → IsAdded entry mid new
    → (replica.replayed ≡ length new.seen) ⊎ (may_take_memory server session statement ≡ true)
    → IsKept base statement answer replica new
kept_entered base statement answer entry mid new replica server session replayed place state whole number added kept =
    let begins : Begins mid.seen new.seen = subst (λ list. Begins mid.seen list) (sym added.seen)
    (begins_append mid.seen (entry ∷ [])) in
    let there : state_at base new.seen answer.place ≡ server =
    ap (state_at base new.seen) place ∙ state_at-begins base mid.seen new.seen (length mid.seen) begins (omega arith)
    ∙ ap (state_at base mid.seen) (sym whole)
    ∙ sym state in
    ⊎_elim (λ e. inl e) (λ m. inr
    (ap (λ s. may_take_memory s new.number statement) there
    ∙ ap (λ n. may_take_memory server n statement) (added.number ∙ sym number) ∙ m)) kept

-- a statement that isn't answered, for the cause of any fault, has appended nothing
pub fails_unanswered : (turns : Bool) (capacity : ℕ) (base : State) (statement : Statement) (fault : Fault)
    (old new : Known)
    → Fails turns capacity base statement fault old new → IsUnanswered old new
fails_unanswered turns capacity base statement (Fault.Overtaken front) old new fails = record {
  advances = record { number = fails.number; seen = fails.seen; looks = fails.looks; tries = omega arith };
  mine = fails.mine;
}
fails_unanswered turns capacity base statement Fault.Full old new fails = fails.unanswered
fails_unanswered turns capacity base statement Fault.NoMemory old new fails = fails
fails_unanswered turns capacity base statement Fault.Busy old new fails = fails.1

-- a session that knows what it knew has appended nothing
pub unanswered_itself : (known : Known) → IsUnanswered known known
unanswered_itself known =
    record {
      advances = record
          { number = refl; seen = begins_itself known.seen; looks = omega arith; tries = omega arith };
      mine = refl;
    }

-- if DISCONNECT was answered, it was answered Ok at that place
pub disconnected : (base : State) (answer : Answer) (old new : Known) → IsAnswered base Disconnect answer old new
    → IsAnswered base Disconnect (record { place = answer.place; reply = Reply.Ok }) old new
disconnected base answer old new is = record {
  advances = is.advances;
  looked = is.looked;
  not_before = is.not_before;
  at = record {
    within = is.at.within;
    reply_is = sym (disconnect_accepted (state_at base new.seen answer.place) old.number);
    next = is.at.next;
  };
  entered = is.entered;
  outside = is.outside;
}

-- if an answer's reply isn't a refusal, the server's reply at the answer's place isn't one
pub accepted_there : (base : State) (statement : Statement) (answer : Answer) (old new : Known)
    → IsAnswered base statement answer old new
    → is_refused answer.reply ≡ false →
    is_refused (reply_to (state_at base new.seen answer.place) old.number statement) ≡ false
accepted_there base statement answer old new is accepted = sym (ap is_refused is.at.reply_is) ∙ accepted

-- a statement whose answer is a refusal has appended nothing
pub refused_unanswered : (base : State) (statement : Statement) (answer : Answer) (old new : Known)
    → IsAnswered base statement answer old new
    → is_refused answer.reply ≡ true → IsUnanswered old new
unfolding enters
refused_unanswered base statement answer old new is refused =
    let there : is_refused (reply_to (state_at base new.seen answer.place) old.number statement) ≡ true =
    sym (ap is_refused is.at.reply_is) ∙ refused in
    record {
      advances = is.advances;
      mine =
          (is.outside (ap (λ b. not b && may_enter (state_at base new.seen answer.place)
          (association_of (state_at base new.seen answer.place) old.number) statement)
          there)).mine;
    }
