-- What is kept where later returns are known follows the moves of an order.
--     quiet_keeps, still_quiet_for     a quiet request changes nothing;  and stays quiet after other sessions' acts
--     Keeps, act_keeps                 an act keeps the lock law, and what other sessions have open
--     ahead_answered                   a call that is ahead in what is kept has any answer
--     Foresees, alike_acts             an act of a session
--     alike_settles, settles_one       a call takes effect at once in what is kept
use Rattle.std.proofs.Common.{◌≡◌, ◌≢◌, ◌⊎◌, ◌||◌, ℕ, Bool, true, false, Option, Some, None, List, set, refl, ap, sym}
use Rattle.std.proofs.Common.{◌∙◌, subst, inl, inr, zero, suc, length, replicate}
use Rattle.std.{proofs.lemmas.{Option.{none-some, same_Some}, Bool.false≢true}, specs.Prelude.slice_get}
use Rattle.xa_xid.specs.declared.statement.Statement.{Statement, TheVariants.{Get, Recover, Disconnect, End}}
use Rattle.xa_xid.specs.{declared.xid.Xid.Xid, Xid.same_xid}
use Rattle.xa_server.specs.declared.reply.Reply.{Reply, TheVariants.{Ok as Accepted, Value, Recovered, Refused}}
use Rattle.xa_server.specs.declared.{association.Association.Association, xa_error.XaError.TheVariants.{Nota, Rmfail}}
use Rattle.xa_server.specs.declared.association.Association.TheVariants.{Free, Active, Idle as IdleBranch}
use Rattle.xa_server.specs.declared.xa_error.BranchState.TheVariants.{NonExisting, Idle as StateIdle}
use Rattle.xa_server.specs.{State.{State, association_of}, Locks.LockLaw, Laws.LeavesSession}
use Rattle.xa_server.specs.{Step.{is_refused, after, effect, unless_refused}, Replies.{ok_if, table, reply_to}}
use Rattle.xa_server.proofs.{Changes.refused_leaves, Others.others_left, Keeping.law_after}
use Rattle.xa_judge.specs.declared.{request.Request.Request, answer.Answer.{Answer, TheVariants.Reply as Replied}}
use Rattle.xa_judge.specs.declared.{client_state.ClientState.ClientState, event.Seen.Seen, moves.Act.Act}
use Rattle.xa_judge.specs.declared.client_state.ClientState.TheVariants.{Idle, Called, Answered, Gone, Left}
use Rattle.xa_judge.specs.Explained.{Config, with_client, opening_config, effect_of, carried_out, disconnected}
use Rattle.xa_judge.specs.{Explained.{answer_to, next_state, shows_answer}, Foreseen.{Hint, fact_of, is_free}}
use Rattle.xa_judge.specs.Foreseen.{is_reading, refuses, is_still, hint_of, IsQuiet, IsQuietFor, IsAheadAt, IsAlikeAt}
use Rattle.xa_judge.specs.Foreseen.{AreAlike, IsDead, IsAllowed, CanSettle}
use Rattle.xa_judge.proofs.{Places.{same_number, get_written, get_apart}, Waits.acted, KeyStates.free_get}

-- ---- quiet requests

-- if a return of an error shows the reply to a statement, that reply is a refusal
error_refuses : (state : State) (session : ℕ) (statement : Statement) (numbers : _)
    → shows_answer (Seen.Error numbers) (Replied (reply_to state session statement)) ≡ true
    → is_refused (reply_to state session statement) ≡ true
error_refuses state session statement numbers = by (reply_to state session statement)
  where
    by : (reply : Reply) → shows_answer (Seen.Error numbers) (Replied reply) ≡ true → is_refused reply ≡ true
    by Accepted shown = absurd (false≢true shown)
    by (Value value) shown = absurd (false≢true shown)
    by (Recovered xids) shown = absurd (false≢true shown)
    by (Refused error) shown = refl

-- where a statement changes nothing the state is left as it was, refused or not
either_same : (reply : Reply) (state : State) → unless_refused reply state state ≡ state
either_same Accepted state = refl
either_same (Value value) state = refl
either_same (Recovered xids) state = refl
either_same (Refused error) state = refl

-- XA RECOVER leaves the state as it was
listing_keeps : (state : State) (session : ℕ) (convert : Bool) → after state session (Recover convert) ≡ state
unfolding after effect
listing_keeps state session convert = either_same (reply_to state session (Recover convert)) state

-- DISCONNECT of a session with nothing open leaves the state as it was
free_leaves : (state : State) (session : ℕ) → association_of state session ≡ Free
    → after state session Disconnect ≡ state
unfolding reply_to table effect after
free_leaves state session free =
    ap (λ a. unless_refused (table state a Disconnect) state (effect state session a Disconnect)) free

-- a quiet request leaves the state as it was
quiet_same : (state : State) (session : ℕ) (request : Request) → IsQuiet state session request
    → next_state state session request ≡ state
quiet_same state session (Request.Statement (Recover convert)) quiet = listing_keeps state session convert
quiet_same state session (Request.Statement (Get key)) quiet = (free_get state session key quiet).1
quiet_same state session (Request.Statement Disconnect) quiet = free_leaves state session quiet
quiet_same state session request quiet = absurd quiet

-- a request whose answer is shown by a return of an error leaves the state as it was
error_keeps : (state : State) (session : ℕ) (request : Request) (numbers : _)
    → shows_answer (Seen.Error numbers) (answer_to state session request) ≡ true
    → next_state state session request ≡ state
error_keeps state session (Request.Statement statement) numbers shown =
    refused_leaves state session statement (error_refuses state session statement numbers shown)
error_keeps state session Request.Unread numbers shown = refl

-- a request that is quiet for a return leaves the state as it was, if the return shows its answer
pub quiet_keeps : (state : State) (session : ℕ) (request : Request) (seen : Seen)
    → IsQuietFor state session request seen
    → shows_answer seen (answer_to state session request) ≡ true → next_state state session request ≡ state
quiet_keeps state session request (Seen.Error numbers) quiet shown = error_keeps state session request numbers shown
quiet_keeps state session request Seen.Ok quiet shown = quiet_same state session request quiet
quiet_keeps state session request (Seen.Value value) quiet shown = quiet_same state session request quiet
quiet_keeps state session request (Seen.Rows rows) quiet shown = quiet_same state session request quiet

-- a quiet request is still quiet in a state in which its session has open what it had (`LeavesSession`)
still_quiet : (old new : State) (session : ℕ) (request : Request) → LeavesSession old new session
    → IsQuiet old session request → IsQuiet new session request
still_quiet old new session (Request.Statement (Recover convert)) leaves quiet = quiet
still_quiet old new session (Request.Statement (Get key)) leaves quiet = leaves.association ∙ quiet
still_quiet old new session (Request.Statement Disconnect) leaves quiet = leaves.association ∙ quiet
still_quiet old new session request leaves quiet = absurd quiet

-- a request that is quiet for a return is still so in a state in which its session has open what it had
-- (`LeavesSession`)
pub still_quiet_for : (old new : State) (session : ℕ) (request : Request) (seen : Seen) → LeavesSession old new session
    → IsQuietFor old session request seen → IsQuietFor new session request seen
still_quiet_for old new session request (Seen.Error numbers) leaves quiet = quiet
still_quiet_for old new session request Seen.Ok leaves quiet = still_quiet old new session request leaves quiet
still_quiet_for old new session request (Seen.Value value) leaves quiet =
    still_quiet old new session request leaves quiet
still_quiet_for old new session request (Seen.Rows rows) leaves quiet = still_quiet old new session request leaves quiet

-- ---- the state after an act

-- in a state that stays as it is, what a session has open stays
leaves_same : (state : State) (session : ℕ) → LeavesSession state state session
leaves_same state session = record { own = refl; association = refl; phase = λ xid e. refl; branch = λ xid e. refl }

-- in the new state the lock law holds, and other sessions have open what they had in the old one
pub record Keeps (old new : State) (session : ℕ) : Type 0 where
  pub law : LockLaw new
  pub others : (other : ℕ) → session ≢ other → LeavesSession old new other

-- a request keeps the lock law, if it held, and leaves what other sessions have open (`Keeps`)
request_keeps : (state : State) (session : ℕ) (request : Request) → LockLaw state
    → Keeps state (next_state state session request) session
request_keeps state session (Request.Statement statement) law = record {
  law = law_after state session statement law;
  others = λ other apart. others_left state law session other statement apart;
}
request_keeps state session Request.Unread law = record { law = law; others = λ other apart. leaves_same state other }

-- an act of a session keeps the lock law, if it held, and leaves what other sessions have open (`Keeps`)
pub act_keeps : (old new : Config) (session : ℕ) (act : Act) → LockLaw old.state → effect_of old session act ≡ Some new
    → Keeps old.state new.state session
unfolding effect_of carried_out disconnected
act_keeps old new session Act.Statement law leads = by (slice_get old.clients session) leads
  where
    by : (c : Option ClientState) → carried_out c old session ≡ Some new → Keeps old.state new.state session
    by None e = absurd (none-some new e)
    by (Some Idle) e = absurd (none-some new e)
    by (Some (Called request)) e =
        subst (λ (c : Config). Keeps old.state c.state session) (same_Some _ new e)
        (request_keeps old.state session request law)
    by (Some (Answered answer)) e = absurd (none-some new e)
    by (Some (Gone None)) e = absurd (none-some new e)
    by (Some (Gone (Some request))) e =
        subst (λ (c : Config). Keeps old.state c.state session) (same_Some _ new e)
        (request_keeps old.state session request law)
    by (Some Left) e = absurd (none-some new e)
act_keeps old new session Act.Disconnect law leads = by (slice_get old.clients session) leads
  where
    by : (c : Option ClientState) → disconnected c old session ≡ Some new → Keeps old.state new.state session
    by None e = absurd (none-some new e)
    by (Some Idle) e = absurd (none-some new e)
    by (Some (Called request)) e = absurd (none-some new e)
    by (Some (Answered answer)) e = absurd (none-some new e)
    by (Some (Gone request)) e =
        subst (λ (c : Config). Keeps old.state c.state session) (same_Some _ new e)
        (request_keeps old.state session (Request.Statement Disconnect) law)
    by (Some Left) e = absurd (none-some new e)

-- ---- acts

-- a session that stands alike in the order and in what is kept (`IsAlikeAt`) still does in a state in which it has
-- open what it had
alike_still : (hint : Hint) (old new : State) (session : ℕ) (one other : Option ClientState)
    → LeavesSession old new session → IsAlikeAt hint old session one other → IsAlikeAt hint new session one other
alike_still hint old new session one other leaves (inl same) = inl same
alike_still hint old new session one other leaves (inr (inr behind)) = inr (inr behind)
alike_still hint old new session one other leaves (inr (inl ahead)) = inr (inl (record {
  seen = ahead.seen;
  hinted = ahead.hinted;
  answer = ahead.answer;
  kept = ahead.kept;
  shown = ahead.shown;
  way = elim ahead.way [
    | inl called ↦ inl (
      called.0,
      called.1,
      still_quiet_for old new session called.0 ahead.seen leaves called.2,
    )
    | inr given ↦ inr given
  ];
}))

-- after an order's act: what is kept stays; or the same act is allowed there and leads to what is kept; or the order
-- can't go on past a return
abbrev pub Foresees : List Hint → Config → ℕ → Act → Config → Type 0
Foresees hints kept session act next =
    AreAlike hints next kept
    ⊎ (((new : Config) × (effect_of kept session act ≡ Some new) × IsAllowed hints kept session
    × AreAlike hints next new)
    ⊎ IsDead hints next)

-- where a session's client is the same in the order and in what is kept, its act leads to what is alike again in both
pub both_act : (hints : List Hint) (run kept next : Config) (session : ℕ) (act : Act) → AreAlike hints run kept
    → effect_of run session act ≡ Some next → slice_get run.clients session ≡ slice_get kept.clients session
    → (new : Config) × (effect_of kept session act ≡ Some new) × AreAlike hints next new
both_act hints run kept next session act are leads same =
    let a = acted run next session act leads in
    let keeps = act_keeps run next session act are.law leads in
    let there : slice_get kept.clients session ≡ Some a.before = sym same ∙ a.found in (
      record { state = a.state; clients = set kept.clients session a.next },
      a.again kept there are.state,
      record {
        state = sym (ap (λ (c : Config). c.state) a.is);
        law = keeps.law;
        clients = λ at. subst (λ l. IsAlikeAt (fact_of hints at) next.state at (slice_get l at)
            (slice_get (set kept.clients session a.next) at)) (sym (ap (λ (c : Config). c.clients) a.is))
            (elim (same_number session at) [
              | inl e ↦ inl (subst (λ n. slice_get (set run.clients session a.next) n
                  ≡ slice_get (set kept.clients session a.next) n) e
                  (get_written run.clients session a.before a.next a.found
                  ∙ sym (get_written kept.clients session a.before a.next there)))
              | inr apart ↦ subst (λ o. IsAlikeAt (fact_of hints at) next.state at o
                  (slice_get (set kept.clients session a.next) at))
                  (sym (get_apart run.clients session at a.next apart))
                  (subst (λ o. IsAlikeAt (fact_of hints at) next.state at (slice_get run.clients at) o)
                  (sym (get_apart kept.clients session at a.next apart))
                  (alike_still (fact_of hints at) run.state next.state at (slice_get run.clients at)
                  (slice_get kept.clients at) (keeps.others at apart) (are.clients at)))
            ]);
      },
    )

-- where a session is ahead in what is kept (`IsAheadAt`) and its call is still open in the order, what is kept also
-- stands for the order once the call has any answer there
pub ahead_answered : (hints : List Hint) (run kept : Config) (session : ℕ) (request : Request) (given : Answer)
    → AreAlike hints run kept
    → IsAheadAt (hint_of hints session) run.state session (slice_get run.clients session)
    (slice_get kept.clients session)
    → slice_get run.clients session ≡ Some (Called request)
    → AreAlike hints (with_client run session (Answered given)) kept
ahead_answered hints run kept session request given are ahead at = record {
  state = are.state;
  law = are.law;
  clients = λ other. elim (same_number session other) [
    | inl e ↦ subst (λ n. IsAlikeAt (fact_of hints n) run.state n
        (slice_get (set run.clients session (Answered given)) n) (slice_get kept.clients n)) e (inr (inl (record {
          seen = ahead.seen;
          hinted = ahead.hinted;
          answer = ahead.answer;
          kept = ahead.kept;
          shown = ahead.shown;
          way = inr (given, get_written run.clients session (Called request) (Answered given) at);
        })))
    | inr apart ↦ subst (λ o. IsAlikeAt (fact_of hints other) run.state other o (slice_get kept.clients other))
        (sym (get_apart run.clients session other (Answered given) apart)) (are.clients other)
  ];
}

-- where a session is ahead in what is kept (`IsAheadAt`), after its act what is kept stays as it is, or the call was
-- answered otherwise than it returns (`IsDead`)
ahead_act : (hints : List Hint) (run kept next : Config) (session : ℕ) (act : Act) → AreAlike hints run kept
    → effect_of run session act ≡ Some next
    → IsAheadAt (hint_of hints session) run.state session (slice_get run.clients session)
    (slice_get kept.clients session)
    → AreAlike hints next kept ⊎ IsDead hints next
unfolding effect_of carried_out disconnected
ahead_act hints run kept next session act are leads ahead = elim ahead.way [
  | inl called ↦ by act called.0 called.1 called.2 leads
  | inr given ↦ absurd (answered act given.0 given.1 leads)
]
  where
    answered : (a : Act) (answer : Answer) → slice_get run.clients session ≡ Some (Answered answer)
        → effect_of run session a ≡ Some next → ⊥
    answered Act.Statement answer at e = none-some next (sym (ap (λ o. carried_out o run session) at) ∙ e)
    answered Act.Disconnect answer at e = none-some next (sym (ap (λ o. disconnected o run session) at) ∙ e)

    done : (request : Request) (b : Bool) → slice_get run.clients session ≡ Some (Called request)
        → IsQuietFor run.state session request ahead.seen
        → shows_answer ahead.seen (answer_to run.state session request) ≡ b
        → record {
          state = next_state run.state session request;
          clients = set run.clients session (Answered (answer_to run.state session request));
        } ≡ next
        → AreAlike hints next kept ⊎ IsDead hints next
    done request false at quiet shown is = inr (subst (IsDead hints) is (record {
      session = session;
      seen = ahead.seen;
      hinted = ahead.hinted;
      answer = answer_to run.state session request;
      at = get_written run.clients session (Called request) (Answered (answer_to run.state session request)) at;
      hidden = shown;
    }))
    done request true at quiet shown is =
        let same = quiet_keeps run.state session request ahead.seen quiet shown in
        let make : State → Config = λ s. record {
          state = s;
          clients = set run.clients session (Answered (answer_to run.state session request));
        } in
        inl (subst (λ c. AreAlike hints c kept) (ap make (sym same) ∙ is)
        (ahead_answered hints run kept session request (answer_to run.state session request) are ahead at))

    by : (a : Act) (request : Request) → slice_get run.clients session ≡ Some (Called request)
        → IsQuietFor run.state session request ahead.seen → effect_of run session a ≡ Some next
        → AreAlike hints next kept ⊎ IsDead hints next
    by Act.Statement request at quiet e =
        done request (shows_answer ahead.seen (answer_to run.state session request)) at quiet refl
        (same_Some _ next (sym (ap (λ o. carried_out o run session) at) ∙ e))
    by Act.Disconnect request at quiet e =
        absurd (none-some next (sym (ap (λ o. disconnected o run session) at) ∙ e))

-- an order in which an act answers a call otherwise than it is known to return can't go on past that return
-- (`IsDead`)
dead_act : (hints : List Hint) (run next : Config) (session : ℕ) (act : Act) (request : Request) (seen : Seen)
    → hint_of hints session ≡ Some seen → slice_get run.clients session ≡ Some (Called request)
    → shows_answer seen (answer_to run.state session request) ≡ false
    → effect_of run session act ≡ Some next → IsDead hints next
unfolding effect_of carried_out disconnected
dead_act hints run next session Act.Statement request seen hinted at hidden leads =
    let is = same_Some _ next (sym (ap (λ o. carried_out o run session) at) ∙ leads) in
    subst (IsDead hints) is (record {
      session = session;
      seen = seen;
      hinted = hinted;
      answer = answer_to run.state session request;
      at = get_written run.clients session (Called request) (Answered (answer_to run.state session request)) at;
      hidden = hidden;
    })
dead_act hints run next session Act.Disconnect request seen hinted at hidden leads =
    absurd (none-some next (sym (ap (λ o. disconnected o run session) at) ∙ leads))

-- the session's call in what is kept isn't heard of any more, and would change nothing
record Waits (hints : List Hint) (kept : Config) (session : ℕ) : Type 0 where
  pub never : (fact_of hints session).never ≡ true
  pub unseen : hint_of hints session ≡ None
  pub request : Request
  pub at : slice_get kept.clients session ≡ Some (Called request)
  pub still : is_still kept.state session request ≡ true

-- where it is known what the call returns, the act is allowed if its answer fits
if_seen : (hints : List Hint) (kept : Config) (session : ℕ) (seen : Seen) → hint_of hints session ≡ Some seen
    → ((other : Seen) (request : Request) → hint_of hints session ≡ Some other
    → slice_get kept.clients session ≡ Some (Called request)
    → shows_answer other (answer_to kept.state session request) ≡ true)
    → IsAllowed hints kept session
if_seen hints kept session seen hinted fits = record {
  fits = fits;
  counts = λ request never unseen at. absurd (none-some seen (sym unseen ∙ hinted));
}

-- a session that passes the test `is_free` has nothing open
freed : (a : Association) → is_free a ≡ true → a ≡ Free
freed Free e = refl
freed (Active xid) e = absurd (false≢true e)
freed (IdleBranch xid) e = absurd (false≢true e)

-- a request that only reads changes nothing
reading_keeps : (state : State) (session : ℕ) (request : Request) → is_reading state session request ≡ true
    → next_state state session request ≡ state
reading_keeps state session (Request.Statement (Recover convert)) reads = listing_keeps state session convert
reading_keeps state session (Request.Statement (Get key)) reads =
    (free_get state session key (freed (association_of state session) reads)).1
reading_keeps state session (Request.Statement Disconnect) reads =
    free_leaves state session (freed (association_of state session) reads)
reading_keeps state session request reads = absurd (false≢true reads)

-- a request that is refused changes nothing
refusal_keeps : (state : State) (session : ℕ) (request : Request) → refuses (answer_to state session request) ≡ true
    → next_state state session request ≡ state
refusal_keeps state session (Request.Statement statement) refused = refused_leaves state session statement refused
refusal_keeps state session Request.Unread refused = refl

-- a request that only reads, or is refused (`is_still`), leaves the state as it was
still_keeps : (state : State) (session : ℕ) (request : Request) → is_still state session request ≡ true
    → next_state state session request ≡ state
still_keeps state session request still = by (is_reading state session request) refl still
  where
    by : (b : Bool) → is_reading state session request ≡ b → b || refuses (answer_to state session request) ≡ true
        → next_state state session request ≡ state
    by true reads e = reading_keeps state session request reads
    by false reads e = refusal_keeps state session request e

-- where a session's call isn't heard of any more and changes nothing (`Waits`), what is kept also stands for the order
-- after that session's act, if the client was the same in both
waits_act : (hints : List Hint) (run kept next : Config) (session : ℕ) (act : Act) → AreAlike hints run kept
    → effect_of run session act ≡ Some next → slice_get run.clients session ≡ slice_get kept.clients session
    → Waits hints kept session → AreAlike hints next kept
unfolding effect_of carried_out disconnected
waits_act hints run kept next session Act.Statement are leads same waits =
    subst (λ c. AreAlike hints c kept) (ap make (sym keeps) ∙ is) alike
  where
    here : slice_get run.clients session ≡ Some (Called waits.request)
    here = same ∙ waits.at

    answer : Answer
    answer = answer_to run.state session waits.request

    make : State → Config
    make state = record { state = state; clients = set run.clients session (Answered answer) }

    is : make (next_state run.state session waits.request) ≡ next
    is = same_Some _ next (sym (ap (λ o. carried_out o run session) here) ∙ leads)

    keeps : next_state run.state session waits.request ≡ run.state
    keeps = still_keeps run.state session waits.request
        (subst (λ s. is_still s session waits.request ≡ true) are.state waits.still)

    alike : AreAlike hints (make run.state) kept
    alike = record {
      state = are.state;
      law = are.law;
      clients = λ other. elim (same_number session other) [
        | inl e ↦ subst (λ n. IsAlikeAt (fact_of hints n) run.state n
            (slice_get (set run.clients session (Answered answer)) n) (slice_get kept.clients n)) e
            (inr (inr (record {
              never = waits.never;
              unseen = waits.unseen;
              answer = answer;
              run = get_written run.clients session (Called waits.request) (Answered answer) here;
              request = waits.request;
              kept = waits.at;
            })))
        | inr apart ↦ subst (λ o. IsAlikeAt (fact_of hints other) run.state other o (slice_get kept.clients other))
            (sym (get_apart run.clients session other (Answered answer) apart)) (are.clients other)
      ];
    }
waits_act hints run kept next session Act.Disconnect are leads same waits =
    absurd (none-some next (sym (ap (λ o. disconnected o run session) (same ∙ waits.at)) ∙ leads))

-- a session that has its answer has no act
pub answered_rests : (run next : Config) (session : ℕ) (act : Act) (answer : Answer)
    → slice_get run.clients session ≡ Some (Answered answer) → effect_of run session act ≡ Some next → ⊥
unfolding effect_of carried_out disconnected
answered_rests run next session Act.Statement answer at leads =
    none-some next (sym (ap (λ o. carried_out o run session) at) ∙ leads)
answered_rests run next session Act.Disconnect answer at leads =
    none-some next (sym (ap (λ o. disconnected o run session) at) ∙ leads)

-- an act of a session is allowed; or it would give the call another answer than it returns; or the call isn't heard
-- of any more and changes nothing (`Waits`)
allowed_or : (hints : List Hint) (kept : Config) (session : ℕ) (hint : Option Seen) (c : Option ClientState)
    → hint_of hints session ≡ hint → slice_get kept.clients session ≡ c
    → IsAllowed hints kept session
    ⊎ (((request : Request) × (seen : Seen) × (hint_of hints session ≡ Some seen)
    × (slice_get kept.clients session ≡ Some (Called request))
    × (shows_answer seen (answer_to kept.state session request) ≡ false))
    ⊎ Waits hints kept session)
allowed_or hints kept session None c hinted at = by (fact_of hints session).never c refl at
  where
    no : (o : ClientState) (request : Request) → slice_get kept.clients session ≡ Some o
        → slice_get kept.clients session ≡ Some (Called request) → o ≡ Called request
    no o request e there = same_Some o (Called request) (sym e ∙ there)

    all : ((request : Request) → (fact_of hints session).never ≡ true
        → slice_get kept.clients session ≡ Some (Called request) → is_still kept.state session request ≡ false)
        → IsAllowed hints kept session
    all counts = record {
      fits = λ seen request h there. absurd (none-some seen (sym hinted ∙ h));
      counts = λ request never unseen there. counts request never there;
    }

    called : (b : Bool) (request : Request) → (fact_of hints session).never ≡ true
        → slice_get kept.clients session ≡ Some (Called request) → is_still kept.state session request ≡ b
        → IsAllowed hints kept session
        ⊎ (((asked : Request) × (seen : Seen) × (hint_of hints session ≡ Some seen)
        × (slice_get kept.clients session ≡ Some (Called asked))
        × (shows_answer seen (answer_to kept.state session asked) ≡ false))
        ⊎ Waits hints kept session)
    called true request never there still = inr (inr (record {
      never = never;
      unseen = hinted;
      request = request;
      at = there;
      still = still;
    }))
    called false request never there moves = inl (all (λ other n e.
        subst (λ r. is_still kept.state session r ≡ false) (same_request (no (Called request) other there e)) moves))
      where
        same_request : {one two : Request} → Called one ≡ Called two → one ≡ two
        same_request e = cc

    by : (never : Bool) (o : Option ClientState) → (fact_of hints session).never ≡ never
        → slice_get kept.clients session ≡ o
        → IsAllowed hints kept session
        ⊎ (((asked : Request) × (seen : Seen) × (hint_of hints session ≡ Some seen)
        × (slice_get kept.clients session ≡ Some (Called asked))
        × (shows_answer seen (answer_to kept.state session asked) ≡ false))
        ⊎ Waits hints kept session)
    by false o none there = inl (all (λ request n e. absurd (false≢true (sym none ∙ n))))
    by true None never there = inl (all (λ request n e. absurd (none-some (Called request) (sym there ∙ e))))
    by true (Some (Called request)) never there =
        called (is_still kept.state session request) request never there refl
    by true (Some Idle) never there = inl (all (λ request n e. absurd (apart (no Idle request there e))))
      where
        apart : {request : Request} → Idle ≡ Called request → ⊥
        apart e = cc
    by true (Some (Answered answer)) never there =
        inl (all (λ request n e. absurd (apart (no (Answered answer) request there e))))
      where
        apart : {request : Request} → Answered answer ≡ Called request → ⊥
        apart e = cc
    by true (Some (Gone gone)) never there =
        inl (all (λ request n e. absurd (apart (no (Gone gone) request there e))))
      where
        apart : {request : Request} → Gone gone ≡ Called request → ⊥
        apart e = cc
    by true (Some Left) never there = inl (all (λ request n e. absurd (apart (no Left request there e))))
      where
        apart : {request : Request} → Left ≡ Called request → ⊥
        apart e = cc
allowed_or hints kept session (Some seen) None hinted at =
    inl (if_seen hints kept session seen hinted
    (λ other request h there. absurd (none-some (Called request) (sym at ∙ there))))
allowed_or hints kept session (Some seen) (Some Idle) hinted at =
    inl (if_seen hints kept session seen hinted (λ other request h there. absurd (no request (sym at ∙ there))))
  where
    no : (request : Request) → Some Idle ≡ Some (Called request) → ⊥
    no request e = cc
allowed_or hints kept session (Some seen) (Some (Called request)) hinted at =
    by (shows_answer seen (answer_to kept.state session request)) refl
  where
    same_request : (other : _) → Some (Called request) ≡ Some (Called other) → request ≡ other
    same_request other e = cc

    by : (b : Bool) → shows_answer seen (answer_to kept.state session request) ≡ b
        → IsAllowed hints kept session
        ⊎ (((asked : Request) × (known : Seen) × (hint_of hints session ≡ Some known)
        × (slice_get kept.clients session ≡ Some (Called asked))
        × (shows_answer known (answer_to kept.state session asked) ≡ false))
        ⊎ Waits hints kept session)
    by true shown = inl (if_seen hints kept session seen hinted (λ other asked h there.
        subst (λ s. shows_answer s (answer_to kept.state session asked) ≡ true)
        (same_Some seen other (sym hinted ∙ h))
        (subst (λ q. shows_answer seen (answer_to kept.state session q) ≡ true)
        (same_request asked (sym at ∙ there)) shown)))
    by false hidden = inr (inl (request, seen, hinted, at, hidden))
allowed_or hints kept session (Some seen) (Some (Answered answer)) hinted at =
    inl (if_seen hints kept session seen hinted (λ other request h there. absurd (no request (sym at ∙ there))))
  where
    no : (request : Request) → Some (Answered answer) ≡ Some (Called request) → ⊥
    no request e = cc
allowed_or hints kept session (Some seen) (Some (Gone gone)) hinted at =
    inl (if_seen hints kept session seen hinted (λ other request h there. absurd (no request (sym at ∙ there))))
  where
    no : (request : Request) → Some (Gone gone) ≡ Some (Called request) → ⊥
    no request e = cc
allowed_or hints kept session (Some seen) (Some Left) hinted at =
    inl (if_seen hints kept session seen hinted (λ other request h there. absurd (no request (sym at ∙ there))))
  where
    no : (request : Request) → Some Left ≡ Some (Called request) → ⊥
    no request e = cc

-- after an act of an order, what is kept stays or follows, or the order can't go on past a return (`Foresees`)
pub alike_acts : (hints : List Hint) (run kept next : Config) (session : ℕ) (act : Act)
    → AreAlike hints run kept → effect_of run session act ≡ Some next → Foresees hints kept session act next
alike_acts hints run kept next session act are leads = by (are.clients session)
  where
    equal : slice_get run.clients session ≡ slice_get kept.clients session → Foresees hints kept session act next
    equal same =
        elim (allowed_or hints kept session (hint_of hints session) (slice_get kept.clients session) refl refl) [
          | inl allowed ↦
              let both = both_act hints run kept next session act are leads same in
              inr (inl (both.0, both.1, allowed, both.2))
          | inr (inl dead) ↦ inr (inr (dead_act hints run next session act dead.0 dead.1 dead.2 (same ∙ dead.3)
              (sym (ap (λ s. shows_answer dead.1 (answer_to s session dead.0)) are.state) ∙ dead.4) leads))
          | inr (inr waits) ↦ inl (waits_act hints run kept next session act are leads same waits)
        ]

    by : IsAlikeAt (fact_of hints session) run.state session (slice_get run.clients session)
        (slice_get kept.clients session) → Foresees hints kept session act next
    by (inl same) = equal same
    by (inr (inl ahead)) = elim (ahead_act hints run kept next session act are leads ahead) [
      | inl alike ↦ inl alike
      | inr dead ↦ inr (inr dead)
    ]
    by (inr (inr behind)) = absurd (answered_rests run next session act behind.answer behind.run leads)

-- ---- a quiet request takes effect at once

-- what is kept of an order is still kept of it once a call takes effect there, whose request is quiet for the return
-- that is known of it, and whose answer this return shows
pub alike_settles : (hints : List Hint) (run kept : Config) (session : ℕ) (request : Request) (seen : Seen)
    (new : Config)
    → AreAlike hints run kept → hint_of hints session ≡ Some seen
    → slice_get kept.clients session ≡ Some (Called request) → IsQuietFor kept.state session request seen
    → shows_answer seen (answer_to kept.state session request) ≡ true
    → effect_of kept session Act.Statement ≡ Some new → AreAlike hints run new
unfolding effect_of carried_out
alike_settles hints run kept session request seen new are hinted at quiet shown leads =
    subst (AreAlike hints run) is (record {
      state = quiet_keeps kept.state session request seen quiet shown ∙ are.state;
      law = are.law;
      clients = λ other. elim (same_number session other) [
        | inl e ↦ subst (λ n. IsAlikeAt (fact_of hints n) run.state n (slice_get run.clients n)
            (slice_get (set kept.clients session (Answered answer)) n)) e (here (are.clients session))
        | inr apart ↦ subst (λ o. IsAlikeAt (fact_of hints other) run.state other (slice_get run.clients other) o)
            (sym (get_apart kept.clients session other (Answered answer) apart)) (are.clients other)
      ];
    })
  where
    answer : Answer
    answer = answer_to kept.state session request

    is : record {
      state = next_state kept.state session request;
      clients = set kept.clients session (Answered answer);
    } ≡ new
    is = same_Some _ new (sym (ap (λ o. carried_out o kept session) at) ∙ leads)

    called_answered : (one : _) (given : Answer) → Some (Called one) ≡ Some (Answered given) → ⊥
    called_answered one given e = cc

    here : IsAlikeAt (fact_of hints session) run.state session (slice_get run.clients session)
        (slice_get kept.clients session)
        → IsAlikeAt (fact_of hints session) run.state session (slice_get run.clients session)
        (slice_get (set kept.clients session (Answered answer)) session)
    here (inl same) = inr (inl (record {
      seen = seen;
      hinted = hinted;
      answer = answer;
      kept = get_written kept.clients session (Called request) (Answered answer) at;
      shown = shown;
      way = inl (request, same ∙ at, subst (λ s. IsQuietFor s session request seen) are.state quiet);
    }))
    here (inr (inr behind)) = absurd (none-some seen (sym behind.unseen ∙ hinted))
    here (inr (inl ahead)) = absurd (called_answered request ahead.answer (sym at ∙ ahead.kept))

-- ---- whether a session has a branch

-- a session whose XA END is refused with the state NON-EXISTING has no branch open
pub told_none : (state : State) (session : ℕ) (xid : Xid) (answer : Answer)
    → answer ≡ answer_to state session (Request.Statement (End xid))
    → answer ≡ Replied (Refused (Rmfail NonExisting)) → association_of state session ≡ Free
unfolding reply_to table
told_none state session xid answer is told = by (association_of state session) (sym is ∙ told)
  where
    accepted : Replied Accepted ≡ Replied (Refused (Rmfail NonExisting)) → ⊥
    accepted e = cc

    unknown : Replied (Refused Nota) ≡ Replied (Refused (Rmfail NonExisting)) → ⊥
    unknown e = cc

    idle : Replied (Refused (Rmfail StateIdle)) ≡ Replied (Refused (Rmfail NonExisting)) → ⊥
    idle e = cc

    own : (b : Bool) → Replied (ok_if b Nota) ≡ Replied (Refused (Rmfail NonExisting)) → ⊥
    own true e = accepted e
    own false e = unknown e

    by : (a : Association) → Replied (table state a (End xid)) ≡ Replied (Refused (Rmfail NonExisting)) → a ≡ Free
    by Free e = refl
    by (Active one) e = absurd (own (same_xid xid one) e)
    by (IdleBranch one) e = absurd (idle e)

-- what is kept of an order is still kept of it once a call takes effect there that can at once (`CanSettle`)
pub settles_one : (hints : List Hint) (run kept new : Config) (session : ℕ) (seen : Seen)
    → AreAlike hints run kept → hint_of hints session ≡ Some seen → CanSettle kept session seen
    → effect_of kept session Act.Statement ≡ Some new → AreAlike hints run new
settles_one hints run kept new session seen are hinted can leads =
    alike_settles hints run kept session can.request seen new are hinted can.at can.quiet can.shown leads

-- before all events the opening configuration stands for itself (`AreAlike`), if the lock law holds
pub alike_first : (base : State) (hints : List Hint) → LockLaw base
    → AreAlike hints (opening_config base) (opening_config base)
unfolding opening_config
alike_first base hints law = record { state = refl; law = law; clients = λ session. inl refl }
