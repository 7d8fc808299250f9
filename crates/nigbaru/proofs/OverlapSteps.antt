-- One line of a session: its statement takes effect, its call returns, and the session calls for the next one.
--     effected, idle_again     the configuration after a statement took effect;  after its call returned, too
--     BegunOne, Begun    one session more has called;  the sessions up to a number have called, too
use Rattle.std.proofs.Common.{◌≡◌, ◌≢◌, ℕ, zero, suc, ◌<◌, ◌≤◌, true, cond, Option, Some, None, List, [], ◌∷◌, ◌++◌}
use Rattle.std.proofs.Common.{set, replicate, refl, ap, sym, ◌∙◌, subst, inl, inr, arith, append_assoc}
use Rattle.std.specs.Prelude.{slice_get}
use Rattle.xa_server.specs.{State.State, declared.reply.Reply.Reply, Replies.reply_to, Step.after}
use Rattle.xa_judge.specs.declared.{request.Request.TheVariants.Statement as Given, answer.Answer.Answer}
use Rattle.xa_judge.specs.declared.{answer.Answer.TheVariants.Reply as Replied, event.Event.Event}
use Rattle.xa_judge.specs.declared.client_state.ClientState.{ClientState, TheVariants.{Idle, Called, Answered}}
use Rattle.xa_judge.specs.declared.moves.{Act.TheVariants.Statement as ItsStatement, Move.Move}
use Rattle.xa_judge.specs.{declared.moves.Move.TheVariants.{Event as Seeing, Effect}, Explained.{Config, with_client}}
use Rattle.xa_judge.specs.Explained.{opening_config, effect_of, carried_out, observed, called, returned, shows_answer}
use Rattle.xa_judge.{specs.Explained.{IsSession, LeadsThrough}, proofs.Places.{same_number, get_written, get_apart}}
use Rattle.xa_races.{specs.LinesLeft.with_lines, proofs.Tests.{lines_own, lines_other}}
use Rattle.nigbaru.specs.Overlapping.{RunLine, Lines, next_call, first_calls, Overlap, returned as returned_next}

-- some moves lead through the events
pub record RunsOn (config : Config) (events : List Event) : Type 0 where
  pub moves : List Move
  pub new : Config
  pub runs : LeadsThrough config events moves new

-- what a session is about that has these lines left: it has called for the first of them, or is idle without lines
abbrev pub client_of : List RunLine → ClientState
client_of [] = Idle
client_of (line ∷ lines) = Called (Given line.statement)

-- each session with lines left has called for the next of them, and each other one is idle
abbrev pub Stands : Lines → Config → Type 0
Stands lines config = (session : ℕ) → IsSession session
    → slice_get config.clients session ≡ Some (client_of (lines session))

-- the lines can be written down so that they are explained from this configuration on
pub record Goes (lines : Lines) (config : Config) : Type 0 where
  pub events : List Event
  pub overlap : Overlap lines events
  pub run : RunsOn config events

-- the statement that a session has called for can take effect
effect_now : (config : Config) (session : ℕ) (line : RunLine)
    → slice_get config.clients session ≡ Some (Called (Given line.statement))
    → effect_of config session ItsStatement
    ≡ Some (record {
      state = after config.state session line.statement;
      clients = set config.clients session (Answered (Replied (reply_to config.state session line.statement)));
    })
unfolding effect_of carried_out
effect_now config session line found = ap (λ (o : Option ClientState). carried_out o config session) found

-- the call of a session that has its answer can return what shows that answer
return_now : (config : Config) (session : ℕ) (line : RunLine) (answer : Answer)
    → slice_get config.clients session ≡ Some (Answered answer)
    → shows_answer line.seen answer ≡ true
    → observed config (Event.Return session line.seen) ≡ Some (with_client config session Idle)
unfolding observed returned
return_now config session line answer found shows =
    ap (λ (o : Option ClientState). returned o config session line.seen) found
    ∙ ap (λ b. cond b (Some (with_client config session Idle)) None) shows

-- an idle session can call for the statement of a line
call_now : (config : Config) (session : ℕ) (line : RunLine) → slice_get config.clients session ≡ Some Idle
    → observed config (Event.Call session (Given line.statement))
    ≡ Some (with_client config session (Called (Given line.statement)))
unfolding observed called
call_now config session line found =
    ap (λ (o : Option ClientState). called o config session (Given line.statement)) found

-- if the session's client is now about the lines `rest`, and the other clients are as before, each session stands as
-- it is to with `rest` as this session's lines
written_stands : (lines : Lines) (session : ℕ) (rest : List RunLine) (old new : Config) → Stands lines old
    → slice_get new.clients session ≡ Some (client_of rest)
    → ((other : ℕ) → session ≢ other → slice_get new.clients other ≡ slice_get old.clients other)
    → Stands (with_lines lines session rest) new
written_stands lines session rest old new stands own others other is_other = elim (same_number session other) [
  | inl same ↦ subst (λ (n : ℕ). slice_get new.clients n ≡ Some (client_of (with_lines lines session rest n))) same
      (own ∙ ap (λ (l : List RunLine). Some (client_of l)) (sym (lines_own lines session rest)))
  | inr apart ↦ others other apart ∙ stands other is_other
      ∙ ap (λ (l : List RunLine). Some (client_of l)) (sym (lines_other lines session other rest (λ e. apart (sym e))))
]

-- the configuration after the session's statement took effect: the session has its answer, which isn't returned yet
abbrev pub effected : Config → ℕ → RunLine → Config
effected config session line =
    record {
      state = after config.state session line.statement;
      clients = set config.clients session (Answered (Replied (reply_to config.state session line.statement)));
    }

-- the configuration after the session's statement took effect and its call returned: the session is idle
abbrev pub idle_again : Config → ℕ → RunLine → Config
idle_again config session line = with_client (effected config session line) session Idle

-- after its statement took effect the session has the server's answer to it
answered_there : (config : Config) (session : ℕ) (line : RunLine)
    → slice_get config.clients session ≡ Some (Called (Given line.statement))
    → slice_get (effected config session line).clients session
    ≡ Some (Answered (Replied (reply_to config.state session line.statement)))
answered_there config session line found =
    get_written config.clients session (Called (Given line.statement))
    (Answered (Replied (reply_to config.state session line.statement))) found

-- after its statement took effect and its call returned the session is idle
idle_there : (config : Config) (session : ℕ) (line : RunLine)
    → slice_get config.clients session ≡ Some (Called (Given line.statement))
    → slice_get (idle_again config session line).clients session ≡ Some Idle
idle_there config session line found =
    get_written (effected config session line).clients session
    (Answered (Replied (reply_to config.state session line.statement))) Idle
    (answered_there config session line found)

-- after a session's statement took effect and its call returned the clients of the other sessions are as before
others_there : (config : Config) (session : ℕ) (line : RunLine) (other : ℕ) → session ≢ other
    → slice_get (idle_again config session line).clients other ≡ slice_get config.clients other
others_there config session line other apart =
    get_apart (effected config session line).clients session other Idle apart
    ∙ get_apart config.clients session other (Answered (Replied (reply_to config.state session line.statement))) apart

-- from a configuration in which the session is idle: it calls for the next of its lines, if there is one, and events
-- follow in which all lines that are left are written down
pub record GoesNext (lines : Lines) (session : ℕ) (rest : List RunLine) (config : Config) : Type 0 where
  pub events : List Event
  pub overlap : Overlap (with_lines lines session rest) events
  pub run : RunsOn config (next_call session rest ++ events)

-- once the session's first line has returned, the rest goes on as `GoesNext` says, if it goes on from each
-- configuration that has the state after the line and in which the sessions stand with the rest
goes_next : (lines : Lines) (session : ℕ) (line : RunLine) (rest : List RunLine) (config : Config) → Stands lines config
    → slice_get config.clients session ≡ Some (Called (Given line.statement))
    → ((new : Config) → new.state ≡ after config.state session line.statement
    → Stands (with_lines lines session rest) new
    → Goes (with_lines lines session rest) new)
    → GoesNext lines session rest (idle_again config session line)
goes_next lines session line [] config stands found go =
    let idle : Config = idle_again config session line in
    let next : Goes (with_lines lines session []) idle =
    go idle refl (written_stands lines session [] config idle stands (idle_there config session line found)
    (others_there config session line)) in
    record { events = next.events; overlap = next.overlap; run = next.run }
goes_next lines session line (second ∷ rest) config stands found go =
    let idle : Config = idle_again config session line in
    let waits : Config = with_client idle session (Called (Given second.statement)) in
    let there : slice_get idle.clients session ≡ Some Idle = idle_there config session line found in
    let next : Goes (with_lines lines session (second ∷ rest)) waits =
    go waits refl (written_stands lines session (second ∷ rest) config waits stands
    (get_written idle.clients session Idle (Called (Given second.statement)) there)
    (λ other apart. get_apart idle.clients session other (Called (Given second.statement)) apart
    ∙ others_there config session line other apart)) in
    record {
      events = next.events;
      overlap = next.overlap;
      run = record {
        moves = Seeing ∷ next.run.moves;
        new = next.run.new;
        runs = (waits, call_now idle session second there, next.run.runs);
      };
    }

-- if the first line of a session got the server's reply in this state, its statement can take effect now, and its
-- call return: so the lines can be written down if the rest can, from the state after it on
pub emits : (lines : Lines) (session : ℕ) (line : RunLine) (rest : List RunLine) (config : Config) → IsSession session
    → lines session ≡ line ∷ rest
    → Stands lines config → line.answer.reply ≡ reply_to config.state session line.statement
    → ((new : Config) → new.state ≡ after config.state session line.statement
    → Stands (with_lines lines session rest) new
    → Goes (with_lines lines session rest) new) → Goes lines config
emits lines session line rest config is left stands reply go =
    let found : slice_get config.clients session ≡ Some (Called (Given line.statement)) =
    stands session is ∙ ap (λ (l : List RunLine). Some (client_of l)) left in
    let answer : Answer = Replied (reply_to config.state session line.statement) in
    let shows : shows_answer line.seen answer ≡ true = ap (λ (r : Reply). shows_answer line.seen (Replied r))
    (sym reply) ∙ line.shows in
    let next : GoesNext lines session rest (idle_again config session line) =
    goes_next lines session line rest config stands found go in
    record {
      events = Event.Return session line.seen ∷ (next_call session rest ++ next.events);
      overlap = returned_next is left next.overlap;
      run = record {
        moves = Effect session ItsStatement ∷ Seeing ∷ next.run.moves;
        new = next.run.new;
        runs = (
          effected config session line,
          is,
          effect_now config session line found,
          (
            idle_again config session line,
            return_now (effected config session line) session line answer
                (answered_there config session line found) shows,
            next.run.runs,
          ),
        );
      };
    }

-- the sessions above a number have called for their first lines, the others are idle
pub record HaveCalled (count : ℕ) (lines : Lines) (config : Config) : Type 0 where
  pub below : (session : ℕ) → IsSession session → session ≤ count → slice_get config.clients session ≡ Some Idle
  pub above : (session : ℕ) → IsSession session → count < session
      → slice_get config.clients session ≡ Some (client_of (lines session))

-- the session `count + 1` has called for the first of its lines `left`, where it has one: what runs on from there runs
-- on from before the call
pub record BegunOne (count : ℕ) (lines : Lines) (config : Config) (left : List RunLine) : Type 0 where
  pub new : Config
  pub state : new.state ≡ config.state
  pub called : HaveCalled count lines new
  pub back : (events : List Event) → RunsOn new events → RunsOn config (next_call (suc count) left ++ events)

-- if the sessions above `count + 1` have called for their first lines, that session can call for its first one, too,
-- where it has one, before anything takes effect
begins_one : (count : ℕ) → count < 16 → (lines : Lines) (config : Config) (left : List RunLine)
    → lines (suc count) ≡ left → HaveCalled (suc count) lines config
    → BegunOne count lines config left
begins_one count within lines config [] is have = record {
  new = config;
  state = refl;
  called = record { below = λ session own low. have.below session own (omega arith); above = above };
  back = λ events run. run;
}
  where
    above : (session : ℕ) → IsSession session → count < session
        → slice_get config.clients session ≡ Some (client_of (lines session))
    above session own high = elim (same_number (suc count) session) [
      | inl same ↦ have.below session own (omega arith) ∙ ap (λ (l : List RunLine). Some (client_of l))
          (sym (ap lines (sym same) ∙ is))
      | inr apart ↦ have.above session own (omega arith)
    ]
begins_one count within lines config (line ∷ rest) is have = record {
  new = waits;
  state = refl;
  called = record { below = below; above = above };
  back = λ events run. record
      { moves = Seeing ∷ run.moves; new = run.new; runs = (waits, call_now config (suc count) line there, run.runs) };
}
  where
    waits : Config
    waits = with_client config (suc count) (Called (Given line.statement))

    there : slice_get config.clients (suc count) ≡ Some Idle
    there = have.below (suc count) (omega arith, omega arith) (omega arith)

    above : (session : ℕ) → IsSession session → count < session
        → slice_get waits.clients session ≡ Some (client_of (lines session))
    above session own high = elim (same_number (suc count) session) [
      | inl same ↦ subst (λ (n : ℕ). slice_get waits.clients n ≡ Some (client_of (lines n))) same
          (get_written config.clients (suc count) Idle (Called (Given line.statement)) there
          ∙ ap (λ (l : List RunLine). Some (client_of l)) (sym is))
      | inr apart ↦ get_apart config.clients (suc count) session (Called (Given line.statement)) apart
          ∙ have.above session own (omega arith)
    ]

    below : (session : ℕ) → IsSession session → session ≤ count → slice_get waits.clients session ≡ Some Idle
    below session own low =
        get_apart config.clients (suc count) session (Called (Given line.statement)) (λ e. absurd (omega arith))
        ∙ have.below session own (omega arith)

-- the sessions up to `count` have called, too, and so all stand: what runs on from there runs on from before their
-- calls
pub record Begun (count : ℕ) (lines : Lines) (config : Config) : Type 0 where
  pub new : Config
  pub state : new.state ≡ config.state
  pub stands : Stands lines new
  pub back : (events : List Event) → RunsOn new events → RunsOn config (first_calls count lines ++ events)

-- if the sessions above `count` have called, the others can call now, before anything takes effect
pub begins : (count : ℕ) → count ≤ 16 → (lines : Lines) (config : Config) → HaveCalled count lines config
    → Begun count lines config
unfolding first_calls
begins zero within lines config have =
    record {
      new = config;
      state = refl;
      stands = λ session own. have.above session own
          (omega arith);
      back = λ events run. run;
    }
begins (suc count) within lines config have =
    let one : BegunOne count lines config (lines (suc count)) =
    begins_one count (omega arith) lines config (lines (suc count)) refl have in
    let all : Begun count lines one.new = begins count (omega arith) lines one.new one.called in
    record {
      new = all.new;
      state = all.state ∙ one.state;
      stands = all.stands;
      back =
          λ events run. subst (RunsOn config) (sym (append_assoc (next_call (suc count) (lines (suc count)))
          (first_calls count lines) events))
          (one.back (first_calls count lines ++ events) (all.back events run));
    }

-- each element of a list of `count` times `x` is `x`
pub get_replicate : {A : Type 0} (count place : ℕ) (x : A) → place < count
    → slice_get (replicate count x) place ≡ Some x
get_replicate zero place x within = absurd (omega arith)
get_replicate (suc count) zero x within = refl
get_replicate (suc count) (suc place) x within = get_replicate count place x (omega arith)

-- before the first call every session is idle
pub none_called : (lines : Lines) (base : State) → HaveCalled 16 lines (opening_config base)
unfolding opening_config
none_called lines base = record {
  below = λ session own low. get_replicate 17 session Idle (omega arith);
  above = λ session own high. absurd (omega arith);
}

-- the first configuration has the store's base as its state
pub opening-state : (base : State) → (opening_config base).state ≡ base
unfolding opening_config
opening-state base = refl
