-- An order that is run as a script gives the answers that its moves give.
use Rattle.std.proofs.Common.{◌≡◌, ℕ, Option, Some, None, List, [], ◌∷◌, ◌++◌, slice_get, refl, ap, sym, ◌∙◌, subst}
use Rattle.std.{proofs.lemmas.Option.{none-some, same_Some, cond_some}, specs.List.AllByRecursion as All}
use Rattle.xa_server.specs.State.{State}
use Rattle.xa_lines.specs.{Script.{lines_of, line_of}, Transcript.{answer_of, run_text}}
use Rattle.xa_judge.specs.declared.{request.Request.Request, event.{Seen.Seen, Event.Event}}
use Rattle.xa_judge.specs.declared.{event.Event.TheVariants.{Call, Return, Lost, Unknown}, verdict.Verdict.Verdict}
use Rattle.xa_judge.specs.declared.{client_state.ClientState.ClientState, moves.{Act.Act, Move.Move}}
use Rattle.xa_judge.specs.declared.client_state.ClientState.TheVariants.{Idle, Called, Answered, Gone, Left}
use Rattle.xa_judge.specs.Explained.{Config, opening_config, with_client, next_state, effect_of, carried_out}
use Rattle.xa_judge.specs.Explained.{disconnected, observed, called, returned, lost, answered_unknown, shows_answer}
use Rattle.xa_judge.specs.{Explained.LeadsThrough, Verdicts.IsVerdict}
use Rattle.xa_record.specs.declared.{allowance.Allowance.Allowance, statement_kind.StatementKind.StatementKind}
use Rattle.xa_record.specs.{Lines.{Told, Calls, Returns, ReturnsUnknown, Leaves}, Reading.NumberedEvent}
use Rattle.xa_record.specs.{Allowances.{kinds_after, no_kinds}, VerdictText.{order_text, no_calls}}
use Rattle.xa_record.specs.Events.{request_read, request_called, IsEvent, AreEventsAfter, AreEvents}
use Rattle.xa_record.specs.Replaying.{HasNoFeed, order_lines, open_request, requested, AreEffects, IsWellCalled}
use Rattle.xa_record.specs.Replaying.{IsWellTold, AreWellCalled, IsBare, IsBareTold, AreBare, IsWrittenCall}
use Rattle.xa_record.{specs.Replaying.{AnswersAlong, IsReplayed}, proofs.Feeds.cut_where_joined}
use Rattle.xa_record.proofs.{ReplayedEffects.order_gives, RunAnswers.{line_answered, line_followed, order_joined}}

-- equal configurations have equal states of the store
state_of : (first second : Config) → Some first ≡ Some second → first.state ≡ second.state
state_of first second same = ap (λ (c : Config). c.state) (same_Some first second same)

-- a statement that takes effect leaves the state that its request leads to
statement_state : (o : Option ClientState) (config : Config) (session : ℕ) (mid : Config) (request : Request)
    → carried_out o config session ≡ Some mid
    → open_request o ≡ Some request → mid.state ≡ next_state config.state session request
unfolding carried_out
statement_state None config session mid request at is = absurd (none-some mid at)
statement_state (Some Idle) config session mid request at is = absurd (none-some mid at)
statement_state (Some (Called asked)) config session mid request at is =
    sym (state_of _ mid at) ∙ ap (next_state config.state session) (same_Some asked request is)
statement_state (Some (Answered answer)) config session mid request at is = absurd (none-some mid at)
statement_state (Some (Gone None)) config session mid request at is = absurd (none-some mid at)
statement_state (Some (Gone (Some asked))) config session mid request at is =
    sym (state_of _ mid at) ∙ ap (next_state config.state session) (same_Some asked request is)
statement_state (Some Left) config session mid request at is = absurd (none-some mid at)

-- a DISCONNECT that takes effect leaves the state that its request leads to
disconnect_state : (o : Option ClientState) (config : Config) (session : ℕ) (mid : Config) (request : Request)
    → disconnected o config session ≡ Some mid
    → requested config session Act.Disconnect ≡ Some request → mid.state ≡ next_state config.state session request
unfolding disconnected
disconnect_state None config session mid request at is = absurd (none-some mid at)
disconnect_state (Some Idle) config session mid request at is = absurd (none-some mid at)
disconnect_state (Some (Called asked)) config session mid request at is = absurd (none-some mid at)
disconnect_state (Some (Answered answer)) config session mid request at is = absurd (none-some mid at)
disconnect_state (Some (Gone asked)) config session mid request at is =
    sym (state_of _ mid at) ∙ ap (next_state config.state session) (same_Some _ request is)
disconnect_state (Some Left) config session mid request at is = absurd (none-some mid at)

-- an effect changes the store as its request does
effect_state : (config : Config) (session : ℕ) (act : Act) (mid : Config) (request : Request)
    → effect_of config session act ≡ Some mid
    → requested config session act ≡ Some request → mid.state ≡ next_state config.state session request
unfolding effect_of
effect_state config session Act.Statement mid request at is =
    statement_state (slice_get config.clients session) config session mid request at is
effect_state config session Act.Disconnect mid request at is =
    disconnect_state (slice_get config.clients session) config session mid request at is

-- a call changes nothing in the store
call_state : (o : Option ClientState) (config : Config) (session : ℕ) (request : Request) (mid : Config)
    → called o config session request ≡ Some mid
    → config.state ≡ mid.state
unfolding called
call_state None config session request mid at = absurd (none-some mid at)
call_state (Some Idle) config session request mid at = state_of _ mid at
call_state (Some (Called asked)) config session request mid at = absurd (none-some mid at)
call_state (Some (Answered answer)) config session request mid at = absurd (none-some mid at)
call_state (Some (Gone None)) config session request mid at = state_of _ mid at
call_state (Some (Gone (Some asked))) config session request mid at = absurd (none-some mid at)
call_state (Some Left) config session request mid at = state_of _ mid at

-- a return changes nothing in the store
return_state : (o : Option ClientState) (config : Config) (session : ℕ) (seen : Seen) (mid : Config)
    → returned o config session seen ≡ Some mid
    → config.state ≡ mid.state
unfolding returned
return_state None config session seen mid at = absurd (none-some mid at)
return_state (Some Idle) config session seen mid at = absurd (none-some mid at)
return_state (Some (Called asked)) config session seen mid at = absurd (none-some mid at)
return_state (Some (Answered answer)) config session seen mid at =
    ap (λ (c : Config). c.state) (cond_some (shows_answer seen answer) (with_client config session Idle) mid at).1
return_state (Some (Gone asked)) config session seen mid at = absurd (none-some mid at)
return_state (Some Left) config session seen mid at = absurd (none-some mid at)

-- the loss of a client changes nothing in the store
lost_state : (o : Option ClientState) (config : Config) (session : ℕ) (mid : Config) → lost o config session ≡ Some mid
    → config.state ≡ mid.state
unfolding lost
lost_state None config session mid at = absurd (none-some mid at)
lost_state (Some Idle) config session mid at = state_of _ mid at
lost_state (Some (Called asked)) config session mid at = state_of _ mid at
lost_state (Some (Answered answer)) config session mid at = state_of _ mid at
lost_state (Some (Gone asked)) config session mid at = absurd (none-some mid at)
lost_state (Some Left) config session mid at = absurd (none-some mid at)

-- a return whose answer isn't known changes nothing in the store
unknown_state : (o : Option ClientState) (config : Config) (session : ℕ) (mid : Config)
    → answered_unknown o config session ≡ Some mid
    → config.state ≡ mid.state
unfolding answered_unknown
unknown_state None config session mid at = absurd (none-some mid at)
unknown_state (Some Idle) config session mid at = absurd (none-some mid at)
unknown_state (Some (Called asked)) config session mid at = state_of _ mid at
unknown_state (Some (Answered answer)) config session mid at = state_of _ mid at
unknown_state (Some (Gone asked)) config session mid at = absurd (none-some mid at)
unknown_state (Some Left) config session mid at = absurd (none-some mid at)

-- no event of the record changes the store: only effects do
observed_state : (config : Config) (event : Event) (mid : Config) → observed config event ≡ Some mid
    → config.state ≡ mid.state
unfolding observed
observed_state config (Call session request) mid at =
    call_state (slice_get config.clients session) config session request mid at
observed_state config (Return session seen) mid at =
    return_state (slice_get config.clients session) config session seen mid at
observed_state config (Lost session) mid at = lost_state (slice_get config.clients session) config session mid at
observed_state config (Unknown session) mid at = unknown_state (slice_get config.clients session) config session mid at

-- no line that is written for an order has a line feed in it
lines_whole : (old : Config) (events : List Event) (moves : List Move) (lines : List (List ℕ))
    → AreEffects old events moves lines → All HasNoFeed lines
lines_whole old events (Move.Effect session act ∷ moves) [] are = absurd are
lines_whole old events (Move.Effect session act ∷ moves) (line ∷ lines) are =
    (are.2.whole, lines_whole are.0 events moves lines are.3)
lines_whole old [] (Move.Event ∷ moves) lines are = absurd are
lines_whole old (event ∷ events) (Move.Event ∷ moves) lines are = lines_whole are.0 events moves lines are.2
lines_whole old [] [] [] are = tt
lines_whole old [] [] (line ∷ lines) are = absurd are
lines_whole old (event ∷ events) [] lines are = absurd are

-- the lines of effects, run one after another, are answered as what takes effect is
answers_along : (old : Config) (events : List Event) (moves : List Move) (lines : List (List ℕ))
    → AreEffects old events moves lines
    → AnswersAlong old events moves (run_text old.state lines)
unfolding run_text
answers_along old events (Move.Effect session act ∷ moves) [] are = absurd are
answers_along old events (Move.Effect session act ∷ moves) (line ∷ lines) are =
    let mid = are.0 in
    let gives = are.2.gives in
    let followed = line_followed old.state line session are.2.request gives
    ∙ sym (effect_state old session act mid are.2.request are.1 are.2.is) in (
      mid,
      answer_of old.state (line_of line),
      run_text mid.state lines,
      are.1,
      record {
        request = are.2.request;
        is = are.2.is;
        answers = line_answered old.state line session are.2.request
            gives;
      },
      ap (λ (s : State). answer_of old.state (line_of line) ++ run_text s lines) followed,
      answers_along mid events moves lines are.3,
    )
answers_along old [] (Move.Event ∷ moves) lines are = absurd are
answers_along old (event ∷ events) (Move.Event ∷ moves) lines are = (
  are.0,
  are.1,
  subst (λ (s : State). AnswersAlong are.0 events moves (run_text s lines)) (sym (observed_state old event are.0 are.1))
      (answers_along are.0 events moves lines are.2),
)
answers_along old [] [] [] are = refl
answers_along old [] [] (line ∷ lines) are = absurd are
answers_along old (event ∷ events) [] lines are = absurd are

-- the text of a call is well called if it is bare, and its statement, if it is a supported one, is written back
well_called : (session : ℕ) (text : List ℕ) (event : Event) → IsBare text → event ≡ Call session (request_called text)
    → IsWrittenCall event → IsWellCalled text
well_called session text event bare is written = record {
  bare = bare.bare;
  whole = bare.whole;
  canonical = λ statement read other.
      subst IsWrittenCall (is ∙ ap (λ r. Call session (request_read r)) read) written other;
}

-- the calls of a record are well called if their texts are bare, and supported statements among them are written back
pub well_told : (allowances : List Allowance) (kinds : List (Option StatementKind)) (numbered : List NumberedEvent)
    (events : List Event) → AreBare numbered
    → AreEventsAfter allowances kinds numbered events → All IsWrittenCall events → AreWellCalled numbered
unfolding AreEventsAfter
well_told allowances kinds [] events bare are written = tt
well_told allowances kinds (one ∷ numbered) [] bare are written = absurd are
well_told allowances kinds (one ∷ numbered) (event ∷ events) bare are written =
    (by one.told bare.0 are.0, well_told allowances (kinds_after event kinds) numbered events bare.1 are.1 written.1)
  where
    by : (told : Told) → IsBareTold told → IsEvent allowances kinds told event → IsWellTold told
    by (Calls session text) is same = well_called session text event is same written.0
    by (Returns session shown) is same = tt
    by (ReturnsUnknown session) is same = tt
    by (Leaves session) is same = tt

-- the store of the first configuration is in the base state
opened : (base : State) → (opening_config base).state ≡ base
unfolding opening_config
opened base = refl

-- the order of moves that lead through what is seen, run as a script, gives the answers of the moves, if each call is
-- well called
pub order_answered : (base : State) (allowances : List Allowance) (numbered : List NumberedEvent)
    (events : List Event) (moves : List Move) (new : Config)
    → AreWellCalled numbered → AreEvents allowances numbered events
    → LeadsThrough (opening_config base) events moves new
    → AnswersAlong (opening_config base) events moves (run_text base (lines_of (order_text no_calls numbered moves)))
order_answered base allowances numbered events moves new well are runs =
    let lines = order_lines no_calls numbered moves in
    let effects : AreEffects (opening_config base) events moves lines = order_gives base allowances numbered events
    moves new well are runs in
    let cut : lines_of (order_text no_calls numbered moves) ≡ lines =
    ap lines_of (order_joined no_calls numbered moves)
    ∙ cut_where_joined lines (lines_whole (opening_config base) events moves lines effects) in
    subst (λ (l : List (List ℕ)). AnswersAlong (opening_config base) events moves (run_text base l)) (sym cut)
    (subst (λ (s : State). AnswersAlong (opening_config base) events moves (run_text s lines)) (opened base)
    (answers_along (opening_config base) events moves lines effects))

-- the order of a right LEGAL verdict, run as a script, gives the answers of its moves, if each call is well called
pub verdict_replayed : (base : State) (allowances : List Allowance) (numbered : List NumberedEvent)
    (events : List Event) (limit : ℕ) (verdict : Verdict)
    → AreWellCalled numbered → AreEvents allowances numbered events → IsVerdict base events limit verdict
    → IsReplayed base numbered events verdict
verdict_replayed base allowances numbered events limit (Verdict.Legal moves) well are right =
    order_answered base allowances numbered events moves.items right.0 well are right.1
verdict_replayed base allowances numbered events limit (Verdict.Illegal place answers) well are right = tt
verdict_replayed base allowances numbered events limit (Verdict.Undecided place) well are right = tt

-- the order of a right LEGAL verdict, run as a script, gives the answers of its moves, if the texts of calls are bare,
-- and supported statements among them are written back
pub bare_replayed : (base : State) (allowances : List Allowance) (numbered : List NumberedEvent) (events : List Event)
    (limit : ℕ) (verdict : Verdict)
    → AreBare numbered → AreEvents allowances numbered events → All IsWrittenCall events
    → IsVerdict base events limit verdict
    → IsReplayed base numbered events verdict
bare_replayed base allowances numbered events limit verdict bare are written right =
    verdict_replayed base allowances numbered events limit verdict
    (well_told allowances no_kinds numbered events bare are written) are right
