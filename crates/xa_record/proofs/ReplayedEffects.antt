-- The lines of an order along the moves that lead through the events.
use Rattle.std.proofs.Common.{◌≡◌, ℕ, zero, suc, ◌<◌, Option, Some, None, List, [], ◌∷◌, ◌++◌, length, codes, decimal}
use Rattle.std.proofs.Common.{set, slice_get, replicate, refl, ap, sym, ◌∙◌, subst, inl, inr, arith}
use Rattle.std.proofs.lemmas.Option.{none-some, same_Some, slice_get_within, cond_some}
use Rattle.xa_statement.{specs.Canonical.statement_text, proofs.{Canon.disconnect_spelled, Faults.reads_spelled}}
use Rattle.xa_xid.specs.{Bytes.{behind, belongs}, declared.statement.Statement.TheVariants.Disconnect}
use Rattle.xa_server.specs.State.{State}
use Rattle.xa_lines.specs.Script.{line_of}
use Rattle.xa_judge.specs.declared.{request.Request.{Request, TheVariants.Statement as Asked}, event.Seen.Seen}
use Rattle.xa_judge.specs.declared.event.Event.{Event, TheVariants.{Call, Return, Lost, Unknown}}
use Rattle.xa_judge.specs.declared.{client_state.ClientState.ClientState, moves.{Act.Act, Move.Move}}
use Rattle.xa_judge.specs.declared.client_state.ClientState.TheVariants.{Idle, Called, Answered, Gone, Left}
use Rattle.xa_judge.specs.Explained.{Config, opening_config, with_client, effect_of, carried_out, disconnected}
use Rattle.xa_judge.specs.Explained.{observed, called, returned, lost, answered_unknown, shows_answer, IsSession}
use Rattle.xa_judge.{specs.Explained.LeadsThrough, proofs.Places.{same_number, get_written, get_apart, get_within}}
use Rattle.xa_record.specs.declared.{allowance.Allowance.Allowance, statement_kind.StatementKind.StatementKind}
use Rattle.xa_record.specs.{Lines.{Told, Calls, Returns, ReturnsUnknown, Leaves}, Reading.NumberedEvent}
use Rattle.xa_record.specs.{Allowances.kinds_after, VerdictText.{call_text, text_of_call, with_call, no_calls}}
use Rattle.xa_record.specs.Events.{request_read, request_called, IsEvent, AreEventsAfter, AreEvents}
use Rattle.xa_record.specs.Replaying.{HasNoFeed, effect_line, order_lines, open_request, IsEffectLine, AreEffects}
use Rattle.xa_record.specs.Replaying.{IsWellCalled, IsWellTold, AreWellCalled}
use Rattle.xa_record.proofs.LinesBack.{line_back, line_feed, call_bare, call_feed, call_back}

-- the list has, at the session's number, the text of this request, which is well called
pub record KeepsText (calls : List (List ℕ)) (session : ℕ) (request : Request) : Type 0 where
  pub text : List ℕ
  pub found : slice_get calls session ≡ Some text
  pub well : IsWellCalled text
  pub is : request ≡ request_called text

-- the lists are equally long, and the text that a session called for last is kept for each client whose request may
-- still take effect
pub record Kept (calls : List (List ℕ)) (clients : List ClientState) : Type 0 where
  pub long : length calls ≡ length clients
  pub each : (session : ℕ) (request : Request) → open_request (slice_get clients session) ≡ Some request
      → KeepsText calls session request

-- replacing an element leaves the length
length-kept : {A : Type 0} (list : List A) (place : ℕ) (x : A) → length (set list place x) ≡ length list
length-kept [] place x = refl
length-kept (y ∷ list) zero x = refl
length-kept (y ∷ list) (suc place) x = ap suc (length-kept list place x)

-- the texts are still kept after a client is changed to one without an open request
kept_without : (calls : List (List ℕ)) (clients : List ClientState) (session : ℕ) (before next : ClientState)
    → slice_get clients session ≡ Some before
    → open_request (Some next) ≡ None → Kept calls clients → Kept calls (set clients session next)
kept_without calls clients session before next found is kept =
    grind (arith, get_apart, get_written, length-kept, none-some, same_number)

-- the texts are still kept after a client is changed to one with the same open request
kept_same : (calls : List (List ℕ)) (clients : List ClientState) (session : ℕ) (before next : ClientState)
    → slice_get clients session ≡ Some before
    → open_request (Some next) ≡ open_request (Some before) → Kept calls clients
    → Kept calls (set clients session next)
kept_same calls clients session before next found same_open kept =
    grind (arith, get_apart, get_written, length-kept, same_number)

-- the texts are still kept after a session called for a text that is well called, and that is its open request now
kept_call : (calls : List (List ℕ)) (clients : List ClientState) (session : ℕ) (text : List ℕ)
    (before next : ClientState)
    → slice_get clients session ≡ Some before → open_request (Some next) ≡ Some (request_called text)
    → IsWellCalled text → Kept calls clients
    → Kept (set calls session text) (set clients session next)
kept_call calls clients session text before next found opens well kept = record {
  long = length-kept calls session text ∙ kept.long ∙ sym (length-kept clients session next);
  each = λ other request opened. elim (same_number session other) [
    | inl same ↦ subst (λ (n : ℕ). KeepsText (set calls session text) n request) same (record {
      text = text;
      found = get_written calls session first.0 text first.1;
      well = well;
      is =
          sym (same_Some _ request
          (sym opens ∙ ap open_request (sym (get_written clients session before next found))
          ∙ ap (λ (n : ℕ). open_request (slice_get (set clients session next) n)) same ∙ opened));
    })
    | inr apart ↦
        let old : KeepsText calls other request =
        kept.each other request (sym (ap open_request (get_apart clients session other next apart)) ∙ opened) in
        record {
          text = old.text;
          found = get_apart calls session other text apart
              ∙ old.found;
          well = old.well;
          is = old.is;
        }
  ];
}
  where
    within : session < length calls
    within = let far = slice_get_within clients session before found in omega (arith, far, kept.long)

    first : (x : List ℕ) × (slice_get calls session ≡ Some x)
    first = get_within calls session within

-- a text put in for a session without an open request leaves the texts that are needed
kept_unasked : (calls : List (List ℕ)) (clients : List ClientState) (session : ℕ) (text : List ℕ)
    (before next : ClientState)
    → slice_get clients session ≡ Some before → open_request (Some next) ≡ None → Kept calls clients
    → Kept (set calls session text) (set clients session next)
kept_unasked calls clients session text before next found none kept = record {
  long = length-kept calls session text ∙ kept.long ∙ sym (length-kept clients session next);
  each = λ other request opened. elim (same_number session other) [
    | inl same ↦ absurd (none-some request
        (sym none ∙ ap open_request (sym (get_written clients session before next found))
        ∙ ap (λ (n : ℕ). open_request (slice_get (set clients session next) n)) same ∙ opened))
    | inr apart ↦
        let old : KeepsText calls other request =
        kept.each other request (sym (ap open_request (get_apart clients session other next apart)) ∙ opened) in
        record {
          text = old.text;
          found = get_apart calls session other text apart
              ∙ old.found;
          well = old.well;
          is = old.is;
        }
  ];
}

-- the line that is written for a session's statement gives its open request, and has no line feed (`IsEffectLine`)
statement_line : (calls : List (List ℕ)) (config : Config) (session : ℕ) (request : Request) → IsSession session
    → Kept calls config.clients
    → open_request (slice_get config.clients session) ≡ Some request
    → IsEffectLine config session Act.Statement (effect_line calls session Act.Statement)
statement_line calls config session request is kept opened =
    let keeps : KeepsText calls session request = kept.each session request opened in
    let line : effect_line calls session Act.Statement ≡ decimal session ++ codes " " ++ call_text keeps.text =
    ap (λ (o : Option (List ℕ)). decimal session ++ codes " " ++ text_of_call o) keeps.found in
    record {
      request = request;
      is = opened;
      gives = record {
        text = call_text keeps.text;
        given = ap line_of line ∙ line_back session is (call_text keeps.text) (call_bare keeps.text keeps.well.bare);
        asks = keeps.is ∙ call_back keeps.text keeps.well;
      };
      whole = subst HasNoFeed (sym line) (line_feed session is (call_text keeps.text)
          (call_feed keeps.text keeps.well));
    }

-- the line that is written for a session's `DISCONNECT` gives that request, and has no line feed (`IsEffectLine`)
disconnect_line : (calls : List (List ℕ)) (config : Config) (session : ℕ) → IsSession session
    → IsEffectLine config session Act.Disconnect (effect_line calls session Act.Disconnect)
unfolding statement_text behind belongs
disconnect_line calls config session is = record {
  request = Asked Disconnect;
  is = refl;
  gives = record {
    text = codes "DISCONNECT";
    given = line_back session is (codes "DISCONNECT") refl;
    asks = sym (ap request_read ((reads_spelled (codes "DISCONNECT") Disconnect).1 disconnect_spelled));
  };
  whole = line_feed session is (codes "DISCONNECT") refl;
}

-- what is written for an act is the line of its effect, and the texts of what is open after it are kept
pub record HasLine (calls : List (List ℕ)) (config : Config) (session : ℕ) (act : Act) (mid : Config) : Type 0 where
  pub line : IsEffectLine config session act (effect_line calls session act)
  pub kept : Kept calls mid.clients

-- equal configurations have equal clients
standings_of : (first second : Config) → Some first ≡ Some second → first.clients ≡ second.clients
standings_of first second same = ap (λ (c : Config). c.clients) (same_Some first second same)

-- the line of a statement's effect gives the request that took effect, and the texts are still kept (`HasLine`); `o` is
-- where its client stood
statement_by : (o : Option ClientState) (calls : List (List ℕ)) (config : Config) (session : ℕ) (mid : Config)
    → slice_get config.clients session ≡ o
    → IsSession session → Kept calls config.clients → carried_out o config session ≡ Some mid
    → HasLine calls config session Act.Statement mid
unfolding carried_out
statement_by None calls config session mid found is kept at = absurd (none-some mid at)
statement_by (Some Idle) calls config session mid found is kept at = absurd (none-some mid at)
statement_by (Some (Called request)) calls config session mid found is kept at = record {
  line = statement_line calls config session request is kept (ap open_request found);
  kept = subst (Kept calls) (standings_of _ mid at) (kept_without calls config.clients session
      (Called request) _ found refl kept);
}
statement_by (Some (Answered answer)) calls config session mid found is kept at = absurd (none-some mid at)
statement_by (Some (Gone None)) calls config session mid found is kept at = absurd (none-some mid at)
statement_by (Some (Gone (Some request))) calls config session mid found is kept at = record {
  line = statement_line calls config session request is kept (ap open_request found);
  kept = subst (Kept calls) (standings_of _ mid at) (kept_without calls config.clients session
      (Gone (Some request)) _ found refl kept);
}
statement_by (Some Left) calls config session mid found is kept at = absurd (none-some mid at)

-- the line of the effect of a lost client's `DISCONNECT` gives that request, and the texts are still kept (`HasLine`);
-- `o` is where its client stood
disconnect_by : (o : Option ClientState) (calls : List (List ℕ)) (config : Config) (session : ℕ) (mid : Config)
    → slice_get config.clients session ≡ o
    → IsSession session → Kept calls config.clients → disconnected o config session ≡ Some mid
    → HasLine calls config session Act.Disconnect mid
unfolding disconnected
disconnect_by None calls config session mid found is kept at = absurd (none-some mid at)
disconnect_by (Some Idle) calls config session mid found is kept at = absurd (none-some mid at)
disconnect_by (Some (Called request)) calls config session mid found is kept at = absurd (none-some mid at)
disconnect_by (Some (Answered answer)) calls config session mid found is kept at = absurd (none-some mid at)
disconnect_by (Some (Gone request)) calls config session mid found is kept at = record {
  line = disconnect_line calls config session is;
  kept = subst (Kept calls) (standings_of _ mid at) (kept_without calls config.clients session
      (Gone request) _ found refl kept);
}
disconnect_by (Some Left) calls config session mid found is kept at = absurd (none-some mid at)

-- each effect has a line that gives the request which takes effect, and the texts are still kept (`HasLine`)
has_line : (calls : List (List ℕ)) (config : Config) (session : ℕ) (act : Act) (mid : Config) → IsSession session
    → Kept calls config.clients
    → effect_of config session act ≡ Some mid → HasLine calls config session act mid
unfolding effect_of
has_line calls config session Act.Statement mid is kept at =
    statement_by (slice_get config.clients session) calls config session mid refl is kept at
has_line calls config session Act.Disconnect mid is kept at =
    disconnect_by (slice_get config.clients session) calls config session mid refl is kept at

-- the texts are still kept after a call, with its text put in its session's place; `o` is where its client stood
call_by : (o : Option ClientState) (calls : List (List ℕ)) (config : Config) (session : ℕ) (text : List ℕ)
    (mid : Config) → slice_get config.clients session ≡ o
    → IsWellCalled text → Kept calls config.clients
    → called o config session (request_called text) ≡ Some mid → Kept (set calls session text) mid.clients
unfolding called
call_by None calls config session text mid found well kept at = absurd (none-some mid at)
call_by (Some Idle) calls config session text mid found well kept at =
    subst (Kept (set calls session text)) (standings_of _ mid at)
    (kept_call calls config.clients session text Idle (Called (request_called text)) found refl well kept)
call_by (Some (Called other)) calls config session text mid found well kept at = absurd (none-some mid at)
call_by (Some (Answered answer)) calls config session text mid found well kept at = absurd (none-some mid at)
call_by (Some (Gone None)) calls config session text mid found well kept at =
    subst (Kept (set calls session text)) (standings_of _ mid at)
    (kept_call calls config.clients session text (Gone None) (Gone (Some (request_called text))) found refl well kept)
call_by (Some (Gone (Some other))) calls config session text mid found well kept at = absurd (none-some mid at)
call_by (Some Left) calls config session text mid found well kept at =
    subst (Kept (set calls session text)) (standings_of _ mid at)
    (kept_unasked calls config.clients session text Left Left found refl kept)

-- the texts are still kept after a return; `o` is where its client stood
return_by : (o : Option ClientState) (calls : List (List ℕ)) (config : Config) (session : ℕ) (seen : Seen)
    (mid : Config) → slice_get config.clients session ≡ o
    → Kept calls config.clients → returned o config session seen ≡ Some mid → Kept calls mid.clients
unfolding returned
return_by None calls config session seen mid found kept at = absurd (none-some mid at)
return_by (Some Idle) calls config session seen mid found kept at = absurd (none-some mid at)
return_by (Some (Called request)) calls config session seen mid found kept at = absurd (none-some mid at)
return_by (Some (Answered answer)) calls config session seen mid found kept at =
    let shown = cond_some (shows_answer seen answer) (with_client config session Idle) mid at in
    subst (Kept calls) (ap (λ (c : Config). c.clients) shown.1)
    (kept_without calls config.clients session (Answered answer) Idle found refl kept)
return_by (Some (Gone request)) calls config session seen mid found kept at = absurd (none-some mid at)
return_by (Some Left) calls config session seen mid found kept at = absurd (none-some mid at)

-- the texts are still kept after a loss: the lost client's request may still take effect; `o` is where the client stood
lost_by : (o : Option ClientState) (calls : List (List ℕ)) (config : Config) (session : ℕ) (mid : Config)
    → slice_get config.clients session ≡ o
    → Kept calls config.clients → lost o config session ≡ Some mid → Kept calls mid.clients
unfolding lost
lost_by None calls config session mid found kept at = absurd (none-some mid at)
lost_by (Some Idle) calls config session mid found kept at =
    subst (Kept calls) (standings_of _ mid at) (kept_without calls config.clients session Idle _ found refl kept)
lost_by (Some (Called request)) calls config session mid found kept at =
    subst (Kept calls) (standings_of _ mid at) (kept_same calls config.clients session
    (Called request) _ found refl kept)
lost_by (Some (Answered answer)) calls config session mid found kept at =
    subst (Kept calls) (standings_of _ mid at) (kept_without calls config.clients session
    (Answered answer) _ found refl kept)
lost_by (Some (Gone request)) calls config session mid found kept at = absurd (none-some mid at)
lost_by (Some Left) calls config session mid found kept at = absurd (none-some mid at)

-- the texts are still kept after a return whose answer isn't known; `o` is where its client stood
unknown_by : (o : Option ClientState) (calls : List (List ℕ)) (config : Config) (session : ℕ) (mid : Config)
    → slice_get config.clients session ≡ o
    → Kept calls config.clients → answered_unknown o config session ≡ Some mid → Kept calls mid.clients
unfolding answered_unknown
unknown_by None calls config session mid found kept at = absurd (none-some mid at)
unknown_by (Some Idle) calls config session mid found kept at = absurd (none-some mid at)
unknown_by (Some (Called request)) calls config session mid found kept at =
    subst (Kept calls) (standings_of _ mid at) (kept_without calls config.clients session
    (Called request) Idle found refl kept)
unknown_by (Some (Answered answer)) calls config session mid found kept at =
    subst (Kept calls) (standings_of _ mid at) (kept_without calls config.clients session
    (Answered answer) Idle found refl kept)
unknown_by (Some (Gone request)) calls config session mid found kept at = absurd (none-some mid at)
unknown_by (Some Left) calls config session mid found kept at = absurd (none-some mid at)

-- the texts are still kept after any event of the record; a call puts its own in its session's place
seen_kept : (allowances : List Allowance) (kinds : List (Option StatementKind)) (calls : List (List ℕ))
    (config : Config) (told : Told) (event : Event)
    (mid : Config) → IsWellTold told → IsEvent allowances kinds told event
    → Kept calls config.clients → observed config event ≡ Some mid → Kept (with_call told calls) mid.clients
unfolding observed
seen_kept allowances kinds calls config (Calls session text) event mid well is kept at =
    call_by (slice_get config.clients session) calls config session text mid refl well kept
    (sym (ap (observed config) is) ∙ at)
seen_kept allowances kinds calls config (Returns session shown) (Call other request) mid well is kept at = absurd is
seen_kept allowances kinds calls config (Returns session shown) (Return other seen) mid well is kept at =
    return_by (slice_get config.clients other) calls config other seen mid refl kept at
seen_kept allowances kinds calls config (Returns session shown) (Lost other) mid well is kept at = absurd is
seen_kept allowances kinds calls config (Returns session shown) (Unknown other) mid well is kept at = absurd is
seen_kept allowances kinds calls config (ReturnsUnknown session) event mid well is kept at =
    unknown_by (slice_get config.clients session) calls config session mid refl kept
    (sym (ap (observed config) is) ∙ at)
seen_kept allowances kinds calls config (Leaves session) event mid well is kept at =
    lost_by (slice_get config.clients session) calls config session mid refl kept (sym (ap (observed config) is) ∙ at)

-- along all moves: each line of the order gives the request that takes effect there, if each call is well called
pub are_effects : (allowances : List Allowance) (kinds : List (Option StatementKind)) (calls : List (List ℕ))
    (numbered : List NumberedEvent)
    (events : List Event) (moves : List Move) (old new : Config) → AreWellCalled numbered
    → AreEventsAfter allowances kinds numbered events → Kept calls old.clients → LeadsThrough old events moves new
    → AreEffects old events moves (order_lines calls numbered moves)
unfolding order_lines AreEventsAfter
are_effects allowances kinds calls numbered events (Move.Effect session act ∷ moves) old new well are kept runs =
    let has : HasLine calls old session act runs.0 = has_line calls old session act runs.0 runs.1 kept runs.2 in (
      runs.0,
      runs.2,
      has.line,
      are_effects allowances kinds calls numbered events moves runs.0 new well are has.kept
          runs.3,
    )
are_effects allowances kinds calls numbered [] (Move.Event ∷ moves) old new well are kept runs = absurd runs
are_effects allowances kinds calls [] (event ∷ events) (Move.Event ∷ moves) old new well are kept runs = absurd are
are_effects allowances kinds calls (one ∷ numbered) (event ∷ events) (Move.Event ∷ moves) old new well are kept runs = (
  runs.0,
  runs.1,
  are_effects allowances (kinds_after event kinds) (with_call one.told calls) numbered events moves runs.0 new well.1
      are.1
      (seen_kept allowances kinds calls old one.told event runs.0 well.0 are.0 kept runs.1) runs.2,
)
are_effects allowances kinds calls numbered [] [] old new well are kept runs = tt
are_effects allowances kinds calls numbered (event ∷ events) [] old new well are kept runs = absurd runs

-- where all clients are idle, none has an open request
idle_open : (count place : ℕ) (request : Request) → open_request (slice_get (replicate count Idle) place) ≡ Some request
    → ⊥
idle_open zero place request opened = absurd (none-some request opened)
idle_open (suc count) zero request opened = absurd (none-some request opened)
idle_open (suc count) (suc place) request opened = idle_open count place request opened

-- at the beginning no client has a request, so no text is needed
none_kept : (base : State) → Kept no_calls (opening_config base).clients
unfolding opening_config
none_kept base = record { long = refl; each = λ session request opened. absurd (idle_open 17 session request opened) }

-- the lines of an order that explains the events give what takes effect, one by one, if each call is well called
pub order_gives : (base : State) (allowances : List Allowance) (numbered : List NumberedEvent) (events : List Event)
    (moves : List Move) (new : Config)
    → AreWellCalled numbered → AreEvents allowances numbered events
    → LeadsThrough (opening_config base) events moves new
    → AreEffects (opening_config base) events moves (order_lines no_calls numbered moves)
order_gives base allowances numbered events moves new well are runs = grind (arith, are_effects, none_kept)
