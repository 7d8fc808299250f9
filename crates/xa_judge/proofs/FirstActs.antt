-- Of the acts before an event, one of a persistent set may come first.
--     Reaches, RestsUntil        an act of a session comes before the next event, after certain others;  none does
--     acts_or_rests, no_rest     one or the other;  never both
--     rests_answered, rests_end  an answered session rests;  whoever rests is as before
--     seen_first                 an event of a session that rests may be seen first
--     comes_first                an act may come before acts that are apart from it
--     answered_first             a call that is ahead in what is kept may be answered first
--     Finds, finds               the first act of the set, or of a session that is ahead
--     goes_step                  so orders go on with fewer moves, from what is kept after an act of the set
use Rattle.std.proofs.Common.{◌≡◌, ◌≢◌, ◌⊎◌, ℕ, Bool, true, false, Option, Some, None, List, [], ◌∷◌, set, length, refl}
use Rattle.std.proofs.{Common.{ap, sym, ◌∙◌, subst, inl, inr, ◌<◌, arith}, lemmas.Option.{none-some, same_Some}}
use Rattle.std.{proofs.lemmas.Bool.false≢true, specs.Prelude.slice_get}
use Rattle.xa_server.specs.{State.State, Locks.LockLaw}
use Rattle.xa_judge.specs.declared.{request.Request.Request, answer.Answer.Answer, client_state.ClientState.ClientState}
use Rattle.xa_judge.specs.declared.{client_state.ClientState.TheVariants.{Called, Answered}, event.Seen.Seen}
use Rattle.xa_judge.specs.declared.{event.Event.Event, moves.{Act.Act, Move.Move}}
use Rattle.xa_judge.specs.{declared.moves.Move.TheVariants.{Event as Seeing, Effect}, Explained.{Config, with_client}}
use Rattle.xa_judge.specs.Explained.{effect_of, carried_out, disconnected, answer_to, next_state, shows_answer}
use Rattle.xa_judge.specs.{Explained.{LeadsThrough, IsSession}, Late.{call_is_answered, answered_so}, Keys.session_of}
use Rattle.xa_judge.specs.Foreseen.{Hint, fact_of, hint_of, IsQuietFor, IsAheadAt, IsBehindAt, AreAlike, IsFollowed}
use Rattle.xa_judge.specs.{Foreseen.IsLeft, Apart.IsApartAt, Persistent.{IsIn, IsPersistent, HasTried}}
use Rattle.xa_judge.proofs.{Places.{same_number, get_written, get_apart, set_apart}, ForeseenEvents.saw}
use Rattle.xa_judge.proofs.Waits.{acted, answered_apart, commute, First}
use Rattle.xa_judge.proofs.ForeseenSteps.{alike_acts, ahead_answered, quiet_keeps, still_quiet_for, act_keeps}
use Rattle.xa_judge.proofs.Commuting.{apart_same, exchanged_apart, still_apart}

-- ---- the acts before the next event

-- an act of the session comes before the next event, and before it none but acts of such sessions
abbrev pub Reaches : (ℕ → Type 0) → ℕ → List Move → Type 0
Reaches such session (Effect other act ∷ moves) = (other ≡ session) ⊎ (such other × Reaches such session moves)
Reaches such session moves = ⊥

-- no act of the session comes before the next event
abbrev pub RestsUntil : ℕ → List Move → Type 0
RestsUntil session (Effect other act ∷ moves) = (other ≢ session) × RestsUntil session moves
RestsUntil session moves = Unit {0}

-- an act of the session comes before the next event, or none does
pub acts_or_rests : (session : ℕ) (moves : List Move)
    → Reaches (λ other. Unit {0}) session moves ⊎ RestsUntil session moves
acts_or_rests session (Effect other act ∷ moves) = elim (same_number other session) [
  | inl is ↦ inl (inl is)
  | inr apart ↦ elim (acts_or_rests session moves) [
    | inl acts ↦ inl (inr (tt, acts))
    | inr rests ↦ inr (apart, rests)
  ]
]
acts_or_rests session (Seeing ∷ moves) = inr tt
acts_or_rests session [] = inr tt

-- a session that rests until the next event has no act before it
no_rest : (such : ℕ → Type 0) (session : ℕ) (moves : List Move) → Reaches such session moves
    → RestsUntil session moves → ⊥
no_rest such session (Effect other act ∷ moves) (inl is) rests = rests.0 is
no_rest such session (Effect other act ∷ moves) (inr on) rests = no_rest such session moves on.1 rests.1
no_rest such session (Seeing ∷ moves) reaches rests = reaches
no_rest such session [] reaches rests = reaches

-- a session that has its answer rests until the next event
pub rests_answered : (run end : Config) (session : ℕ) (events : List Event) (moves : List Move)
    → call_is_answered run session ≡ true → LeadsThrough run events moves end → RestsUntil session moves
rests_answered run end session events (Effect other act ∷ moves) answered runs =
    let a = acted run runs.0 other act runs.2 in
    let apart = answered_apart run runs.0 other session act a answered in (
      apart,
      rests_answered runs.0 end session events moves
          (ap answered_so (ap (λ (c : Config). slice_get c.clients session) a.is
          ∙ get_apart run.clients other session a.next apart) ∙ answered) runs.3,
    )
rests_answered run end session events (Seeing ∷ moves) answered runs = tt
rests_answered run end session events [] answered runs = tt

-- at the end of acts a session that rests is as far as before
pub rests_end : (run end : Config) (session : ℕ) (moves : List Move) → RestsUntil session moves
    → LeadsThrough run [] moves end → slice_get end.clients session ≡ slice_get run.clients session
rests_end run end session (Effect other act ∷ moves) rests runs =
    let a = acted run runs.0 other act runs.2 in
    rests_end runs.0 end session moves rests.1 runs.3
    ∙ ap (λ (c : Config). slice_get c.clients session) a.is ∙ get_apart run.clients other session a.next rests.0
rests_end run end session (Seeing ∷ moves) rests runs = absurd runs
rests_end run end session [] rests runs = ap (λ (c : Config). slice_get c.clients session) runs

-- an event of a session that rests until then may be seen first, and the acts before it come later
pub seen_first : (run end : Config) (event : Event) (more : List Event) (moves : List Move)
    → RestsUntil (session_of event) moves → LeadsThrough run (event ∷ more) moves end → First run event more end
seen_first run end event more (Effect other act ∷ moves) rests runs =
    let rest = seen_first runs.0 end event more moves rests.1 runs.3 in
    let s = commute run runs.0 rest.first other act event (acted run runs.0 other act runs.2)
    (saw runs.0 rest.first event rest.sees) rests.0 in
    record {
      first = s.0;
      sees = s.1;
      moves = Effect other act ∷ rest.moves;
      runs = (rest.first, runs.1, s.2, rest.runs);
    }
seen_first run end event more (Seeing ∷ moves) rests runs =
    record { first = runs.0; sees = runs.1; moves = moves; runs = runs.2 }
seen_first run end event more [] rests runs = absurd runs

-- ---- an act comes first

-- moves with an act of the session first lead on to the same end. They are no more than `count`
record ActsFirst (run end : Config) (session : ℕ) (events : List Event) (count : ℕ) : Type 0 where
  pub act : Act
  pub first : Config
  pub leads : effect_of run session act ≡ Some first
  pub moves : List Move
  pub runs : LeadsThrough first events moves end
  pub fewer : length moves < count

-- an act of a session may come first, if the acts before it are of sessions that are apart from it
comes_first : (such : ℕ → Type 0) (run end : Config) (session : ℕ) (events : List Event) (moves : List Move)
    → LockLaw run.state → ((other : ℕ) → such other → (other ≢ session) × IsApartAt run other session)
    → Reaches such session moves → LeadsThrough run events moves end
    → ActsFirst run end session events (length moves)
comes_first such run end session events (Effect other act ∷ moves) law beside (inl is) runs = record {
  act = act;
  first = runs.0;
  leads = subst (λ n. effect_of run n act ≡ Some runs.0) is runs.2;
  moves = moves;
  runs = runs.3;
  fewer = omega arith;
}
comes_first such run end session events (Effect other act ∷ moves) law beside (inr on) runs =
    let it = beside other on.0 in
    let rest = comes_first such runs.0 end session events moves (act_keeps run runs.0 other act law runs.2).law
    (λ third is. (
      (beside third is).0,
      still_apart run runs.0 other third session act law runs.2 it.0
          (beside third is).0 it.1 (beside third is).1,
    )) on.1 runs.3 in
    let swapped = exchanged_apart run runs.0 rest.first other session act rest.act law it.0 it.1 runs.2 rest.leads in
    record {
      act = rest.act;
      first = swapped.0;
      leads = swapped.1;
      moves = Effect other act ∷ rest.moves;
      runs = (rest.first, runs.1, swapped.2, rest.runs);
      fewer = omega (arith, rest.fewer);
    }
comes_first such run end session events (Seeing ∷ moves) law beside reaches runs = absurd reaches
comes_first such run end session events [] law beside reaches runs = absurd reaches

-- ---- a call that is ahead in what is kept

-- if an act of another session leads on, it also does once one session's client is replaced, to the same
-- configuration with that client replaced
beside_acts : (run next : Config) (session other : ℕ) (act : Act) (c : ClientState) → session ≢ other
    → effect_of run other act ≡ Some next
    → effect_of (with_client run session c) other act ≡ Some (with_client next session c)
beside_acts run next session other act c apart leads =
    let a = acted run next other act leads in
    let there : slice_get (set run.clients session c) other ≡ Some a.before =
    get_apart run.clients session other c apart ∙ a.found in
    a.again (with_client run session c) there refl
    ∙ ap (λ l. Some (record { state = a.state; clients = l }))
    (set_apart run.clients session other c a.next apart)
    ∙ ap (λ d. Some (with_client d session c)) (sym a.is)

-- the session's open call takes effect: the state is the one after its request, and the session is answered
record TakesOpenCall (run next : Config) (session : ℕ) (request : Request) : Type 0 where
  pub at : slice_get next.clients session ≡ Some (Answered (answer_to run.state session request))
  pub is : next ≡ with_client (record run { state = next_state run.state session request }) session
      (Answered (answer_to run.state session request))

-- each act of a session whose call is open makes that call take effect (`TakesOpenCall`)
takes_open_call : (run next : Config) (session : ℕ) (act : Act) (request : Request)
    → slice_get run.clients session ≡ Some (Called request) → effect_of run session act ≡ Some next
    → TakesOpenCall run next session request
unfolding effect_of carried_out disconnected
takes_open_call run next session Act.Statement request at leads =
    let is = same_Some _ next (sym (ap (λ o. carried_out o run session) at) ∙ leads) in
    record {
      at = ap (λ (c : Config). slice_get c.clients session) (sym is)
          ∙ get_written run.clients session (Called request) (Answered (answer_to run.state session request)) at;
      is = sym is;
    }
takes_open_call run next session Act.Disconnect request at leads =
    absurd (none-some next (sym (ap (λ o. disconnected o run session) at) ∙ leads))

-- moves lead on to the same end from where the session has an answer already. They are no more than `count`
pub record AnswersFirst (run end : Config) (session : ℕ) (events : List Event) (count : ℕ) : Type 0 where
  pub given : Answer
  pub moves : List Move
  pub runs : LeadsThrough (with_client run session (Answered given)) events moves end
  pub fewer : length moves < count

-- if the session's open call is quiet for what it returns, and takes effect before the next event, it may be answered
-- at once, with the answer that it gets there; or the order can't go on past a return
pub answered_first : (such : ℕ → Type 0) (hints : List Hint) (run end : Config) (session : ℕ) (request : Request)
    (seen : Seen) (events : List Event) (moves : List Move) → slice_get run.clients session ≡ Some (Called request)
    → hint_of hints session ≡ Some seen → IsQuietFor run.state session request seen → LockLaw run.state
    → Reaches such session moves → LeadsThrough run events moves end
    → AnswersFirst run end session events (length moves) ⊎ IsLeft hints events end
answered_first such hints run end session request seen events (Effect other act ∷ moves) at hinted quiet law reaches
    runs =
    elim (same_number session other) [
      | inl e ↦ own (subst (λ n. effect_of run n act ≡ Some runs.0) (sym e) runs.2)
          (shows_answer seen (answer_to run.state session request)) refl
      | inr apart ↦
          let keeps = act_keeps run runs.0 other act law runs.2 in
          later apart (answered_first such hints runs.0 end session request seen events moves (still_open apart) hinted
          (still_quiet_for run.state runs.0.state session request seen (keeps.others session (λ e. apart (sym e)))
          quiet) keeps.law (on apart reaches) runs.3)
    ]
  where
    answer : Answer
    answer = answer_to run.state session request

    on : session ≢ other → (other ≡ session) ⊎ (such other × Reaches such session moves) → Reaches such session moves
    on apart (inl is) = absurd (apart (sym is))
    on apart (inr rest) = rest.1

    own : effect_of run session act ≡ Some runs.0 → (b : Bool) → shows_answer seen answer ≡ b
        → AnswersFirst run end session events (length (Effect other act ∷ moves)) ⊎ IsLeft hints events end
    own leads true shown =
        let it = takes_open_call run runs.0 session act request at leads in
        let make : State → Config = λ state. record {
          state = state;
          clients = set run.clients session (Answered answer);
        } in
        inl (record {
          given = answer;
          moves = moves;
          runs = subst (λ c. LeadsThrough c events moves end)
              (it.is ∙ ap make (quiet_keeps run.state session request seen quiet shown)) runs.3;
          fewer = omega arith;
        })
    own leads false hidden =
        let it = takes_open_call run runs.0 session act request at leads in
        inr (record {
          run = runs.0;
          dead = record {
            session = session;
            seen = seen;
            hinted = hinted;
            answer = answer;
            at = it.at;
            hidden = hidden;
          };
          moves = moves;
          runs = runs.3;
        })

    still_open : session ≢ other → slice_get runs.0.clients session ≡ Some (Called request)
    still_open apart =
        let a = acted run runs.0 other act runs.2 in
        ap (λ (c : Config). slice_get c.clients session) a.is
        ∙ get_apart run.clients other session a.next (λ e. apart (sym e)) ∙ at

    later : session ≢ other → AnswersFirst runs.0 end session events (length moves) ⊎ IsLeft hints events end
        → AnswersFirst run end session events (length (Effect other act ∷ moves)) ⊎ IsLeft hints events end
    later apart (inl rest) = inl (record {
      given = rest.given;
      moves = Effect other act ∷ rest.moves;
      runs = (
        with_client runs.0 session (Answered rest.given),
        runs.1,
        beside_acts run runs.0 session other act (Answered rest.given) apart runs.2,
        rest.runs,
      );
      fewer = omega (arith, rest.fewer);
    })
    later apart (inr left) = inr left
answered_first such hints run end session request seen events (Seeing ∷ moves) at hinted quiet law reaches runs =
    absurd reaches
answered_first such hints run end session request seen events [] at hinted quiet law reaches runs = absurd reaches

-- ---- an act of a persistent set

-- the session isn't in the set, and as far in what is kept as in the order
abbrev IsOutside : List Bool → Config → Config → ℕ → Type 0
IsOutside all run kept session = IsSession session × (IsIn all session → ⊥)
    × (slice_get run.clients session ≡ slice_get kept.clients session)

-- the first act that isn't of such a session (`IsOutside`): it is of one in the set that is as far in what is kept, or
-- of one that isn't as far there
record Finds (hints : List Hint) (all : List Bool) (run kept : Config) (moves : List Move) : Type 0 where
  pub session : ℕ
  pub is : IsSession session
  pub reaches : Reaches (IsOutside all run kept) session moves
  pub counts : (IsIn all session × (slice_get run.clients session ≡ slice_get kept.clients session))
      ⊎ (IsAheadAt (hint_of hints session) run.state session (slice_get run.clients session)
      (slice_get kept.clients session)
      ⊎ IsBehindAt (fact_of hints session) (slice_get run.clients session) (slice_get kept.clients session))

-- a session is in the set or not
in_or_out : (all : List Bool) (session : ℕ) → IsIn all session ⊎ (IsIn all session → ⊥)
in_or_out all session = by (slice_get all session) refl
  where
    by : (o : Option Bool) → slice_get all session ≡ o → IsIn all session ⊎ (IsIn all session → ⊥)
    by None at = inr (λ e. none-some true (sym at ∙ e))
    by (Some true) at = inl at
    by (Some false) at = inr (λ e. false≢true (same_Some false true (sym at ∙ e)))

-- such an act is found (`Finds`), or a session of the set rests until the next event
finds : (hints : List Hint) (all : List Bool) (run kept now end : Config) (session : ℕ) (events : List Event)
    (moves : List Move) → AreAlike hints run kept → IsIn all session → LeadsThrough now events moves end
    → Finds hints all run kept moves ⊎ RestsUntil session moves
finds hints all run kept now end session events (Effect other act ∷ moves) alike has runs =
    elim (alike.clients other) [
      | inr apart ↦ inl (record { session = other; is = runs.1; reaches = inl refl; counts = inr apart })
      | inl same ↦ elim (in_or_out all other) [
        | inl inside ↦ inl (record { session = other; is = runs.1; reaches = inl refl; counts = inl (inside, same) })
        | inr outside ↦ elim (finds hints all run kept runs.0 end session events moves alike has runs.3) [
          | inl found ↦ inl (record {
            session = found.session;
            is = found.is;
            reaches = inr ((runs.1, outside, same), found.reaches);
            counts = found.counts;
          })
          | inr rests ↦ inr ((λ e. outside (subst (IsIn all) (sym e) has)), rests)
        ]
      ]
    ]
finds hints all run kept now end session events (Seeing ∷ moves) alike has runs = inr tt
finds hints all run kept now end session events [] alike has runs = inr tt

-- before the next event the session rests; or the order is followed from the same list with fewer moves, as an act of
-- a persistent set may come first, or a call that is ahead in what is kept; or it can't go on past a return
pub goes_step : (hints : List Hint) (all : List Bool) (has : Config → Type 0) (kept run end : Config) (session : ℕ)
    (events : List Event) (moves : List Move) → has kept → AreAlike hints run kept → IsPersistent kept session all
    → HasTried hints all kept has → LeadsThrough run events moves end
    → RestsUntil session moves
    ⊎ (((on : IsFollowed hints has events end) × (length on.moves < length moves)) ⊎ IsLeft hints events end)
goes_step hints all has kept run end session events moves there alike persistent tried runs =
    elim (finds hints all run kept run end session events moves alike persistent.has runs) [
      | inl found ↦ inr (by found found.counts)
      | inr rests ↦ inl rests
    ]
  where
    first : (found : Finds hints all run kept moves) → IsIn all found.session
        → slice_get run.clients found.session ≡ slice_get kept.clients found.session
        → ActsFirst run end found.session events (length moves)
    first found inside same =
        comes_first (IsOutside all run kept) run end found.session events moves alike.law
        (λ other outside. (
          (λ e. outside.1 (subst (IsIn all) (sym e) inside)),
          apart_same kept run other found.session (sym alike.state) outside.2 same
              (persistent.apart found.session found.is inside other (omega (arith, outside.0.1)) outside.0 outside.1),
        ))
        found.reaches runs

    by : (found : Finds hints all run kept moves)
        → (IsIn all found.session × (slice_get run.clients found.session ≡ slice_get kept.clients found.session))
        ⊎ (IsAheadAt (hint_of hints found.session) run.state found.session (slice_get run.clients found.session)
        (slice_get kept.clients found.session)
        ⊎ IsBehindAt (fact_of hints found.session) (slice_get run.clients found.session)
        (slice_get kept.clients found.session))
        → ((on : IsFollowed hints has events end) × (length on.moves < length moves)) ⊎ IsLeft hints events end
    by found (inl is) =
        let f = first found is.0 is.1 in
        elim (alike_acts hints run kept f.first found.session f.act alike f.leads) [
          | inl same ↦ inl (
            record {
              kept = kept;
              there = there;
              run = f.first;
              alike = same;
              moves = f.moves;
              runs = f.runs;
            },
            f.fewer,
          )
          | inr (inl follows) ↦
              let next = tried follows.0 found.session f.act found.is is.0 follows.1 follows.2 in
              inl (
                record {
                  kept = next.0;
                  there = next.1;
                  run = f.first;
                  alike = next.2 f.first follows.3;
                  moves = f.moves;
                  runs = f.runs;
                },
                f.fewer,
              )
          | inr (inr dead) ↦ inr (record { run = f.first; dead = dead; moves = f.moves; runs = f.runs })
        ]
    by found (inr (inl ahead)) = elim ahead.way [
      | inl called ↦ elim (answered_first (IsOutside all run kept) hints run end found.session called.0 ahead.seen
          events moves called.1 ahead.hinted called.2 alike.law found.reaches runs) [
            | inl f ↦ inl (
              record {
                kept = kept;
                there = there;
                run = with_client run found.session (Answered f.given);
                alike = ahead_answered hints run kept found.session called.0 f.given alike ahead called.1;
                moves = f.moves;
                runs = f.runs;
              },
              f.fewer,
            )
            | inr left ↦ inr left
          ]
      | inr given ↦ absurd (no_rest (IsOutside all run kept) found.session moves found.reaches
          (rests_answered run end found.session events moves (ap answered_so given.1) runs))
    ]
    by found (inr (inr behind)) = absurd (no_rest (IsOutside all run kept) found.session moves found.reaches
        (rests_answered run end found.session events moves (ap answered_so behind.run) runs))
