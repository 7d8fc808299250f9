-- Past an event that ends a call: only acts of a persistent set have to come before it in what is kept, and none once
-- the session is answered there.
--     goes_closed      past the event
--     ends_answered    the answers that a session can have after all events
use Rattle.std.proofs.Common.{◌≡◌, ◌⊎◌, ℕ, Bool, true, false, Option, Some, None, List, [], ◌∷◌, set, length, zero, suc}
use Rattle.std.proofs.{Common.{refl, ap, sym, ◌∙◌, subst, inl, inr, ◌<◌, arith}, lemmas.Bool.false≢true}
use Rattle.std.{proofs.lemmas.Option.none-some, specs.Prelude.slice_get}
use Rattle.xa_judge.specs.declared.{answer.Answer.Answer, client_state.ClientState.TheVariants.{Called, Answered}}
use Rattle.xa_judge.specs.{declared.{event.Event.Event, moves.Move.Move}, Explained.{Config, LeadsThrough}}
use Rattle.xa_judge.specs.{Late.{call_is_answered, answered_so}, Keys.session_of, Persistent.IsClosedFor}
use Rattle.xa_judge.specs.Foreseen.{Hint, fact_of, hint_of, IsAlikeAt, AreAlike, FitsHints, HasSeenFor, GoesOn}
use Rattle.xa_judge.proofs.FirstActs.{RestsUntil, acts_or_rests, rests_answered, rests_end, seen_first, answered_first}
use Rattle.xa_judge.proofs.{FirstActs.goes_step, Places.get_written, ForeseenSteps.ahead_answered}
use Rattle.xa_judge.proofs.ForeseenLists.{left_past, seen_from, answer_kept}

-- if the event's session rests until then, an order of which something is kept goes on past the event from the new
-- list, which has what the event leads to
seen_resting : (hints : List Hint) (hint : Hint) (event : Event) (old new : Config → Type 0) (kept run end : Config)
    (more : List Event) (moves : List Move) → old kept → AreAlike hints run kept → FitsHints hints event
    → HasSeenFor (set hints (session_of event) hint) event old new
    → RestsUntil (session_of event) moves → LeadsThrough run (event ∷ more) moves end
    → GoesOn (set hints (session_of event) hint) new more end
seen_resting hints hint event old new kept run end more moves there alike fits seen rests runs =
    let f = seen_first run end event more moves rests runs in
    inl (seen_from hints hint event old new kept run f.first end more f.moves there alike fits seen f.sees f.runs)

-- if what is kept has answered the event's session, an order goes on past the event from the new list
seen_answered : (hints : List Hint) (hint : Hint) (event : Event) (old new : Config → Type 0) (kept run end : Config)
    (more : List Event) (moves : List Move) → old kept → AreAlike hints run kept → FitsHints hints event
    → HasSeenFor (set hints (session_of event) hint) event old new
    → call_is_answered kept (session_of event) ≡ true → LeadsThrough run (event ∷ more) moves end
    → GoesOn (set hints (session_of event) hint) new more end
seen_answered hints hint event old new kept run end more moves there alike fits seen answered runs =
    by (alike.clients session)
  where
    session : ℕ
    session = session_of event

    resting : (one : Config) (all : List Move) → AreAlike hints one kept → RestsUntil session all
        → LeadsThrough one (event ∷ more) all end → GoesOn (set hints session hint) new more end
    resting one all like rests leads =
        seen_resting hints hint event old new kept one end more all there like fits seen rests leads

    done : (one : Config) (all : List Move) → AreAlike hints one kept → call_is_answered one session ≡ true
        → LeadsThrough one (event ∷ more) all end → GoesOn (set hints session hint) new more end
    done one all like is leads =
        resting one all like (rests_answered one end session (event ∷ more) all is leads) leads

    by : IsAlikeAt (fact_of hints session) run.state session (slice_get run.clients session)
        (slice_get kept.clients session) → GoesOn (set hints session hint) new more end
    by (inl same) = done run moves alike (ap answered_so same ∙ answered) runs
    by (inr (inr behind)) = absurd (false≢true (sym (ap answered_so behind.kept) ∙ answered))
    by (inr (inl ahead)) = elim ahead.way [
      | inr given ↦ done run moves alike (ap answered_so given.1) runs
      | inl called ↦ elim (acts_or_rests session moves) [
        | inr rests ↦ resting run moves alike rests runs
        | inl acts ↦ elim (answered_first (λ other. Unit {0}) hints run end session called.0 ahead.seen (event ∷ more)
            moves called.1 ahead.hinted called.2 alike.law acts runs) [
              | inl f ↦
                  let like = ahead_answered hints run kept session called.0 f.given alike ahead called.1 in
                  done _ f.moves like
                  (ap answered_so (get_written run.clients session (Called called.0) (Answered f.given) called.1))
                  f.runs
              | inr left ↦ inr (left_past hints hint event left.run end more left.moves left.dead fits left.runs)
            ]
      ]
    ]

-- a test holds or fails
either : (b : Bool) → (b ≡ true) ⊎ (b ≡ false)
either true = inl refl
either false = inr refl

-- an order of which something is kept in a closed list (`IsClosedFor`) goes on past the event from the new list, which
-- has what the event leads to. The number is more than that of its moves
pub goes_closed : (count : ℕ) (hints : List Hint) (hint : Hint) (event : Event) (old new : Config → Type 0)
    (kept run end : Config) (more : List Event) (moves : List Move) → length moves < count
    → IsClosedFor hints (session_of event) old → old kept
    → AreAlike hints run kept → FitsHints hints event
    → HasSeenFor (set hints (session_of event) hint) event old new
    → LeadsThrough run (event ∷ more) moves end
    → GoesOn (set hints (session_of event) hint) new more end
goes_closed zero hints hint event old new kept run end more moves below closed there alike fits seen runs =
    absurd (omega (arith, below))
goes_closed (suc count) hints hint event old new kept run end more moves below closed there alike fits seen
    runs =
    elim (either (call_is_answered kept (session_of event))) [
      | inl answered ↦ seen_answered hints hint event old new kept run end more moves there alike fits seen
          answered runs
      | inr unanswered ↦
          let tried = closed kept there unanswered in
          elim (goes_step hints tried.0 old kept run end (session_of event) (event ∷ more) moves there alike tried.1
          tried.2 runs) [
            | inl rests ↦ seen_resting hints hint event old new kept run end more moves there alike fits seen
                rests runs
            | inr (inl on) ↦ goes_closed count hints hint event old new on.0.kept on.0.run end more on.0.moves
                (omega (arith, below, on.1)) closed on.0.there on.0.alike fits seen on.0.runs
            | inr (inr left) ↦ inr (left_past hints hint event left.run end more left.moves left.dead fits left.runs)
          ]
    ]

-- in a closed list (`IsClosedFor`) each answer that a session has where acts end is kept, if no return is known of any
-- open call, and the session's own isn't noted as one that isn't heard of any more. The number is more than that of
-- the acts
pub ends_answered : (count : ℕ) (hints : List Hint) (has : Config → Type 0) (kept run end : Config) (session : ℕ)
    (answer : Answer) (moves : List Move) → length moves < count
    → ((other : ℕ) → hint_of hints other ≡ None) → (fact_of hints session).never ≡ false
    → IsClosedFor hints session has → has kept → AreAlike hints run kept → LeadsThrough run [] moves end
    → slice_get end.clients session ≡ Some (Answered answer)
    → (last : Config) × has last × (slice_get last.clients session ≡ Some (Answered answer))
ends_answered zero hints has kept run end session answer moves below none heard closed there alike runs at =
    absurd (omega (arith, below))
ends_answered (suc count) hints has kept run end session answer moves below none heard closed there alike runs at =
    elim (either (call_is_answered kept session)) [
      | inl answered ↦ resting (rests_answered run end session [] moves
          (ap answered_so (sym same) ∙ answered) runs)
      | inr unanswered ↦
          let tried = closed kept there unanswered in
          elim (goes_step hints tried.0 has kept run end session [] moves there alike tried.1 tried.2 runs) [
            | inl rests ↦ resting rests
            | inr (inl on) ↦ ends_answered count hints has on.0.kept on.0.run end session answer on.0.moves
                (omega (arith, below, on.1)) none heard closed on.0.there on.0.alike on.0.runs at
            | inr (inr left) ↦ absurd (none-some left.dead.seen
                (sym (none left.dead.session) ∙ left.dead.hinted))
          ]
    ]
  where
    same : slice_get kept.clients session ≡ slice_get run.clients session
    same = answer_kept hints run kept session (slice_get run.clients session) alike (none session) heard refl

    resting : RestsUntil session moves
        → (last : Config) × has last × (slice_get last.clients session ≡ Some (Answered answer))
    resting rests = (kept, there, same ∙ sym (rests_end run end session moves rests runs) ∙ at)
