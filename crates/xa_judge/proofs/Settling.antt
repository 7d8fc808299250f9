-- A return, and what comes before it.
--     Settled, settles               where a list is closed, a return is seen from one of it, once what its session
--                                    called for has taken effect
--     AnsweredSo, answers_settle     in a closed list, each answer that acts lead to is that of a settled one
use Rattle.std.proofs.Common.{◌≡◌, ◌≢◌, ◌⊎◌, ℕ, Bool, true, false, Option, Some, None, List, [], ◌∷◌, length, set, refl}
use Rattle.std.proofs.{Common.{ap, sym, ◌∙◌, subst, inl, inr, arith}, lemmas.Option.{none-some, same_Some}}
use Rattle.std.{proofs.lemmas.Bool.false≢true, specs.Prelude.slice_get}
use Rattle.xa_judge.specs.declared.{answer.Answer.Answer, request.Request.Request, event.{Seen.Seen, Event.Event}}
use Rattle.xa_judge.specs.declared.{event.Event.TheVariants.Return, client_state.ClientState.ClientState, moves.Act.Act}
use Rattle.xa_judge.specs.declared.client_state.ClientState.TheVariants.{Idle, Called, Answered, Gone, Left}
use Rattle.xa_judge.specs.declared.moves.{Act.TheVariants.{Statement, Disconnect}, Move.Move}
use Rattle.xa_judge.specs.{declared.configuration.Configuration.Configuration, Explained.{Config, effect_of}}
use Rattle.xa_judge.specs.Explained.{carried_out, disconnected, answer_to, next_state, LeadsThrough, IsSession}
use Rattle.xa_judge.specs.Late.{after_settling, settled_by, called_for, call_is_answered, answered_so}
use Rattle.xa_judge.specs.Found.{config_of, Has, IsClosedBelow}
use Rattle.xa_judge.proofs.Places.{same_number, get_written, get_apart, mapped_place}
use Rattle.xa_judge.proofs.Waits.{acted, may_answer, answered_apart, First, later, return_answered}

-- if a session has an answer, its call was or may be answered (`may_answer`)
answered_may : (o : Option ClientState) → answered_so o ≡ true → may_answer o ≡ true
answered_may None e = absurd (false≢true e)
answered_may (Some Idle) e = absurd (false≢true e)
answered_may (Some (Called request)) e = refl
answered_may (Some (Answered answer)) e = refl
answered_may (Some (Gone request)) e = absurd (false≢true e)
answered_may (Some Left) e = absurd (false≢true e)

-- a session that can't be answered (`may_answer`) can't be after an act either
dead_behind : (old mid : Config) (session other : ℕ) (act : Act) → effect_of old other act ≡ Some mid
    → may_answer (slice_get old.clients session) ≡ false
    → may_answer (slice_get mid.clients session) ≡ false
dead_behind old mid session other act at none =
    let a = acted old mid other act at in
    elim (same_number other session) [
      | inl e ↦
          ap may_answer (ap (λ (c : Config). slice_get c.clients session) a.is
          ∙ ap (slice_get (set old.clients other a.next)) (sym e)
          ∙ get_written old.clients other a.before a.next a.found)
          ∙ a.dead (ap may_answer (sym a.found ∙ ap (slice_get old.clients) e) ∙ none)
      | inr apart ↦ ap may_answer (ap (λ (c : Config). slice_get c.clients session) a.is
          ∙ get_apart old.clients other session a.next apart) ∙ none
    ]

-- if a session can't be answered (`may_answer`), the next event isn't its return
pub dead : (old new : Config) (session : ℕ) (seen : Seen) (more : List Event) (moves : List Move)
    → may_answer (slice_get old.clients session) ≡ false
    → LeadsThrough old (Return session seen ∷ more) moves new → ⊥
dead old new session seen more (Move.Event ∷ moves) none runs =
    false≢true (sym none ∙ answered_may (slice_get old.clients session)
    (return_answered old runs.0 session seen runs.1))
dead old new session seen more (Move.Effect other act ∷ moves) none runs =
    dead runs.0 new session seen more moves (dead_behind old runs.0 session other act runs.2 none) runs.3
dead old new session seen more [] none runs = runs

-- from a configuration of the list, once what the session called for has taken effect, its return is seen first, and
-- then moves lead through the events `more` to `new`
pub record Settled (list : List Configuration) (session : ℕ) (seen : Seen) (more : List Event)
    (new : Config) : Type 0 where
  pub one : Config
  pub has : Has list one
  pub rest : First (after_settling one session) (Return session seen) more new

-- a session that has its answer has nothing left to settle
settled_answered : (old : Config) (session : ℕ) → call_is_answered old session ≡ true → after_settling old session ≡ old
unfolding after_settling
settled_answered old session answered = ap (λ r. settled_by r old session) (by (slice_get old.clients session) answered)
  where
    by : (o : Option ClientState) → answered_so o ≡ true → called_for o ≡ None
    by None e = absurd (false≢true e)
    by (Some Idle) e = absurd (false≢true e)
    by (Some (Called request)) e = absurd (false≢true e)
    by (Some (Answered answer)) e = refl
    by (Some (Gone request)) e = absurd (false≢true e)
    by (Some Left) e = absurd (false≢true e)

-- if a session has its answer in a configuration of the list, an order from there past its return may see the return
-- first: acts of others before that can wait (`Settled`)
settles_answered : (list : List Configuration) (session : ℕ) (seen : Seen) (more : List Event) (old new : Config)
    (moves : List Move) → Has list old
    → call_is_answered old session ≡ true → LeadsThrough old (Return session seen ∷ more) moves new
    → Settled list session seen more new
settles_answered list session seen more old new moves has answered runs = record {
  one = old;
  has = has;
  rest =
      subst (λ c. First c (Return session seen) more new) (sym (settled_answered old session answered))
      (later old new (Return session seen) more moves answered runs);
}

-- after a session's own act: what it called for has taken effect and it is answered; or it can't be answered any more
abbrev OwnAct : Config → ℕ → Config → Type 0
OwnAct old session mid =
    ((after_settling old session ≡ mid) × (call_is_answered mid session ≡ true))
    ⊎ (may_answer (slice_get mid.clients session) ≡ false)

-- each act of a session leaves it answered, or so that it can't be answered any more (`OwnAct`)
own_act : (session : ℕ) (act : Act) (old mid : Config) → effect_of old session act ≡ Some mid → OwnAct old session mid
unfolding effect_of carried_out disconnected after_settling
own_act session act old mid at = by act (slice_get old.clients session) refl at
  where
    gone : (act : Act) (request : Option Request) → slice_get old.clients session ≡ Some (Gone request)
        → effect_of old session act ≡ Some mid
        → may_answer (slice_get mid.clients session) ≡ false
    gone act request found is =
        let a = acted old mid session act is in
        ap may_answer (ap (λ (c : Config). slice_get c.clients session) a.is
        ∙ get_written old.clients session a.before a.next a.found)
        ∙ a.dead (ap may_answer (sym a.found ∙ found))

    by : (act : Act) (o : Option ClientState) → slice_get old.clients session ≡ o → effect_of old session act ≡ Some mid
        → OwnAct old session mid
    by Statement None found is = absurd (none-some mid (sym (ap (λ o. carried_out o old session) found) ∙ is))
    by Statement (Some Idle) found is = absurd (none-some mid (sym (ap (λ o. carried_out o old session) found) ∙ is))
    by Statement (Some (Called request)) found is =
        let answer = Answered (answer_to old.state session request) in
        let mid_is : record { state = next_state old.state session request; clients = set old.clients session answer }
        ≡ mid =
        same_Some _ mid (sym (ap (λ o. carried_out o old session) found) ∙ is) in
        let here : call_is_answered mid session ≡ true =
        ap answered_so (ap (λ (c : Config). slice_get c.clients session) (sym mid_is)
        ∙ get_written old.clients session (Called request) answer found) in
        let same : after_settling old session ≡ mid = ap (λ r. settled_by r old session) (ap called_for found)
        ∙ mid_is in
        inl (same, here)
    by Statement (Some (Answered answer)) found is =
        absurd (none-some mid (sym (ap (λ o. carried_out o old session) found) ∙ is))
    by Statement (Some (Gone request)) found is = inr (gone Statement request found is)
    by Statement (Some Left) found is = absurd (none-some mid (sym (ap (λ o. carried_out o old session) found) ∙ is))
    by Disconnect None found is = absurd (none-some mid (sym (ap (λ o. disconnected o old session) found) ∙ is))
    by Disconnect (Some Idle) found is = absurd (none-some mid (sym (ap (λ o. disconnected o old session) found) ∙ is))
    by Disconnect (Some (Called request)) found is =
        absurd (none-some mid (sym (ap (λ o. disconnected o old session) found) ∙ is))
    by Disconnect (Some (Answered answer)) found is =
        absurd (none-some mid (sym (ap (λ o. disconnected o old session) found) ∙ is))
    by Disconnect (Some (Gone request)) found is = inr (gone Disconnect request found is)
    by Disconnect (Some Left) found is = absurd (none-some mid (sym (ap (λ o. disconnected o old session) found) ∙ is))

-- if an order to a return begins with the session's own act, that act settles the session, and the return is seen
-- from there (`Settled`)
settles_own : (list : List Configuration) (session : ℕ) (act : Act) (seen : Seen) (more : List Event)
    (old mid new : Config) (moves : List Move) → Has list old
    → effect_of old session act ≡ Some mid
    → LeadsThrough mid (Return session seen ∷ more) moves new → Settled list session seen more new
settles_own list session act seen more old mid new moves has at runs = elim (own_act session act old mid at) [
  | inl s ↦
      record {
        one = old;
        has = has;
        rest = subst (λ c. First c (Return session seen) more new) (sym s.0)
            (later mid new (Return session seen) more moves s.1 runs);
      }
  | inr none ↦ absurd (dead mid new session seen more moves none runs)
]

-- two numbers that differ still do under `Some`
apart_some : (m n : ℕ) → m ≢ n → Some n ≢ Some m
apart_some m n apart e = apart (sym (same_Some n m e))

-- while the session that is to return isn't answered, an act of another session leads from a configuration of a
-- closed list to one of that list
other_act : (list : List Configuration) (returning session : ℕ) (act : Act) (old mid : Config)
    → IsClosedBelow (length list) (Some returning) list → Has list old
    → IsSession session → session ≢ returning → call_is_answered old returning ≡ false
    → effect_of old session act ≡ Some mid → Has list mid
other_act list returning session act old mid closed has is apart unanswered at =
    let place = mapped_place config_of list old has in
    let same : config_of place.1 ≡ old = place.4 in
    closed place.0 place.1 place.2 place.3 session act mid (omega (arith, is.1)) is (apart_some session returning apart)
    (ap (λ c. call_is_answered c returning) same ∙ unanswered)
    (ap (λ c. effect_of c session act) same ∙ at)

-- an order to a return that begins with an act: if the session has its answer, or the act is its own, the return is
-- seen from one of the list (`Settled`). If the act is another session's, the closed list has what it leads to, and
-- the same is assumed of an order from there
settles_effect : (list : List Configuration) (session other : ℕ) (act : Act) (seen : Seen) (more : List Event)
    (old new : Config) (moves : List Move)
    → IsClosedBelow (length list) (Some session) list → Has list old
    → (runs : LeadsThrough old (Return session seen ∷ more) (Move.Effect other act ∷ moves) new)
    → (Has list runs.0 → Settled list session seen more new)
    → Settled list session seen more new
settles_effect list session other act seen more old new moves closed has runs go_on =
    by (call_is_answered old session) refl
  where
    by : (b : Bool) → call_is_answered old session ≡ b → Settled list session seen more new
    by true answered = settles_answered list session seen more old new (Move.Effect other act ∷ moves) has answered runs
    by false unanswered = elim (same_number other session) [
      | inl e ↦ settles_own list session act seen more old runs.0 new moves has
          (ap (λ n. effect_of old n act) (sym e) ∙ runs.2) runs.3
      | inr apart ↦ go_on (other_act list session other act old runs.0 closed has runs.1 apart unanswered runs.2)
    ]

-- if an order leads from a configuration of a closed list to a return, the return can be seen first from one of the
-- list, once what its session called for has taken effect (`Settled`)
pub settles : (list : List Configuration) (session : ℕ) (seen : Seen) (more : List Event) (old new : Config)
    (moves : List Move)
    → IsClosedBelow (length list) (Some session) list → Has list old
    → LeadsThrough old (Return session seen ∷ more) moves new
    → Settled list session seen more new
settles list session seen more old new (Move.Event ∷ moves) closed has runs =
    settles_answered list session seen more old new (Move.Event ∷ moves) has
    (return_answered old runs.0 session seen runs.1) runs
settles list session seen more old new (Move.Effect other act ∷ moves) closed has runs =
    settles_effect list session other act seen more old new moves closed has runs
    (λ there. settles list session seen more runs.0 new moves closed there runs.3)
settles list session seen more old new [] closed has runs = absurd runs

-- a session that can't be answered is never answered by acts alone
dead_end : (old new : Config) (session : ℕ) (answer : Answer) (moves : List Move)
    → may_answer (slice_get old.clients session) ≡ false
    → LeadsThrough old [] moves new → slice_get new.clients session ≡ Some (Answered answer) → ⊥
dead_end old new session answer (Move.Event ∷ moves) none runs stands = absurd runs
dead_end old new session answer (Move.Effect other act ∷ moves) none runs stands =
    dead_end runs.0 new session answer moves (dead_behind old runs.0 session other act runs.2 none) runs.3 stands
dead_end old new session answer [] none runs stands =
    false≢true (sym none ∙ ap may_answer (ap (λ (c : Config). slice_get c.clients session) (sym runs) ∙ stands))

-- what a session was answered stays through acts
stays_answered : (old new : Config) (session : ℕ) (moves : List Move) → call_is_answered old session ≡ true
    → LeadsThrough old [] moves new
    → slice_get new.clients session ≡ slice_get old.clients session
stays_answered old new session (Move.Event ∷ moves) answered runs = absurd runs
stays_answered old new session (Move.Effect other act ∷ moves) answered runs =
    let a = acted old runs.0 other act runs.2 in
    let here : slice_get runs.0.clients session ≡ slice_get old.clients session =
    ap (λ (c : Config). slice_get c.clients session) a.is
    ∙ get_apart old.clients other session a.next (answered_apart old runs.0 other session act a answered) in
    stays_answered runs.0 new session moves (ap answered_so here ∙ answered) runs.3 ∙ here
stays_answered old new session [] answered runs = ap (λ (c : Config). slice_get c.clients session) runs

-- in some configuration of the list the session has this answer, once what it called for has taken effect
pub record AnsweredSo (list : List Configuration) (session : ℕ) (answer : Answer) : Type 0 where
  pub one : Config
  pub has : Has list one
  pub stands : slice_get (after_settling one session).clients session ≡ Some (Answered answer)

-- if a session is answered in a configuration of the list, the answer that it has after acts from there is the one of
-- that configuration (`AnsweredSo`)
answers_here : (list : List Configuration) (session : ℕ) (answer : Answer) (old new : Config) (moves : List Move)
    → Has list old
    → call_is_answered old session ≡ true → LeadsThrough old [] moves new
    → slice_get new.clients session ≡ Some (Answered answer)
    → AnsweredSo list session answer
answers_here list session answer old new moves has answered runs stands = record {
  one = old;
  has = has;
  stands = ap (λ (c : Config). slice_get c.clients session) (settled_answered old session answered)
      ∙ sym (stays_answered old new session moves answered runs) ∙ stands;
}

-- if the session's own act leads from a configuration of the list, the answer that it has after that and more acts is
-- the one that it has there once what it called for has taken effect (`AnsweredSo`)
answers_own : (list : List Configuration) (session : ℕ) (answer : Answer) (act : Act) (old mid new : Config)
    (moves : List Move) → Has list old
    → effect_of old session act ≡ Some mid → LeadsThrough mid [] moves new
    → slice_get new.clients session ≡ Some (Answered answer)
    → AnsweredSo list session answer
answers_own list session answer act old mid new moves has at runs stands = elim (own_act session act old mid at) [
  | inl s ↦
      record {
        one = old;
        has = has;
        stands = ap (λ (c : Config). slice_get c.clients session) s.0
            ∙ sym (stays_answered mid new session moves s.1 runs) ∙ stands;
      }
  | inr none ↦ absurd (dead_end mid new session answer moves none runs stands)
]

-- acts alone that lead a session to an answer: if the session has it already, or the first act is its own, it is that
-- of one of the list (`AnsweredSo`). If the first act is another session's, the closed list has what it leads to, and
-- the same is assumed of acts from there
answers_effect : (list : List Configuration) (session other : ℕ) (answer : Answer) (act : Act) (old new : Config)
    (moves : List Move)
    → IsClosedBelow (length list) (Some session) list → Has list old
    → (runs : LeadsThrough old [] (Move.Effect other act ∷ moves) new)
    → slice_get new.clients session ≡ Some (Answered answer)
    → (Has list runs.0 → AnsweredSo list session answer) → AnsweredSo list session answer
answers_effect list session other answer act old new moves closed has runs stands go_on =
    by (call_is_answered old session) refl
  where
    by : (b : Bool) → call_is_answered old session ≡ b → AnsweredSo list session answer
    by true answered = answers_here list session answer old new (Move.Effect other act ∷ moves) has answered runs stands
    by false unanswered = elim (same_number other session) [
      | inl e ↦ answers_own list session answer act old runs.0 new moves has
          (ap (λ n. effect_of old n act) (sym e) ∙ runs.2) runs.3 stands
      | inr apart ↦ go_on (other_act list session other act old runs.0 closed has runs.1 apart unanswered runs.2)
    ]

-- in a closed list, each answer that acts alone lead a session to is that of a settled configuration (`AnsweredSo`)
pub answers_settle : (list : List Configuration) (session : ℕ) (answer : Answer) (old new : Config) (moves : List Move)
    → IsClosedBelow (length list) (Some session) list → Has list old → LeadsThrough old [] moves new
    → slice_get new.clients session ≡ Some (Answered answer)
    → AnsweredSo list session answer
answers_settle list session answer old new (Move.Event ∷ moves) closed has runs stands = absurd runs
answers_settle list session answer old new (Move.Effect other act ∷ moves) closed has runs stands =
    answers_effect list session other answer act old new moves closed has runs stands
    (λ there. answers_settle list session answer runs.0 new moves closed there runs.3 stands)
answers_settle list session answer old new [] closed has runs stands =
    answers_here list session answer old new [] has
    (ap answered_so (ap (λ (c : Config). slice_get c.clients session) (sym runs) ∙ stands)) runs stands
