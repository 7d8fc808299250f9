-- One event more.
--     AreAnswersIn, reached_of   the answers of a session in a list;  what a list has is reached
--     AreLate, advance_return    a return, before which acts come as late as they can
--     counts_closed, advance_closed   another event, before which the list is closed
--     widens_call, NoneUnheard   an open call that nobody hears may come before a call;  there is none
use Rattle.std.proofs.{lemmas.{Bool.Decides.nat_tests, Grind.common_steps, Option.none-some}, Common.{◌≡◌, ℕ, false}}
use Rattle.std.proofs.Common.{Some, None, List, [], ◌∷◌, ◌++◌, length, slice_get, refl, ap, sym, ◌∙◌, subst, inl, arith}
use Rattle.std.specs.List.{All, Contains}
use Rattle.xa_server.specs.State.{State}
use Rattle.xa_judge.specs.declared.{client_state.ClientState.TheVariants.Answered, moves.{Act.Act, Move.Move}}
use Rattle.xa_judge.specs.declared.{moves.Move.TheVariants.{Event as Seeing, Effect}, answer.Answer.Answer}
use Rattle.xa_judge.specs.declared.event.{Event.{Event, TheVariants.{Call, Return, Lost, Unknown}}, Seen.Seen}
use Rattle.xa_judge.specs.declared.{configuration.Configuration.Configuration, advance.Advance.Advance}
use Rattle.xa_judge.specs.{declared.advance.Advance.TheVariants.{Known, Impossible, TooMany}, Verdicts.IsReachedByMoves}
use Rattle.xa_judge.specs.Explained.{Config, opening_config, effect_of, observed, LeadsThrough, IsSession}
use Rattle.xa_judge.specs.Late.{after_settling, has_unheard, IsReachedFrom, IsAnyUnheard, Widens, IsCounted, IsReady}
use Rattle.xa_judge.specs.Found.{config_of, Has, Reaches, Grows, KeepsReach, IsAnsweredIn, IsSettledIn, IsClosedBelow}
use Rattle.xa_judge.specs.Advances.{Continues, IsCallOf, IsReturnOf, IsNoReturn, IsSeenFrom, AreAnswers, AreAnswersTo}
use Rattle.xa_judge.{specs.Advances.IsAdvance, proofs.{Waits.{First, CanWait, later}, Places.mapped_place}}
use Rattle.xa_judge.proofs.{Growth.{all_at, has_still}, Settling.{Settled, settles, answers_settle}}

-- if an event is seen first from a configuration of one list, and another list has whatever the event leads to from
-- there, the later events go on from that other list, to the same end
goes_on : (old list : List Configuration) (one end : Config) (event : Event) (more : List Event)
    → ((one new : Config) → Has old one → observed one event ≡ Some new → Has list new) → Has old one
    → First one event more end → Continues list more end
goes_on old list one end event more leads has rest =
    record { one = rest.first; has = leads one rest.first has rest.sees; moves = rest.moves; runs = rest.runs }

-- if all acts can wait until the event (`CanWait`), an order that goes on from a configuration of the list may see
-- the event first
first_now : (old : List Configuration) (end : Config) (event : Event) (more : List Event)
    → ((config : Config) → Has old config → CanWait config event)
    → (now : Continues old (event ∷ more) end) → First now.one event more end
first_now old end event more waits now = later now.one end event more now.moves (waits now.one now.has) now.runs

-- for an event before which no act is needed, as all acts can wait (`CanWait`) and each configuration stands directly
-- before it (`IsReady`): what is left of the list when the event is seen at once (`IsSeenFrom`) is what it leads to
-- (`IsAdvance`)
pub advance_now : (old : List Configuration) (answers : List Answer) (event : Event) (limit : ℕ) (next : Advance)
    → ((config : Config) → Has old config → CanWait config event)
    → ((config : Config) → Has old config → IsReady (Has old) event config)
    → AreAnswers old event answers → IsSeenFrom old answers event next → IsAdvance old event limit next
advance_now old answers event limit (Known list) waits ready none seen = (
  seen.0,
  (λ more end now. goes_on old list.items now.one end event more seen.1 now.has
      (first_now old end event more waits now)),
  seen.2,
  λ new has. let from = seen.3 new has in (from.0, ready from.0 from.1, from.2),
)
advance_now old answers event limit (Impossible others) waits ready none seen = (
  (λ more end now. let rest = first_now old end event more waits now in seen.0 now.one rest.first now.has rest.sees),
  subst (λ l. AreAnswers old event l) (sym seen.1) none,
)
advance_now old answers event limit TooMany waits ready none seen = absurd seen

-- where events go on from a list past a return, they do from the closed list that it grew into, once what the session
-- called for has taken effect
settled_first : (old closed : List Configuration) (session : ℕ) (seen : Seen) (more : List Event) (end : Config)
    → Grows old closed
    → IsClosedBelow (length closed) (Some session) closed → Continues old (Return session seen ∷ more) end
    → Settled closed session seen more end
settled_first old closed session seen more end grows is_closed now = grind (arith, common_steps, nat_tests, settles)

-- the answers are those that the session has in the configurations of the list, and no others
pub record AreAnswersIn (list : List Configuration) (session : ℕ) (answers : List Answer) : Type 0 where
  pub each : All (IsAnsweredIn list session) answers
  pub all : (one : Config) (answer : Answer) → Has list one → slice_get one.clients session ≡ Some (Answered answer)
      → Contains answers answer

-- if moves lead to all configurations of a list (`Reaches`), some moves lead to each one that the list has
pub reached_of : (base : State) (events : List Event) (trunk : List Move) (list : List Configuration) (one : Config)
    → All (Reaches base events trunk) list
    → Has list one → IsReachedByMoves base events one
unfolding Reaches
reached_of base events trunk list one all has =
    let place = mapped_place config_of list one has in
    let reach : Reaches base events trunk place.1 = all_at
    (Reaches base events trunk) list place.0 place.1 all place.3 in
    record {
      moves = trunk ++ place.1.path;
      runs = subst (λ c. LeadsThrough (opening_config base) events (trunk ++ place.1.path) c) place.4 reach;
    }

-- before a return: the answers that the session can have are those that it has in `ready`, which has the closed list's
-- configurations once what it called for has taken effect
answers_to : (old closed ready : List Configuration) (answers : List Answer) (session : ℕ) → Grows old closed
    → IsClosedBelow (length closed) (Some session) closed
    → ((one : Config) → Has closed one → Has ready (after_settling one session)) → KeepsReach closed ready
    → AreAnswersIn ready session answers
    → AreAnswersTo old session answers
answers_to old closed ready answers session grows is_closed settles reach given = record {
  each = λ base events trunk all k d below.
      let is = given.each k d below in
      record {
        config = is.one;
        reached = reached_of base events trunk ready is.one
            (reach base events trunk (grows.reach base events trunk all)) is.has;
        answered = is.stands;
      };
  all = λ new answer now stands.
      let s = answers_settle closed session answer now.one new now.moves is_closed
      (has_still old closed now.one grows now.has) now.runs stands in
      given.all (after_settling s.one session) answer (settles s.one s.has) s.stands;
}

-- acts of other sessions lead from the old list to each configuration of the closed one; each configuration of the
-- ready list is one of the closed list, once what the session called for has taken effect
pub record AreLate (old closed ready : List Configuration) (session : ℕ) : Type 0 where
  pub reached : (config : Config) → Has closed config → IsReachedFrom (Has old) (Some session) config
  pub settled : (config : Config) → Has ready config → IsSettledIn closed session config

-- for a return: the old list grows into a closed one, and the ready list has what each configuration of that becomes
-- once the session's call has taken effect, and no other. What the return leaves of the ready list (`IsSeenFrom`) is
-- then what it leads to from the old one (`IsAdvance`)
advance_at : (old closed ready : List Configuration) (answers : List Answer) (session : ℕ) (seen : Seen) (limit : ℕ)
    (next : Advance) → Grows old closed
    → IsClosedBelow (length closed) (Some session) closed
    → ((one : Config) → Has closed one → Has ready (after_settling one session)) → KeepsReach closed ready
    → AreAnswersIn ready session answers → AreLate old closed ready session
    → IsSeenFrom ready answers (Return session seen) next
    → IsAdvance old (Return session seen) limit next
advance_at old closed ready answers session seen limit (Known list) grows is_closed settles reach given late leads = (
  leads.0,
  λ more end now.
      let s = settled_first old closed session seen more end grows is_closed now in
      goes_on ready list.items (after_settling s.one session) end (Return session seen) more leads.1
      (settles s.one s.has) s.rest,
  λ base events trunk all. leads.2 base events trunk (reach base events trunk (grows.reach base events trunk all)),
  λ new has.
      let from = leads.3 new has in
      let was = late.settled from.0 from.1 in
      (from.0, (was.0, record { widens = tt; reached = late.reached was.0 was.1 }, was.2), from.2),
)
advance_at old closed ready answers session seen limit (Impossible others) grows is_closed settles reach given late
    leads = (
      (λ more end now.
          let s = settled_first old closed session seen more end grows is_closed now in
          leads.0 (after_settling s.one session) s.rest.first (settles s.one s.has) s.rest.sees),
      subst (λ l. AreAnswersTo old session l) (sym leads.1)
          (answers_to old closed ready answers session grows is_closed settles reach given),
    )
advance_at old closed ready answers session seen limit TooMany grows is_closed settles reach given late leads =
    absurd leads

-- what a return of the session leaves of the ready list (`IsSeenFrom`) is what it leads to from the old one
-- (`IsAdvance`), as in `advance_at`; here the event is any that is a return to the session
pub advance_return : (old closed ready : List Configuration) (answers : List Answer) (session : ℕ) (event : Event)
    (limit : ℕ) (next : Advance)
    → IsReturnOf session event → Grows old closed → IsClosedBelow (length closed) (Some session) closed
    → ((one : Config) → Has closed one → Has ready (after_settling one session)) → KeepsReach closed ready
    → AreAnswersIn ready session answers → AreLate old closed ready session
    → IsSeenFrom ready answers event next
    → IsAdvance old event limit next
advance_return old closed ready answers session (Call other request) limit next is grows is_closed settles reach given
    late leads = absurd is
advance_return old closed ready answers session (Return other seen) limit next is grows is_closed settles reach given
    late leads =
    advance_at old closed ready answers other seen limit next grows
    (subst (λ n. IsClosedBelow (length closed) (Some n) closed) (sym is) is_closed)
    (subst (λ n. (one : Config) → Has closed one → Has ready (after_settling one n)) (sym is) settles) reach
    (subst (λ n. AreAnswersIn ready n answers) (sym is) given) (subst (AreLate old closed ready) (sym is) late) leads
advance_return old closed ready answers session (Lost other) limit next is grows is_closed settles reach given late
    leads = absurd is
advance_return old closed ready answers session (Unknown other) limit next is grows is_closed settles reach given late
    leads = absurd is

-- if no session is about to return, an act leads from a configuration of a closed list to one of it
stays_in : (list : List Configuration) (old mid : Config) (session : ℕ) (act : Act)
    → IsClosedBelow (length list) None list → Has list old → IsSession session
    → effect_of old session act ≡ Some mid → Has list mid
stays_in list old mid session act closed has is at =
    let place = mapped_place config_of list old has in
    closed place.0 place.1 place.2 place.3 session act mid (omega (arith, is.1)) is (λ e. none-some session e) refl
    (ap (λ c. effect_of c session act) place.4 ∙ at)

-- the event is seen from one of the list, and then come the other moves
record SeenFromOne (list : List Configuration) (event : Event) (more : List Event) (end : Config) : Type 0 where
  one : Config
  has : Has list one
  rest : First one event more end

-- in a closed list an order from one of its configurations sees the event from one of them at once
closed_first : (list : List Configuration) (event : Event) (more : List Event) (old end : Config) (moves : List Move)
    → IsClosedBelow (length list) None list → Has list old → LeadsThrough old (event ∷ more) moves end
    → SeenFromOne list event more end
closed_first list event more old end (Seeing ∷ moves) closed has runs =
    record { one = old; has = has; rest = record { first = runs.0; sees = runs.1; moves = moves; runs = runs.2 } }
closed_first list event more old end (Effect session act ∷ moves) closed has runs =
    closed_first list event more runs.0 end moves closed (stays_in list old runs.0 session act closed has runs.1 runs.2)
    runs.3
closed_first list event more old end [] closed has runs = absurd runs

-- before an event that isn't a return there are no answers
no_answers : (list : List Configuration) (event : Event) (answers : List Answer) → IsNoReturn event → answers ≡ []
    → AreAnswers list event answers
no_answers list event answers is also = grind (arith)

-- an order that goes on from a list past an event sees it first from a configuration of the closed list that grew out
-- of it
from_closed : (old closed : List Configuration) (event : Event) (more : List Event) (end : Config) → Grows old closed
    → IsClosedBelow (length closed) None closed → Continues old (event ∷ more) end → SeenFromOne closed event more end
from_closed old closed event more end grows is_closed now =
    closed_first closed event more now.one end now.moves is_closed (has_still old closed now.one grows now.has) now.runs

-- if acts may have to take effect before an event that isn't a return (`Widens`), each configuration to which they
-- lead is counted before it
pub counts_closed : (old closed : List Configuration) (event : Event) → IsNoReturn event → Widens (Has old) event
    → ((config : Config) → Has closed config → IsReachedFrom (Has old) None config)
    → (config : Config) → Has closed config → IsCounted (Has old) event config
counts_closed old closed event is widens reached config has = grind (arith)

-- a configuration that counts for an event that isn't a return stands directly before that event
ready_counted : (old : List Configuration) (event : Event) (config : Config) → IsNoReturn event
    → IsCounted (Has old) event config → IsReady (Has old) event config
ready_counted old event config is counted = grind (arith)

-- for an event that isn't a return: the old list grows into a closed one, whose configurations are all counted. What
-- the event leaves of the closed list (`IsSeenFrom`) is then what it leads to from the old one (`IsAdvance`)
pub advance_closed : (old closed : List Configuration) (answers : List Answer) (event : Event) (limit : ℕ)
    (next : Advance) → IsNoReturn event
    → Grows old closed → IsClosedBelow (length closed) None closed → answers ≡ []
    → ((config : Config) → Has closed config → IsCounted (Has old) event config) → IsSeenFrom closed answers event next
    → IsAdvance old event limit next
advance_closed old closed answers event limit (Known list) is grows is_closed none counted seen = (
  seen.0,
  λ more end now.
      let s = from_closed old closed event more end grows is_closed now in
      goes_on closed list.items s.one end event more seen.1 s.has s.rest,
  λ base events trunk all. seen.2 base events trunk (grows.reach base events trunk all),
  λ new has.
      let from = seen.3 new has in
      (from.0, ready_counted old event from.0 is (counted from.0 from.1), from.2),
)
advance_closed old closed answers event limit (Impossible others) is grows is_closed none counted seen = (
  (λ more end now. let s = from_closed old closed event more end grows is_closed now in
      seen.0 s.one s.rest.first s.has s.rest.sees),
  no_answers old event others.items is (seen.1 ∙ none),
)
advance_closed old closed answers event limit TooMany is grows is_closed none counted seen = absurd seen

-- an open call of the session that calls, its client gone, may have to take effect before it calls again
pub widens_call : (old : List Configuration) (calling : ℕ) (event : Event) → IsCallOf calling event
    → IsAnyUnheard (Has old) calling → Widens (Has old) event
widens_call old calling (Call session request) is some = subst (IsAnyUnheard (Has old)) (sym is) some
widens_call old calling (Return session shown) is some = absurd is
widens_call old calling (Lost session) is some = absurd is
widens_call old calling (Unknown session) is some = absurd is

-- in no configuration of the list is the session's client gone with an open call, which might still take effect
abbrev pub NoneUnheard : List Configuration → ℕ → Type 0
NoneUnheard list session = (one : Config) → Has list one → has_unheard one session ≡ false

-- for a call of a session that has no open call which nobody hears (`NoneUnheard`): what is left of the list when the
-- call is seen at once (`IsSeenFrom`) is what it leads to (`IsAdvance`)
pub advance_call : (old : List Configuration) (answers : List Answer) (calling : ℕ) (event : Event) (limit : ℕ)
    (next : Advance) → IsCallOf calling event
    → NoneUnheard old calling → answers ≡ [] → IsSeenFrom old answers event next
    → IsAdvance old event limit next
advance_call old answers calling (Call session request) limit next is heard none seen =
    advance_now old answers (Call session request) limit next
    (λ config has. ap (has_unheard config) is ∙ heard config has) (λ config has. inl has) none seen
advance_call old answers calling (Return session shown) limit next is heard none seen = absurd is
advance_call old answers calling (Lost session) limit next is heard none seen = absurd is
advance_call old answers calling (Unknown session) limit next is heard none seen = absurd is
