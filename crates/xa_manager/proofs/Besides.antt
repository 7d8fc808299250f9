-- A manager whose sessions hold the other clients' beside them: its calls leave those alone, but for AT and SHOW.
use Rattle.std.proofs.Common.{◌≡◌, ◌∙◌, ◌+◌, ℕ, suc, List, [], ◌∷◌, ◌++◌, length, map, refl, ap, sym, subst, Result}
use Rattle.std.{proofs.Common.{inl, inr, ⊎_elim, arith}, specs.Prelude.{true, IfOk}}
use Rattle.xa_xid.specs.declared.statement.Statement.{Statement, TheVariants.Recover as RecoverStatement}
use Rattle.xa_server.specs.declared.reply.Reply.{Reply}
use Rattle.xa_session.specs.{View.{SessionView, StaysOfLog}, declared.{answer.Answer.Answer, fault.Fault.Fault}}
use Rattle.xa_coordinator.specs.{Beside.{IsLeftAlone, HoldsAsBefore, IsAnsweredSo}, Fusing.limited}
use Rattle.xa_coordinator.specs.{Stores.{AtStore, EachStore, ChangesAt}, declared.decisions.Decision.Decision}
use Rattle.xa_coordinator.specs.declared.fused.Fused.{Fused}
use Rattle.xa_coordinator.proofs.Walk.{Reached, reached_next, reached_weaker, at_then, at_same, only_at}
use Rattle.xa_manager.specs.declared.{call.Call.Call, response.Response.Response, stage.Stage.Stage}
use Rattle.xa_manager.specs.{Beside.{within, others_of, LeavesAlone, CarriesBeside, PerformsBeside}, Whole.Performs}
use Rattle.xa_manager.specs.{Carried.{WholeManager, SpeaksAlone, Carries}, Said.{IsGiven, IsListed, reply_of}}
use Rattle.xa_manager.proofs.{Passes.map_within, Said.{get_before, get_last}}

-- `view` sees the coordinator's session of a value, `other` the other client's in it; using the first leaves the
-- second as it was (`steady`)
module _ {S : Type 0} (view other : S → SessionView) (steady : (old new : S) → HoldsAsBefore (view old) (view new)
    → other new ≡ other old) where
  -- if each of the coordinator's sessions stays of its log, and none is missing, the other clients' are as they were
  others_steady : (old new : List (Fused S)) → length new ≡ length old
      → EachStore (limited view) (λ store. StaysOfLog) old new
      → others_of other new ≡ others_of other old
  others_steady [] [] count each = refl
  others_steady [] (n ∷ ns) count each = absurd (omega (arith, count))
  others_steady (o ∷ os) [] count each = absurd (omega (arith, count))
  others_steady (o ∷ os) (n ∷ ns) count each =
      ap (λ first. first ∷ others_of other ns) (steady o.inner n.inner (held (each 0 o n refl refl)))
      ∙ ap (λ rest. other o.inner ∷ rest)
      (others_steady os ns (omega (arith, count)) (λ store before after is_before is_after. each
      (suc store) before after is_before is_after))
    where
      held : StaysOfLog (limited view o) (limited view n) → HoldsAsBefore (view o.inner) (view n.inner)
      held stays = record { base = stays.base; beside = stays.beside }

  -- if the coordinator's sessions are the same but for their limits, the other clients' are as they were
  others_within : (old new : List (Fused S)) → map (λ (s : Fused S). s.inner) new ≡ map (λ (s : Fused S). s.inner) old
      → others_of other new ≡ others_of other old
  others_within old new same =
      map_within (λ (s : Fused S). s.inner) other new ∙ ap (map other) same
      ∙ sym (map_within (λ (s : Fused S). s.inner) other old)

  module _ {T : Type 0} (nobody : T → SessionView) (old new : WholeManager (Fused S) T)
      (was : length old.sessions ≡ old.stores)
      (now : length new.sessions ≡ new.stores) where
    -- the other clients' sessions are as they were
    abbrev Same : Type 0
    Same = others_of other new.sessions ≡ others_of other old.sessions

    -- the other clients' sessions are as they were if they are so in a manager that equals the new one
    unchanged_others : (whole : WholeManager (Fused S) T) → new ≡ whole
        → others_of other whole.sessions ≡ others_of other old.sessions → Same
    unchanged_others whole is same = ap (λ (w : WholeManager (Fused S) T). others_of other w.sessions) is ∙ same

    -- a call that used only the coordinator's sessions leaves the other clients' as they were
    spoken : (decisions : List Decision) (stages : List Stage) → SpeaksAlone (limited view) decisions stages old new
        → Same
    spoken decisions stages alone =
        let stores : new.stores ≡ old.stores = ap (λ (w : WholeManager (Fused S) T). w.stores) alone.stands in
        others_steady old.sessions new.sessions (now ∙ stores ∙ sym was) alone.logs

    -- a call other than AT and SHOW that was carried out left the other clients' sessions, held by the coordinator's,
    -- as they were
    carried_beside : (call : Call) (response : Response) → ((store : ℕ) (statement : Statement)
        → call ≡ Call.At store statement → ⊥) → (call ≡ Call.Show → ⊥)
        → Carries (limited view) nobody old call response new → CarriesBeside view other nobody old call response new
    carried_beside Call.Silent response not_at not_show is = (is, unchanged_others old is.1 refl)
    carried_beside (Call.Unread place) response not_at not_show is = absurd is
    carried_beside Call.Begin response not_at not_show is =
        (is, ⊎_elim (λ begun. unchanged_others _ begun.stands refl) (λ spent. unchanged_others _ spent.stands refl) is)
    carried_beside (Call.Work number store statement) response not_at not_show is = (is, spoken _ _ is.alone)
    carried_beside (Call.Prepare number) response not_at not_show is = (is, spoken _ _ is.alone)
    carried_beside (Call.Decide number) response not_at not_show is =
        (is, ⊎_elim (λ done. unchanged_others _ done.2 refl) (λ closed. unchanged_others _ closed.2 refl) is.outcome)
    carried_beside (Call.Finish number) response not_at not_show is = (is, spoken _ _ is.ends.alone)
    carried_beside (Call.Abandon number) response not_at not_show is = (is, spoken _ _ is.ends.alone)
    carried_beside (Call.Fail store calls) response not_at not_show is =
        (is, others_within old.sessions new.sessions is.limited.within)
    carried_beside Call.Stop response not_at not_show is = (is, others_within old.sessions new.sessions is.within)
    carried_beside Call.Recover response not_at not_show is = (is, spoken _ _ is.alone)
    carried_beside (Call.At store statement) response not_at not_show is = absurd (not_at store statement refl)
    carried_beside Call.Show response not_at not_show is = absurd (not_show refl)

    -- a call other than AT and SHOW that was refused or carried out was so also where the coordinator's sessions hold
    -- the other clients'
    pub performed_beside : (call : Call) (response : Response)
        → ((store : ℕ) (statement : Statement) → call ≡ Call.At store statement → ⊥) → (call ≡ Call.Show → ⊥)
        → Performs view nobody old call response new → PerformsBeside view other nobody old call response new
    performed_beside call response not_at not_show performs =
        ⊎_elim (λ refused. inl refused) (λ carries. inr (carried_beside call response not_at not_show carries)) performs

-- a session that answered a statement, or failed, was given it, with the reply or the fault as its result
pub given_so : (statement : Statement) (answered : Result Answer Fault) (old new : SessionView)
    → IsAnsweredSo statement answered old new
    → IsGiven statement (reply_of answered) old new
given_so statement answered old new is = grind (arith)

-- a session to which nothing is said is left alone
alone_itself : (a : SessionView) → IsLeftAlone a a
alone_itself a = grind (arith)

-- a session that two calls leave alone is left alone by both together
alone_then : (a b c : SessionView) → IsLeftAlone a b → IsLeftAlone b c → IsLeftAlone a c
alone_then a b c first second = grind (arith)

-- what was refused or carried out for a call was so for an equal one, as the call that a line says
pub performed_said : {S T : Type 0} (view other : S → SessionView) (nobody : T → SessionView)
    (old new : WholeManager (Fused S) T) (call said : Call)
    (response : Response)
    → call ≡ said → PerformsBeside view other nobody old call response new
    → PerformsBeside view other nobody old said response new
performed_said view other nobody old new call said response same performs = grind arith

-- the loop over stores: the other client of one more has listed what is prepared there
pub listed_beside : {S : Type 0} (view : S → SessionView) (answers : List (Result Reply Fault))
    (answered : Result Answer Fault) (answer : Result Reply Fault)
    (place : ℕ) (old now next : List S)
    → length answers ≡ place → answer ≡ reply_of answered → Reached view (IsListed answers) place old now
    → ChangesAt place now next
    → AtStore view place (IsAnsweredSo (RecoverStatement true) answered) now next
    → Reached view (IsListed (answers ++ answer ∷ [])) (place + 1) old next
listed_beside view answers answered answer place old now next count reply so_far changes given =
    let more = answers ++ answer ∷ [] in
    reached_next view (IsListed more) place old now next
    (reached_weaker view (IsListed answers) (IsListed more) place old now
    (λ store less a b is. record
    { answer = is.answer; there = get_before answers answer store is.answer is.there; given = is.given }) so_far)
    changes
    (λ before after is_before is_after. record {
      answer = answer;
      there = get_last answers answer place count;
      given = subst (λ r. IsGiven (RecoverStatement true) r (view before) (view after)) (sym reply)
          (given_so (RecoverStatement true) answered (view before) (view after)
          (given before after is_before is_after));
    })

module _ {S : Type 0} (view : S → SessionView) where
  -- none of the sessions got a statement, and each passes on as many calls as before, if they are as they were
  pub leaves_none : (sessions : List (Fused S)) → LeavesAlone view sessions sessions
  leaves_none sessions = grind (arith, alone_itself, at_same)

  -- if the coordinator's sessions were left alone so far, and then another client's session of one store got a
  -- statement, which left the coordinator's there alone, they were left alone in all
  pub leaves_next : (place : ℕ) (old now next : List (Fused S)) → length now ≡ length old → LeavesAlone view old now
      → ChangesAt place now next
      → AtStore (within view) place IsLeftAlone now next
      → map (λ (s : Fused S). s.left) next ≡ map (λ (s : Fused S). s.left) now → LeavesAlone view old next
  leaves_next place old now next count so_far changes alone left = record {
    alone = λ store. at_then (within view) store IsLeftAlone IsLeftAlone IsLeftAlone alone_then old now next count
        (so_far.alone store)
        (only_at (within view) (λ other. IsLeftAlone) place now next changes alone
        (λ other apart a. alone_itself a) store);
    left = left ∙ so_far.left;
  }

-- if `P` of a value gives `Q` of it, and `P` holds of a result's value, if it is Ok, so does `Q`
pub if_ok_map : {A E : Type 0} (P Q : A → Type 0) (result : Result A E) → ((a : A) → P a → Q a) → IfOk result P
    → IfOk result Q
if_ok_map P Q result more is = grind (arith)
