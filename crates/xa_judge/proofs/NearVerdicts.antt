-- Verdicts from near servers.
--     refuted_near, answers_near     what is refuted on one is refuted on the other;  with the same answers
use Rattle.std.proofs.Common.{◌≡◌, ℕ, ◌+◌, Bool, Some, List, ◌++◌, Vec, Global, length, sym, take, slice_get}
use Rattle.std.{proofs.{Common.{slice_index_or, subst}, lemmas.List.Elements.All-take}, specs.List.All}
use Rattle.xa_server.specs.State.{State}
use Rattle.xa_judge.specs.declared.{answer.Answer.Answer, client_state.ClientState.{ClientState, TheVariants.Answered}}
use Rattle.xa_judge.specs.{declared.{event.Event.Event, verdict.Verdict.Verdict}, Explained.{opening_config, Explained}}
use Rattle.xa_judge.{specs.Near.{AreNear, CallsNamed, IsLoadedTo}, proofs.Loaded.{refuted_behind, answers_behind}}
use Rattle.xa_judge.{specs.Verdicts.{IsRefuted, CouldBe, AreAllAnswers, IsVerdict}, proofs.NearStates.near_sym}
use Rattle.xa_judge.proofs.NearRuns.{near_run, near_opening}

-- what some order explains from one of two near states, some order explains from the other, if all calls read only
-- named rows
explained_near : (named : List ℕ → Bool) (left right : State) (events : List Event) → AreNear named left right
    → All (CallsNamed named) events
    → Explained left events → Explained right events
explained_near named left right events near calls explained =
    let run = near_run named events explained.0 (opening_config left) (opening_config right) explained.1
    (near_opening named left right near) calls explained.2 in
    (explained.0, run.0, run.1)

-- what is refuted from one of two near states is refuted from the other, if all calls read only named rows
pub refuted_near : (named : List ℕ → Bool) (left right : State) (events : List Event) (place : ℕ)
    → AreNear named left right → All (CallsNamed named) events
    → IsRefuted left events place → IsRefuted right events place
refuted_near named left right events place near calls is = record {
  within = is.within;
  before = explained_near named left right (take place events) near
      (All-take (CallsNamed named) place events calls) is.before;
  refuted = λ explained.
      is.refuted (explained_near named right left (take (place + 1) events) (near_sym named left right near)
      (All-take (CallsNamed named) (place + 1) events calls) explained);
  whole = λ explained. is.whole (explained_near named right left events
      (near_sym named left right near) calls explained);
}

-- an answer that a call could have from one of two near states, it could have from the other, if all calls read only
-- named rows
could_near : (named : List ℕ → Bool) (left right : State) (events : List Event) (place : ℕ) (answer : Answer)
    → AreNear named left right
    → All (CallsNamed named) events → CouldBe left events place answer → CouldBe right events place answer
could_near named left right events place answer near calls could =
    let run = near_run named (take place events) could.after.reached.moves (opening_config left)
    (opening_config right) could.after.config
    (near_opening named left right near) (All-take (CallsNamed named) place events calls) could.after.reached.runs in
    record {
      session = could.session;
      seen = could.seen;
      returns = could.returns;
      after = record {
        config = run.0;
        reached = record { moves = could.after.reached.moves; runs = run.1 };
        answered = subst (λ (c : List ClientState). slice_get c could.session
            ≡ Some (Answered answer)) run.2.clients could.after.answered;
      };
    }

-- the answers that the call returning at a place could have had are the same from near states, if all calls read only
-- named rows
pub answers_near : (named : List ℕ → Bool) (left right : State) (events : List Event) (place : ℕ)
    (answers : List Answer) → AreNear named left right
    → All (CallsNamed named) events → AreAllAnswers left events place answers → AreAllAnswers right events place answers
answers_near named left right events place answers near calls are = record {
  each = λ k answer below. could_near named left right events place (slice_index_or answers k answer) near calls
      (are.each k answer below);
  all = λ answer could. are.all answer (could_near named right left events place answer
      (near_sym named left right near) calls could);
}

-- events that are ILLEGAL from a near state are so, with the same answers, behind the events that lead to the state
-- that it is near to, if all their calls read only named rows
pub illegal_behind : (named : List ℕ → Bool) (base full near : State) (events first later : List Event)
    (limit place : ℕ) (answers : Vec Answer Global)
    (verdict : Verdict) → events ≡ first ++ later → IsLoadedTo base first full → AreNear named full near
    → All (CallsNamed named) later
    → IsVerdict near later limit verdict → verdict ≡ Verdict.Illegal place answers
    → IsVerdict base events limit (Verdict.Illegal (length first + place) answers)
illegal_behind named base full near events first later limit place answers verdict parts loaded are calls right is =
    let told = subst (IsVerdict near later limit) is right in
    let other = near_sym named full near are in
    let refuted = refuted_near named near full later place other calls told.0 in
    let given = answers_near named near full later place answers.items other calls told.1 in
    subst (λ (l : List Event). IsRefuted base l (length first + place)
    × AreAllAnswers base l (length first + place) answers.items) (sym parts) (
      refuted_behind base full first later place loaded refuted,
      answers_behind base full first later place answers.items
          loaded given,
    )
