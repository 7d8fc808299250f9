-- Calls keep what holds of a manager (`Holds`): one that moves a transaction to another stage, BEGIN, and DECIDE.
use Rattle.std.proofs.Common.{◌≡◌, ◌≢◌, ◌⊎◌, ◌<◌, ◌+◌, ◌-◌, ◌^◌, ℕ, zero, suc, true, List, [], ◌∷◌, ◌++◌, length, refl}
use Rattle.std.proofs.Common.{ap, sym, ◌∙◌, subst, inl, inr, Some, None, arith, length-append}
use Rattle.std.proofs.lemmas.{Bool.Decides.{eqb_tells, nat_tests}, Option.{slice_get_within, same_Some}}
use Rattle.std.specs.Prelude.{slice_get, Option}
use Rattle.xa_xid.specs.declared.statement.Statement.{Statement, TheVariants.Start}
use Rattle.xa_coordinator.specs.{Decisions.{decision_of, is_decided, decides, with_decided}, Participants.OnlyTakesPart}
use Rattle.xa_coordinator.specs.declared.decisions.Decision.{Decision, TheVariants.Undecided}
use Rattle.xa_coordinator.specs.declared.transaction.{Prepared.Prepared, Transaction.Transaction, VoteKind.VoteKind}
use Rattle.xa_coordinator.{specs.declared.branches.OpenBranch.OpenBranch, proofs.Places.{get_set_same, get_set_other}}
use Rattle.xa_coordinator.proofs.DecisionsOf.{decided_kept}
use Rattle.xa_manager.specs.{Ledger.{stage_of, with_stage, transaction_in, IsTransactionOf}, declared.stage.Stage.Stage}
use Rattle.xa_manager.specs.{declared.stage.Stage.TheVariants.{Working, Ready, Voted, Over}, Runs.Managing}
use Rattle.xa_manager.{specs.Atomic.branch_in, proofs.Stages.{kept_with, ready_with, kept_more, ready_more}}
use Rattle.xa_manager.proofs.Stages.{stage_of-with, stage_of-append, with_stage-length}
use Rattle.xa_manager.proofs.{States.{working_kept, decided-length}, Holding.{Session, MayStandDecided, TookPart, Goes}}
use Rattle.xa_manager.proofs.Holding.{PreparesAll, Holds, Grows, grows_same, grew_cases, GoesOn, Never, all_go}
use Rattle.xa_manager.proofs.{Holding.still_prepared, Said.get_before}

-- ---- another stage in the place of one

-- after the stage of one number that was begun is set, that number has it, and each other has the stage that it had
pub stage_put : (stages : List Stage) (number other : ℕ) (was stage : Stage) → stage_of stages number ≡ Some was
    → ((other ≡ number) × (stage_of (with_stage stages number stage) other ≡ Some stage))
    ⊎ ((other ≢ number) × (stage_of (with_stage stages number stage) other ≡ stage_of stages other))
unfolding stage_of with_stage
stage_put stages number other was stage is = grind (arith, get_set_other, get_set_same, nat_tests, slice_get_within)

-- the manager, after one transaction came to another stage, with these branches open and these sessions
abbrev pub with_acts : Managing → ℕ → Stage → List (Option OpenBranch) → List Session → Managing
with_acts old number stage branches sessions =
    record old { stages = with_stage old.stages number stage; branches = branches; sessions = sessions }

-- a transaction that wasn't over came to another stage, which fits it and the decisions, and the statements that were
-- added are of this kind, which goes with the new stage
pub record Acts (kind : ℕ → Statement → Type 0) (number : ℕ) (was stage : Stage) (old new : Managing) : Type 0 where
  pub before : stage_of old.stages number ≡ Some was
  pub opened : was ≡ Over → ⊥
  pub grows : Grows kind old.sessions new.sessions
  pub kept : (transaction : Transaction) → transaction_in stage ≡ Some transaction
      → IsTransactionOf old.stores number transaction
  pub ready : (prepared : Prepared) → stage ≡ Ready prepared → prepared.vote_kind ≡ VoteKind.Ready
  pub alone : (prepared : Prepared) → stage ≡ Voted prepared → prepared.vote_kind ≡ VoteKind.OnePhase
      → (store : ℕ) × OnlyTakesPart prepared.transaction.participants store
  pub decided : is_decided old.decisions number ≡ true → MayStandDecided (Some stage)
  pub took : (store : ℕ) → TookPart store (Some was) → TookPart store (Some stage)
  pub starts : (other store : ℕ) → other < 2 ^ 64 → kind store (Start (branch_in other store))
      → (other ≡ number) × TookPart store (Some stage) × (is_decided old.decisions number ≡ true → ⊥)
  pub prepares : (prepared : Prepared) → stage ≡ Ready prepared → PreparesAll new number
  pub goes : (store : ℕ) (statement : Statement) → kind store statement → Goes new store statement

-- a stage that isn't over isn't the stage of one that is
some_over : (was : Stage) → (was ≡ Over → ⊥) → Some was ≡ Some Over → ⊥
some_over was apart is = apart (same_Some was Over is)

-- a call that moves one transaction to another stage, as `Acts` says, keeps what holds of the manager
pub acts : (kind : ℕ → Statement → Type 0) (number : ℕ) (was stage : Stage) (old : Managing)
    (branches : List (Option OpenBranch)) (sessions : List Session)
    → Acts kind number was stage old (with_acts old number stage branches sessions)
    → Holds old → Holds (with_acts old number stage branches sessions)
acts kind number was stage old branches sessions act holds =
    record {
      kept = kept_with old.stores old.stages number stage holds.kept act.kept;
      ready = ready_with old.stages number stage holds.ready act.ready;
      count = with_stage-length old.stages number stage ∙ holds.count;
      alone = λ other prepared is one. elim (stage_of-with old.stages number other stage (Voted prepared) is) [
        | inl same ↦ act.alone prepared same.1 one
        | inr before ↦ holds.alone other prepared before one
      ];
      decided = λ other is. elim (stage_is other) [
        | inl same ↦ subst MayStandDecided (sym same.1)
            (act.decided (subst (λ n. is_decided old.decisions n ≡ true) same.0 is))
        | inr apart ↦ subst MayStandDecided (sym apart.1) (holds.decided other is)
      ];
      began = λ other store session fits is added.
          let grew = act.grows store session is in
          elim (grew_cases kind store old.sessions session (Start (branch_in other store)) grew added) [
            | inl before ↦ took_still other store (holds.began other store grew.before fits grew.there before)
            | inr now ↦
                let started = act.starts other store fits now in
                elim (stage_is other) [
                  | inl same ↦ subst (TookPart store) (sym same.1) started.1
                  | inr apart ↦ absurd (apart.0 started.0)
                ]
          ];
      prepared_ready = λ other prepared fits is. elim (stage_is other) [
        | inl same ↦
            subst (λ n. PreparesAll new n) (sym same.0)
            (act.prepares prepared (same_Some stage (Ready prepared) (sym same.1 ∙ is)))
        | inr apart ↦
            still_prepared kind old new other act.grows (λ store now. apart.0 ((act.starts other store fits now).0))
            (holds.prepared_ready other prepared fits (sym apart.1 ∙ is))
      ];
      prepared_decided = λ other fits is.
          still_prepared kind old new other act.grows
          (λ store now.
          let started = act.starts other store fits now in
          started.2 (subst (λ n. is_decided old.decisions n ≡ true) started.0 is))
          (holds.prepared_decided other fits is);
      goes = all_go kind old new holds on act.goes;
    }
  where
    new : Managing
    new = with_acts old number stage branches sessions

    stage_is : (other : ℕ) → ((other ≡ number) × (stage_of new.stages other ≡ Some stage))
        ⊎ ((other ≢ number) × (stage_of new.stages other ≡ stage_of old.stages other))
    stage_is other = stage_put old.stages number other was stage act.before

    took_still : (other store : ℕ) → TookPart store (stage_of old.stages other)
        → TookPart store (stage_of new.stages other)
    took_still other store took = elim (stage_is other) [
      | inl same ↦
          let there : stage_of old.stages other ≡ Some was = ap (stage_of old.stages) same.0 ∙ act.before in
          subst (TookPart store) (sym same.1) (act.took store (subst (TookPart store) there took))
      | inr apart ↦ subst (TookPart store) (sym apart.1) took
    ]

    over_still : (other : ℕ) → stage_of old.stages other ≡ Some Over → stage_of new.stages other ≡ Some Over
    over_still other over = elim (stage_is other) [
      | inl same ↦ absurd (some_over was act.opened (sym act.before ∙ ap (stage_of old.stages) (sym same.0) ∙ over))
      | inr apart ↦ apart.1 ∙ over
    ]

    on : GoesOn kind old new
    on = record {
      grows = act.grows;
      over = λ other is. record { undecided = is.undecided; over = over_still other is.over };
      decided = λ other is. is;
      begins = λ other store fits over now.
          let started = act.starts other store fits now in
          some_over was act.opened (sym act.before ∙ ap (stage_of old.stages) (sym started.0) ∙ over);
    }

-- ---- a transaction that begins

-- a transaction that is begun changes no other one's stage
pub stage_still : (stages : List Stage) (last found : Stage) (other : ℕ) → stage_of stages other ≡ Some found
    → stage_of (stages ++ last ∷ []) other ≡ Some found
unfolding stage_of
stage_still stages last found other is = grind (arith, nat_tests, get_before {A = Stage})

-- an undecided number behind the others leaves at each place whether it is decided
decides_more : (decisions : List Decision) (place : ℕ)
    → decides (slice_get (decisions ++ Undecided ∷ []) place) ≡ decides (slice_get decisions place)
decides_more [] zero = refl
decides_more [] (suc n) = refl
decides_more (d ∷ ds) zero = refl
decides_more (d ∷ ds) (suc n) = decides_more ds n

-- a new number that isn't decided leaves which numbers are decided
pub decided_more : (decisions : List Decision) (number : ℕ)
    → is_decided (decisions ++ Undecided ∷ []) number ≡ is_decided decisions number
unfolding decision_of
decided_more decisions number = grind (arith, nat_tests, decides_more)

-- what holds of a stage that was found, and not of none, holds of the same stage found again
still_found : (P : Option Stage → Type 0) (old new : Option Stage) → (P None → ⊥)
    → ((found : Stage) → old ≡ Some found → new ≡ Some found) → P old → P new
still_found P old new also forward is = grind (arith)

-- BEGIN keeps what holds: the new transaction has no participant, and isn't decided
pub begins : (transaction : Transaction) (old new : Managing)
    → IsTransactionOf old.stores (length old.stages + 1) transaction
    → new ≡ record old { decisions = old.decisions ++ Undecided ∷ []; stages = old.stages ++ Working transaction ∷ [] }
    → Holds old → Holds new
begins transaction old new is stands holds = subst Holds (sym stands) (begun)
  where
    next : Managing
    next = record old { decisions = old.decisions ++ Undecided ∷ []; stages = old.stages ++ Working transaction ∷ [] }

    last : Stage
    last = Working transaction

    same_decided : (number : ℕ) → is_decided next.decisions number ≡ is_decided old.decisions number
    same_decided number = decided_more old.decisions number

    forward : (number : ℕ) (found : Stage) → stage_of old.stages number ≡ Some found
        → stage_of next.stages number ≡ Some found
    forward number found there = stage_still old.stages last found number there

    on : GoesOn Never old next
    on = record {
      grows = grows_same Never old.sessions;
      over = λ number over. record
          { undecided = same_decided number ∙ over.undecided; over = forward number Over over.over };
      decided = λ number it. same_decided number ∙ it;
      begins = λ number store fits over never. never;
    }

    begun : Holds next
    begun = record {
      kept = kept_more old.stores old.stages last holds.kept
          (working_kept old.stores (length old.stages + 1) transaction is);
      ready = ready_more old.stages last holds.ready (λ prepared same. absurd (cc));
      count = length-append old.stages (last ∷ []) ∙ ap (λ n. n + 1) holds.count
          ∙ sym (length-append old.decisions (Undecided ∷ []));
      alone = λ number prepared there one. elim (stage_of-append old.stages last (Voted prepared) number there) [
        | inl same ↦ absurd (let e = same.1 in cc)
        | inr before ↦ holds.alone number prepared before one
      ];
      decided = λ number it.
          still_found MayStandDecided (stage_of old.stages number) (stage_of next.stages number) (λ none. none)
          (forward number) (holds.decided number (sym (same_decided number) ∙ it));
      began = λ number store session fits there added.
          still_found (TookPart store) (stage_of old.stages number) (stage_of next.stages number) (λ none. none)
          (forward number) (holds.began number store session fits there added);
      prepared_ready =
          λ number prepared fits there. elim (stage_of-append old.stages last (Ready prepared) number there) [
            | inl same ↦ absurd (let e = same.1 in cc)
            | inr before ↦ holds.prepared_ready number prepared fits before
          ];
      prepared_decided = λ number fits it. holds.prepared_decided number fits (sym (same_decided number) ∙ it);
      goes = all_go Never old next holds on (λ store statement never. absurd never);
    }

-- ---- a decision

-- deciding one number decides no other
pub decided_other : (decisions : List Decision) (number other : ℕ) → number ≢ 0 → other ≢ number
    → is_decided (with_decided decisions number) other ≡ is_decided decisions other
unfolding decision_of with_decided
decided_other decisions number other some apart = grind (arith, nat_tests, get_set_other {A = Decision})

-- deciding one number leaves decided what was decided
still_decided : (decisions : List Decision) (number other : ℕ) → is_decided decisions other ≡ true
    → is_decided (with_decided decisions number) other ≡ true
unfolding with_decided
still_decided decisions number other is = decided_kept decisions (number - 1) other is

-- numbers begin at 1, so no transaction that was begun has 0
stage_some : (stages : List Stage) (number : ℕ) (found : Stage) → stage_of stages number ≡ Some found → number ≢ 0
unfolding stage_of
stage_some stages number found is also = cc

-- DECIDE keeps what holds, of a transaction whose vote was Ready
pub decides_one : (number : ℕ) (prepared : Prepared) (old new : Managing)
    → stage_of old.stages number ≡ Some (Ready prepared)
    → new ≡ record old { decisions = with_decided old.decisions number } → Holds old → Holds new
decides_one number prepared old new there stands holds = subst Holds (sym stands) (made)
  where
    next : Managing
    next = record old { decisions = with_decided old.decisions number }

    some : number ≢ 0
    some = stage_some old.stages number (Ready prepared) there

    on : GoesOn Never old next
    on = record {
      grows = grows_same Never old.sessions;
      over = λ other over. record {
        undecided = decided_other old.decisions number other some (λ same.
            some_over (Ready prepared) (λ e. absurd (cc)) (sym there ∙ ap (stage_of old.stages) (sym same) ∙ over.over))
            ∙ over.undecided;
        over = over.over;
      };
      decided = λ other it. still_decided old.decisions number other it;
      begins = λ other store fits over never. never;
    }

    made : Holds next
    made = record {
      kept = holds.kept;
      ready = holds.ready;
      count = holds.count ∙ sym (decided-length old.decisions number);
      alone = holds.alone;
      decided = λ other it. elim (eqb_tells other number) [
        | inl (_, here) ↦ subst (λ n. MayStandDecided (stage_of old.stages n)) (sym here)
            (subst MayStandDecided (sym there) tt)
        | inr (_, apart) ↦ holds.decided other (sym (decided_other old.decisions number other some apart) ∙ it)
      ];
      began = holds.began;
      prepared_ready = holds.prepared_ready;
      prepared_decided = λ other fits it. elim (eqb_tells other number) [
        | inl (_, here) ↦ subst (λ n. PreparesAll old n) (sym here)
            (holds.prepared_ready number prepared (subst (λ n. n < 2 ^ 64) here fits) there)
        | inr (_, apart) ↦ holds.prepared_decided other fits
            (sym (decided_other old.decisions number other some apart) ∙ it)
      ];
      goes = all_go Never old next holds on (λ store statement never. absurd never);
    }
