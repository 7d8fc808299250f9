-- What holds of a manager before any recovery: what the coordinator added goes with how far each transaction has come.
use Rattle.std.proofs.Common.{◌≡◌, ◌⊎◌, ◌<◌, ◌^◌, ℕ, true, false, List, length, inl, inr, Some, None, arith}
use Rattle.std.proofs.lemmas.{Option.{slice_get-get_or, slice_get_within}, Bool.Decides.nat_tests, Grind.common_steps}
use Rattle.std.specs.Prelude.{slice_get, Option, codes}
use Rattle.xa_xid.specs.declared.statement.Statement.{Statement, TheVariants.{Start, Prepare, Commit, Rollback}}
use Rattle.xa_session.specs.{Answer.entry_of, View.SessionView}
use Rattle.xa_coordinator.specs.{Branch.IsBranchOf, Decisions.is_decided, Participants.{takes_part, OnlyTakesPart}}
use Rattle.xa_coordinator.specs.{Stores.EachStore, Fusing.limited, Lasting.own_view, declared.fused.Fused.Fused}
use Rattle.xa_coordinator.specs.declared.{store.LastingStore.LastingStore, transaction.Prepared.Prepared}
use Rattle.xa_coordinator.specs.declared.{transaction.VoteKind.VoteKind, branches.OpenBranch.OpenBranch}
use Rattle.xa_manager.specs.{Ledger.stage_of, declared.stage.Stage.Stage, Runs.Managing}
use Rattle.xa_manager.{specs.Atomic.{branch_in, HasAdded, IsAlone}, proofs.Stages.{Kept, AllReady}}
use Rattle.xa_manager.proofs.Added.{AddsOnly, adds_none, added_or_there, stays_there}

-- an unbounded store's session, with another client's beside it, that may be made to fail
abbrev pub Session : Type 0
Session = Fused LastingStore

-- ---- how far a transaction has come

-- the stage that a decided transaction may have: its vote was Ready, or it is over
abbrev pub MayStandDecided : Option Stage → Type 0
MayStandDecided None = ⊥
MayStandDecided (Some (Stage.Working transaction)) = ⊥
MayStandDecided (Some (Stage.Ready prepared)) = Unit {0}
MayStandDecided (Some (Stage.Voted prepared)) = ⊥
MayStandDecided (Some Stage.Over) = Unit {0}

-- the transaction was begun, and the store takes part in it, unless it is over and so not kept
abbrev pub TookPart : ℕ → Option Stage → Type 0
TookPart store None = ⊥
TookPart store (Some (Stage.Working transaction)) = takes_part transaction.participants store ≡ true
TookPart store (Some (Stage.Ready prepared)) = takes_part prepared.transaction.participants store ≡ true
TookPart store (Some (Stage.Voted prepared)) = takes_part prepared.transaction.participants store ≡ true
TookPart store (Some Stage.Over) = Unit {0}

-- the transaction is over, and wasn't decided
pub record IsUndecidedOver (manager : Managing) (number : ℕ) : Type 0 where
  pub undecided : is_decided manager.decisions number ≡ false
  pub over : stage_of manager.stages number ≡ Some Stage.Over

-- what holds of a manager if the coordinator added this statement in a store: XA COMMIT is of a decided transaction's
-- branch; with ONE PHASE it is of one that is over and undecided, of which it began no branch in another store; XA
-- ROLLBACK is of one that is over and undecided; any other statement may be added
abbrev pub Goes : Managing → ℕ → Statement → Type 0
Goes manager store (Commit xid false) =
    (number : ℕ) × IsBranchOf (codes "c") number store xid × (is_decided manager.decisions number ≡ true)
Goes manager store (Commit xid true) =
    (number : ℕ) × IsBranchOf (codes "c") number store xid × IsUndecidedOver manager number
    × IsAlone manager.sessions number store
Goes manager store (Rollback xid) =
    (number : ℕ) × IsBranchOf (codes "c") number store xid × IsUndecidedOver manager number
Goes manager store statement = Unit {0}

-- each branch that the transaction began, in any store, was prepared
abbrev pub PreparesAll : Managing → ℕ → Type 0
PreparesAll manager number =
    (store : ℕ) (session : Session) → slice_get manager.sessions store ≡ Some session
    → HasAdded session (Start (branch_in number store))
    → HasAdded session (Prepare (branch_in number store))

-- what holds of a manager between two calls, before any recovery: its stages, decisions and stores go together
pub record Holds (manager : Managing) : Type 0 where
  pub kept : Kept manager.stores manager.stages
  pub ready : AllReady manager.stages
  pub count : length manager.stages ≡ length manager.decisions
  pub alone : (number : ℕ) (prepared : Prepared) → stage_of manager.stages number ≡ Some (Stage.Voted prepared)
      → prepared.vote_kind ≡ VoteKind.OnePhase
      → (store : ℕ) × OnlyTakesPart prepared.transaction.participants store
  pub decided : (number : ℕ) → is_decided manager.decisions number ≡ true
      → MayStandDecided (stage_of manager.stages number)
  pub began : (number store : ℕ) (session : Session) → number < 2 ^ 64 → slice_get manager.sessions store ≡ Some session
      → HasAdded session (Start (branch_in number store)) → TookPart store (stage_of manager.stages number)
  pub prepared_ready : (number : ℕ) (prepared : Prepared) → number < 2 ^ 64
      → stage_of manager.stages number ≡ Some (Stage.Ready prepared)
      → PreparesAll manager number
  pub prepared_decided : (number : ℕ) → number < 2 ^ 64 → is_decided manager.decisions number ≡ true
      → PreparesAll manager number
  pub goes : (store : ℕ) (session : Session) (statement : Statement) → slice_get manager.sessions store ≡ Some session
      → HasAdded session statement
      → Goes manager store statement

-- ---- what sessions add

-- the store had a session before, which is this one now, and as `view` sees it only statements of the store's kind
-- were added since
pub record GrewAs (view : Session → SessionView) (kind : ℕ → Statement → Type 0) (store : ℕ) (old : List Session)
    (after : Session) : Type 0 where
  pub before : Session
  pub there : slice_get old store ≡ Some before
  pub adds : AddsOnly (kind store) (view before) (view after)

-- each store's session of `new` was there in `old`, and statements of its kind were added since
abbrev pub GrowsAs : (Session → SessionView) → (ℕ → Statement → Type 0) → List Session → List Session → Type 0
GrowsAs view kind old new = (store : ℕ) (after : Session) → slice_get new store ≡ Some after
    → GrewAs view kind store old after

-- the coordinator's session added these statements
abbrev pub Grew : (ℕ → Statement → Type 0) → ℕ → List Session → Session → Type 0
Grew kind store old after = GrewAs (limited own_view) kind store old after

abbrev pub Grows : (ℕ → Statement → Type 0) → List Session → List Session → Type 0
Grows kind old new = GrowsAs (limited own_view) kind old new

-- if each store's session added only statements of its kind, the sessions grew by that
pub grows_each : (view : Session → SessionView) (kind : ℕ → Statement → Type 0) (old new : List Session)
    → length new ≡ length old → EachStore view (λ store. AddsOnly (kind store)) old new → GrowsAs view kind old new
grows_each view kind old new count each store after is =
    let below : store < length old = let there = slice_get_within new store after is in omega (arith, there, count) in
    let was = slice_get-get_or old store after below in
    record { before = _; there = was; adds = each store _ after was is }

-- sessions that stay as they are have grown by nothing
pub grows_same : (kind : ℕ → Statement → Type 0) (sessions : List Session) → Grows kind sessions sessions
grows_same kind sessions store after is =
    record { before = after; there = is; adds = adds_none (kind store) (limited own_view after) }

-- a statement that a session has added was added before, or is of the kind
pub grew_cases : (kind : ℕ → Statement → Type 0) (store : ℕ) (old : List Session) (after : Session)
    (statement : Statement)
    → (grew : Grew kind store old after) → HasAdded after statement
    → HasAdded grew.before statement ⊎ kind store statement
grew_cases kind store old after statement grew added =
    added_or_there (kind store) (limited own_view grew.before) (limited own_view after) (entry_of 1 statement) grew.adds
    added

-- a statement that was added before still is
pub grew_stays : (kind : ℕ → Statement → Type 0) (store : ℕ) (old : List Session) (after : Session)
    (statement : Statement)
    → (grew : Grew kind store old after) → HasAdded grew.before statement → HasAdded after statement
grew_stays kind store old after statement grew added = grind (arith, common_steps, nat_tests, stays_there)

-- ---- what goes on going

-- sessions only added statements of the kind; what is over and undecided stays so, what is decided stays so, and the
-- kind has no XA START of what is over
pub record GoesOn (kind : ℕ → Statement → Type 0) (old new : Managing) : Type 0 where
  pub grows : Grows kind old.sessions new.sessions
  pub over : (number : ℕ) → IsUndecidedOver old number → IsUndecidedOver new number
  pub decided : (number : ℕ) → is_decided old.decisions number ≡ true → is_decided new.decisions number ≡ true
  pub begins : (number store : ℕ) → number < 2 ^ 64 → stage_of old.stages number ≡ Some Stage.Over
      → kind store (Start (branch_in number store)) → ⊥

-- a branch that is the only one of its transaction stays so: no branch of what is over begins
still_alone : (kind : ℕ → Statement → Type 0) (old new : Managing) (number store : ℕ) → number < 2 ^ 64
    → GoesOn kind old new → IsUndecidedOver old number
    → IsAlone old.sessions number store → IsAlone new.sessions number store
still_alone kind old new number store fits on over alone other after is added =
    let grew = on.grows other after is in
    elim (grew_cases kind other old.sessions after (Start (branch_in number other)) grew added) [
      | inl before ↦ alone other grew.before grew.there before
      | inr now ↦ absurd (on.begins number other fits over.over now)
    ]

-- if `Goes` held of a statement before, it still does: decisions and endings stay
pub goes_still : (kind : ℕ → Statement → Type 0) (old new : Managing) (store : ℕ) (statement : Statement)
    → GoesOn kind old new → Goes old store statement
    → Goes new store statement
goes_still kind old new store (Commit xid false) on is = (is.0, is.1, on.decided is.0 is.2)
goes_still kind old new store (Commit xid true) on is =
    (is.0, is.1, on.over is.0 is.2, still_alone kind old new is.0 store is.1.fits on is.2 is.3)
goes_still kind old new store (Rollback xid) on is = (is.0, is.1, on.over is.0 is.2)
goes_still kind old new store statement on is = tt

-- if all that was added goes with how far transactions had come, and what is added now goes with how far they are,
-- then so does all that was added
pub all_go : (kind : ℕ → Statement → Type 0) (old new : Managing) → Holds old → GoesOn kind old new
    → ((store : ℕ) (statement : Statement) → kind store statement → Goes new store statement)
    → (store : ℕ) (session : Session) (statement : Statement)
    → slice_get new.sessions store ≡ Some session → HasAdded session statement → Goes new store statement
all_go kind old new holds on fresh store session statement is added =
    let grew = on.grows store session is in
    elim (grew_cases kind store old.sessions session statement grew added) [
      | inl before ↦ goes_still kind old new store statement on
          (holds.goes store grew.before statement grew.there before)
      | inr now ↦ fresh store statement now
    ]

-- if no branch of a transaction begins anew, and each that it began was prepared, that is still so
pub still_prepared : (kind : ℕ → Statement → Type 0) (old new : Managing) (number : ℕ)
    → Grows kind old.sessions new.sessions
    → ((store : ℕ) → kind store (Start (branch_in number store)) → ⊥) → PreparesAll old number → PreparesAll new number
still_prepared kind old new number grows none prepared store after is added =
    let grew = grows store after is in
    elim (grew_cases kind store old.sessions after (Start (branch_in number store)) grew added) [
      | inl before ↦ grew_stays kind store old.sessions after (Prepare (branch_in number store)) grew
          (prepared store grew.before grew.there before)
      | inr now ↦ absurd (none store now)
    ]

-- ---- nothing but what isn't looked at changed

-- the kind of no statement: nothing is added
abbrev pub Never : ℕ → Statement → Type 0
Never store statement = ⊥

-- a call that adds nothing and changes neither stages nor decisions keeps what holds
pub quiet : (old : Managing) (branches : List (Option OpenBranch)) (sessions : List Session)
    → Grows Never old.sessions sessions
    → Holds old → Holds (record old { branches = branches; sessions = sessions })
quiet old branches sessions grows holds =
    let next : Managing = record old { branches = branches; sessions = sessions } in
    let on : GoesOn Never old next = record {
      grows = grows;
      over = λ number is. record { undecided = is.undecided; over = is.over };
      decided = λ number is. is;
      begins = λ number store fits over never. never;
    } in
    record {
      kept = holds.kept;
      ready = holds.ready;
      count = holds.count;
      alone = holds.alone;
      decided = holds.decided;
      began = λ number store session fits is added.
          let grew = grows store session is in
          elim (grew_cases Never store old.sessions session (Start (branch_in number store)) grew added) [
            | inl before ↦ holds.began number store grew.before fits grew.there before
            | inr never ↦ absurd never
          ];
      prepared_ready = λ number prepared fits is.
          still_prepared Never old next number grows (λ store never. never)
          (holds.prepared_ready number prepared fits is);
      prepared_decided = λ number fits is.
          still_prepared Never old next number grows (λ store never. never) (holds.prepared_decided number fits is);
      goes = all_go Never old next holds on (λ store statement never. absurd never);
    }
