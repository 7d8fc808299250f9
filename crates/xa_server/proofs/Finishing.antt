-- Between two finishes of a prepared branch in one history stands an accepted XA PREPARE of it.
use Rattle.std.proofs.Common.{◌≡◌, ℕ, zero, suc, ◌<◌, List, [], ◌∷◌, refl, ap, sym, ◌∙◌, Bool, true, false, inl, inr}
use Rattle.std.{proofs.Common.{take, arith}, specs.Prelude.{Option, Some, None, cond}}
use Rattle.std.specs.Option.{option_map, option_map_or}
use mathlib.Core.Bool.{true≢false}
use Rattle.xa_xid.specs.{declared.{xid.Xid.Xid, statement.Statement.Statement}, Xid.same_xid}
use Rattle.xa_xid.proofs.Orders.{xids_total, exact_xids}
use Rattle.xa_server.specs.declared.{reply.Reply.TheVariants.Ok as Accepted, xa_error.XaError.XaError}
use Rattle.xa_server.specs.declared.association.Association.{Association, TheVariants.{Free, Active, Idle}}
use Rattle.xa_server.specs.State.{Write, Branch, State, is_prepared, is_prepared_phase, association_of}
use Rattle.xa_server.{specs.Replies.{ok_if, table, reply_to}, proofs.Maps.{same_or_apart, same_itself}}
use Rattle.xa_server.specs.Step.{started_by, with_lock, with_own_write, is_refused, after, after_all}
use Rattle.xa_server.specs.{Finish.{Finishes, commits, rolls_back, FinishesAt, PreparesAt}, Laws.IsPreparedBetween}
use Rattle.xa_server.proofs.Index.{same_value, not_none}
use Rattle.xa_server.proofs.Changes.{idle, detached, branch_after, effect-branch, accepted_done, outcome}
use Rattle.std.specs.FinMap as map

-- whether the branch is there and PREPARED
is_ready : Option Branch → Bool
is_ready found = option_map_or is_prepared_phase (option_map (λ (b : Branch). b.phase) found) false

-- ---- what makes a branch PREPARED

-- if neither the new nor the old branch is PREPARED, the one of them that a test takes isn't
stays : (b : Bool) (new found : Option Branch) → is_ready found ≡ false → is_ready new ≡ false
    → is_ready (cond b new found) ≡ false
stays true new found e n = n
stays false new found e n = e

-- a branch that is IDLE isn't PREPARED
idle_isn't : (found : Option Branch) → is_ready (option_map idle found) ≡ false
unfolding is_ready idle
idle_isn't None = refl
idle_isn't (Some branch) = refl

-- a lock more leaves whether a branch is PREPARED
locked : (key : List ℕ) (found : Option Branch) → is_ready (option_map (with_lock key) found) ≡ is_ready found
unfolding is_ready
locked key None = refl
locked key (Some branch) = refl

-- a write more leaves whether a branch is PREPARED
written : (key : List ℕ) (write : Write) (found : Option Branch)
    → is_ready (option_map (with_own_write key write) found) ≡ is_ready found
unfolding is_ready
written key write None = refl
written key write (Some branch) = refl

-- a test can't hold and fail
never : {A : Type 0} (b : Bool) → b ≡ false → b ≡ true → A
never b e f = absurd (true≢false (sym f ∙ e))

-- only an XA PREPARE of a branch makes it PREPARED
turns : (session : ℕ) (association : Association) (statement : Statement) (at : Xid) (found : Option Branch) →
    is_ready found ≡ false → is_ready (branch_after session association statement at found) ≡ true
    → statement ≡ Statement.Prepare at
unfolding branch_after is_ready
turns session association (Statement.Start xid) at found e f =
    never _ (stays (same_xid at xid) (Some (started_by session)) found e refl) f
turns session association (Statement.End xid) at found e f =
    never _ (stays (same_xid at xid) (option_map idle found) found e (idle_isn't found)) f
turns session association (Statement.Prepare xid) at found e f = elim (same_or_apart xids_total exact_xids at xid) [
  | inl is ↦ ap Statement.Prepare (sym is)
  | inr apart ↦ never (is_ready found) e (ap (λ b. is_ready (cond b (option_map detached found) found)) (sym apart) ∙ f)
]
turns session association (Statement.Commit xid one_phase) at found e f = never _
    (stays (same_xid at xid) None found e refl) f
turns session association (Statement.Rollback xid) at found e f = never _ (stays (same_xid at xid) None found e refl) f
turns session association (Statement.Recover convert) at found e f = never _ e f
turns session association Statement.Unsupported at found e f = never _ e f
turns session Free (Statement.Get key) at found e f = never _ e f
turns session (Active own) (Statement.Get key) at found e f =
    never _ (stays (same_xid at own) (option_map (with_lock key) found) found e (locked key found ∙ e)) f
turns session (Idle own) (Statement.Get key) at found e f = never _ e f
turns session Free (Statement.Put key value) at found e f = never _ e f
turns session (Active own) (Statement.Put key value) at found e f =
    never _ (stays (same_xid at own) (option_map (with_own_write key (Some value)) found) found e
    (written key (Some value) found ∙ e)) f
turns session (Idle own) (Statement.Put key value) at found e f = never _ e f
turns session Free (Statement.Del key) at found e f = never _ e f
turns session (Active own) (Statement.Del key) at found e f =
    never _ (stays (same_xid at own) (option_map (with_own_write key None) found) found e
    (written key None found ∙ e)) f
turns session (Idle own) (Statement.Del key) at found e f = never _ e f
turns session Free Statement.Disconnect at found e f = never _ e f
turns session (Active own) Statement.Disconnect at found e f = never _ (stays (same_xid at own) None found e refl) f
turns session (Idle own) Statement.Disconnect at found e f = never _ (stays (same_xid at own) None found e refl) f

-- a reply that is Ok only if a test holds, and isn't a refusal, is Ok
passed : (b : Bool) (error : XaError) → is_refused (ok_if b error) ≡ false → ok_if b error ≡ Accepted
passed true error e = refl
passed false error e = absurd (true≢false e)

-- an XA PREPARE that isn't refused is answered Ok
prepare_answer : (state : State) (association : Association) (xid : Xid)
    → is_refused (table state association (Statement.Prepare xid)) ≡ false
    → table state association (Statement.Prepare xid) ≡ Accepted
unfolding table
prepare_answer state Free xid e = absurd (true≢false e)
prepare_answer state (Active own) xid e = absurd (true≢false e)
prepare_answer state (Idle own) xid e = passed (same_xid xid own) _ e

-- a branch that wasn't PREPARED, and is, was prepared by the statement
becomes_prepared : (state : State) (session : ℕ) (statement : Statement) (xid : Xid) → is_prepared state xid ≡ false
    → is_prepared (after state session statement) xid ≡ true →
    (statement ≡ Statement.Prepare xid) × (reply_to state session (Statement.Prepare xid) ≡ Accepted)
unfolding is_ready reply_to
becomes_prepared state session statement xid e f = elim (outcome state session statement) [
  | inl (refused, same) ↦ never (is_prepared state xid) e (sym (ap (λ s. is_prepared s xid) same) ∙ f)
  | inr (accepted, done) ↦
      let is : statement ≡ Statement.Prepare xid = turns session (association_of state session) statement xid
      (map.get state.branches xid) e
      (ap is_ready (sym (effect-branch state session (association_of state session) statement xid))
      ∙ sym (ap (λ s. is_prepared s xid) done) ∙ f) in (
        is,
        prepare_answer state (association_of state session) xid
            (sym (ap (λ s. is_refused (table state (association_of state session) s)) is) ∙ accepted),
      )
]

-- ---- what finishes a branch

-- a branch that an accepted statement removes isn't PREPARED afterwards
gone : (state : State) (session : ℕ) (statement : Statement) (xid : Xid) → reply_to state session statement ≡ Accepted →
    branch_after session (association_of state session) statement xid (map.get state.branches xid) ≡ None
    → is_prepared (after state session statement) xid ≡ false
unfolding is_ready
gone state session statement xid accepted none =
    ap (λ s. is_prepared s xid) (accepted_done state session statement (ap is_refused accepted))
    ∙ ap is_ready (effect-branch state session (association_of state session) statement xid ∙ none)

-- a branch that is finished isn't PREPARED any more
finished : (state : State) (session : ℕ) (statement : Statement) (xid : Xid) → Finishes statement xid
    → reply_to state session statement ≡ Accepted
    → is_prepared (after state session statement) xid ≡ false
unfolding branch_after
finished state session statement xid (commits x) accepted =
    gone state session (Statement.Commit x false) x accepted (ap (λ b. cond b None (map.get state.branches x))
    (same_itself xids_total exact_xids x))
finished state session statement xid (rolls_back x) accepted =
    gone state session (Statement.Rollback x) x accepted (ap (λ b. cond b None (map.get state.branches x))
    (same_itself xids_total exact_xids x))

-- ---- along a history

-- an accepted XA PREPARE of the branch stands before this place
record IsPreparedBefore (base : State) (history : List (ℕ × Statement)) (end_at : ℕ) (xid : Xid) : Type 0 where
  pub place : ℕ
  pub before : place < end_at
  pub prepares : PreparesAt base history place xid

-- a prepare found in the rest of a history is one of the whole history, a place later
later_prepare : (base : State) (entry : ℕ × Statement) (entries : List (ℕ × Statement)) (place : ℕ) (xid : Xid)
    → PreparesAt (after base entry.0 entry.1) entries place xid → PreparesAt base (entry ∷ entries) (suc place) xid
later_prepare base entry entries place xid is =
    record { session = is.session; entry = is.entry; accepted = is.accepted }

-- the induction's step: a branch that isn't PREPARED in the base is prepared by the first entry, or isn't PREPARED
-- after it and so, by the premise, is prepared by a later one
by_first : (base : State) (entry : ℕ × Statement) (entries : List (ℕ × Statement)) (end_at : ℕ) (xid : Xid)
    → is_prepared base xid ≡ false →
    (b : Bool) → is_prepared (after base entry.0 entry.1) xid ≡ b
    → (is_prepared (after base entry.0 entry.1) xid ≡ false
    → IsPreparedBefore (after base entry.0 entry.1) entries end_at xid) →
    IsPreparedBefore base (entry ∷ entries) (suc end_at) xid
by_first base entry entries end_at xid e true now rest =
    let made = becomes_prepared base entry.0 entry.1 xid e now in
    record {
      place = zero;
      before = omega arith;
      prepares = record
          { session = entry.0; entry = ap (λ statement. Some (entry.0, statement)) made.0; accepted = made.1 };
    }
by_first base entry entries end_at xid e false now rest =
    let found : IsPreparedBefore (after base entry.0 entry.1) entries end_at xid = rest now in
    record {
      place = suc found.place;
      before = let before : found.place < end_at = found.before in omega arith;
      prepares = later_prepare base entry entries found.place xid found.prepares;
    }

-- a branch that becomes PREPARED in a history is prepared in it
prepared_before : (base : State) (history : List (ℕ × Statement)) (end_at : ℕ) (xid : Xid)
    → is_prepared base xid ≡ false
    → is_prepared (after_all base (take end_at history)) xid ≡ true → IsPreparedBefore base history end_at xid
prepared_before base [] zero xid e f = never _ e f
prepared_before base [] (suc end_at) xid e f = never _ e f
prepared_before base (entry ∷ entries) zero xid e f = never _ e f
prepared_before base (entry ∷ entries) (suc end_at) xid e f =
    by_first base entry entries end_at xid e (is_prepared (after base entry.0 entry.1) xid) refl
    (λ now. prepared_before (after base entry.0 entry.1) entries end_at xid now f)

-- what finishes a branch behind the first entry finishes it after that entry was carried out
later_finish : (base : State) (entry : ℕ × Statement) (entries : List (ℕ × Statement)) (place : ℕ) (xid : Xid)
    → FinishesAt base (entry ∷ entries) (suc place) xid → FinishesAt (after base entry.0 entry.1) entries place xid
later_finish base entry entries place xid is =
    record {
      session = is.session;
      statement = is.statement;
      entry = is.entry;
      finishes = is.finishes;
      prepared = is.prepared;
      accepted = is.accepted;
    }

-- the entry that finishes a branch leaves it no longer PREPARED
first_finish : (base : State) (entry : ℕ × Statement) (entries : List (ℕ × Statement)) (xid : Xid)
    → FinishesAt base (entry ∷ entries) zero xid
    → is_prepared (after base entry.0 entry.1) xid ≡ false
first_finish base entry entries xid is =
    ap (λ (e : ℕ × Statement). is_prepared (after base e.0 e.1) xid)
    (same_value entry (is.session, is.statement) is.entry)
    ∙ finished base is.session is.statement xid is.finishes is.accepted

-- a branch that is finished twice was prepared between the two: no history finishes one preparation twice
pub prepared_between : (base : State) (history : List (ℕ × Statement)) (first second : ℕ) (xid : Xid) → first < second
    → FinishesAt base history first xid
    → FinishesAt base history second xid → IsPreparedBetween base history first second xid
prepared_between base [] first second xid less f g = not_none _ f.entry
prepared_between base (entry ∷ entries) first zero xid less f g = absurd (omega arith)
prepared_between base (entry ∷ entries) zero (suc second) xid less f g =
    let rest = prepared_before (after base entry.0 entry.1) entries second xid
    (first_finish base entry entries xid f) g.prepared in
    record {
      place = suc rest.place;
      after_first = omega arith;
      before_second = let before : rest.place < second = rest.before in omega arith;
      prepares = later_prepare base entry entries rest.place xid rest.prepares;
    }
prepared_between base (entry ∷ entries) (suc first) (suc second) xid less f g =
    let rest =
    prepared_between (after base entry.0 entry.1) entries first second xid (omega arith)
    (later_finish base entry entries first xid f)
    (later_finish base entry entries second xid g) in
    record {
      place = suc rest.place;
      after_first = let after_it : first < rest.place = rest.after_first in omega arith;
      before_second = let before : rest.place < second = rest.before_second in omega arith;
      prepares = later_prepare base entry entries rest.place xid rest.prepares;
    }
