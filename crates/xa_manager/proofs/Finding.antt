-- How a prepared branch of a history is ended, what an XA PREPARE leaves, and what a commit does to the rows.
use Rattle.std.proofs.Common.{◌≡◌, ◌⊎◌, ◌≤◌, ℕ, zero, suc, Bool, true, false, cond, List, [], ◌∷◌, length, refl, ap}
use Rattle.std.proofs.Common.{sym, ◌∙◌, subst, inl, inr, Some, None, arith}
use Rattle.std.specs.{Prelude.{slice_get, Option, not, ◌&&◌}, Option.{option_map, option_map_or}}
use mathlib.Core.Bool.{true≢false}
use Rattle.xa_xid.specs.{Xid.same_xid, declared.{xid.Xid.Xid, statement.Statement.{Statement, TheVariants.Start}}}
use Rattle.xa_xid.specs.declared.statement.Statement.TheVariants.{End, Prepare, Commit, Rollback, Get, Put, Del}
use Rattle.xa_xid.{specs.declared.statement.Statement.TheVariants.Disconnect, proofs.Orders.{xids_total, exact_xids}}
use Rattle.xa_words.specs.Entry.{Entry}
use Rattle.xa_server.specs.State.{Branch, State, IsOpen, association_of, is_prepared, is_prepared_phase, is_known}
use Rattle.xa_server.specs.{State.phase_at, Replies.{table, reply_to}, Step.{enters, is_refused, after, effect}}
use Rattle.xa_server.specs.Step.{committed, with_writes, with_lock, with_own_write, started_by}
use Rattle.xa_server.specs.declared.association.Association.{Association, TheVariants.{Free, Active, Idle}}
use Rattle.xa_server.specs.declared.branch.Phase.{Phase, TheVariants.{Active as PhaseActive, Idle as PhaseIdle}}
use Rattle.xa_server.proofs.Accepted.{open_association, own_is, accepted_start, accepted_end, known_prepared}
use Rattle.xa_server.proofs.Changes.{idle, detached, branch_after, effect-branch, accepted_done, outcome}
use Rattle.xa_server.proofs.Maps.{same_or_apart, same_itself}
use Rattle.xa_session.specs.Replay.{state_after, state_at}
use Rattle.std.specs.FinMap as map

-- whether the branch is there and PREPARED
abbrev ready : Option Branch → Bool
ready found = option_map_or is_prepared_phase (option_map (λ (b : Branch). b.phase) found) false

-- a test can't be true and false; the lemmas below use it to leave out a case
clash : {A : Type 0} (b : Bool) → b ≡ true → b ≡ false → A
clash b e f = absurd (true≢false (sym e ∙ f))

-- the case of a statement about another branch is left out: this one is as before, and was PREPARED
beside : {A : Type 0} (b : Bool) (new found : Option Branch) → b ≡ false → ready found ≡ true
    → ready (cond b new found) ≡ false → A
beside b new found apart is isn't = cc

-- the case of a change that leaves PREPARED branches PREPARED is left out: after it this one wouldn't be PREPARED
kept : {A : Type 0} (change : Branch → Branch) (found : Option Branch)
    → ((b : Branch) → is_prepared_phase b.phase ≡ true → is_prepared_phase (change b).phase ≡ true)
    → ready found ≡ true → ready (option_map change found) ≡ false → A
kept change found keeps is isn't = grind (arith, clash, true≢false)

-- the statement is an XA COMMIT or XA ROLLBACK of the branch
abbrev pub EndsBranch : Xid → Statement → Type 0
EndsBranch xid statement = ((one_phase : Bool) × (statement ≡ Commit xid one_phase)) ⊎ (statement ≡ Rollback xid)

-- a prepared branch that the session hasn't open is ended only by an XA COMMIT or XA ROLLBACK of it, if the statement
-- isn't an XA START or XA END of it
ends_it : (session : ℕ) (association : Association) (statement : Statement) (at : Xid) (found : Option Branch)
    → ((own : Xid) → (association ≡ Active own) ⊎ (association ≡ Idle own) → same_xid at own ≡ false)
    → (statement ≡ Start at → ⊥) → (statement ≡ End at → ⊥)
    → ready found ≡ true → ready (branch_after session association statement at found) ≡ false → EndsBranch at statement
unfolding branch_after detached
ends_it session association (Start xid) at found apart no_start no_end is isn't =
    elim (same_or_apart xids_total exact_xids at xid) [
      | inl same ↦ absurd (no_start (ap Start (sym same)))
      | inr other ↦ beside (same_xid at xid) (Some (started_by session)) found other is isn't
    ]
ends_it session association (End xid) at found apart no_start no_end is isn't =
    elim (same_or_apart xids_total exact_xids at xid) [
      | inl same ↦ absurd (no_end (ap End (sym same)))
      | inr other ↦ beside (same_xid at xid) (option_map idle found) found other is isn't
    ]
ends_it session association (Prepare xid) at found apart no_start no_end is isn't =
    grind (arith, beside, detached, exact_xids, kept, same_itself, same_or_apart, xids_total)
ends_it session association (Commit xid one_phase) at found apart no_start no_end is isn't =
    elim (same_or_apart xids_total exact_xids at xid) [
      | inl same ↦ inl (one_phase, ap (λ x. Commit x one_phase) (sym same))
      | inr other ↦ beside (same_xid at xid) None found other is isn't
    ]
ends_it session association (Rollback xid) at found apart no_start no_end is isn't =
    elim (same_or_apart xids_total exact_xids at xid) [
      | inl same ↦ inr (ap Rollback (sym same))
      | inr other ↦ beside (same_xid at xid) None found other is isn't
    ]
ends_it session (Active own) (Get key) at found apart no_start no_end is isn't =
    beside (same_xid at own) (option_map (with_lock key) found) found (apart own (inl refl)) is isn't
ends_it session (Active own) (Put key value) at found apart no_start no_end is isn't =
    beside (same_xid at own) (option_map (with_own_write key (Some value)) found) found (apart own (inl refl)) is isn't
ends_it session (Active own) (Del key) at found apart no_start no_end is isn't =
    beside (same_xid at own) (option_map (with_own_write key None) found) found (apart own (inl refl)) is isn't
ends_it session (Active own) Disconnect at found apart no_start no_end is isn't =
    beside (same_xid at own) None found (apart own (inl refl)) is isn't
ends_it session (Idle own) Disconnect at found apart no_start no_end is isn't =
    beside (same_xid at own) None found (apart own (inr refl)) is isn't
ends_it session association statement at found apart no_start no_end is isn't = clash (ready found) is isn't

-- a branch that a session has open isn't a prepared one
nobodys : (state : State) (session : ℕ) (xid own : Xid) → is_prepared state xid ≡ true
    → (association_of state session ≡ Active own) ⊎ (association_of state session ≡ Idle own) → same_xid xid own ≡ false
nobodys state session xid own is open_one = elim (same_or_apart xids_total exact_xids xid own) [
  | inl same ↦ by open_one same
  | inr other ↦ other
]
  where
    by : (association_of state session ≡ Active own) ⊎ (association_of state session ≡ Idle own) → xid ≡ own
        → same_xid xid own ≡ false
    by (inl active) same =
        let phase : phase_at state own ≡ Some PhaseActive =
        subst (IsOpen state) active (open_association state session) in
        clash (is_prepared state xid) is (ap (is_prepared state) same
        ∙ ap (λ p. option_map_or is_prepared_phase p false) phase)
    by (inr idles) same =
        let phase : phase_at state own ≡ Some PhaseIdle = subst (IsOpen state) idles (open_association state session) in
        clash (is_prepared state xid) is (ap (is_prepared state) same
        ∙ ap (λ p. option_map_or is_prepared_phase p false) phase)

-- a statement after which a prepared branch isn't prepared any more is an XA COMMIT or XA ROLLBACK of it
pub ends_prepared : (state : State) (session : ℕ) (statement : Statement) (xid : Xid) → is_prepared state xid ≡ true
    → is_prepared (after state session statement) xid ≡ false → EndsBranch xid statement
ends_prepared state session statement xid is isn't = elim (outcome state session statement) [
  | inl refused ↦ clash (is_prepared state xid) is (sym (ap (λ s. is_prepared s xid) refused.1) ∙ isn't)
  | inr accepted ↦
      let association = association_of state session in
      ends_it session association statement xid (map.get state.branches xid) (λ own. nobodys state session xid own is)
      (λ starts.
      clash (is_known state xid) (known_prepared state xid is)
      ((accepted_start state association xid (subst (λ s. is_refused (table state association s)
      ≡ false) starts accepted.0)).1))
      (λ ends.
      clash (is_prepared state xid) is
      (accepted_end state association xid (open_association state session)
      (subst (λ s. is_refused (table state association s) ≡ false) ends accepted.0)))
      is
      (sym (ap ready (effect-branch state session association statement xid))
      ∙ sym (ap (λ s. is_prepared s xid) accepted.1) ∙ isn't)
]

-- ---- an accepted XA PREPARE

-- if a test that needs another one to fail holds, that one fails
unrefused : (refused may : Bool) → (not refused && may) ≡ true → refused ≡ false
unrefused refused may is = grind (arith)

-- a statement that enters the history was accepted
pub entered_accepted : (state : State) (session : ℕ) (statement : Statement) → enters state session statement ≡ true
    → is_refused (reply_to state session statement) ≡ false
unfolding enters
entered_accepted state session statement is = grind (arith, unrefused)

-- a branch that has a phase is PREPARED once it is detached
in_phase : (found : Option Branch) (phase : Phase) → option_map (λ (b : Branch). b.phase) found ≡ Some phase
    → ready (option_map detached found) ≡ true
unfolding detached
in_phase found phase is = grind (arith)

-- an XA PREPARE that enters the history leaves its branch PREPARED
pub prepares : (state : State) (session : ℕ) (xid : Xid) → enters state session (Prepare xid) ≡ true
    → is_prepared (after state session (Prepare xid)) xid ≡ true
unfolding reply_to branch_after table
prepares state session xid entering =
    let accepted = entered_accepted state session (Prepare xid) entering in
    ap (λ s. is_prepared s xid) (accepted_done state session (Prepare xid) accepted)
    ∙ ap ready (effect-branch state session (association_of state session) (Prepare xid) xid)
    ∙ ap (λ b. ready (cond b (option_map detached (map.get state.branches xid)) (map.get state.branches xid)))
    (same_itself xids_total exact_xids xid)
    ∙ by (association_of state session) (open_association state session) accepted
  where
    by : (association : Association) → IsOpen state association
        → is_refused (table state association (Prepare xid)) ≡ false
        → ready (option_map detached (map.get state.branches xid)) ≡ true
    by Free opened accepted = absurd (true≢false accepted)
    by (Active own) opened accepted = absurd (true≢false accepted)
    by (Idle own) opened accepted =
        let same : xid ≡ own = own_is xid own _ accepted in
        in_phase (map.get state.branches xid) PhaseIdle (ap (phase_at state) same ∙ opened)

-- ---- along a history

-- the branch is PREPARED from one place of the history up to another, at which an entry ends it
pub record IsEndedAt (base : State) (history : List Entry) (from : ℕ) (xid : Xid) : Type 0 where
  pub place : ℕ
  pub behind : from ≤ place
  pub entry : Entry
  pub there : slice_get history place ≡ Some entry
  pub prepared : (at : ℕ) → from ≤ at → at ≤ place → is_prepared (state_at base history at) xid ≡ true
  pub ends : EndsBranch xid entry.statement

-- an ending found in the rest of a history is one of the whole history, a place later
later : (base : State) (first : Entry) (rest : List Entry) (from : ℕ) (xid : Xid)
    → IsEndedAt (after base first.session first.statement) rest from xid → IsEndedAt base (first ∷ rest) (suc from) xid
unfolding state_after
later base first rest from xid is =
    record {
      place = suc is.place;
      behind = omega (arith, is.behind);
      entry = is.entry;
      there = is.there;
      prepared = by;
      ends = is.ends;
    }
  where
    by : (at : ℕ) → suc from ≤ at → at ≤ suc is.place → is_prepared (state_at base (first ∷ rest) at) xid ≡ true
    by zero less more = absurd (omega (arith, less))
    by (suc at) less more = is.prepared at (omega (arith, less)) (omega (arith, more))

-- an ending found behind the first entry, of a branch that was PREPARED before it, is one from the beginning
sooner : (base : State) (first : Entry) (rest : List Entry) (xid : Xid) → is_prepared base xid ≡ true
    → IsEndedAt (after base first.session first.statement) rest 0 xid → IsEndedAt base (first ∷ rest) 0 xid
unfolding state_after
sooner base first rest xid now is =
    record {
      place = suc is.place;
      behind = omega arith;
      entry = is.entry;
      there = is.there;
      prepared = by;
      ends = is.ends;
    }
  where
    by : (at : ℕ) → 0 ≤ at → at ≤ suc is.place → is_prepared (state_at base (first ∷ rest) at) xid ≡ true
    by zero less more = now
    by (suc at) less more = is.prepared at (omega arith) (omega (arith, more))

-- a prepared branch is ended by the first entry, or still prepared after it and ended later
first_or_later : (base : State) (first : Entry) (rest : List Entry) (xid : Xid) → is_prepared base xid ≡ true
    → (b : Bool)
    → is_prepared (after base first.session first.statement) xid ≡ b
    → (is_prepared (after base first.session first.statement) xid ≡ true
    → IsEndedAt (after base first.session first.statement) rest 0 xid)
    → IsEndedAt base (first ∷ rest) 0 xid
unfolding state_after
first_or_later base first rest xid is b still rest_of = grind (arith, ends_prepared, sooner)

-- a branch that is PREPARED at a place and isn't in the end was ended
pub ended_behind : (base : State) (history : List Entry) (from : ℕ) (xid : Xid) → from ≤ length history
    → is_prepared (state_at base history from) xid ≡ true
    → is_prepared (state_after base history) xid ≡ false → IsEndedAt base history from xid
unfolding state_after
ended_behind base [] zero xid within is isn't = clash (is_prepared base xid) is isn't
ended_behind base [] (suc from) xid within is isn't = clash (is_prepared base xid) is isn't
ended_behind base (first ∷ rest) (suc from) xid within is isn't =
    later base first rest from xid (ended_behind (after base first.session first.statement) rest from xid
    (omega (arith, within)) is isn't)
ended_behind base (first ∷ rest) zero xid within is isn't =
    first_or_later base first rest xid is (is_prepared (after base first.session first.statement) xid) refl
    (λ still. ended_behind (after base first.session first.statement) rest zero xid (omega arith) still isn't)

-- ---- what a commit does to the rows

-- an XA COMMIT that enters the history makes the branch's writes the committed values
pub commit_rows : (state : State) (session : ℕ) (xid : Xid) (one_phase : Bool) (branch : Branch)
    → enters state session (Commit xid one_phase) ≡ true
    → map.get state.branches xid ≡ Some branch → (after state session (Commit xid one_phase)).rows
    ≡ with_writes (map.entries branch.writes) state.rows
unfolding effect committed
commit_rows state session xid one_phase branch entering found = grind (arith, accepted_done, entered_accepted)
