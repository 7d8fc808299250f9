-- The branches that a coordinator has open stay what its sessions have open.
use Rattle.std.proofs.Common.{◌≡◌, ℕ, List, get_or, ap, sym, ◌∙◌, subst, inl, inr, Option, Some, None}
use Rattle.std.proofs.{lemmas.{Bool.Decides.eqb_tells, Option.get_or_from_slice_get}, Math.ListN.length-set}
use Rattle.std.specs.Prelude.{slice_get, slice_set}
use Rattle.xa_xid.specs.declared.{xid.Xid.Xid, statement.Statement.Statement}
use Rattle.xa_server.specs.Locks.{LockLaw}
use Rattle.decision_log.specs.History.{entries_of}
use Rattle.xa_session.specs.View.{SessionView}
use Rattle.xa_coordinator.specs.{Told.IsDone, Branch.branch_xid, Stores.{AtStore, ChangesAt}}
use Rattle.xa_coordinator.specs.{OpenBranches.{association_seen, association_in, OpenThere}, Parts.LeavesOpen}
use Rattle.xa_coordinator.{specs.declared.branches.OpenBranch.OpenBranch, proofs.Telling.association_done}
use Rattle.xa_coordinator.proofs.Places.{get_set_other, get_set_is, get_before_set}

module _ {S : Type 0} (view : S → SessionView) (name : List ℕ) where
  -- if each branch that the coordinator notes is open in its store's session (`OpenThere`), it stays so after one
  -- session was replaced and another mark was noted for its store, if the session has the marked branch open
  pub marked : (stores : List S) (branches : List (Option OpenBranch)) (store : ℕ) (session : S)
      (mark : Option OpenBranch)
      → OpenThere view name stores branches →
      ((branch : OpenBranch) → mark ≡ Some branch → association_seen (view session)
      ≡ association_in branch.phase (branch_xid name branch.number store)) →
      OpenThere view name (slice_set stores store session) (slice_set branches store mark)
  marked stores branches store session mark kept at_mark = λ at other branch is_there is_marked.
      elim (eqb_tells at store) [
        | inl (_, here) ↦
            let is_s : session ≡ other = get_set_is stores store session other
            (ap (slice_get (slice_set stores store session)) (sym here) ∙ is_there) in
            let is_m : mark ≡ Some branch =
            get_set_is branches store mark (Some branch) (ap (slice_get (slice_set branches store mark)) (sym here)
            ∙ is_marked) in
            ap (λ s. association_seen (view s)) (sym is_s) ∙ at_mark branch is_m
            ∙ ap (λ n. association_in branch.phase (branch_xid name branch.number n)) (sym here)
        | inr (_, apart) ↦ kept at other branch (sym (get_set_other stores store at session apart) ∙ is_there)
            (sym (get_set_other branches store at mark apart) ∙ is_marked)
      ]

  -- if each branch that the coordinator notes is open in its store's session (`OpenThere`), it stays so after one
  -- session was used that has the same open as before
  pub unmarked : (stores : List S) (branches : List (Option OpenBranch)) (store : ℕ) (old session : S)
      → old ≡ get_or stores store old
      → OpenThere view name stores branches →
      association_seen (view session) ≡ association_seen (view old)
      → OpenThere view name (slice_set stores store session) branches
  unmarked stores branches store old session was kept same = λ at other branch is_there is_marked.
      elim (eqb_tells at store) [
        | inl (_, here) ↦
            let is_s : session ≡ other = get_set_is stores store session other
            (ap (slice_get (slice_set stores store session)) (sym here) ∙ is_there) in
            ap (λ s. association_seen (view s)) (sym is_s) ∙ same ∙ kept at old branch
            (ap (slice_get stores) here ∙ get_before_set stores store session other old
            (ap (slice_get (slice_set stores store session)) (sym here) ∙ is_there)
            ∙ ap Some (sym was)) is_marked
        | inr (_, apart) ↦ kept at other branch (sym (get_set_other stores store at session apart) ∙ is_there) is_marked
      ]

  -- if a fact holds of a store's session before and after it was used, it holds at the store between the list of
  -- sessions and the one that has the used session in its place
  pub at_place : (fact : SessionView → SessionView → Type 0) (stores : List S) (store : ℕ) (old session : S)
      → old ≡ get_or stores store old
      → fact (view old) (view session) →
      AtStore view store fact stores (slice_set stores store session)
  at_place fact stores store old session was is = λ before after is_before is_after.
      let is_old : before ≡ old = sym (get_or_from_slice_get stores store before old is_before) ∙ sym was in
      let is_new : session ≡ after = get_set_is stores store session after is_after in
      let P : S → S → Type 0 = λ b a. fact (view b) (view a) in
      subst (λ b. P b after) (sym is_old) (subst (P old) is_new is)

-- setting one store's session leaves the sessions of other stores as they were
pub changes_at : {S : Type 0} (stores : List S) (store : ℕ) (session : S)
    → ChangesAt store stores (slice_set stores store session)
changes_at stores store session =
    record {
      count = length-set stores store session;
      others = λ other apart.
          get_set_other stores store other session apart;
    }

-- after a statement that was carried out, the session has the branch open that the coordinator notes for it, if that is
-- one that the statement leaves open
pub leaves_association : (name : List ℕ) (store : ℕ) (statement : Statement) (mark : Option OpenBranch)
    (old new : SessionView)
    → LeavesOpen name store statement mark
    → LockLaw new.base →
    entries_of old.known.number old.known.seen ≡ old.known.mine
    → entries_of new.known.number new.known.seen ≡ new.known.mine → IsDone statement old new →
    (branch : OpenBranch) → mark ≡ Some branch → association_seen new
    ≡ association_in branch.phase (branch_xid name branch.number store)
leaves_association name store statement None old new leaves law own_old own_new is branch marked = absurd (cc)
leaves_association name store statement (Some open_one) old new leaves law own_old own_new is branch marked =
    let same : open_one ≡ branch = cc in
    let xid : Xid = branch_xid name open_one.number store in
    association_done old new open_one.phase xid law own_old own_new (subst (λ s. IsDone s old new) leaves is)
    ∙ ap (λ (b : OpenBranch). association_in b.phase (branch_xid name b.number store)) same
