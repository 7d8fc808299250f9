-- One history more, and what an audit comes to.
use Rattle.std.proofs.Common.{◌≡◌, ℕ, ◌+◌, List, [], ◌∷◌, ◌++◌, length, refl, ap, sym, ◌∙◌, subst, ◌==◌, false, arith}
use Rattle.std.proofs.Common.{append_assoc, append-nil, length-append}
use mathlib.Core.Bool.{true≢false}
use Rattle.xa_lines.specs.Script.{lines_of}
use Rattle.xa_audit.specs.{declared.{audit.Audit.Audit, branch.Branch.Branch}, Audits.IsAuditOf}
use Rattle.xa_audit.specs.{Histories.{faults_in, faults_from, faults_of}, Branches.{AreBranchesOf, AreBranches}}

-- one history more adds its faults behind the others', under the next store's number
pub faults_more : (store : ℕ) (histories : List (List ℕ)) (history : List ℕ)
    → faults_from store (histories ++ history ∷ []) ≡ faults_from store histories
    ++ faults_in (store + length histories) 1 (lines_of history)
unfolding faults_from
faults_more store [] history =
    append-nil (faults_in store 1 (lines_of history)) ∙ ap (λ n. faults_in n 1 (lines_of history))
    (let e : store ≡ store + 0 = omega arith in e)
faults_more store (first ∷ histories) history =
    ap (λ l. faults_in store 1 (lines_of first) ++ l) (faults_more (store + 1) histories history)
    ∙ sym (append_assoc (faults_in store 1 (lines_of first)) (faults_from (store + 1) histories)
    (faults_in (store + 1 + length histories) 1 (lines_of history)))
    ∙ ap (λ n. (faults_in store 1 (lines_of first) ++ faults_from (store + 1) histories)
    ++ faults_in n 1 (lines_of history))
    (let e : store + 1 + length histories ≡ store + length (first ∷ histories) = omega arith in e)

-- with the branches of one history more behind them, under the next store's number, these are the branches of all
-- these histories
pub branches_more : (store : ℕ) (histories : List (List ℕ)) (history : List ℕ) (branches more : List Branch)
    → AreBranches store histories branches
    → AreBranchesOf (store + length histories) history more
    → AreBranches store (histories ++ history ∷ []) (branches ++ more)
branches_more store [] history branches more none are = (
  more,
  [],
  subst (λ n. AreBranchesOf n history more) (let e : store + 0 ≡ store = omega arith in e) are,
  refl,
  ap (λ l. l ++ more) none ∙ sym (append-nil more),
)
branches_more store (first ∷ histories) history branches more (here, later, are_here, are_later, is) are = (
  here,
  later ++ more,
  are_here,
  branches_more (store + 1) histories history later more are_later
      (subst (λ n. AreBranchesOf n history more) (let e : store + length (first ∷ histories)
      ≡ store + 1 + length histories = omega arith in e) are),
  ap (λ l. l ++ more) is ∙ append_assoc here later more,
)

-- one history more makes the list longer by one
longer : (histories : List (List ℕ)) (history : List ℕ) → length histories + 1 ≡ length (histories ++ history ∷ [])
longer histories history = grind (arith, length-append)

-- the faults of an audit, and those of one history more, are the faults of all these histories
with_history : (histories : List (List ℕ)) (history : List ℕ) (old : Audit) → IsAuditOf histories old
    → old.faults.items ++ faults_in (old.stores + 1) 1 (lines_of history) ≡ faults_of (histories ++ history ∷ [])
with_history histories history old is = grind (arith, faults_more)

-- if both texts together are empty, so is the first
none_before : (xs ys : List ℕ) → xs ++ ys ≡ [] → xs ≡ []
none_before [] ys e = refl
none_before (x ∷ xs) ys e = absurd (cc)

-- a text whose length isn't 0 isn't empty
none_empty : (xs : List ℕ) → (length xs == 0) ≡ false → xs ≡ [] → ⊥
none_empty xs filled e = true≢false (sym (ap (λ (l : List ℕ). length l == 0) e) ∙ filled)

-- with the faults and the branches of one history more added, an audit is that of all these histories
pub added : (histories : List (List ℕ)) (history : List ℕ) (old new : Audit) (more : List Branch)
    → IsAuditOf histories old → new.stores ≡ old.stores + 1
    → new.faults.items ≡ old.faults.items ++ faults_in (old.stores + 1) 1 (lines_of history)
    → AreBranchesOf (old.stores + 1) history more
    → new.branches ≡ old.branches ++ more → IsAuditOf (histories ++ history ∷ []) new
added histories history old new more is stores faults are branches =
    grind (arith, branches_more, faults_more, longer, none_before, with_history)

-- with the faults of one history more added, an audit is that of all these histories, if there are faults: then no
-- branches are needed
pub blamed : (histories : List (List ℕ)) (history : List ℕ) (old new : Audit) → IsAuditOf histories old
    → new.stores ≡ old.stores + 1
    → new.faults.items ≡ old.faults.items ++ faults_in (old.stores + 1) 1 (lines_of history)
    → (length new.faults.items == 0) ≡ false
    → IsAuditOf (histories ++ history ∷ []) new
blamed histories history old new is stores faults filled = grind (arith, longer, none_empty, with_history)
