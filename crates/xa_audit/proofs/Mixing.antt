-- MIXED, over the histories: one branch was committed, and another one's writes were dropped.
use Rattle.std.proofs.Common.{◌≡◌, ◌↔◌, ℕ, ◌+◌, ◌<◌, List, [], ◌∷◌, length, refl, ap, sym, ◌∙◌, Bool, true, false, ◌⊎◌}
use Rattle.std.proofs.{Common.{inl, inr, arith}, lemmas.{List.Folds.list_any-append, Map.Keys.IsDistinct-from_sorted}}
use Rattle.std.{proofs.lemmas.List.Elements.{Contains-append_left, Contains-append_right}, specs.Ordering.eq_by_cmp}
use Rattle.std.{proofs.lemmas.Map.Views.{Contains-from_lookup, lookup-from_Contains}, specs.Option.option_map_or}
use Rattle.std.specs.{Prelude.{Option, Some, ◌||◌, ◌&&◌, cond, filter, map}, List.{list_any, Contains}, Map.keys_of}
use Rattle.std.specs.Cmp.{eq_by_cmp_equiv}
use mathlib.Core.Bool.{true≢false}
use Rattle.xa_xid.{specs.{declared.xid.Xid.Xid, Xid.xid_cmp}, proofs.Orders.{xids_total, exact_xids}}
use Rattle.xa_server.proofs.Maps.{same_itself, same_is}
use Rattle.xa_audit.specs.declared.{lives.Lives.Lives, branch.Branch.Branch, global.GlobalName.GlobalName}
use Rattle.xa_audit.specs.declared.verdict.Verdict.TheVariants.{Mixed}
use Rattle.xa_audit.specs.{Branches.{IsIndex, lives_in, branch_in, AreBranches}, Deeds.{deeds_in, deeds_about}}
use Rattle.xa_audit.specs.Globals.{Global, IsAccount, global_cmp, global_of, is_of, if_any, took, failed, verdict_of}
use Rattle.xa_audit.{specs.Laws.{is_commit, failed_in, HasCommitted, HasDropped}, proofs.Failing.fails_iff}
use Rattle.xa_audit.proofs.{Groups.{globals_total, exact_globals}, Taking.took_by, Verdicts.mixed_iff}

-- in one of the histories a branch has lives that, with its identifier, pass a test, whatever the number of its store
record IsFound (test : Xid × Lives → Bool) (histories : List (List ℕ)) : Type 0 where
  history : List ℕ
  xid : Xid
  lives : Lives
  one : Contains histories history
  has : lives_in history xid ≡ Some lives
  passes : test (xid, lives) ≡ true

-- if one of two tests holds, it is the first or the second
or_cases : (a b : Bool) → (a || b) ≡ true → (a ≡ true) ⊎ (b ≡ true)
or_cases a b p = grind (arith)

-- one of two tests holds if the first does
or_left : (a b : Bool) → a ≡ true → (a || b) ≡ true
or_left a b p = ap (λ x. x || b) p

-- one of two tests holds if the second does
or_right : (a b : Bool) → b ≡ true → (a || b) ≡ true
or_right a b p = grind (arith)

-- if two tests hold, both hold together
and_true : (a b : Bool) → a ≡ true → b ≡ true → (a && b) ≡ true
and_true a b p q = ap (λ x. x && b) p ∙ q

-- if both of two tests hold, the first does
and_left : (a b : Bool) → (a && b) ≡ true → a ≡ true
and_left a b p = grind (arith, true≢false)

-- if both of two tests hold, the second does
and_right : (a b : Bool) → (a && b) ≡ true → b ≡ true
and_right a b p = grind (arith, true≢false)

-- the first element is in the list
here : {X : Type 0} (x : X) (xs : List X) → Contains (x ∷ xs) x
here x xs = Contains-append_left (x ∷ []) xs x (0, (let e : 0 < length (x ∷ []) = omega arith in e), refl)

-- what is in the rest of a list is in the list
later : {X : Type 0} (y : X) (xs : List X) (x : X) → Contains xs x → Contains (y ∷ xs) x
later y xs x among = Contains-append_right (y ∷ []) xs x among

-- what is in a list of one is that one
single : {X : Type 0} (y x : X) → Contains (y ∷ []) x → y ≡ x
single y x is = grind (arith)

-- what is in a list is the first or in the rest
cons_cases : {X : Type 0} (y : X) (xs : List X) (x : X) → Contains (y ∷ xs) x → (y ≡ x) ⊎ Contains xs x
cons_cases y xs x among = grind (arith, single)

-- some entry of a list passes a test
record Passing (test : Xid × Lives → Bool) (entries : List (Xid × Lives)) : Type 0 where
  entry : Xid × Lives
  one : Contains entries entry
  passes : test entry ≡ true

-- whether a branch passes the test depends on its identifier and its lives, not on the number of its store
abbrev IsOfLives : (Branch → Bool) → (Xid × Lives → Bool) → Type 0
IsOfLives test of_lives = (store : ℕ) (entry : Xid × Lives) → test (branch_in store entry) ≡ of_lives entry

-- if a branch of a store passes, there is an entry whose lives pass
passing : (test : Branch → Bool) (of_lives : Xid × Lives → Bool) → IsOfLives test of_lives
    → (store : ℕ) (entries : List (Xid × Lives))
    → list_any test (map (branch_in store) entries) ≡ true → Passing of_lives entries
passing test of_lives same store [] any = absurd (true≢false (sym any))
passing test of_lives same store (entry ∷ entries) any =
    elim (or_cases (test (branch_in store entry)) (list_any test (map (branch_in store) entries)) any) [
      | inl first ↦ record { entry = entry; one = here entry entries; passes = sym (same store entry) ∙ first }
      | inr rest ↦
          let it = passing test of_lives same store entries rest in
          record { entry = it.entry; one = later entry entries it.entry it.one; passes = it.passes }
    ]

-- if the lives of an entry pass, its branch among the store's passes
passed : (test : Branch → Bool) (of_lives : Xid × Lives → Bool) → IsOfLives test of_lives
    → (store : ℕ) (entries : List (Xid × Lives)) (entry : Xid × Lives)
    → Contains entries entry → of_lives entry ≡ true → list_any test (map (branch_in store) entries) ≡ true
passed test of_lives same store [] entry (k, below, at) passes = absurd (omega (arith, below))
passed test of_lives same store (first ∷ entries) entry among passes = elim (cons_cases first entries entry among) [
  | inl is ↦
      or_left (test (branch_in store first)) (list_any test (map (branch_in store) entries))
      (ap (λ e. test (branch_in store e)) is ∙ same store entry ∙ passes)
  | inr rest ↦
      or_right (test (branch_in store first)) (list_any test (map (branch_in store) entries))
      (passed test of_lives same store entries entry rest passes)
]

-- identifiers that compare as equal are the same
same_xids : (x y : Xid) → eq_by_cmp xid_cmp x y ≡ true → x ≡ y
same_xids = same_is xids_total exact_xids

-- an entry of the index has the lives that the history tells of its branch
told_of : (history : List ℕ) (entries : List (Xid × Lives)) (entry : Xid × Lives)
    → IsIndex xid_cmp (lives_in history) entries → Contains entries entry
    → lives_in history entry.0 ≡ Some entry.1
told_of history entries entry index among =
    sym (index.found entry.0)
    ∙ lookup-from_Contains (eq_by_cmp_equiv xids_total) entry.0 entry.1 entries
    (IsDistinct-from_sorted xid_cmp (keys_of entries) index.ascending) among

-- a branch with lives in a history has an entry in its index
listed : (history : List ℕ) (entries : List (Xid × Lives)) (xid : Xid) (lives : Lives)
    → IsIndex xid_cmp (lives_in history) entries
    → lives_in history xid ≡ Some lives → Contains entries (xid, lives)
listed history entries xid lives index has = Contains-from_lookup same_xids xid lives entries (index.found xid ∙ has)

-- if some branch of the listed ones passes, there is a history with a branch whose lives pass
found : (test : Branch → Bool) (of_lives : Xid × Lives → Bool) → IsOfLives test of_lives
    → (store : ℕ) (histories : List (List ℕ)) (branches : List Branch)
    → AreBranches store histories branches → list_any test branches ≡ true → IsFound of_lives histories
found test of_lives same store [] branches none any = absurd (true≢false (sym (sym (ap (list_any test) none) ∙ any)))
found test of_lives same store (history ∷ histories) branches (first, rest, (entries, index, are), are_rest, is) any =
    elim (or_cases (list_any test first) (list_any test rest)
    (sym (list_any-append test first rest) ∙ sym (ap (list_any test) is) ∙ any)) [
      | inl in_first ↦
          let it = passing test of_lives same store entries (sym (ap (list_any test) are) ∙ in_first) in
          record {
            history = history;
            xid = it.entry.0;
            lives = it.entry.1;
            one = here history histories;
            has = told_of history entries it.entry index it.one;
            passes = it.passes;
          }
      | inr in_rest ↦
          let it = found test of_lives same (store + 1) histories rest are_rest in_rest in
          record {
            history = it.history;
            xid = it.xid;
            lives = it.lives;
            one = later history histories it.history it.one;
            has = it.has;
            passes = it.passes;
          }
    ]

-- if in some history the lives of a branch pass, some branch of the listed ones does
finds : (test : Branch → Bool) (of_lives : Xid × Lives → Bool) → IsOfLives test of_lives
    → (store : ℕ) (histories : List (List ℕ)) (branches : List Branch)
    → AreBranches store histories branches → IsFound of_lives histories → list_any test branches ≡ true
finds test of_lives same store [] branches none it = absurd (omega (arith, it.one.1))
finds test of_lives same store (history ∷ histories) branches (first, rest, (entries, index, are), are_rest, is) it =
    ap (list_any test) is ∙ list_any-append test first rest
    ∙ (elim (cons_cases history histories it.history it.one) [
      | inl same_history ↦
          or_left (list_any test first) (list_any test rest)
          (ap (list_any test) are
          ∙ passed test of_lives same store entries (it.xid, it.lives)
          (listed history entries it.xid it.lives index (ap (λ h. lives_in h it.xid) same_history ∙ it.has)) it.passes)
      | inr among ↦
          or_right (list_any test first) (list_any test rest)
          (finds test of_lives same (store + 1) histories rest are_rest
          (record {
            history = it.history;
            xid = it.xid;
            lives = it.lives;
            one = among;
            has = it.has;
            passes = it.passes;
          }))
    ])

-- some branch that a filter lets through passes a test if, and only if, some branch passes both the filter and the
-- test
filtered : (p test : Branch → Bool) (branches : List Branch)
    → list_any test (filter p branches) ≡ list_any (λ branch. p branch && test branch) branches
filtered p test [] = refl
filtered p test (branch ∷ branches) =
    by (p branch) (test branch) ∙ ap (λ b. (p branch && test branch) || b) (filtered p test branches)
  where
    by : (b c : Bool) → list_any test (cond b (branch ∷ filter p branches) (filter p branches))
        ≡ ((b && test branch) || list_any test (filter p branches))
    by true c = refl
    by false c = refl

-- the branches of a global transaction are those of the account that have its name
own_branches : (histories : List (List ℕ)) (globals : List Global) (account : IsAccount histories globals)
    (global : Global) → Contains globals global
    → global.1 ≡ filter (is_of global.0) account.branches
own_branches histories globals account global among =
    some (filter (is_of global.0) account.branches)
    (sym (lookup-from_Contains (eq_by_cmp_equiv globals_total) global.0 global.1 globals
    (IsDistinct-from_sorted global_cmp (keys_of globals) account.index.ascending) among)
    ∙ account.index.found global.0)
  where
    some : (branches : List Branch) → Some global.1 ≡ if_any branches → global.1 ≡ branches
    some [] e = absurd (cc)
    some (branch ∷ branches) e = cc

-- whether a branch with these lives is of this global transaction and passes a test; the store's number, here 1,
-- doesn't count
own_and : GlobalName → (Branch → Bool) → Xid × Lives → Bool
own_and name test entry = is_of name (branch_in 1 entry) && test (branch_in 1 entry)

-- a name that compares as equal with that of the branch's global transaction is that name
own_name : (name : GlobalName) (xid : Xid) → eq_by_cmp global_cmp name (global_of xid) ≡ true → global_of xid ≡ name
own_name name xid is = sym (same_is globals_total exact_globals name (global_of xid) is)

-- a name that is that of the branch's global transaction compares as equal with it
name_own : (name : GlobalName) (xid : Xid) → global_of xid ≡ name → eq_by_cmp global_cmp name (global_of xid) ≡ true
name_own name xid is = ap (λ n. eq_by_cmp global_cmp name n) is ∙ same_itself globals_total exact_globals name

-- the branch took effect if, and only if, its deeds have an accepted XA COMMIT
some_took : (history : List ℕ) (xid : Xid) (lives : Lives) → lives_in history xid ≡ Some lives
    → took (branch_in 1 (xid, lives)) ≡ list_any is_commit (deeds_about xid (deeds_in history))
some_took history xid lives has =
    sym (ap (λ l. option_map_or (λ (x : Lives). took (branch_in 1 (xid, x))) l false) has)
    ∙ took_by (deeds_about xid (deeds_in history))

-- if a branch has lives in a history, it failed in that history (`failed_in`) if, and only if, the branch as it is
-- listed with these lives did (`failed`)
some_failed : (history : List ℕ) (xid : Xid) (lives : Lives) → lives_in history xid ≡ Some lives
    → failed_in 1 history xid ≡ failed (branch_in 1 (xid, lives))
some_failed history xid lives has = ap (λ l. option_map_or (λ (x : Lives). failed (branch_in 1 (xid, x))) l false) has

-- if lives that may be missing pass a test, they are there
any_told : (lives : Option Lives) (test : Lives → Bool) → option_map_or test lives false ≡ true
    → (l : Lives) × (lives ≡ Some l)
any_told lives test passes = grind (arith, true≢false)

-- if in some history a branch of the name took by its lives, some history has an accepted XA COMMIT of a branch of it
-- (`HasCommitted`)
committed_of : (histories : List (List ℕ)) (name : GlobalName) → IsFound (own_and name took) histories
    → HasCommitted histories name
unfolding own_and
committed_of histories name it = record {
  history = it.history;
  xid = it.xid;
  one = it.one;
  own = own_name name it.xid (and_left _ _ it.passes);
  committed = sym (some_took it.history it.xid it.lives it.has) ∙ and_right _ _ it.passes;
}

-- if some history has an accepted XA COMMIT of a branch of the name (`HasCommitted`), in some history a branch of the
-- name took effect by its lives
of_committed : (histories : List (List ℕ)) (name : GlobalName) → HasCommitted histories name
    → IsFound (own_and name took) histories
unfolding own_and
of_committed histories name it =
    let known = any_told (lives_in it.history it.xid) (λ (x : Lives). took (branch_in 1 (it.xid, x)))
    (took_by (deeds_about it.xid (deeds_in it.history)) ∙ it.committed) in
    record {
      history = it.history;
      xid = it.xid;
      lives = known.0;
      one = it.one;
      has = known.1;
      passes = and_true _ _ (name_own name it.xid it.own) (some_took it.history it.xid known.0 known.1 ∙ it.committed);
    }

-- if in some history a branch of the name failed by its lives, in some history the writes of a branch of it were
-- dropped (`HasDropped`)
dropped_of : (histories : List (List ℕ)) (name : GlobalName) → IsFound (own_and name failed) histories
    → HasDropped histories name
unfolding own_and
dropped_of histories name it = record {
  history = it.history;
  xid = it.xid;
  one = it.one;
  own = own_name name it.xid (and_left _ _ it.passes);
  dropped = (fails_iff (deeds_about it.xid (deeds_in it.history))).0
      (some_failed it.history it.xid it.lives it.has ∙ and_right _ _ it.passes);
}

-- if in some history the writes of a branch of the name were dropped (`HasDropped`), in some history a branch of the
-- name failed by its lives
of_dropped : (histories : List (List ℕ)) (name : GlobalName) → HasDropped histories name
    → IsFound (own_and name failed) histories
unfolding own_and
of_dropped histories name it =
    let fails : failed_in 1 it.history it.xid ≡ true = (fails_iff
    (deeds_about it.xid (deeds_in it.history))).1 it.dropped in
    let known = any_told (lives_in it.history it.xid) (λ (x : Lives). failed (branch_in 1 (it.xid, x))) fails in
    record {
      history = it.history;
      xid = it.xid;
      lives = known.0;
      one = it.one;
      has = known.1;
      passes = and_true _ _ (name_own name it.xid it.own) (sym (some_failed it.history it.xid known.0 known.1) ∙ fails);
    }

-- a branch of a global transaction of the account passes a test if, and only if, some branch of the account is of its
-- name and passes
own_any : (histories : List (List ℕ)) (globals : List Global) (account : IsAccount histories globals) (global : Global)
    → Contains globals global
    → (test : Branch → Bool) → list_any test global.1 ≡ list_any
    (λ branch. is_of global.0 branch && test branch) account.branches
own_any histories globals account global among test =
    ap (list_any test) (own_branches histories globals account global among)
    ∙ filtered (is_of global.0) test account.branches

-- MIXED stands if, and only if, in the histories one branch was committed (`HasCommitted`), and another, which wasn't,
-- failed by dropped writes (`HasDropped`)
pub mixed_over : (histories : List (List ℕ)) (globals : List Global) → IsAccount histories globals → (global : Global)
    → Contains globals global
    → (verdict_of global.1 ≡ Mixed) ↔ (HasCommitted histories global.0 × HasDropped histories global.0)
unfolding own_and
mixed_over histories globals account global among = (
  λ mixed.
      let both = (mixed_iff global.1).0 mixed in (
        committed_of histories global.0
            (found (λ branch. is_of global.0 branch && took branch) (own_and global.0 took)
            (λ store entry. refl) 1 histories account.branches account.all
            (sym (own_any histories globals account global among took) ∙ both.0)),
        dropped_of histories global.0
            (found (λ branch. is_of global.0 branch && failed branch) (own_and global.0 failed)
            (λ store entry. refl) 1 histories account.branches account.all
            (sym (own_any histories globals account global among failed) ∙ both.1)),
      ),
  λ both.
      (mixed_iff global.1).1 (
        own_any histories globals account global among took
            ∙ finds (λ branch. is_of global.0 branch && took branch) (own_and global.0 took)
            (λ store entry. refl) 1 histories account.branches account.all
            (of_committed histories global.0 both.0),
        own_any histories globals account global among failed
            ∙ finds (λ branch. is_of global.0 branch && failed branch) (own_and global.0 failed)
            (λ store entry. refl) 1 histories account.branches account.all
            (of_dropped histories global.0 both.1),
      ),
)
