use Rattle.std.proofs.Common.{◌≡◌, ◌⊎◌, ◌&&◌, ◌||◌, Bool, true, false, not, Option, Some, None, List, [], ◌∷◌, ℕ, refl}
use Rattle.std.proofs.{Common.{ap, sym, ◌∙◌, inl, inr}, lemmas.{Bool.false≢true, Option.{none-some, same_Some}}}
use Rattle.std.specs.{Prelude.map, Option.{option_map_or, option_and_then}, List.list_any, Ordering.eq_by_cmp}
use Rattle.std.specs.FinMap.{contains_key-keys}
use Rattle.xa_xid.specs.{declared.{xid.Xid.Xid, statement.Statement.Statement}, Xid.bytes_cmp}
use Rattle.xa_server.specs.declared.association.Association.{Association, TheVariants.{Free, Active, Idle}}
use Rattle.xa_server.{specs.{State.{LockMode, Branch, State, association_of}, Locks.lock_at}, proofs.Holders.none_of}
use Rattle.xa_server.specs.Overview.{held_row, rows_held, rows_of, keys_of, keys_open, keys_about}
use Rattle.xa_judge.{specs.Apart.{key_of, EndsIn, is_get, barring}, proofs.Commuting.none_bars}
use Rattle.xa_judge.proofs.apart.spares_key.Goals as goal
use Rattle.std.specs.FinMap as fin

-- a test fails if its negation holds
fails : (b : Bool) → not b ≡ true → b ≡ false
fails true e = absurd (false≢true e)
fails false e = refl

-- the rows that a branch holds by a list of locks have the keys of these
keys_same : (branch : Branch) (locks : List (List ℕ × LockMode))
    → keys_of (map (held_row branch) locks) ≡ map (λ lock. lock.0) locks
keys_same branch [] = refl
keys_same branch (lock ∷ locks) = ap (λ l. lock.0 ∷ l) (keys_same branch locks)

-- a branch doesn't hold a row that isn't among the keys of the rows that are listed for the branch (`rows_of`)
unlisted : (state : State) (xid : Xid) (key : List ℕ)
    → list_any (eq_by_cmp bytes_cmp key) (keys_of (rows_of state xid)) ≡ false → lock_at state xid key ≡ None
unfolding rows_of
unlisted state xid key e = by (fin.get state.branches xid) e
  where
    by : (found : Option Branch)
        → list_any (eq_by_cmp bytes_cmp key) (keys_of (option_map_or rows_held found [])) ≡ false
        → option_and_then (λ (branch : Branch). fin.get branch.locks key) found ≡ None
    by None e = refl
    by (Some branch) e = none_of (fin.get branch.locks key) (contains_key-keys branch.locks key
        ∙ sym (ap (list_any (eq_by_cmp bytes_cmp key)) (keys_same branch (fin.entries branch.locks))) ∙ e)

-- a statement that is to end a branch is about the rows that the branch holds, and isn't GET
ended_rows : (state : State) (session : ℕ) (statement : Statement) (xid : Xid)
    → EndsIn (association_of state session) statement xid
    → (keys_about state session statement ≡ keys_of (rows_of state xid)) × (is_get statement ≡ false)
unfolding keys_about
ended_rows state session (Statement.Commit other one_phase) xid is = (ap (λ x. keys_of (rows_of state x)) is, refl)
ended_rows state session (Statement.Rollback other) xid is = (ap (λ x. keys_of (rows_of state x)) is, refl)
ended_rows state session Statement.Disconnect xid is = (by (association_of state session) is, refl)
  where
    by : (a : Association) → EndsIn a Statement.Disconnect xid → keys_open state a ≡ keys_of (rows_of state xid)
    by Free is = absurd is
    by (Active own) is = ap (λ x. keys_of (rows_of state x)) is
    by (Idle own) is = ap (λ x. keys_of (rows_of state x)) is
ended_rows state session (Statement.Start other) xid is = absurd is
ended_rows state session (Statement.End other) xid is = absurd is
ended_rows state session (Statement.Prepare other) xid is = absurd is
ended_rows state session (Statement.Recover convert) xid is = absurd is
ended_rows state session Statement.Unsupported xid is = absurd is
ended_rows state session (Statement.Get key) xid is = absurd is
ended_rows state session (Statement.Put key value) xid is = absurd is
ended_rows state session (Statement.Del key) xid is = absurd is

-- a key that isn't in a list of one key differs from that one
alone : (key other row : List ℕ) → Some row ≡ Some other → list_any (eq_by_cmp bytes_cmp key) (row ∷ []) ≡ false
    → eq_by_cmp bytes_cmp key other ≡ false
alone key other row is e =
    ap (eq_by_cmp bytes_cmp key) (sym (same_Some row other is)) ∙ by (eq_by_cmp bytes_cmp key row) e
  where
    by : (b : Bool) → (b || false) ≡ false → b ≡ false
    by true e = e
    by false e = refl

-- a key that isn't among those of the rows that a statement is about isn't that of the row that it names
named_apart : (state : State) (session : ℕ) (statement : Statement) (key other : List ℕ)
    → key_of statement ≡ Some other → list_any (eq_by_cmp bytes_cmp key) (keys_about state session statement) ≡ false
    → eq_by_cmp bytes_cmp key other ≡ false
unfolding keys_about
named_apart state session (Statement.Get row) key other is e = alone key other row is e
named_apart state session (Statement.Put row value) key other is e = alone key other row is e
named_apart state session (Statement.Del row) key other is e = alone key other row is e
named_apart state session (Statement.Start xid) key other is e = absurd (none-some other is)
named_apart state session (Statement.End xid) key other is e = absurd (none-some other is)
named_apart state session (Statement.Prepare xid) key other is e = absurd (none-some other is)
named_apart state session (Statement.Commit xid one_phase) key other is e = absurd (none-some other is)
named_apart state session (Statement.Rollback xid) key other is e = absurd (none-some other is)
named_apart state session (Statement.Recover convert) key other is e = absurd (none-some other is)
named_apart state session Statement.Unsupported key other is e = absurd (none-some other is)
named_apart state session Statement.Disconnect key other is e = absurd (none-some other is)

-- where the test of `meets` fails, the key isn't among the rows, or both statements are GET
unmet : (one two among : Bool) → (not (one && two) && among) ≡ false
    → (among ≡ false) ⊎ ((one ≡ true) × (two ≡ true))
unmet true true among e = inr (refl, refl)
unmet true false among e = inl e
unmet false two among e = inl e

pub returns-clause-row : goal.returns-clause-row
returns-clause-row c = λ e other names.
    let state = c.args.server.now in
    let session = c.args.session in
    let one = c.args.one.now in
    let two = c.args.two.now in
    let key = c.args.key.now in
    elim (unmet (is_get one) (is_get two) (list_any (eq_by_cmp bytes_cmp key) c.as_slice.result.now)
    (sym c.meets.ensures ∙ fails c.meets.result e)) [
      | inl none ↦ inl (named_apart state session two key other names
          (ap (list_any (eq_by_cmp bytes_cmp key))
          (sym (c.as_slice.ensures.value ∙ c.in_ok-rows.ensures.listed)) ∙ none))
      | inr gets ↦ inr gets
    ]

pub returns-clause-unheld : goal.returns-clause-unheld
returns-clause-unheld c = λ e xid ends.
    let state = c.args.server.now in
    let session = c.args.session in
    let one = c.args.one.now in
    let two = c.args.two.now in
    let key = c.args.key.now in
    let ended = ended_rows state session two xid ends in
    elim (unmet (is_get one) (is_get two) (list_any (eq_by_cmp bytes_cmp key) c.as_slice.result.now)
    (sym c.meets.ensures ∙ fails c.meets.result e)) [
      | inl none ↦ ap (barring one) (unlisted state xid key
          (ap (list_any (eq_by_cmp bytes_cmp key)) (sym (c.as_slice.ensures.value ∙ c.in_ok-rows.ensures.listed
          ∙ ended.0)) ∙ none)) ∙ none_bars one
      | inr gets ↦ absurd (false≢true (sym ended.1 ∙ gets.1))
    ]
