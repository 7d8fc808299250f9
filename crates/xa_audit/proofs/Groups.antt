-- Global transactions: the order of their names, and one more branch.
use Rattle.std.proofs.Common.{◌≡◌, ℕ, ◌+◌, ◌<◌, List, [], ◌∷◌, ◌++◌, length, take, get_or, refl, ap, sym, ◌∙◌, subst}
use Rattle.std.proofs.{Common.{true, inl, inr}, lemmas.{Cmp.{on_total, then_total}, List.take_more}}
use Rattle.std.proofs.lemmas.Map.Lookups.{CmpEqualImpliesEq, exact_unsigned, exact_bytes, exact_pairs}
use Rattle.std.specs.{Prelude.{Option, Some, cond, filter}, Option.unwrap_or, BTreeMap.{BTreeMap, get}}
use Rattle.std.specs.{Ordering.{nat_cmp, is_eq}, Cmp.{IsTotalOrder, nat_cmp_total, eq_by_cmp_equiv}}
use Rattle.xa_xid.{specs.Xid.bytes_cmp, proofs.Orders.bytes_total}
use Rattle.xa_server.proofs.Maps.{same_or_apart, same_itself}
use Rattle.xa_audit.specs.{declared.{branch.Branch.Branch, global.GlobalName.GlobalName}, Following.PutsAt}
use Rattle.xa_audit.{specs.Globals.{global_cmp, global_of, is_of, if_any}, proofs.Lists.filter_more}

-- `global_cmp` is a total order of the names of global transactions
pub globals_total : IsTotalOrder global_cmp
globals_total = then_total (on_total (λ (g : GlobalName). g.format_id) nat_cmp_total)
    (on_total (λ (g : GlobalName). g.gtrid.items) bytes_total)

-- a name as the pair of its parts
parts : GlobalName → ℕ × List ℕ
parts g = (g.format_id, g.gtrid.items)

-- the name of a global transaction by its parts
whole : ℕ × List ℕ → GlobalName
whole p = record { format_id = p.0; gtrid = record { items = p.1 } }

-- names that compare as equal are one
pub exact_globals : CmpEqualImpliesEq global_cmp
unfolding parts whole
exact_globals a b h = ap whole (exact_pairs nat_cmp bytes_cmp exact_unsigned exact_bytes (parts a) (parts b) h)

-- `x` put behind the list that `if_any` gives of `xs`, or behind the empty list if it gives None, is what it gives of
-- `xs` with `x` behind it
some_more : {A : Type 0} (xs : List A) (x : A) → Some (unwrap_or (if_any xs) [] ++ x ∷ []) ≡ if_any (xs ++ x ∷ [])
some_more [] x = refl
some_more (y ∷ ys) x = refl

-- the loop over branches: after one more is put under its global transaction's name, each name has the branches so far
-- that are of it
pub branch_more : (m n : BTreeMap GlobalName (List Branch)) (branch d : Branch) (xs : List Branch) (i : ℕ)
    → i < length xs → branch ≡ get_or xs i d
    → PutsAt global_cmp m (global_of branch.xid) (unwrap_or (get global_cmp m (global_of branch.xid)) []
    ++ branch ∷ []) n
    → ((name : GlobalName) → get global_cmp m name ≡ if_any (filter (is_of name) (take i xs)))
    → (name : GlobalName) → get global_cmp n name ≡ if_any (filter (is_of name) (take (i + 1) xs))
branch_more m n branch d xs i below at updates before name =
    updates name ∙ ap (λ b. cond b now (get global_cmp m name)) turned
    ∙ (elim (same_or_apart globals_total exact_globals name key) [
      | inl is ↦
          ap (λ b. cond b now (get global_cmp m name)) (here is)
          ∙ ap (λ found. Some (unwrap_or found [] ++ branch ∷ [])) (before key)
          ∙ some_more (filter (is_of key) (take i xs)) branch
          ∙ ap (λ k. if_any (filter (is_of k) (take i xs) ++ branch ∷ [])) (sym is)
          ∙ ap (λ b. if_any (cond b (filter (is_of name) (take i xs) ++ branch ∷ []) (filter (is_of name) (take i xs))))
          (sym (here is))
      | inr apart ↦
          ap (λ b. cond b now (get global_cmp m name)) apart ∙ before name
          ∙ ap (λ b. if_any (cond b (filter (is_of name) (take i xs) ++ branch ∷ []) (filter (is_of name) (take i xs))))
          (sym apart)
    ])
    ∙ ap if_any (sym (filter_more (is_of name) (take i xs) branch))
    ∙ ap (λ l. if_any (filter (is_of name) l)) (sym (take_more xs i d below ∙ ap (λ x. take i xs ++ x ∷ []) (sym at)))
  where
    key : GlobalName
    key = global_of branch.xid

    now : Option (List Branch)
    now = Some (unwrap_or (get global_cmp m key) [] ++ branch ∷ [])

    turned : is_eq (global_cmp key name) ≡ is_of name branch
    turned = (eq_by_cmp_equiv globals_total).symm key name

    here : name ≡ key → is_of name branch ≡ true
    here is = ap (λ k. is_of k branch) is ∙ same_itself globals_total exact_globals key

-- the loop over branches: after one more is put under its global transaction's name, both as copies, each name has the
-- branches so far that are of it
pub copy_more : (m n : BTreeMap GlobalName (List Branch)) (key : GlobalName) (copy branch d : Branch) (xs : List Branch)
    (i : ℕ) → i < length xs
    → branch ≡ get_or xs i d → key ≡ global_of branch.xid → copy ≡ branch
    → PutsAt global_cmp m key (unwrap_or (get global_cmp m key) [] ++ copy ∷ []) n
    → ((name : GlobalName) → get global_cmp m name ≡ if_any (filter (is_of name) (take i xs)))
    → (name : GlobalName) → get global_cmp n name ≡ if_any (filter (is_of name) (take (i + 1) xs))
copy_more m n key copy branch d xs i below at key_is copy_is updates before =
    branch_more m n branch d xs i below at
    (subst (λ (k : GlobalName). PutsAt global_cmp m k (unwrap_or (get global_cmp m k) [] ++ branch ∷ []) n) key_is
    (subst (λ (b : Branch). PutsAt global_cmp m key (unwrap_or (get global_cmp m key) [] ++ b ∷ []) n) copy_is updates))
    before
