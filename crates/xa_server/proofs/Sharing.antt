-- The branches that share a row, a list of the first and a tree of the later ones, seen as a finite set.
use Rattle.std.proofs.Common.{◌≡◌, List, [], ◌∷◌, ◌++◌, refl, ap, sym, ◌∙◌, Bool, true, false, inl, inr, arith}
use Rattle.std.proofs.{Common.length-append, lemmas.List.Folds.{list_all-append, list_any-append}}
use Rattle.std.specs.{Prelude.{cond, not, ◌&&◌, ◌||◌, ◌⊎◌, filter, length}, List.{list_all, list_any}}
use Rattle.std.specs.{Cmp.eq_by_cmp_equiv, BTreeSet.{BTreeSet, Updates}, FinSet.{contains-empty, contains-insert}}
use Rattle.std.specs.FinSet.{contains-remove, contains-from_list, contains-items, contains-is_subset}
use Rattle.std.specs.FinSet.{is_subset-contains, same_set}
use mathlib.Core.Bool.{true≢false}
use Rattle.xa_xid.{specs.{declared.xid.Xid.Xid, Xid.{xid_cmp, same_xid}}, proofs.Orders.{xids_total, exact_xids}}
use Rattle.xa_server.{specs.Rows.Sharing, proofs.Holders.{both, itself, same_any, same_truth, turned_apart}}
use Rattle.xa_server.proofs.Maps.{same_or_apart}
use Rattle.std.specs.BTreeSet as tree
use Rattle.std.specs.FinSet as set

-- the set of the identifiers in a list
abbrev pub listed : List Xid → Sharing
listed few = set.from_list {R = xid_cmp} few

-- the set that a list and a tree's keys make
abbrev pub several_in : List Xid → BTreeSet Xid → Sharing
several_in few many = listed (few ++ many.keys)

-- ---- tests

-- `b || false` is `b`
or_false : (b : Bool) → (b || false) ≡ b
or_false true = refl
or_false false = refl

-- `b && false` is false
and_false : (b : Bool) → (b && false) ≡ false
and_false true = refl
and_false false = refl

-- the test b of a member behind the first ones (a), before the later ones (c), may as well stand in front of all
or_one_more : (a b c : Bool) → ((a || (b || false)) || c) ≡ (b || (a || c))
or_one_more true true c = refl
or_one_more true false c = refl
or_one_more false true c = refl
or_one_more false false c = refl

-- the test b of a member among the later ones (c), written as a choice, may as well stand in front of all, the first
-- ones (a) too
or_cond : (a b c : Bool) → (a || cond b true c) ≡ (b || (a || c))
or_cond true true c = refl
or_cond true false c = refl
or_cond false true c = refl
or_cond false false c = refl

-- to take a member, for which b tests, out of the first ones (a) and out of the later ones (c) is to take it out of
-- both together
and_cond : (a b c : Bool) → ((not b && a) || cond b false c) ≡ (not b && (a || c))
and_cond true true c = refl
and_cond true false c = refl
and_cond false true c = refl
and_cond false false c = refl

-- if b fails, c holds exactly if b or c does
and_not : (b c : Bool) → (not b && c) ≡ (not b && (b || c))
and_not true c = refl
and_not false c = refl

-- if the first of two tests holds, so does one of both
pub or_first : (a b : Bool) → true ≡ a → a ≡ (a || b)
or_first true b e = refl
or_first false b e = absurd (true≢false e)

-- if the first of two tests fails, the second decides
pub or_second : (a b : Bool) → false ≡ a → b ≡ (a || b)
or_second true b e = absurd (true≢false (sym e))
or_second false b e = refl

-- ---- one is sought

-- a set of one identifier contains an identifier exactly if that one is the same
pub contains-one : (own xid : Xid) → set.contains (listed (own ∷ [])) xid ≡ same_xid xid own
contains-one own xid = contains-from_list xids_total (own ∷ []) xid ∙ or_false (same_xid xid own)

-- the set of a list and a tree contains an identifier exactly if the list or the tree does
pub contains-several : (few : List Xid) (many : BTreeSet Xid) (xid : Xid)
    → set.contains (several_in few many) xid ≡ (list_any (same_xid xid) few || tree.contains xid_cmp many xid)
contains-several few many xid =
    contains-from_list xids_total (few ++ many.keys) xid ∙ list_any-append (same_xid xid) few many.keys

-- some member of a list's set passes a test exactly if one of the list does
pub any-listed : (p : Xid → Bool) (xids : List Xid) → list_any p (set.items (listed xids)) ≡ list_any p xids
any-listed p xids = same_any p (set.items (listed xids)) xids
    (λ xid. sym (contains-items (listed xids) xid) ∙ contains-from_list xids_total xids xid)

-- some member of a set of one passes a test exactly if that one passes
pub any-one : (p : Xid → Bool) (own : Xid) → list_any p (set.items (listed (own ∷ []))) ≡ p own
any-one p own = any-listed p (own ∷ []) ∙ or_false (p own)

-- some member of the set of a list and a tree passes a test exactly if one of the list or of the tree's keys does
pub any-several : (p : Xid → Bool) (few : List Xid) (many : BTreeSet Xid)
    → list_any p (set.items (several_in few many)) ≡ (list_any p few || list_any p many.keys)
any-several p few many = any-listed p (few ++ many.keys) ∙ list_any-append p few many.keys

-- ---- sets within sets

-- if all members pass, each does
all_some : (p : Xid → Bool) (xs : List Xid) (xid : Xid) → list_all p xs ≡ true → list_any (same_xid xid) xs ≡ true
    → p xid ≡ true
all_some p [] xid all there = absurd (true≢false (sym there))
all_some p (x ∷ xs) xid all there = elim (same_or_apart xids_total exact_xids xid x) [
  | inl is ↦ ap p is ∙ (both (p x) (list_all p xs) all).0
  | inr apart ↦ all_some p xs xid (both (p x) (list_all p xs) all).1
      (sym (ap (λ b. b || list_any (same_xid xid) xs) apart) ∙ there)
]

-- if a set has each identifier of a list, the list's set is a subset of it
pub subset-listed : (xids : List Xid) (all : Sharing) → list_all (set.contains all) xids ≡ true
    → set.is_subset (listed xids) all ≡ true
subset-listed xids all each = contains-is_subset xids_total (listed xids) all (λ xid there.
    all_some (set.contains all) xids xid each (sym (contains-from_list xids_total xids xid) ∙ there))

-- a set of one is a subset of a set that contains this one
pub subset-one : (own : Xid) (all : Sharing) → set.contains all own ≡ true
    → set.is_subset (listed (own ∷ [])) all ≡ true
subset-one own all has = subset-listed (own ∷ []) all (ap (λ b. b && true) has)

-- if all of a list and of a tree's keys are in a set, the set of both is a subset of it
pub subset-several : (few : List Xid) (many : BTreeSet Xid) (all : Sharing) → list_all (set.contains all) few ≡ true
    → list_all (set.contains all) many.keys ≡ true → set.is_subset (several_in few many) all ≡ true
subset-several few many all has_few has_many = subset-listed (few ++ many.keys) all
    (list_all-append (set.contains all) few many.keys ∙ ap (λ b. b && list_all (set.contains all) many.keys) has_few
    ∙ has_many)

-- sets that are within each other are one
pub same_sharers : (left right : Sharing) → set.is_subset left right ≡ true → set.is_subset right left ≡ true
    → left ≡ right
same_sharers left right to from = same_set xids_total exact_xids left right (λ xid.
    same_truth (set.contains left xid) (set.contains right xid)
    (is_subset-contains xids_total left right to xid) (is_subset-contains xids_total right left from xid))

-- ---- nobody

-- a set with a member isn't empty
some_listed : (xid : Xid) (xids : List Xid) → listed (xid ∷ xids) ≡ set.empty → ⊥
some_listed xid xids none = true≢false
    (sym (contains-insert xids_total (listed xids) xid xid ∙ ap (λ b. b || set.contains (listed xids) xid) (itself xid))
    ∙ ap (λ sharers. set.contains sharers xid) none ∙ contains-empty xid_cmp xid)

-- an empty set lists nothing
none_listed : (xids : List Xid) → listed xids ≡ set.empty → length xids ≡ 0
none_listed [] none = refl
none_listed (xid ∷ xids) none = absurd (some_listed xid xids none)

-- an empty list makes an empty set
nothing_listed : (xids : List Xid) → length xids ≡ 0 → listed xids ≡ set.empty
nothing_listed [] none = refl
nothing_listed (xid ∷ xids) none = absurd (omega (arith, none))

-- a set has no members if neither the list has one nor the tree a key
pub none_in : (few : List Xid) (many : BTreeSet Xid) → length few ≡ 0 → length many.keys ≡ 0
    → several_in few many ≡ set.empty
none_in few many none no_more =
    nothing_listed (few ++ many.keys) (length-append few many.keys ∙ omega (arith, none, no_more))

-- if first and later members make an empty set, there is none of either
pub none_of : (few : List Xid) (many : BTreeSet Xid) → several_in few many ≡ set.empty
    → (length few ≡ 0) × (length many.keys ≡ 0)
none_of few many none =
    let e = sym (length-append few many.keys) ∙ none_listed (few ++ many.keys) none in
    (omega (arith, e), omega (arith, e))

-- ---- one comes

-- one identifier more at the end of the list is one member more in the set of the list and the tree
pub few_added : (few : List Xid) (many : BTreeSet Xid) (xid : Xid)
    → several_in (few ++ xid ∷ []) many ≡ set.insert (several_in few many) xid
few_added few many xid = same_set xids_total exact_xids _ _ (λ other.
    contains-several (few ++ xid ∷ []) many other
    ∙ ap (λ b. b || tree.contains xid_cmp many other) (list_any-append (same_xid other) few (xid ∷ []))
    ∙ or_one_more (list_any (same_xid other) few) (same_xid other xid) (tree.contains xid_cmp many other)
    ∙ sym (contains-insert xids_total (several_in few many) xid other
    ∙ ap (λ b. same_xid other xid || b) (contains-several few many other)))

-- one key more in the tree is one member more in the set of the list and the tree
pub many_added : (few : List Xid) (old new : BTreeSet Xid) (xid : Xid) → Updates xid_cmp old new xid true
    → several_in few new ≡ set.insert (several_in few old) xid
many_added few old new xid updates = same_set xids_total exact_xids _ _ (λ other.
    contains-several few new other
    ∙ ap (λ b. list_any (same_xid other) few || b)
    (updates.0 other ∙ ap (λ b. cond b true (tree.contains xid_cmp old other))
    ((eq_by_cmp_equiv xids_total).symm xid other))
    ∙ or_cond (list_any (same_xid other) few) (same_xid other xid) (tree.contains xid_cmp old other)
    ∙ sym (contains-insert xids_total (several_in few old) xid other
    ∙ ap (λ b. same_xid other xid || b) (contains-several few old other)))

-- ---- one goes

-- the list of identifiers without this one
abbrev pub without : Xid → List Xid → List Xid
without xid few = filter (λ own. not (same_xid own xid)) few

-- an identifier is in a list from which another was taken out exactly if it was in the list and isn't that other one
any-without : (xid : Xid) (few : List Xid) (other : Xid)
    → list_any (same_xid other) (without xid few) ≡ (not (same_xid other xid) && list_any (same_xid other) few)
any-without xid [] other = sym (and_false (not (same_xid other xid)))
any-without xid (own ∷ few) other = elim (same_or_apart xids_total exact_xids own xid) [
  | inl is ↦ rw is
      (ap (λ b. list_any (same_xid other) (cond (not b) (xid ∷ without xid few) (without xid few))) (itself xid)
      ∙ any-without xid few other
      ∙ and_not (same_xid other xid) (list_any (same_xid other) few))
  | inr apart ↦
      ap (λ b. list_any (same_xid other) (cond (not b) (own ∷ without xid few) (without xid few))) apart
      ∙ ap (λ b. same_xid other own || b) (any-without xid few other)
      ∙ by (same_or_apart xids_total exact_xids other xid) apart
]
  where
    by : ((other ≡ xid) ⊎ (same_xid other xid ≡ false)) → same_xid own xid ≡ false
        → (same_xid other own || (not (same_xid other xid) && list_any (same_xid other) few))
        ≡ (not (same_xid other xid) && (same_xid other own || list_any (same_xid other) few))
    by (inl is) apart = rw is
        (ap (λ b. b || (not (same_xid xid xid) && list_any (same_xid xid) few)) (turned_apart xid own apart)
        ∙ ap (λ b. not b && list_any (same_xid xid) few) (itself xid)
        ∙ sym (ap (λ b. not b && (same_xid xid own || list_any (same_xid xid) few)) (itself xid)))
    by (inr apart_too) apart =
        ap (λ b. same_xid other own || (not b && list_any (same_xid other) few)) apart_too
        ∙ sym (ap (λ b. not b && (same_xid other own || list_any (same_xid other) few)) apart_too)

-- the set of a list without an identifier is the list's set without it
pub listed_left : (xids : List Xid) (xid : Xid) → listed (without xid xids) ≡ set.remove (listed xids) xid
listed_left xids xid = same_set xids_total exact_xids _ _ (λ other.
    contains-from_list xids_total (without xid xids) other ∙ any-without xid xids other
    ∙ sym (contains-remove xids_total (listed xids) xid other
    ∙ ap (λ b. not (same_xid other xid) && b) (contains-from_list xids_total xids other)))

-- removing an identifier from a set of one leaves nothing if it is the same, and else that one
pub one_left : (own xid : Xid) → cond (same_xid own xid) set.empty (listed (own ∷ []))
    ≡ set.remove (listed (own ∷ [])) xid
one_left own xid = by (same_xid own xid) ∙ listed_left (own ∷ []) xid
  where
    by : (b : Bool) → cond b set.empty (listed (own ∷ [])) ≡ listed (cond (not b) (own ∷ []) [])
    by true = refl
    by false = refl

-- once a branch left both the list and the tree of sharers, the set of both is without it
pub several_left : (few : List Xid) (old new : BTreeSet Xid) (xid : Xid) → Updates xid_cmp old new xid false
    → several_in (without xid few) new ≡ set.remove (several_in few old) xid
several_left few old new xid updates = same_set xids_total exact_xids _ _ (λ other.
    contains-several (without xid few) new other
    ∙ ap (λ b. b || tree.contains xid_cmp new other) (any-without xid few other)
    ∙ ap (λ b. (not (same_xid other xid) && list_any (same_xid other) few) || b)
    (updates.0 other ∙ ap (λ b. cond b false (tree.contains xid_cmp old other))
    ((eq_by_cmp_equiv xids_total).symm xid other))
    ∙ and_cond (list_any (same_xid other) few) (same_xid other xid) (tree.contains xid_cmp old other)
    ∙ sym (contains-remove xids_total (several_in few old) xid other
    ∙ ap (λ b. not (same_xid other xid) && b) (contains-several few old other)))
