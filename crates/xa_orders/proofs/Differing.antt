-- Ways that are counted by their numbers.
--     chosen_same, chosen_new      a number is noted, and no more are chosen;  one more is, whose number is new
use Rattle.std.proofs.Common.{◌≡◌, ◌≢◌, ℕ, ◌+◌, ◌<◌, Bool, true, false, not, List, ◌∷◌, length, get_or, take, refl, ap}
use Rattle.std.proofs.{Common.{sym, ◌∙◌, subst, arith}, lemmas.{Bool.false≢true, List.Elements.{All-cons, All-weaker}}}
use Rattle.std.specs.{BTreeMap.is_at, List.All, Ordering.nat_cmp, BTreeSet.{BTreeSet, contains, Updates}}
use Rattle.xa_orders.specs.{declared.way.Way.Way, Orders.{Told, Config, Any}, Marks.mark}
use Rattle.xa_orders.specs.Found.{config_of, AreDifferent, HasDifferent, IsSpread, IsTurn, IsNextOf, IsWideNext}
use Rattle.xa_orders.proofs.Lists.{any_front, any_read, any_with}

-- ways of the list, as many as were counted, no two of which have come to the same; the set has their numbers
pub record Chosen (known : List Way) (keys : List (List ℕ)) (marks : BTreeSet ℕ) (count : ℕ) : Type 0 where
  pub chosen : List Way
  pub counted : length chosen ≡ count
  pub among : All (λ one. Any (λ way. way ≡ one) known) chosen
  pub marked : All (λ one. contains nat_cmp marks (mark keys (config_of one)) ≡ true) chosen
  pub differ : AreDifferent chosen

-- no ways are a choice of which 0 were counted, whatever numbers the set has
pub chosen_none : (known : List Way) (keys : List (List ℕ)) (marks : BTreeSet ℕ) → Chosen known keys marks 0
chosen_none known keys marks = grind (arith, nat_cmp)

-- a number that the set had is still there
still_marked : (old new : BTreeSet ℕ) (added number : ℕ) → Updates nat_cmp old new added true
    → contains nat_cmp old number ≡ true
    → contains nat_cmp new number ≡ true
still_marked old new added number updates had = grind (arith, is_at, nat_cmp)

-- numbers that were noted stay noted when one more is
all_still_marked : (keys : List (List ℕ)) (old new : BTreeSet ℕ) (added : ℕ) (chosen : List Way)
    → Updates nat_cmp old new added true
    → All (λ one. contains nat_cmp old (mark keys (config_of one)) ≡ true) chosen
    → All (λ one. contains nat_cmp new (mark keys (config_of one)) ≡ true) chosen
all_still_marked keys old new added chosen updates marked = grind (arith, nat_cmp, still_marked)

-- the chosen ways stay a choice when any number is noted (used for one that was there already)
pub chosen_same : (known : List Way) (keys : List (List ℕ)) (old new : BTreeSet ℕ) (count added : ℕ)
    → Updates nat_cmp old new added true
    → Chosen known keys old count → Chosen known keys new count
chosen_same known keys old new count added updates c = record {
  chosen = c.chosen;
  counted = c.counted;
  among = c.among;
  marked = all_still_marked keys old new added c.chosen updates c.marked;
  differ = c.differ;
}

-- one way more is chosen, if its number wasn't noted yet: it differs from all chosen before
chosen_more : (known : List Way) (keys : List (List ℕ)) (old new : BTreeSet ℕ) (count : ℕ) (one : Way)
    → Any (λ way. way ≡ one) known
    → Updates nat_cmp old new (mark keys (config_of one)) true
    → contains nat_cmp old (mark keys (config_of one)) ≡ false
    → Chosen known keys old count → Chosen known keys new (count + 1)
chosen_more known keys old new count one among updates none c = record {
  chosen = one ∷ c.chosen;
  counted = omega (arith, c.counted);
  among = All-cons (λ o. Any (λ way. way ≡ o) known) one c.chosen among c.among;
  marked =
      All-cons (λ o. contains nat_cmp new (mark keys (config_of o)) ≡ true) one c.chosen updates.1
      (all_still_marked keys old new (mark keys (config_of one)) c.chosen updates c.marked);
  differ = (
    All-weaker (λ o. contains nat_cmp old (mark keys (config_of o)) ≡ true) (λ o. config_of one ≢ config_of o)
        (λ o had same. false≢true (sym none ∙ ap (λ (p : Config). contains nat_cmp old (mark keys p)) same ∙ had))
        c.chosen c.marked,
    c.differ,
  );
}

-- a test whose negation holds fails
not_there : (b : Bool) → not b ≡ true → b ≡ false
not_there b e = grind (arith, false≢true)

-- the way at a place is chosen too, if its number wasn't noted before and now is
pub chosen_new : (known : List Way) (keys : List (List ℕ)) (old new : BTreeSet ℕ) (count place number : ℕ) (one : Way)
    (added : Bool)
    → place < length known → one ≡ get_or known place one → number ≡ mark keys (config_of one)
    → added ≡ not (contains nat_cmp old number)
    → added ≡ true → Updates nat_cmp old new number true → Chosen known keys old count
    → Chosen known keys new (count + 1)
chosen_new known keys old new count place number one added within at is was new_one updates c =
    chosen_more known keys old new count one (any_read (λ way. way ≡ one) known place one within at refl)
    (subst (λ n. Updates nat_cmp old new n true) is updates)
    (subst (λ n. contains nat_cmp old n ≡ false) is (not_there (contains nat_cmp old number) (sym was ∙ new_one))) c

-- the list has as many ways as were counted, no two of which have come to the same (`HasDifferent`)
pub chosen_differ : (known : List Way) (keys : List (List ℕ)) (marks : BTreeSet ℕ) (count : ℕ)
    → Chosen known keys marks count → HasDifferent count known
chosen_differ known keys marks count c = grind (arith)

-- if the ways to which one more turn of the first ways leads have more than allowed that differ, one more turn of all
-- ways leads to more than allowed that differ (`IsWideNext`)
pub wide_next : (lines : List Told) (ways list same : List Way) (limit count : ℕ)
    → IsNextOf lines (take count ways) list → same ≡ list → IsSpread limit same
    → IsWideNext lines ways limit
wide_next lines ways list same limit count next is spread = record {
  many = has.many;
  over = omega (arith, has.counted, spread.over);
  differ = has.differ;
  each =
      All-weaker (λ one. Any (λ way. way ≡ one) same) Turned
      (λ one among. any_with Turned (λ way. way ≡ one) (Turned one) (λ way turned equal. subst Turned equal turned)
      same (subst (All Turned) (sym is) turned) among) has.many has.among;
}
  where
    has : HasDifferent spread.count same
    has = spread.different

    Turned : Way → Type 0
    Turned new = Any (λ way. (session : ℕ) × IsTurn lines session way new) ways

    turned : All Turned list
    turned =
        All-weaker (λ new. Any (λ way. (session : ℕ) × IsTurn lines session way new) (take count ways)) Turned
        (λ new any. any_front (λ way. (session : ℕ) × IsTurn lines session way new) count ways any) list next.each
