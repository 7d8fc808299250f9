-- Configurations that are counted by their numbers.
--     chosen_same, chosen_new      after one whose number was in the set already;  or wasn't
use Rattle.std.proofs.Common.{◌≡◌, ◌≢◌, ℕ, ◌+◌, ◌<◌, Bool, true, false, not, List, ◌∷◌, length, get_or, refl, ap, sym}
use Rattle.std.proofs.{Common.{◌∙◌, subst, arith}, lemmas.{Bool.false≢true, Option.slice_get_read}}
use Rattle.std.{proofs.lemmas.List.{Elements.All-cons, Kept.AllPairs-cons}, specs.{List.All, Ordering.nat_cmp}}
use Rattle.std.specs.BTreeSet.{BTreeSet, contains, Updates}
use Rattle.xa_judge.specs.{declared.configuration.Configuration.Configuration, Explained.Config, Found.{config_of, Has}}
use Rattle.xa_judge.{specs.{Verdicts.AreDifferent, Marks.mark}, proofs.Places.place_mapped}

-- configurations of the list, as many as were counted, no two of them the same; the set has their numbers (`mark`)
pub record Chosen (known : List Configuration) (keys : List (List ℕ)) (marks : BTreeSet ℕ) (count : ℕ) : Type 0 where
  pub chosen : List Config
  pub counted : length chosen ≡ count
  pub has : All (Has known) chosen
  pub marked : All (λ one. contains nat_cmp marks (mark keys one) ≡ true) chosen
  pub differ : AreDifferent chosen

-- before the first configuration none is chosen, whatever numbers the set has
pub chosen_none : (known : List Configuration) (keys : List (List ℕ)) (marks : BTreeSet ℕ) → Chosen known keys marks 0
chosen_none known keys marks = grind (arith)

-- a number that the set had is still there once any is put in
still_marked : (old new : BTreeSet ℕ) (added number : ℕ) → Updates nat_cmp old new added true
    → contains nat_cmp old number ≡ true
    → contains nat_cmp new number ≡ true
still_marked old new added number updates had = grind (arith)

-- once any number is put into the set, what was chosen before still is: so it stays if a configuration's number was
-- there
pub chosen_same : (known : List Configuration) (keys : List (List ℕ)) (old new : BTreeSet ℕ) (count added : ℕ)
    → Updates nat_cmp old new added true
    → Chosen known keys old count → Chosen known keys new count
chosen_same known keys old new count added updates c = grind (arith)

-- one configuration more is chosen, if its number wasn't in the set yet: it differs from all chosen before
chosen_more : (known : List Configuration) (keys : List (List ℕ)) (old new : BTreeSet ℕ) (count : ℕ) (one : Config)
    → Has known one
    → Updates nat_cmp old new (mark keys one) true → contains nat_cmp old (mark keys one) ≡ false
    → Chosen known keys old count → Chosen known keys new (count + 1)
chosen_more known keys old new count one has updates none c = record {
  chosen = one ∷ c.chosen;
  counted = omega (arith, c.counted);
  has = All-cons (Has known) one c.chosen has c.has;
  marked =
      All-cons (λ o. contains nat_cmp new (mark keys o) ≡ true) one c.chosen updates.1
      (λ k d below. still_marked old new (mark keys one) (mark keys (get_or c.chosen k d)) updates
      (c.marked k d below));
  differ =
      AllPairs-cons (λ o other. o ≢ other) one c.chosen
      (λ k d below same. false≢true (sym none ∙ ap (λ o. contains nat_cmp old (mark keys o)) same ∙ c.marked k d below))
      c.differ;
}

-- a test whose negation holds fails
not_there : (b : Bool) → not b ≡ true → b ≡ false
not_there b e = grind (arith)

-- if the number of the configuration at a place is new in the set, that configuration is chosen, too
pub chosen_new : (known : List Configuration) (keys : List (List ℕ)) (old new : BTreeSet ℕ) (count place number : ℕ)
    (one : Configuration) (added : Bool)
    → place < length known → one ≡ get_or known place one → number ≡ mark keys (config_of one)
    → added ≡ not (contains nat_cmp old number)
    → added ≡ true → Updates nat_cmp old new number true → Chosen known keys old count
    → Chosen known keys new (count + 1)
chosen_new known keys old new count place number one added within at is was new_one updates c =
    chosen_more known keys old new count (config_of one)
    (place_mapped config_of known place one (slice_get_read known (length known) place one refl within at))
    (subst (λ n. Updates nat_cmp old new n true) is updates)
    (subst (λ n. contains nat_cmp old n ≡ false) is (not_there (contains nat_cmp old number) (sym was ∙ new_one))) c
