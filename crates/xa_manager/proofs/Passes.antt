-- Passes of stores, one of each, at their places, and sessions of them.
use Rattle.std.proofs.Common.{◌≡◌, ℕ, ◌<◌, ◌+◌, Bool, List, [], ◌∷◌, ◌++◌, take, zero, suc, length, get_or, map, ap}
use Rattle.std.proofs.{Common.{refl, arith, None, true}, lemmas.{List.{take_more, take_all}, Slice.Zip.all_zipped_more}}
use Rattle.std.{proofs.lemmas.{Bool.Decides.nat_tests, Grind.common_steps}, specs.List.{AllZip, AllByRecursion}}
use Rattle.decision_log.specs.Known.{newcomer}
use Rattle.xa_server.specs.State.{State, no_state}
use Rattle.xa_session.specs.View.{SessionView}
use Rattle.xa_store.specs.{Passes.{Pass, identity_of, log_of, known_of}, declared.store.Store.Store}
use Rattle.xa_coordinator.specs.declared.fused.Fused.{Fused}
use Rattle.xa_manager.specs.Whole.{IsPair}

-- the pass is one of the store's log
abbrev pub IsOwn : Store → Pass → Type 0
IsOwn store pass = log_of pass ≡ identity_of store.log

-- the pass at a place is one of the store at that place
at_place : (stores : List Store) (passes : List Pass) (place : ℕ) (store : Store) (pass : Pass)
    → AllZip IsOwn stores passes → place < length passes
    → store ≡ get_or stores place store → pass ≡ get_or passes place pass → IsOwn store pass
at_place [] [] place store pass all below is is' = absurd (omega arith)
at_place [] (p ∷ ps) place store pass all below is is' = absurd all
at_place (s ∷ ss) [] place store pass all below is is' = absurd all
at_place (s ∷ ss) (p ∷ ps) zero store pass all below is is' = grind (arith)
at_place (s ∷ ss) (p ∷ ps) (suc place) store pass all below is is' =
    at_place ss ps place store pass all.1 (omega arith) is is'

-- the pass at a store's place is that store's own
pub own_at : (stores : List Store) (passes : List Pass) (place other : ℕ) (store : Store) (pass : Pass) → place ≡ other
    → AllZip IsOwn stores passes
    → place < length passes
    → store ≡ get_or stores other store → pass ≡ get_or passes place pass → IsOwn store pass
own_at stores passes place other store pass same all below is is' = grind (arith, at_place)

-- a session of a pass, whose history begins in this state
abbrev pub seen_as : Bool → Pass → State → SessionView
seen_as turns pass base =
    record {
      identity = log_of pass;
      turns = turns;
      base = base;
      known = known_of pass;
      beside = [];
      left = None;
      starved = true;
    }

-- sessions of the passes of new stores are pairs
pub pairs_of : {S T : Type 0} (turns : Bool) (stores : List Store) (sessions : List S) (others : List T)
    (pass : S → Pass) (base : S → State)
    (pass' : T → Pass) (base' : T → State)
    → AllZip IsOwn stores (map pass sessions) → AllZip IsOwn stores (map pass' others)
    → AllZip (λ store session. base session ≡ store.base) stores sessions
    → AllZip (λ store other. base' other ≡ store.base) stores others
    → AllByRecursion (λ store. store.base ≡ no_state) stores
    → AllByRecursion (λ p. known_of p ≡ newcomer 1) (map pass sessions)
    → AllByRecursion (λ p. known_of p ≡ newcomer 2) (map pass' others)
    → AllZip (λ session other. IsPair (seen_as turns (pass session) (base session))
    (seen_as turns (pass' other) (base' other))) sessions others
pairs_of turns [] [] [] pass base pass' base' own own' bases bases' empty first second = tt
pairs_of turns [] [] (t ∷ ts) pass base pass' base' own own' bases bases' empty first second = absurd bases'
pairs_of turns [] (s ∷ ss) others pass base pass' base' own own' bases bases' empty first second = absurd bases
pairs_of turns (x ∷ xs) [] others pass base pass' base' own own' bases bases' empty first second = absurd bases
pairs_of turns (x ∷ xs) (s ∷ ss) [] pass base pass' base' own own' bases bases' empty first second = absurd bases'
pairs_of turns (x ∷ xs) (s ∷ ss) (t ∷ ts) pass base pass' base' own own' bases bases' empty first second =
    grind (arith, pairs_of turns xs ss ts pass base pass' base' own.1 own'.1 bases.1 bases'.1 empty.1 first.1 second.1)

-- if a list mapped by `within` is related to another list, place by place, so is the list itself, by what is within
-- each element
pub zip_within : {A B C : Type 0} (within : A → B) (R : B → C → Type 0) (xs : List A) (ys : List C)
    → AllZip R (map within xs) ys
    → AllZip (λ x y. R (within x) y) xs ys
zip_within within R [] [] all = tt
zip_within within R [] (y ∷ ys) all = absurd all
zip_within within R (x ∷ xs) [] all = absurd all
zip_within within R (x ∷ xs) (y ∷ ys) all = (all.0, zip_within within R xs ys all.1)

-- mapping a function of what is within each is mapping that function over the list of what is within
pub map_within : {A B C : Type 0} (within : A → B) (f : B → C) (xs : List A)
    → map (λ x. f (within x)) xs ≡ map f (map within xs)
map_within within f [] = refl
map_within within f (x ∷ xs) = ap (λ rest. f (within x) ∷ rest) (map_within within f xs)

-- pairs of sessions are still pairs once the first of each can be made to fail
pub fused_pairs : {S T : Type 0} (sessions : List S) (others others' : List T) (fused fused' : List (Fused S))
    (R : S → T → Type 0)
    → map (λ (session : Fused S). session.inner) fused ≡ sessions → fused' ≡ fused → others' ≡ others
    → AllZip R sessions others
    → AllZip (λ session other. R session.inner other) fused' others'
fused_pairs {S} {T} sessions others others' fused fused' R within same same' all = grind (arith, zip_within)

-- the loop over stores: the session of one more begins with that store's base
pub bases_more : {S : Type 0} (base : S → State) (stores : List Store) (sessions now : List S) (session : S)
    (count place : ℕ) (store : Store)
    → count ≡ place → place < length stores → now ≡ sessions ++ session ∷ []
    → base session ≡ (get_or stores place store).base
    → AllZip (λ x s. base s ≡ x.base) (take count stores) sessions
    → AllZip (λ x s. base s ≡ x.base) (take (count + 1) stores) now
bases_more {S} base stores sessions now session count place store same below items is all =
    grind (arith, common_steps, nat_tests, all_zipped_more, take_more)

-- the loop over stores ends: the session of each store begins with that store's base
pub bases_all : {S : Type 0} (base : S → State) (stores : List Store) (sessions : List S) (count : ℕ)
    → count ≡ length stores
    → AllZip (λ x s. base s ≡ x.base) (take count stores) sessions → AllZip (λ x s. base s ≡ x.base) stores sessions
bases_all {S} base stores sessions count whole all = grind (arith, take_all)
