-- Lists side by side, and a run that is one of more.
use Rattle.std.proofs.Common.{◌≡◌, ℕ, zero, suc, List, [], ◌∷◌, ◌++◌, length, map, refl, ap, subst, Some, None, Result}
use Rattle.std.{proofs.Common.{Ok, Err}, specs.{Prelude.slice_get, List.{AllZip, AllByRecursion}, Result.{IfOk, IfErr}}}
use Rattle.xa_store.specs.{Spread.HasStopped, declared.race_fault.RaceFault.RaceFault}

-- if P holds of the value of a result that is Ok, and the result is Ok of x, P holds of x
pub when_ok : {T E : Type 0} (r : Result T E) (P : T → Type 0) (x : T) → IfOk r P → r ≡ Ok x → P x
when_ok (Ok y) P x is same = let here : y ≡ x = cc in subst P here is
when_ok (Err e) P x is same = absurd (cc)

-- if P holds of the value of a result that is Err, and the result is Err of x, P holds of x
pub when_err : {T E : Type 0} (r : Result T E) (P : E → Type 0) (x : E) → IfErr r P → r ≡ Err x → P x
when_err (Ok y) P x is same = absurd (cc)
when_err (Err e) P x is same = let here : e ≡ x = cc in subst P here is

-- if a first list is related to a second place by place, and the second to a third, the first is related to the
-- third, as each place's elements are
pub zip_chain : {A B C : Type 0} (Z : A → B → Type 0) (R : B → C → Type 0) (Q : A → C → Type 0)
    → ((a : A) (b : B) (c : C) → Z a b → R b c → Q a c)
    → (xs : List A) (ys : List B) (zs : List C) → AllZip Z xs ys → AllZip R ys zs → AllZip Q xs zs
zip_chain Z R Q keep [] [] [] zip all = tt
zip_chain Z R Q keep [] [] (c ∷ zs) zip all = absurd all
zip_chain Z R Q keep [] (b ∷ ys) zs zip all = absurd zip
zip_chain Z R Q keep (a ∷ xs) [] zs zip all = absurd zip
zip_chain Z R Q keep (a ∷ xs) (b ∷ ys) [] zip all = absurd all
zip_chain Z R Q keep (a ∷ xs) (b ∷ ys) (c ∷ zs) zip all =
    (keep a b c zip.0 all.0, zip_chain Z R Q keep xs ys zs zip.1 all.1)

-- if H of a first and a second element and W of the second and a third give Q of the first and the second's image,
-- lists that H and W relate place by place have a first list that Q relates to the images of the second
pub zip_ended : {A B C D : Type 0} (H : A → B → Type 0) (W : B → C → Type 0) (Q : A → D → Type 0) (f : B → D)
    → ((a : A) (b : B) (c : C) → H a b → W b c → Q a (f b)) → (xs : List A) (ys : List B) (zs : List C) → AllZip H xs ys
    → AllZip W ys zs
    → AllZip Q xs (map f ys)
zip_ended H W Q f keep [] [] zs went left = tt
zip_ended H W Q f keep [] (b ∷ ys) zs went left = absurd went
zip_ended H W Q f keep (a ∷ xs) [] zs went left = absurd went
zip_ended H W Q f keep (a ∷ xs) (b ∷ ys) [] went left = absurd left
zip_ended H W Q f keep (a ∷ xs) (b ∷ ys) (c ∷ zs) went left =
    (keep a b c went.0 left.0, zip_ended H W Q f keep xs ys zs went.1 left.1)

-- what follows for each first element from its relation to the second holds of all first elements
pub zip_first : {A B : Type 0} (K : A → B → Type 0) (P : A → Type 0) → ((a : A) (b : B) → K a b → P a)
    → (xs : List A) (ys : List B) → AllZip K xs ys
    → AllByRecursion P xs
zip_first K P keep [] [] zip = tt
zip_first K P keep [] (b ∷ ys) zip = absurd zip
zip_first K P keep (a ∷ xs) [] zip = absurd zip
zip_first K P keep (a ∷ xs) (b ∷ ys) zip = (keep a b zip.0, zip_first K P keep xs ys zip.1)

-- if a relation of two elements makes of P of the first Q of the second, lists that it relates place by place have Q of
-- all second elements if P holds of all first
pub zip_all : {A B : Type 0} (K : A → B → Type 0) (P : A → Type 0) (Q : B → Type 0)
    → ((a : A) (b : B) → K a b → P a → Q b) → (xs : List A) (ys : List B)
    → AllZip K xs ys → AllByRecursion P xs → AllByRecursion Q ys
zip_all K P Q keep [] [] zip is = tt
zip_all K P Q keep [] (b ∷ ys) zip is = absurd zip
zip_all K P Q keep (a ∷ xs) [] zip is = absurd zip
zip_all K P Q keep (a ∷ xs) (b ∷ ys) zip is = (keep a b zip.0 is.0, zip_all K P Q keep xs ys zip.1 is.1)

-- if a mapped list is related to another place by place, the elements themselves are, through their images
pub zip_unmapped : {A B C : Type 0} (K : B → C → Type 0) (f : A → B) (xs : List A) (ys : List C)
    → AllZip K (map f xs) ys → AllZip (λ x y. K (f x) y) xs ys
zip_unmapped K f [] [] zip = tt
zip_unmapped K f [] (b ∷ ys) zip = absurd zip
zip_unmapped K f (a ∷ xs) [] zip = absurd zip
zip_unmapped K f (a ∷ xs) (b ∷ ys) zip = (zip.0, zip_unmapped K f xs ys zip.1)

-- a list and another, element by element

-- if K of two elements gives Q of the first and the second's image, lists that K relates place by place are related by
-- Q once the second is mapped
pub zip_mapped : {A B C : Type 0} (K : A → B → Type 0) (Q : A → C → Type 0) (f : B → C)
    → ((a : A) (b : B) → K a b → Q a (f b)) → (xs : List A) (ys : List B)
    → AllZip K xs ys → AllZip Q xs (map f ys)
zip_mapped K Q f keep [] [] zip = tt
zip_mapped K Q f keep [] (b ∷ ys) zip = absurd zip
zip_mapped K Q f keep (a ∷ xs) [] zip = absurd zip
zip_mapped K Q f keep (a ∷ xs) (b ∷ ys) zip = (keep a b zip.0, zip_mapped K Q f keep xs ys zip.1)

-- if two lists are related place by place, then at the place of an element of the second there is one of the first,
-- related to it
pub zip_get : {A B : Type 0} (K : A → B → Type 0) (xs : List A) (ys : List B) (place : ℕ) (y : B) → AllZip K xs ys
    → slice_get ys place ≡ Some y
    → (x : A) × (slice_get xs place ≡ Some x) × K x y
zip_get K [] [] place y zip is = absurd (never y is)
  where
    never : {A : Type 0} (x : A) → None ≡ Some x → ⊥
    never x is = cc
zip_get K [] (b ∷ ys) place y zip is = absurd zip
zip_get K (a ∷ xs) [] place y zip is = absurd zip
zip_get K (a ∷ xs) (b ∷ ys) zero y zip is = let same : b ≡ y = cc in (a, refl, subst (K a) same zip.0)
zip_get K (a ∷ xs) (b ∷ ys) (suc place) y zip is = zip_get K xs ys place y zip.1 is

-- mapping twice is mapping once with both
pub map_twice : {A B C : Type 0} (f : A → B) (g : B → C) (xs : List A) → map g (map f xs) ≡ map (λ x. g (f x)) xs
map_twice f g [] = refl
map_twice f g (x ∷ xs) = ap (λ rest. g (f x) ∷ rest) (map_twice f g xs)

-- places of a longer list

-- what stands at a place of a list stands there also with another list behind it
pub get_front : {A : Type 0} (xs ys : List A) (place : ℕ) (x : A) → slice_get xs place ≡ Some x
    → slice_get (xs ++ ys) place ≡ Some x
get_front [] ys place x is = absurd (never x is)
  where
    never : {A : Type 0} (x : A) → None ≡ Some x → ⊥
    never x is = cc
get_front (a ∷ xs) ys zero x is = is
get_front (a ∷ xs) ys (suc place) x is = get_front xs ys place x is

-- what was put behind a list stands at its end
pub get_end : {A : Type 0} (xs : List A) (x : A) → slice_get (xs ++ x ∷ []) (length xs) ≡ Some x
get_end [] x = refl
get_end (a ∷ xs) x = get_end xs x

-- a run that stops is one of more runs
module _ {Run : Type 0} (xs : List Run) (x : Run) (all : List Run) (stops : Run → RaceFault → Type 0)
    (fault : RaceFault) (are : xs ++ x ∷ [] ≡ all) where
  -- if one of the runs `xs` stops, one of all runs does
  pub stopped_before : HasStopped stops xs fault → HasStopped stops all fault
  stopped_before at = record {
    index = at.index;
    run = at.run;
    found = subst (λ list. slice_get list at.index ≡ Some at.run) are (get_front xs (x ∷ []) at.index at.run at.found);
    cause = at.cause;
  }

  -- if the last run stops, one of all runs does
  pub stopped_last : stops x fault → HasStopped stops all fault
  stopped_last is =
      record {
        index = length xs;
        run = x;
        found = subst (λ list. slice_get list (length xs) ≡ Some x) are
            (get_end xs x);
        cause = is;
      }
