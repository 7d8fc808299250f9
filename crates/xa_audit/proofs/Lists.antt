-- Lists with one element more: reading at a place, a filter, the last end, counting verdicts; and a key that is set
-- again.
use Rattle.std.proofs.Common.{◌≡◌, ℕ, zero, suc, ◌+◌, ◌≤◌, List, [], ◌∷◌, ◌++◌, length, get_or, refl, ap, ◌∙◌, Bool}
use Rattle.std.{proofs.Common.{true, false, arith}, specs.Prelude.{Option, Some, None, cond, filter}}
use Rattle.std.specs.{BTreeMap.{BTreeMap, get, is_at}, declared.cmp.Ordering.Ordering}
use Rattle.xa_audit.specs.{Following.PutsAt, declared.{ends.End.End, verdict.Verdict.Verdict}}
use Rattle.xa_audit.specs.Globals.{Global, last_end, verdict_of, same_verdict, count_of}

-- if `d` is what is read where a list has no place, one place more at its end, with `d`, changes nothing that is read
pub one_more_place : {A : Type 0} (d : A) (xs : List A) (i : ℕ) → get_or (xs ++ d ∷ []) i d ≡ get_or xs i d
one_more_place d [] zero = refl
one_more_place d [] (suc i) = refl
one_more_place d (x ∷ xs) zero = refl
one_more_place d (x ∷ xs) (suc i) = one_more_place d xs i

-- to add `y` in front if `b`, and `x` behind if `c`, comes to the same in either order
keeps_first : {A : Type 0} (b c : Bool) (y x : A) (ys : List A)
    → cond b (y ∷ cond c (ys ++ x ∷ []) ys) (cond c (ys ++ x ∷ []) ys)
    ≡ cond c (cond b (y ∷ ys) ys ++ x ∷ []) (cond b (y ∷ ys) ys)
keeps_first b c y x ys = grind (arith)

-- filtering several elements and one more keeps that one if it passes
pub filter_more : {A : Type 0} (p : A → Bool) (xs : List A) (x : A)
    → filter p (xs ++ x ∷ []) ≡ cond (p x) (filter p xs ++ x ∷ []) (filter p xs)
filter_more p [] x = refl
filter_more p (y ∷ ys) x =
    ap (λ l. cond (p y) (y ∷ l) l) (filter_more p ys x) ∙ keeps_first (p y) (p x) y x (filter p ys)

-- the last end of a list with one more behind it is that one
pub last_more : (ends : List End) (end : End) → last_end (ends ++ end ∷ []) ≡ Some end
last_more [] end = refl
last_more (first ∷ []) end = refl
last_more (first ∷ next ∷ ends) end = last_more (next ∷ ends) end

-- if a count is at most a bound, the count with one element more, counted or not, is at most the bound plus one
bounded : (b : Bool) (n m : ℕ) → n ≤ m → cond b 1 0 + n ≤ m + 1
bounded b n m h = grind (arith)

-- no more global transactions are counted than there are
pub count_le : (verdict : Verdict) (globals : List Global) → count_of verdict globals ≤ length globals
unfolding count_of
count_le verdict [] = omega arith
count_le verdict (global ∷ globals) =
    let h = bounded (same_verdict verdict (verdict_of global.1)) (count_of verdict globals) (length globals)
    (count_le verdict globals) in
    omega (arith, h)

-- the loop that counts verdicts: the next one is the wanted verdict, so the count is one more; with those behind it,
-- it still comes to the whole
pub count_in : (verdict : Verdict) (left rest : List Global) (global : Global) (count whole : ℕ) → left ≡ global ∷ rest
    → true ≡ same_verdict verdict (verdict_of global.1) → count + count_of verdict left ≡ whole
    → count + 1 + count_of verdict rest ≡ whole
unfolding count_of
count_in verdict left rest global count whole cut is before = grind (arith)

-- the loop that counts verdicts: the next one is another verdict, so the count stays; with those behind it, it still
-- comes to the whole
pub count_out : (verdict : Verdict) (left rest : List Global) (global : Global) (count whole : ℕ) → left ≡ global ∷ rest
    → false ≡ same_verdict verdict (verdict_of global.1) → count + count_of verdict left ≡ whole
    → count + count_of verdict rest ≡ whole
unfolding count_of
count_out verdict left rest global count whole cut is before = grind (arith)

-- when nothing is left to count, the count is the whole one
pub count_done : (verdict : Verdict) (left : List Global) (count whole : ℕ) → left ≡ []
    → count + count_of verdict left ≡ whole → count ≡ whole
unfolding count_of
count_done verdict left count whole is before = grind (arith)

-- of two settings of one place the second counts
twice : {A : Type 0} (b : Bool) (value : Option A) (found : Option A)
    → cond b value (cond b None found) ≡ cond b value found
twice b value found = grind (arith)

-- taking the value at a key out and putting another one there is setting it
pub put_again : {K V : Type 0} (cmp : K → K → Ordering) (old mid new : BTreeMap K V) (key : K) (value wanted : V)
    → ((other : K) → get cmp mid other ≡ cond (is_at (cmp key) other) None (get cmp old other))
    → PutsAt cmp mid key value new → value ≡ wanted
    → PutsAt cmp old key wanted new
put_again cmp old mid new key value wanted gone put is other = grind (arith, twice)
