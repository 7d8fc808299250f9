-- A branch takes by an accepted XA COMMIT.
use Rattle.std.proofs.Common.{◌≡◌, List, [], ◌∷◌, ◌++◌, refl, ap, sym, ◌∙◌, Bool, true, false}
use Rattle.std.specs.{Prelude.{Option, Some, None, ◌||◌}, List.list_any, Option.{option_map_or, unwrap_or}}
use Rattle.xa_audit.specs.declared.deed.Deed.{Deed, TheVariants.{Starts, Writes, Prepares, Commits, RollsBack}}
use Rattle.xa_audit.specs.{declared.lives.{Life.Life, Lives.Lives}, Globals.is_committed, Laws.is_commit}
use Rattle.xa_audit.specs.Lives.{no_lives, noted, dropped, dropped_by, left_by, left_going, ends_in, lives_after}

-- of three tests, it doesn't matter which two are taken first
or_assoc : (a b c : Bool) → (a || (b || c)) ≡ ((a || b) || c)
or_assoc true b c = refl
or_assoc false b c = refl

-- the first of two tests decides if the second is false
or_false : (a : Bool) → (a || false) ≡ a
or_false true = refl
or_false false = refl

-- some element of two joined lists passes if, and only if, one of either list does
any_append : {A : Type 0} (p : A → Bool) (xs ys : List A) → list_any p (xs ++ ys) ≡ (list_any p xs || list_any p ys)
any_append p [] ys = refl
any_append p (x ∷ xs) ys = ap (λ b. p x || b) (any_append p xs ys) ∙ or_assoc (p x) (list_any p xs) (list_any p ys)

-- how a life is left at the end of a history is no commit
left_none : (going : Option Life) → list_any is_committed (left_going going) ≡ false
left_none None = refl
left_none (Some life) = by life.prepared
  where
    by : (b : Bool) → list_any is_committed (left_by b ∷ []) ≡ false
    by true = refl
    by false = refl

-- the end of a life that is rolled back isn't COMMITTED
dropped_none : (going : Option Life) → list_any is_committed (dropped going ∷ []) ≡ false
dropped_none None = refl
dropped_none (Some life) = by life.wrote
  where
    by : (b : Bool) → list_any is_committed (dropped_by b ∷ []) ≡ false
    by true = refl
    by false = refl

-- only lives that are over are COMMITTED
ends_over : (lives : Lives) → list_any is_committed (ends_in lives) ≡ list_any is_committed lives.over
ends_over lives =
    any_append is_committed lives.over (left_going lives.going)
    ∙ ap (λ b. list_any is_committed lives.over || b) (left_none lives.going)
    ∙ or_false (list_any is_committed lives.over)

-- one deed more: some life was committed if one was, or if this is a commit
noted_over : (lives : Lives) (deed : Deed)
    → list_any is_committed (noted lives deed).over ≡ (list_any is_committed lives.over || is_commit deed)
noted_over lives Starts = sym (or_false (list_any is_committed lives.over))
noted_over lives Writes = sym (or_false (list_any is_committed lives.over))
noted_over lives Prepares = sym (or_false (list_any is_committed lives.over))
noted_over lives Commits = any_append is_committed lives.over _
noted_over lives RollsBack =
    any_append is_committed lives.over _ ∙ ap (λ b. list_any is_committed lives.over || b) (dropped_none lives.going)

-- some life of these that is over was committed; none was, if there are no lives
has : Option Lives → Bool
has None = false
has (Some lives) = list_any is_committed lives.over

-- `has` says the same of missing lives as of `no_lives`
or_none : (lives : Option Lives) → list_any is_committed (unwrap_or lives no_lives).over ≡ has lives
unfolding has
or_none None = refl
or_none (Some lives) = refl

-- after more deeds some life was committed if one was before them, or if one of them is a commit
has_after : (lives : Option Lives) (deeds : List Deed)
    → has (lives_after lives deeds) ≡ (has lives || list_any is_commit deeds)
unfolding has lives_after
has_after lives [] = sym (or_false (has lives))
has_after lives (deed ∷ deeds) =
    has_after (Some (noted (unwrap_or lives no_lives) deed)) deeds
    ∙ ap (λ b. b || list_any is_commit deeds)
    (noted_over (unwrap_or lives no_lives) deed ∙ ap (λ b. b || is_commit deed) (or_none lives))
    ∙ sym (or_assoc (has lives) (is_commit deed) (list_any is_commit deeds))

-- only lives that are over count: one that goes on at the end isn't COMMITTED
has_is : (lives : Option Lives) → option_map_or (λ (l : Lives). list_any is_committed (ends_in l)) lives false
    ≡ has lives
unfolding has
has_is None = refl
has_is (Some lives) = ends_over lives

-- a branch took effect if, and only if, its deeds have an accepted XA COMMIT
pub took_by : (deeds : List Deed)
    → option_map_or (λ (l : Lives). list_any is_committed (ends_in l)) (lives_after None deeds) false
    ≡ list_any is_commit deeds
unfolding has
took_by deeds = has_is (lives_after None deeds) ∙ has_after None deeds
