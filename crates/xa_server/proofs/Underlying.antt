-- Runs: what one of them has for a key, what two have when they are merged, and what they have together.
use Rattle.std.proofs.Common.{length, arith, [], ◌≡◌, ℕ, List, ◌∷◌, refl, ap, sym, ◌∙◌, Bool, true, false, subst}
use Rattle.std.specs.{Prelude.{Option, Some, None, cond, ◌==◌}, Option.{option_and_then, unwrap_or}}
use Rattle.std.specs.FinMap.{find, is_sorted, get-entries, get-from_sorted}
use Rattle.xa_xid.{specs.Xid.{Text, bytes_cmp}, proofs.Orders.{bytes_total, exact_texts}}
use Rattle.xa_server.specs.{State.Write, Layers.{Writes, under, first_of, value_only, kept_write, merged_at, gathered}}
use Rattle.xa_server.{specs.Merging.merged, proofs.{Ending.get-with_writes, Kept.{sorted_kept, find_kept}}}
use Rattle.xa_server.proofs.Merging.{find_merged, sorted_merged}
use borrow.Author.Tests.{eqb-true}
use lib.Dec.{T}
use Rattle.std.specs.FinMap as map

-- the rows of a run
abbrev pub Rows : Type 0
Rows = List (List ℕ × Write)

-- what a run has for a key is found among its rows
pub found_run : (rows : Rows) (run : Writes) (q : List ℕ) → is_sorted bytes_cmp rows ≡ true
    → map.from_sorted {R = bytes_cmp} rows ≡ run → find bytes_cmp q rows ≡ map.get run q
found_run rows run q sorted is =
    sym (get-from_sorted bytes_cmp rows q (subst T (sym sorted) tt)) ∙ ap (λ m. map.get m q) is

-- the rows of two runs, merged, ascend
pub sorted_over : (found : Write → Option Write) (newer older rows : Rows) → is_sorted bytes_cmp newer ≡ true
    → is_sorted bytes_cmp older ≡ true → rows ≡ gathered found (merged bytes_cmp newer older)
    → is_sorted bytes_cmp rows ≡ true
sorted_over found newer older rows a b is =
    ap (is_sorted bytes_cmp) is
    ∙ sorted_kept bytes_cmp found (merged bytes_cmp newer older) (sorted_merged bytes_total exact_texts newer older a b)

-- the run that they make has for a key what the newer one has, or else the older one
pub merged_run : (last : Bool) (newer older rows : Rows) (one other run : Writes) (q : List ℕ)
    → is_sorted bytes_cmp newer ≡ true → is_sorted bytes_cmp older ≡ true
    → rows ≡ gathered (kept_write last) (merged bytes_cmp newer older)
    → map.from_sorted {R = bytes_cmp} newer ≡ one → map.from_sorted {R = bytes_cmp} older ≡ other
    → run ≡ map.from_sorted {R = bytes_cmp} rows
    → map.get run q ≡ merged_at last (map.get one q) (map.get other q)
merged_run last newer older rows one other run q a b is first second made =
    sym (found_run rows run q (sorted_over (kept_write last) newer older rows a b is) (sym made))
    ∙ ap (find bytes_cmp q) is
    ∙ find_kept bytes_total exact_texts (kept_write last) (merged bytes_cmp newer older) q
    (sorted_merged bytes_total exact_texts newer older a b)
    ∙ ap (option_and_then (kept_write last)) (find_merged bytes_total exact_texts q newer older a)
    ∙ (λ i. merged_at last (found_run newer one q a first i) (found_run older other q b second i))

-- what the first of runs has hides what the others have
pub under_first : (run : Writes) (older : List Writes) (q : List ℕ)
    → map.get (under (run ∷ older)) q ≡ unwrap_or (map.get run q) (map.get (under older) q)
under_first run older q =
    get-with_writes (map.entries run) (under older) q
    ∙ ap (λ w. unwrap_or w (map.get (under older) q)) (sym (get-entries run q))

-- a look-up in runs ends at the first that has the key
pub ends_at : (run : Writes) (older left : List Writes) (q : List ℕ) (found : Option Write) (write : Write)
    (value : Option Text) → left ≡ run ∷ older → map.get (under left) q ≡ value → found ≡ map.get run q
    → found ≡ Some write → write ≡ value
ends_at run older left q found write value is whole there some =
    sym (sym whole ∙ ap (λ runs. map.get (under runs) q) is ∙ under_first run older q
    ∙ ap (λ w. unwrap_or w (map.get (under older) q)) (sym there ∙ some))

-- it goes on after one that hasn't
pub goes_on : (run : Writes) (older left : List Writes) (q : List ℕ) (found : Option Write) (value : Option Text)
    → left ≡ run ∷ older → map.get (under left) q ≡ value → found ≡ map.get run q → found ≡ None
    → map.get (under older) q ≡ value
goes_on run older left q found value is whole there none =
    sym (sym whole ∙ ap (λ runs. map.get (under runs) q) is ∙ under_first run older q
    ∙ ap (λ w. unwrap_or w (map.get (under older) q)) (sym there ∙ none))

-- a run that is merged with the next has for a key what both had over the others; if these are none, deletions hide
-- nothing
hides : (last : Bool) (newer older : Option Write) (below : Option Text) → (last ≡ true → below ≡ None)
    → unwrap_or (merged_at last newer older) below ≡ unwrap_or newer (unwrap_or older below)
hides last None None below e = refl
hides true None (Some None) below e = e refl
hides false None (Some None) below e = refl
hides true None (Some (Some text)) below e = refl
hides false None (Some (Some text)) below e = refl
hides true (Some None) older below e = e refl
hides false (Some None) older below e = refl
hides true (Some (Some text)) older below e = refl
hides false (Some (Some text)) older below e = refl

-- merging a run with the first of others leaves what they have together
pub merges_one : (last : Bool) (run next more : Writes) (left older : List Writes) (value : Option Text) (q : List ℕ)
    → left ≡ next ∷ older → (last ≡ true → map.get (under older) q ≡ None)
    → map.get more q ≡ merged_at last (map.get run q) (map.get next q)
    → unwrap_or (map.get run q) (map.get (under left) q) ≡ value
    → unwrap_or (map.get more q) (map.get (under older) q) ≡ value
merges_one last run next more left older value q is none made whole =
    ap (λ w. unwrap_or w (map.get (under older) q)) made
    ∙ hides last (map.get run q) (map.get next q) (map.get (under older) q) none
    ∙ ap (unwrap_or (map.get run q))
    (sym (ap (λ runs. map.get (under runs) q) is ∙ under_first next older q))
    ∙ whole

-- a look-up in no run finds nothing
pub ends_nowhere : (left : List Writes) (q : List ℕ) (value : Option Text) → length left ≡ 0
    → map.get (under left) q ≡ value → None ≡ value
ends_nowhere [] q value none whole = sym (map.get-empty bytes_cmp q) ∙ whole
ends_nowhere (run ∷ older) q value none whole = absurd (omega (arith, none))

-- a list of length 0 is empty
no_more : {A : Type 0} (xs : List A) → (length xs == 0) ≡ true → xs ≡ []
no_more [] e = refl
no_more (x ∷ xs) e = absurd (omega (arith, eqb-true (length (x ∷ xs)) 0 e))

-- below the last run is nothing
pub under_last : (older : List Writes) (q : List ℕ) (last : Bool) → last ≡ (length older == 0) → last ≡ true
    → map.get (under older) q ≡ None
under_last older q last told is =
    ap (λ runs. map.get (under runs) q) (no_more older (sym told ∙ is)) ∙ map.get-empty bytes_cmp q

-- what a new run has over others is what they have together
pub over_all : (run : Writes) (left list : List Writes) (value : Option Text) (q : List ℕ) → list ≡ run ∷ left
    → unwrap_or (map.get run q) (map.get (under left) q) ≡ value → map.get (under list) q ≡ value
over_all run left list value q is whole = ap (λ runs. map.get (under runs) q) is ∙ under_first run left q ∙ whole
