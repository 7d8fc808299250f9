-- Values in parts: what all of them have for a key is what its part has; and writes that are sorted out by parts.
use Rattle.std.proofs.Common.{length, arith, [], ◌≡◌, ◌≢◌, ◌<◌, ◌+◌, ◌++◌, ℕ, zero, suc, List, ◌∷◌, refl, ap, sym, ◌∙◌}
use Rattle.std.proofs.Common.{Bool, true, false, eq-eqb, ne_eqb, inl, inr, set, get_or, replicate, append_assoc}
use Rattle.std.proofs.{Common.{append-nil, filter, slice_get, map as map'}, lemmas.List.{map-set, length-map}}
use Rattle.std.{proofs.lemmas.{Option.unwrap_or-slice_get, Bool.Decides.eqb_tells}, specs.FinMap.Entries.below_all}
use Rattle.std.specs.{Prelude.{Option, Some, None, cond, ◌==◌, ◌&&◌, is_none}, FinMap.{find, is_sorted, same_map}}
use Rattle.std.specs.{Option.{option_and_then, option_map, unwrap_or, option_map_or}, Ordering.{eq_by_cmp, is_lt}}
use Rattle.xa_xid.{specs.Xid.{Text, bytes_cmp}, proofs.Orders.{bytes_total, exact_texts}}
use Rattle.xa_server.specs.{State.Write, Step.with_writes, View.mapped, Layers.{Writes, under}, Parts.{Values, Rows}}
use Rattle.xa_server.specs.Parts.{part_of, of_part, in_parts, parted, only, sorted_out, first_part, other_parts}
use Rattle.xa_server.{specs.Parts.{all_rewritten, rows_at, AllAscend}, proofs.Maps.{same_or_apart, same_itself}}
use Rattle.xa_server.proofs.{Gathered.{get-gather, get-mapped}, Ending.get-with_writes, Kept.{first, second, both}}
use Rattle.xa_server.proofs.Underlying.{under_first, found_run}
use mathlib.Core.Bool.{true≢false}
use Rattle.std.specs.FinMap as map

-- ---- what parts have for a key

-- what a part has for a key, as a run, by whether the key belongs to it
own : (belongs : Bool) (q : List ℕ) (value : Option Text)
    → option_and_then (λ (row : List ℕ × Text). cond belongs (Some (Some row.1)) None) (option_map (λ v. (q, v)) value)
    ≡ cond belongs (option_map (λ (v : Text). Some v) value) None
own true q None = refl
own false q None = refl
own true q (Some v) = refl
own false q (Some v) = refl

get-of_part : (n : ℕ) (values : Values) (q : List ℕ)
    → map.get (of_part n values) q
    ≡ cond (part_of q == n) (option_map (λ (v : Text). Some v) (map.get values q)) None
unfolding of_part
get-of_part n values q =
    get-gather bytes_total exact_texts (λ (row : List ℕ × Text). cond (part_of row.0 == n) (Some (Some row.1)) None)
    (mapped (λ key value. (key, value)) values) q
    ∙ ap (option_and_then (λ (row : List ℕ × Text). cond (part_of row.0 == n) (Some (Some row.1)) None))
    (get-mapped bytes_total exact_texts (λ key value. (key, value)) values q)
    ∙ its (map.get values q)
  where
    its : (value : Option Text)
        → option_and_then (λ (row : List ℕ × Text). cond (part_of row.0 == n) (Some (Some row.1)) None)
        (option_map (λ v. (q, v)) value)
        ≡ cond (part_of q == n) (option_map (λ (v : Text). Some v) value) None
    its None = none (part_of q == n)
      where
        none : (b : Bool) → None ≡ cond b (option_map (λ (v : Text). Some v) None) None
        none true = refl
        none false = refl
    its (Some v) = refl

-- a key of another part isn't there
other_part : (n : ℕ) (values : Values) (q : List ℕ) → part_of q ≢ n → map.get (of_part n values) q ≡ None
other_part n values q apart =
    get-of_part n values q
    ∙ ap (λ b. cond b (option_map (λ (v : Text). Some v) (map.get values q)) None) (ne_eqb (part_of q) n apart)

-- a key of this part is there with its value
this_part : (n : ℕ) (values : Values) (q : List ℕ) → part_of q ≡ n
    → map.get (of_part n values) q ≡ option_map (λ (v : Text). Some v) (map.get values q)
this_part n values q is =
    get-of_part n values q
    ∙ ap (λ b. cond b (option_map (λ (v : Text). Some v) (map.get values q)) None) (eq-eqb (part_of q) n is)

-- parts with greater numbers than a key's haven't the key
beyond : (m : ℕ) (parts : List Values) (q : List ℕ) → part_of q < m → map.get (under (in_parts m parts)) q ≡ None
beyond m [] q less = map.get-empty bytes_cmp q
beyond m (part ∷ parts) q less =
    under_first (of_part m part) (in_parts (suc m) parts) q
    ∙ ap (λ w. unwrap_or w (map.get (under (in_parts (suc m) parts)) q))
    (other_part m part q (λ is. omega (arith, less, is)))
    ∙ beyond (suc m) parts q (omega (arith, less))

-- a value, over nothing
over_nothing : (value below : Option Text) → below ≡ None
    → unwrap_or (option_map (λ (v : Text). Some v) value) below ≡ value
over_nothing None below none = none
over_nothing (Some v) below none = refl

-- a part, if it is there; else none of its rows has a value
abbrev pub over_part : Option Values → Values
over_part None = map.empty
over_part (Some part) = part

-- the part with this number, counted from the first of a list
abbrev pub nth : ℕ → List Values → Values
nth n parts = over_part (slice_get parts n)

get-under : (m n : ℕ) (parts : List Values) (q : List ℕ) → part_of q ≡ m + n
    → map.get (under (in_parts m parts)) q ≡ map.get (nth n parts) q
get-under m n [] q is = refl
get-under m zero (part ∷ parts) q is =
    under_first (of_part m part) (in_parts (suc m) parts) q
    ∙ ap (λ w. unwrap_or w (map.get (under (in_parts (suc m) parts)) q))
    (this_part m part q (omega (arith, is)))
    ∙ over_nothing (map.get part q) _ (beyond (suc m) parts q (omega (arith, is)))
get-under m (suc n) (part ∷ parts) q is =
    under_first (of_part m part) (in_parts (suc m) parts) q
    ∙ ap (λ w. unwrap_or w (map.get (under (in_parts (suc m) parts)) q))
    (other_part m part q (λ at. omega (arith, is, at)))
    ∙ get-under (suc m) n parts q (omega (arith, is))

-- all parts have for a key what its part has
pub get-parted : (parts : List Values) (q : List ℕ)
    → map.get (parted parts) q ≡ map.get (over_part (slice_get parts (part_of q))) q
unfolding parted
get-parted parts q = get-under 0 (part_of q) parts q (omega arith)

-- ---- writes to the rows of parts

-- the part after the first is the one of the others
nth-zero : (parts : List Values) → first_part parts ≡ nth 0 parts
nth-zero [] = refl
nth-zero (part ∷ parts) = refl

nth-suc : (n : ℕ) (parts : List Values) → nth n (other_parts parts) ≡ nth (suc n) parts
nth-suc n [] = refl
nth-suc n (part ∷ parts) = refl

-- after writes to the rows of each, a part has what was written, or else what it had
pub get-rewritten : (lists : List Rows) (parts : List Values) (n : ℕ) (q : List ℕ) → n < length lists
    → map.get (nth n (all_rewritten lists parts)) q
    ≡ unwrap_or (find bytes_cmp q (rows_at n lists)) (map.get (nth n parts) q)
get-rewritten [] parts n q less = absurd (omega (arith, less))
get-rewritten (rows ∷ more) parts zero q less =
    get-with_writes rows (first_part parts) q
    ∙ ap (λ part. unwrap_or (find bytes_cmp q rows) (map.get part q)) (nth-zero parts)
get-rewritten (rows ∷ more) parts (suc n) q less =
    get-rewritten more (other_parts parts) n q (omega (arith, less))
    ∙ ap (λ part. unwrap_or (find bytes_cmp q (rows_at n more)) (map.get part q)) (nth-suc n parts)

-- what is sorted out for a part
rows_at-sorted : (count m n : ℕ) (rows : Rows) → n < count → rows_at n (sorted_out count m rows) ≡ only (m + n) rows
rows_at-sorted zero m n rows less = absurd (omega (arith, less))
rows_at-sorted (suc count) m zero rows less = ap (λ k. only k rows) (omega arith)
rows_at-sorted (suc count) m (suc n) rows less =
    rows_at-sorted count (suc m) n rows (omega (arith, less)) ∙ ap (λ k. only k rows) (omega arith)

-- a write to a row of the part is found among these
find-only : (n : ℕ) (rows : Rows) (q : List ℕ) → part_of q ≡ n
    → find bytes_cmp q (only n rows) ≡ find bytes_cmp q rows
find-only n [] q is = refl
find-only n (row ∷ rows) q is = elim (same_or_apart bytes_total exact_texts q row.0) [
  | inl same ↦
      ap (λ b. find bytes_cmp q (cond b (row ∷ only n rows) (only n rows)))
      (eq-eqb (part_of row.0) n (ap part_of (sym same) ∙ is))
      ∙ ap (λ b. cond b (Some row.1) (find bytes_cmp q (only n rows))) (here same)
      ∙ sym (ap (λ b. cond b (Some row.1) (find bytes_cmp q rows)) (here same))
  | inr apart ↦
      beside apart (part_of row.0 == n) ∙ find-only n rows q is
      ∙ sym (ap (λ b. cond b (Some row.1) (find bytes_cmp q rows)) apart)
]
  where
    here : q ≡ row.0 → eq_by_cmp bytes_cmp q row.0 ≡ true
    here same = ap (eq_by_cmp bytes_cmp q) (sym same) ∙ same_itself bytes_total exact_texts q

    beside : eq_by_cmp bytes_cmp q row.0 ≡ false → (b : Bool)
        → find bytes_cmp q (cond b (row ∷ only n rows) (only n rows)) ≡ find bytes_cmp q (only n rows)
    beside apart true = ap (λ b. cond b (Some row.1) (find bytes_cmp q (only n rows))) apart
    beside apart false = refl

length-sorted : (count m : ℕ) (rows : Rows) → length (sorted_out count m rows) ≡ count
length-sorted zero m rows = refl
length-sorted (suc count) m rows = ap suc (length-sorted count (suc m) rows)

-- all parts after writes that were sorted out have what was written to a row, or else what they had
pub rewritten : (rows : Rows) (parts : List Values) (lists : List Rows) (q : List ℕ) → lists ≡ sorted_out 64 0 rows
    → part_of q < 64
    → map.get (parted (all_rewritten lists parts)) q ≡ unwrap_or (find bytes_cmp q rows) (map.get (parted parts) q)
rewritten rows parts lists q is less =
    ap (λ l. map.get (parted (all_rewritten l parts)) q) is
    ∙ get-parted (all_rewritten (sorted_out 64 0 rows) parts) q
    ∙ get-rewritten (sorted_out 64 0 rows) parts (part_of q) q
    (omega (arith, less, length-sorted 64 0 rows))
    ∙ ap (λ found. unwrap_or found (map.get (nth (part_of q) parts) q))
    (ap (find bytes_cmp q) (rows_at-sorted 64 0 (part_of q) rows less) ∙ find-only (0 + part_of q) rows q (omega arith))
    ∙ ap (unwrap_or (find bytes_cmp q rows)) (sym (get-parted parts q))

-- a number of a part is below 64
pub part_below : (q : List ℕ) → part_of q < 64
unfolding part_of
part_below q = omega arith

-- ---- their order

below-only : (k : List ℕ) (n : ℕ) (rows : Rows) → below_all bytes_cmp k rows ≡ true
    → below_all bytes_cmp k (only n rows) ≡ true
below-only k n [] h = refl
below-only k n (row ∷ rows) h =
    its (below-only k n rows (second (is_lt (bytes_cmp k row.0)) (below_all bytes_cmp k rows) h)) (part_of row.0 == n)
  where
    its : below_all bytes_cmp k (only n rows) ≡ true → (b : Bool)
        → below_all bytes_cmp k (cond b (row ∷ only n rows) (only n rows)) ≡ true
    its rest true =
        both (is_lt (bytes_cmp k row.0)) (below_all bytes_cmp k (only n rows))
        (first (is_lt (bytes_cmp k row.0)) (below_all bytes_cmp k rows) h) rest
    its rest false = rest

sorted-only : (n : ℕ) (rows : Rows) → is_sorted bytes_cmp rows ≡ true → is_sorted bytes_cmp (only n rows) ≡ true
sorted-only n [] h = refl
sorted-only n (row ∷ rows) h =
    its (sorted-only n rows (second (below_all bytes_cmp row.0 rows) (is_sorted bytes_cmp rows) h)) (part_of row.0 == n)
  where
    its : is_sorted bytes_cmp (only n rows) ≡ true → (b : Bool)
        → is_sorted bytes_cmp (cond b (row ∷ only n rows) (only n rows)) ≡ true
    its rest true =
        both (below_all bytes_cmp row.0 (only n rows)) (is_sorted bytes_cmp (only n rows))
        (below-only row.0 n rows (first (below_all bytes_cmp row.0 rows) (is_sorted bytes_cmp rows) h)) rest
    its rest false = rest

-- the rows that are sorted out for each part ascend, if all do
pub sorted_out-ascend : (count m : ℕ) (rows : Rows) → is_sorted bytes_cmp rows ≡ true
    → AllAscend (sorted_out count m rows)
sorted_out-ascend zero m rows h n = refl
sorted_out-ascend (suc count) m rows h zero = sorted-only m rows h
sorted_out-ascend (suc count) m rows h (suc n) = sorted_out-ascend count (suc m) rows h n

-- ---- sorting out

-- two lists for each part, each of the one before that of the other
abbrev pub joined : List Rows → List Rows → List Rows
joined [] more = more
joined (rows ∷ lists) [] = rows ∷ lists
joined (rows ∷ lists) (more ∷ others) = (rows ++ more) ∷ joined lists others

pub joined-empty : (count m : ℕ) (rows : Rows)
    → joined (replicate count []) (sorted_out count m rows) ≡ sorted_out count m rows
joined-empty zero m rows = refl
joined-empty (suc count) m rows = ap (λ l. only m rows ∷ l) (joined-empty count (suc m) rows)

pub joined-none : (lists : List Rows) (count m : ℕ) → length lists ≡ count → joined lists (sorted_out count m []) ≡ lists
joined-none [] zero m is = refl
joined-none [] (suc count) m is = absurd (omega (arith, is))
joined-none (rows ∷ lists) zero m is = refl
joined-none (rows ∷ lists) (suc count) m is =
    (λ i. append-nil rows i ∷ joined-none lists count (suc m) (omega (arith, is)) i)

-- a row of a part before these isn't among theirs
passed : (count m : ℕ) (row : List ℕ × Write) (rows : Rows) → part_of row.0 < m
    → sorted_out count m (row ∷ rows) ≡ sorted_out count m rows
passed zero m row rows less = refl
passed (suc count) m row rows less =
    (λ i. cond (ne_eqb (part_of row.0) m (λ is. omega (arith, less, is)) i) (row ∷ only m rows) (only m rows)
    ∷ passed count (suc m) row rows (omega (arith, less)) i)

-- a row at the end of its part's list is no more to be sorted out
joins_one : (lists : List Rows) (count m n : ℕ) (row : List ℕ × Write) (rows : Rows) → length lists ≡ count
    → part_of row.0 ≡ m + n → n < count
    → joined (set lists n (rows_at n lists ++ row ∷ [])) (sorted_out count m rows)
    ≡ joined lists (sorted_out count m (row ∷ rows))
joins_one [] count m n row rows long is less = absurd (omega (arith, less, long))
joins_one (mine ∷ lists) zero m n row rows long is less = absurd (omega (arith, less))
joins_one (mine ∷ lists) (suc count) m zero row rows long is less =
    (λ i. append_assoc mine (row ∷ []) (only m rows) i
    ∷ joined lists (sym (passed count (suc m) row rows (omega (arith, is))) i))
    ∙ ap (λ b. (mine ++ cond b (row ∷ only m rows) (only m rows))
    ∷ joined lists (sorted_out count (suc m) (row ∷ rows)))
    (sym (eq-eqb (part_of row.0) m (omega (arith, is))))
joins_one (mine ∷ lists) (suc count) m (suc n) row rows long is less =
    ap (λ l. (mine ++ only m rows) ∷ l)
    (joins_one lists count (suc m) n row rows (omega (arith, long)) (omega (arith, is)) (omega (arith, less)))
    ∙ ap (λ b. (mine ++ cond b (row ∷ only m rows) (only m rows))
    ∷ joined lists (sorted_out count (suc m) (row ∷ rows)))
    (sym (ne_eqb (part_of row.0) m (λ at. omega (arith, is, at))))

module _ {V : Type 0} (items : V → Rows) where
  -- the writes of the list at a place
  rows_at-map : (lists : List V) (n : ℕ) (d : V) → n < length lists
      → rows_at n (map' items lists) ≡ items (get_or lists n d)
  rows_at-map [] n d less = absurd (omega (arith, less))
  rows_at-map (list ∷ lists) zero d less = refl
  rows_at-map (list ∷ lists) (suc n) d less = rows_at-map lists n d (omega (arith, less))

  -- the loop over rows: the next one is added to the list of its part
  pub adds_row : (lists : List V) (place : ℕ) (old new : V) (row : List ℕ × Write) (left rest all : Rows)
      → joined (map' items lists) (sorted_out 64 0 left) ≡ sorted_out 64 0 all → length lists ≡ 64
      → left ≡ row ∷ rest → place ≡ part_of row.0 → place < 64 → old ≡ get_or lists place old
      → items new ≡ items old ++ row ∷ []
      → joined (map' items (set lists place new)) (sorted_out 64 0 rest) ≡ sorted_out 64 0 all
  adds_row lists place old new row left rest all inv long is at less here made =
      ap (λ l. joined l (sorted_out 64 0 rest))
      (map-set items lists place new
      ∙ ap (set (map' items lists) place)
      (made ∙ ap (λ rows. rows ++ row ∷ [])
      (ap items here ∙ sym (rows_at-map lists place old (omega (arith, less, long))))))
      ∙ joins_one (map' items lists) 64 0 place row rest (length-map lists items ∙ long) (omega (arith, at)) less
      ∙ ap (λ rows. joined (map' items lists) (sorted_out 64 0 rows)) (sym is)
      ∙ inv

  -- the loop over parts: the next one is rewritten
  pub rewrites_one : (made made' parts parts' all : List Values) (new : Values) (list : V) (left rest : List V)
      → made ++ all_rewritten (map' items left) parts ≡ all → left ≡ list ∷ rest
      → new ≡ with_writes (items list) (first_part parts) → made' ≡ made ++ new ∷ [] → parts' ≡ other_parts parts
      → made' ++ all_rewritten (map' items rest) parts' ≡ all
  rewrites_one made made' parts parts' all new list left rest inv is written pushed others =
      (λ i. pushed i ++ all_rewritten (map' items rest) (others i))
      ∙ append_assoc made (new ∷ []) (all_rewritten (map' items rest) (other_parts parts))
      ∙ ap (λ part. made ++ part ∷ all_rewritten (map' items rest) (other_parts parts)) written
      ∙ ap (λ lists. made ++ all_rewritten (map' items lists) parts) (sym is)
      ∙ inv

  -- the writes to the next part's rows are in order
  pub first_ascends : (left rest : List V) (list : V) → AllAscend (map' items left) → left ≡ list ∷ rest
      → is_sorted bytes_cmp (items list) ≡ true
  first_ascends left rest list ascend is =
      ap (λ lists. is_sorted bytes_cmp (rows_at 0 (map' items lists))) (sym is) ∙ ascend 0

  -- and so are those to the others'
  pub others_ascend : (left rest : List V) (list : V) → AllAscend (map' items left) → left ≡ list ∷ rest
      → AllAscend (map' items rest)
  others_ascend left rest list ascend is = λ n.
      ap (λ lists. is_sorted bytes_cmp (rows_at (suc n) (map' items lists))) (sym is) ∙ ascend (suc n)

-- the values of the part at a place are those of the key's part
pub get-at : (parts : List Values) (q : List ℕ) (place : ℕ) (values : Values) → place ≡ part_of q
    → values ≡ get_or parts place map.empty → map.get values q ≡ map.get (parted parts) q
get-at parts q place values at here =
    ap (λ m. map.get m q)
    (here ∙ sym (unwrap_or-slice_get parts place map.empty) ∙ same (slice_get parts place)
    ∙ ap (λ n. over_part (slice_get parts n)) at)
    ∙ sym (get-parted parts q)
  where
    same : (found : Option Values) → unwrap_or found map.empty ≡ over_part found
    same None = refl
    same (Some part) = refl

-- a store without parts has no values
pub no_parts : {A : Type 0} (values : A → List Values) (parts : Option A) → is_none parts ≡ true
    → parted (option_map_or values parts []) ≡ map.empty
unfolding parted
no_parts values None none = refl
no_parts values (Some part) none = absurd (true≢false (sym none))

-- a part after a run over it is the part after the run's writes
pub part_with : (rows : Rows) (run : Writes) (old new : Values) → is_sorted bytes_cmp rows ≡ true
    → run ≡ map.from_sorted {R = bytes_cmp} rows
    → ((q : List ℕ) → map.get new q ≡ unwrap_or (map.get run q) (map.get old q)) → new ≡ with_writes rows old
part_with rows run old new sorted is made =
    same_map bytes_total exact_texts new (with_writes rows old) (λ q.
    made q
    ∙ ap (λ w. unwrap_or w (map.get old q)) (sym (found_run rows run q sorted (sym is)))
    ∙ sym (get-with_writes rows old q))

-- a list of length 0 is empty
pub none_left : {A : Type 0} (xs : List A) → length xs ≡ 0 → xs ≡ []
none_left [] none = refl
none_left (x ∷ xs) none = absurd (omega (arith, none))
