-- Rows that are packed: what stands behind their bytes doesn't change them, and one that is put there is read again.
use Rattle.std.proofs.Common.{length, arith, [], ◌≡◌, ◌≤◌, ◌+◌, ◌++◌, ℕ, zero, suc, List, ◌∷◌, refl, ap, sym, ◌∙◌}
use Rattle.std.proofs.{Common.{append_assoc, subst, take}, lemmas.List.{take-append-le, map-append, length-append}}
use Rattle.std.proofs.{lemmas.List.Elements.All-tail, Math.Seq.{drop-append_seam, take-append_seam, take-length}}
use Rattle.std.specs.{Prelude.{Option, Some, None}, Option.{option_map, option_map_or}, List.All}
use Rattle.xa_server.specs.declared.packed.Place.{Place}
use Rattle.xa_server.specs.Packed.{PackedRow, text_of, part_of, row_of, rows_of, value_length, Fits}

-- the others of elements that all are so
pub others_so : {A : Type 0} (P : A → Type 0) (list : List A) (x : A) (xs : List A) → list ≡ x ∷ xs → All P list
    → All P xs
others_so P list x xs is all = All-tail P x xs (subst (All P) is all)

-- a part of bytes, with more bytes behind them
part_before : (bytes more : List ℕ) (start count : ℕ) → start + count ≤ length bytes
    → part_of (bytes ++ more) start count ≡ part_of bytes start count
part_before bytes more zero count fits = take-append-le count bytes more (omega (arith, fits))
part_before [] more (suc start) count fits = absurd (omega (arith, fits))
part_before (b ∷ bytes) more (suc start) count fits = part_before bytes more start count (omega (arith, fits))

-- a value, with more bytes behind
value_before : (bytes more : List ℕ) (start : ℕ) (value : Option ℕ)
    → start + option_map_or (λ count. count) value 0 ≤ length bytes
    → option_map (λ count. text_of (part_of (bytes ++ more) start count)) value
    ≡ option_map (λ count. text_of (part_of bytes start count)) value
value_before bytes more start None fits = refl
value_before bytes more start (Some count) fits = ap (λ b. Some (text_of b)) (part_before bytes more start count fits)

-- a row, with more bytes behind
row_before : (bytes more : List ℕ) (place : Place) → Fits bytes place
    → row_of (bytes ++ more) place ≡ row_of bytes place
row_before bytes more place fits =
    λ i. (
      part_before bytes more place.start place.key (omega (arith, fits.0)) i,
      value_before bytes more (place.start + place.key) place.value fits.0 i,
    )

-- rows, with more bytes behind
rows_before : (bytes more : List ℕ) (places : List Place) → All (Fits bytes) places
    → rows_of (bytes ++ more) places ≡ rows_of bytes places
rows_before bytes more [] fit = refl
rows_before bytes more (place ∷ places) fit =
    λ i. row_before bytes more place (fit 0 place (omega arith)) i
    ∷ rows_before bytes more places (All-tail (Fits bytes) place places fit) i

-- the first of two texts behind bytes
text_behind : (bytes key more : List ℕ) → part_of ((bytes ++ key) ++ more) (length bytes) (length key) ≡ key
text_behind bytes key more =
    ap (λ b. part_of b (length bytes) (length key)) (append_assoc bytes key more)
    ∙ ap (take (length key)) (drop-append_seam bytes (key ++ more)) ∙ take-append_seam key more

-- the second one
text_after : (bytes key value : List ℕ)
    → part_of ((bytes ++ key) ++ value) (length bytes + length key) (length value) ≡ value
text_after bytes key value =
    ap (λ n. part_of ((bytes ++ key) ++ value) n (length value)) (sym (length-append bytes key))
    ∙ ap (take (length value)) (drop-append_seam (bytes ++ key) value) ∙ take-length value

-- a row that is put behind bytes: of its value, if it has one, `now` is the text
module _ {A : Type 0} (now : A → List ℕ) where
  -- its place
  abbrev pub place_behind : ℕ → List ℕ → Option A → Place
  place_behind start key value =
      record { start = start; key = length key; value = option_map (λ v. length (now v)) value }

  -- it is read again
  read_again : (bytes key : List ℕ) (value : Option A)
      → row_of ((bytes ++ key) ++ option_map_or now value []) (place_behind (length bytes) key value)
      ≡ (key, option_map (λ v. text_of (now v)) value)
  read_again bytes key None = ap (λ k. (k, None)) (text_behind bytes key [])
  read_again bytes key (Some v) =
      λ i. (text_behind bytes key (now v) i, Some (text_of (text_after bytes key (now v) i)))

  -- all rows, once one is put behind them
  pub rows_pushed : (bytes one two key given : List ℕ) (start : ℕ) (value : Option A) (place : Place)
      (places all : List Place) (rows : List PackedRow) → All (Fits bytes) places → one ≡ bytes ++ key
      → given ≡ option_map_or now value [] → two ≡ one ++ given → start ≡ length bytes
      → place ≡ place_behind start key value → all ≡ places ++ place ∷ [] → rows_of bytes places ≡ rows
      → rows_of two all ≡ rows ++ (key, option_map (λ v. text_of (now v)) value) ∷ []
  rows_pushed bytes one two key given start value place places all rows fit first_is given_is second_is begins place_is
      all_is seen_is =
      (λ i. rows_of ((second_is ∙ (λ j. first_is j ++ given_is j)) i)
      ((all_is ∙ ap (λ p. places ++ p ∷ []) (place_is ∙ ap (λ n. place_behind n key value) begins)) i))
      ∙ map-append (row_of ((bytes ++ key) ++ option_map_or now value [])) places
      (place_behind (length bytes) key value ∷ [])
      ∙ (λ i. (ap (λ b. rows_of b places) (append_assoc bytes key (option_map_or now value []))
      ∙ rows_before bytes (key ++ option_map_or now value []) places fit ∙ seen_is) i
      ++ read_again bytes key value i ∷ [])
