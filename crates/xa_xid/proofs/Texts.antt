-- Bytes that are kept while they are few enough.
use Rattle.std.proofs.Common.{◌≡◌, ℕ, ◌<◌, ◌≤◌, List, [], ◌∷◌, ◌++◌, length, Some, None, refl, sym, ◌∙◌, ap, arith}
use Rattle.std.proofs.{Common.{length-append, inl, inr}, lemmas.Bool.{le-leb, lt-leb, cases_lt}}
use Rattle.xa_xid.specs.{Literal.kept, Xid.Text}

-- a literal of up to 64 bytes is kept
pub kept-fits : (bytes : List ℕ) → length bytes ≤ 64 → kept bytes ≡ Some (record { items = bytes })
unfolding kept
kept-fits bytes fits = rw (le-leb (length bytes) 64 fits) refl

-- a literal of more than 64 bytes isn't kept
pub kept-past : (bytes : List ℕ) → 64 < length bytes → kept bytes ≡ None
unfolding kept
kept-past bytes past = rw (lt-leb (length bytes) 64 past) refl

-- None is never Some
none_is_some : {A : Type 0} (value : A) → None ≡ Some value → ⊥
none_is_some value e = cc

-- a kept text has these bytes, at most 64
items_of : (bytes : List ℕ) (text : Text) → Some text ≡ kept bytes → (text.items ≡ bytes) × (length bytes ≤ 64)
items_of bytes text e = elim (cases_lt 64 (length bytes)) as (λ _. (text.items ≡ bytes) × (length bytes ≤ 64)) [
  | inl past ↦ absurd (none_is_some text (sym (e ∙ kept-past bytes past)))
  | inr fits ↦ let some : Some text ≡ Some (record { items = bytes }) = e ∙ kept-fits bytes fits in
      let same : text ≡ record { items = bytes } = cc in (ap (λ t. t.items) same, fits)
]

-- bytes that weren't kept are more than 64
past_of : (bytes : List ℕ) → None ≡ kept bytes → 64 < length bytes
past_of bytes e = elim (cases_lt 64 (length bytes)) as (λ _. 64 < length bytes) [
  | inl past ↦ past
  | inr fits ↦ let text : Text = record { items = bytes } in absurd (none_is_some text (e ∙ kept-fits bytes fits))
]

-- before the first byte the empty text is kept
pub kept_none : (text : Text) → text.items ≡ [] → Some text ≡ kept []
unfolding kept
kept_none text e = ap (λ bytes. Some (record { items = bytes })) e

-- a byte more is kept if there were fewer than 64
pub kept_grown : (bytes : List ℕ) (byte : ℕ) (old new : Text) → Some old ≡ kept bytes → (length old.items ≡ 64 → ⊥)
    → length old.items ≤ 64
    → new.items ≡ old.items ++ byte ∷ [] → Some new ≡ kept (bytes ++ byte ∷ [])
kept_grown bytes byte old new is room most grown =
    let same : old.items ≡ bytes = (items_of bytes old is).0 in
    let longer : new.items ≡ bytes ++ byte ∷ [] = grown ∙ rw same refl in
    let short : length (bytes ++ byte ∷ []) ≤ 64 =
    omega (arith, ap length same, length-append bytes (byte ∷ []), room) in
    ap (λ items. Some (record { items = items })) longer ∙ sym (kept-fits _ short)

-- if 64 bytes are kept, none are with one more
pub kept_full : (bytes : List ℕ) (byte : ℕ) (old : Text) → Some old ≡ kept bytes → length old.items ≡ 64
    → None ≡ kept (bytes ++ byte ∷ [])
kept_full bytes byte old is full =
    let same : old.items ≡ bytes = (items_of bytes old is).0 in
    sym (kept-past _ (omega (arith, ap length same, length-append bytes (byte ∷ []))))

-- bytes that aren't kept aren't with one more
pub kept_past : (bytes : List ℕ) (byte : ℕ) → None ≡ kept bytes → None ≡ kept (bytes ++ byte ∷ [])
kept_past bytes byte is = sym (kept-past _ (omega (arith, past_of bytes is, length-append bytes (byte ∷ []))))
