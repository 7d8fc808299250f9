-- How a text is cut where a kind of byte ends, place by place.
use Rattle.std.proofs.Common.{◌≡◌, ℕ, ◌+◌, ◌<◌, ◌≤◌, Bool, true, false, List, [], ◌∷◌, ◌++◌, length, take, drop, get_or}
use Rattle.std.proofs.{Common.{refl, sym, ◌∙◌, add-one, append_assoc, drop-cons, suc}, Math.{Nat.le_refl, Seq.take-suc}}
use Rattle.std.proofs.lemmas.List.{drop_all, take_all, append-nil}
use Rattle.xa_xid.specs.Bytes.{front, behind}

-- `front` has the bytes up to the first that doesn't pass, and `behind` has the rest: a first byte that passes is in
-- front
pub front-passes : (p : ℕ → Bool) (byte : ℕ) (text : List ℕ) → p byte ≡ true
    → front p (byte ∷ text) ≡ byte ∷ front p text
unfolding front
front-passes p byte text e = rw e refl

-- if the first byte doesn't pass, nothing is in front
pub front-stops : (p : ℕ → Bool) (byte : ℕ) (text : List ℕ) → p byte ≡ false → front p (byte ∷ text) ≡ []
unfolding front
front-stops p byte text e = rw e refl

-- a first byte that passes belongs to the front: the rest is that of the bytes after it
pub behind-passes : (p : ℕ → Bool) (byte : ℕ) (text : List ℕ) → p byte ≡ true → behind p (byte ∷ text) ≡ behind p text
unfolding behind
behind-passes p byte text e = rw e refl

-- if the first byte doesn't pass, all bytes are behind
pub behind-stops : (p : ℕ → Bool) (byte : ℕ) (text : List ℕ) → p byte ≡ false → behind p (byte ∷ text) ≡ byte ∷ text
unfolding behind
behind-stops p byte text e = rw e refl

-- the front of an empty text is empty
pub front-nil : (p : ℕ → Bool) → front p [] ≡ []
unfolding front
front-nil p = refl

-- the rest of an empty text is empty
pub behind-nil : (p : ℕ → Bool) → behind p [] ≡ []
unfolding behind
behind-nil p = refl

-- all bytes before a place pass, so the text is cut at that place or later
pub record Passed (p : ℕ → Bool) (text : List ℕ) (place : ℕ) : Type 0 where
  pub before : front p text ≡ take place text ++ front p (drop place text)
  pub left : behind p text ≡ behind p (drop place text)

-- the loop's step: if all bytes before a place pass and the one there does, all bytes before the next place pass
pub passed_more : (p : ℕ → Bool) (text : List ℕ) (place : ℕ) → place < length text → p (get_or text place 0) ≡ true
    → Passed p text place → Passed p text (place + 1)
passed_more p text place within passes so_far = record {
  before =
      so_far.before
      ∙ rw (drop-cons text place 0 within, front-passes p _ _ passes, add-one, take-suc text place 0 within)
      (sym (append_assoc (take place text) (get_or text place 0 ∷ []) (front p (drop (suc place) text))));
  left = so_far.left ∙ rw (drop-cons text place 0 within, behind-passes p _ _ passes, add-one) refl;
}

-- the loop's end: if all bytes before a place pass and the one there doesn't, the text is cut at the place
pub passed_stop : (p : ℕ → Bool) (text : List ℕ) (place : ℕ) → place < length text → p (get_or text place 0) ≡ false
    → Passed p text place → (front p text ≡ take place text) × (behind p text ≡ drop place text)
passed_stop p text place within fails so_far = (
  so_far.before ∙ rw (drop-cons text place 0 within, front-stops p _ _ fails) (append-nil _),
  so_far.left ∙ rw (drop-cons text place 0 within) (behind-stops p _ _ fails),
)

-- the loop's end: if all bytes of a text pass, all of it is in front, and nothing is behind
pub passed_all : (p : ℕ → Bool) (text : List ℕ) (place : ℕ) → length text ≤ place → Passed p text place
    → (front p text ≡ take (length text) text) × (behind p text ≡ drop (length text) text)
passed_all p text place past so_far =
    let none : drop place text ≡ [] = drop_all place text past in (
      so_far.before ∙ rw (none, front-nil p, append-nil, take_all place text past)
          (sym (take_all (length text) text (le_refl _))),
      so_far.left ∙ rw none (behind-nil p ∙ sym (drop_all (length text) text (le_refl _))),
    )
