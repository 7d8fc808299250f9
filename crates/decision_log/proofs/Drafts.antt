-- The words that a pass stores and reads: what changes of them, and what doesn't, where a word of the log changes.
use Rattle.std.proofs.Common.{◌≡◌, ◌≢◌, ℕ, zero, suc, ◌+◌, ◌<◌, ◌≤◌, List, [], ◌∷◌, ◌++◌, length, take, set, get_or}
use Rattle.std.proofs.Common.{refl, ap, sym, ◌∙◌, subst, arith, length-append}
use Rattle.std.proofs.lemmas.List.{get_or-set_same, get_or-set_other, length-take-le, get_or_push}
use mathlib.Core.Logic.{dite}
use Rattle.decision_log.specs.Draft.{HasWordsAt}
use native.Mathlib.Decide.{ℕ_discrete}

-- a draft of no word stands anywhere
pub holds_nothing : (words : List ℕ) (at : ℕ) (draft : List ℕ) → draft ≡ [] → HasWordsAt words at draft
holds_nothing words at draft blank = subst (λ d. HasWordsAt words at d) (sym blank) (λ i below. absurd (omega arith))

-- changing a word that isn't one of a draft's leaves the draft where it stands
pub holds_beside : (words : List ℕ) (word new at : ℕ) (draft : List ℕ) → ((i : ℕ) → i < length draft → at + i ≢ word)
    → HasWordsAt words at draft
    → HasWordsAt (set words word new) at draft
holds_beside words word new at draft out holds i below =
    get_or-set_other words word (at + i) new 0 (out i below) ∙ holds i below

-- where a draft stands, a store of its next word, or of one of its words once more, leaves the draft up to that word,
-- and the new word after it
pub holds_one_more : (words : List ℕ) (at index new : ℕ) (draft : List ℕ) → index ≤ length draft
    → at + index < length words → HasWordsAt words at draft
    → HasWordsAt (set words (at + index) new) at (take index draft ++ new ∷ [])
holds_one_more words at index new draft along within holds i below =
    let len : length (take index draft) ≡ index = length-take-le index draft along in
    dite (ℕ_discrete i index)
    (λ e. ap (λ k. get_or (set words (at + index) new) (at + k) 0) e ∙ get_or-set_same words (at + index) new 0 within
    ∙ sym (get_or_push (take index draft) new 0 i (len ∙ sym e)))
    (λ n.
    let less : i < index = omega (arith, below, length-append (take index draft) (new ∷ [])) in
    get_or-set_other words (at + index) (at + i) new 0 (λ e. n (omega arith)) ∙ holds i (omega arith)
    ∙ front (new ∷ []) draft index i less along)
  where
    front : (ys xs : List ℕ) (n i : ℕ) → i < n → n ≤ length xs → get_or xs i 0 ≡ get_or (take n xs ++ ys) i 0
    front ys [] n i less along = absurd (omega arith)
    front ys (x ∷ xs) zero i less along = absurd (omega arith)
    front ys (x ∷ xs) (suc n) zero less along = refl
    front ys (x ∷ xs) (suc n) (suc i) less along = front ys xs n i (omega arith) (omega arith)

-- if the first `index` words that were read are those of a spelling, and the next one read is too, so are index + 1
-- words
pub one_more : (words spelled : List ℕ) (index word : ℕ) → index < length words → word ≡ get_or spelled index 0
    → ((k : ℕ) → k < index → get_or words k 0 ≡ get_or spelled k 0) → (k : ℕ) → k < index + 1
    → get_or (set words index word) k 0 ≡ get_or spelled k 0
one_more words spelled index word within is before k below =
    dite (ℕ_discrete k index)
    (λ e. ap (λ n. get_or (set words index word) n 0) e ∙ get_or-set_same words index word 0 within ∙ is
    ∙ ap (λ n. get_or spelled n 0) (sym e))
    (λ n. get_or-set_other words index k word 0 n ∙ before k (omega arith))
