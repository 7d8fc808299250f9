-- The words of an entry, read in three parts: what comes before its texts, and as much of each text as is there.
use Rattle.std.proofs.Common.{◌≡◌, ℕ, ◌+◌, ◌-◌, ◌*◌, ◌<◌, ◌≤◌, List, length, get_or, sym, ◌∙◌, arith}
use Rattle.std.proofs.lemmas.List.{ext_get_or}
use mathlib.Core.Logic.{dite}
use Rattle.xa_words.{specs.{Entry.Entry, Words.words_of}, proofs.Spelling.length-words_of}
use Rattle.xa_words.proofs.Behind.{behind_first, behind_second}
use native.Mathlib.Decide.{dec_le}

-- between `old` and `new` the words from `from` to `end` became the entry's, and those beside them stayed
pub record ReadsPart (from end : ℕ) (entry : Entry) (old new : List ℕ) : Type 0 where
  pub below : (word : ℕ) → word < from → get_or new word 0 ≡ get_or old word 0
  pub above : (word : ℕ) → end ≤ word → get_or new word 0 ≡ get_or old word 0
  pub read : (word : ℕ) → from ≤ word → word < end → get_or new word 0 ≡ get_or (words_of entry) word 0

-- a text of `size` bytes ends within its first `words` words, of eight: each word behind these begins past its end
abbrev pub Fills : ℕ → ℕ → Type 0
Fills size words = (word : ℕ) → words ≤ word → word < 8 → size ≤ 8 * word

-- if all words were 0, and then the first five were read, and as many of each text as it fills, by its length among
-- these, each word is the entry's
one_read : (entry : Entry) (none head one all : List ℕ) (first second : ℕ)
    → ((word : ℕ) → word < 21 → get_or none word 0 ≡ 0) → ReadsPart 0 5 entry none head
    → ReadsPart 5 (5 + first) entry head one
    → ReadsPart 13 (13 + second) entry one all
    → first ≤ 8
    → Fills (get_or head 2 0) first
    → Fills (get_or one 3 0) second
    → (word : ℕ) → word < 21
    → get_or all word 0 ≡ get_or (words_of entry) word 0
one_read entry none head one all first second empty h f s short fills fills' word less =
    dite (dec_le 13 word)
    (λ late.
    dite (dec_le (13 + second) word)
    (λ past.
    let three : get_or one 3 0 ≡ get_or (words_of entry) 3 0 =
    f.below 3 (omega arith) ∙ h.read 3 (omega arith) (omega arith) in
    s.above word past ∙ f.above word (omega (arith, late, short)) ∙ h.above word (omega (arith, late)) ∙ empty word less
    ∙ sym (behind_second entry word (get_or one 3 0) three late less
    (fills' (word - 13) (omega (arith, past)) (omega (arith, less)))))
    (λ within. s.read word late (omega (arith, within))))
    (λ early.
    s.below word (omega (arith, early))
    ∙ dite (dec_le 5 word)
    (λ text.
    dite (dec_le (5 + first) word)
    (λ past.
    let two : get_or head 2 0 ≡ get_or (words_of entry) 2 0 = h.read 2 (omega arith) (omega arith) in
    f.above word past ∙ h.above word text ∙ empty word less
    ∙ sym (behind_first entry word (get_or head 2 0) two text (omega (arith, early))
    (fills (word - 5) (omega (arith, past)) (omega (arith, early)))))
    (λ within. f.read word text (omega (arith, within))))
    (λ before. f.below word (omega (arith, before)) ∙ h.read word (omega arith) (omega (arith, before))))

-- if all words were 0, and then the first five were read, and as many of each text as it fills, all 21 are the entry's
pub all_read : (entry : Entry) (none head one all : List ℕ) (first second : ℕ)
    → ((word : ℕ) → word < 21 → get_or none word 0 ≡ 0) → ReadsPart 0 5 entry none head
    → ReadsPart 5 (5 + first) entry head one
    → ReadsPart 13 (13 + second) entry one all
    → first ≤ 8
    → Fills (get_or head 2 0) first
    → Fills (get_or one 3 0) second
    → length all ≡ 21
    → all ≡ words_of entry
all_read entry none head one all first second empty h f s short fills fills' sized =
    ext_get_or 0 all (words_of entry) (sized ∙ sym (length-words_of entry))
    (λ word below. one_read entry none head one all first second empty h f s short fills fills' word
    (omega (arith, sized, below)))
