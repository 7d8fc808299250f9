use Rattle.std.proofs.Common.{◌≡◌, ◌≤◌, ℕ, List, [], ◌∷◌, length, arith}
use Rattle.xa_words.{specs.Words.{text_word, text_words}, proofs.Texts.past_the_end}
use Rattle.xa_words.proofs.layout.text_words.Goals as goal

-- a text of at most eight bytes fills one word
one_filled : (text : List ℕ) (first : ℕ) → first ≡ text_word text 0 → length text ≤ 8
    → first ∷ 0 ∷ 0 ∷ 0 ∷ 0 ∷ 0 ∷ 0 ∷ 0 ∷ [] ≡ text_words text
one_filled text first is few =
    let b : text_word text 8 ≡ 0 = past_the_end text 8 few in
    let c : text_word text 16 ≡ 0 = past_the_end text 16 (omega (arith, few)) in
    let d : text_word text 24 ≡ 0 = past_the_end text 24 (omega (arith, few)) in
    let e : text_word text 32 ≡ 0 = past_the_end text 32 (omega (arith, few)) in
    let f : text_word text 40 ≡ 0 = past_the_end text 40 (omega (arith, few)) in
    let g : text_word text 48 ≡ 0 = past_the_end text 48 (omega (arith, few)) in
    let h : text_word text 56 ≡ 0 = past_the_end text 56 (omega (arith, few)) in
    cc

pub returns-then-text-le8 : goal.returns-then-text-le8
returns-then-text-le8 c = one_filled c.args.text.now c.text_word.result c.text_word.ensures c.if-text-le8.true
