-- The words of an entry behind the end of its texts.
use Rattle.std.proofs.Common.{◌≡◌, ℕ, ◌+◌, ◌-◌, ◌*◌, ◌<◌, ◌≤◌, List, length, get_or, take, drop, refl, ap, sym, ◌∙◌}
use Rattle.std.proofs.{Common.arith, lemmas.List.{get_or-drop, get_or-take}}
use Rattle.xa_words.specs.{Entry.Entry, Words.{parts_of, text_word, text_words, words_of}}
use Rattle.xa_words.proofs.{Texts.{word_at, past_the_end}, Spelling.{Pieces, pieces}}

-- the words of an entry are made of its session and the parts of its statement
own_pieces : (entry : Entry) → Pieces (words_of entry) entry.session (parts_of entry.statement)
unfolding words_of
own_pieces entry = pieces (words_of entry) entry.session (parts_of entry.statement) refl

-- a word among the eight of a text is 0 if the text ends before it
behind : (words text : List ℕ) (start index size : ℕ) → take 8 (drop start words) ≡ text_words text → size ≡ length text
    → start ≤ index → index < start + 8
    → size ≤ 8 * (index - start) → get_or words index 0 ≡ 0
behind words text start index size piece is from below past =
    let at : index ≡ start + (index - start) = omega arith in
    let near : index - start < 8 = omega arith in
    ap (λ n. get_or words n 0) at
    ∙ sym (get_or-drop start words (index - start) 0)
    ∙ sym (get_or-take 8 (drop start words) (index - start) 0 near)
    ∙ ap (λ ws. get_or ws (index - start) 0) piece
    ∙ word_at text (index - start) near
    ∙ past_the_end text (8 * (index - start)) (omega (arith, is, past))

-- a word past the end of the first text (words 5 to 12) is 0
pub behind_first : (entry : Entry) (index size : ℕ) → size ≡ get_or (words_of entry) 2 0 → 5 ≤ index → index < 13
    → size ≤ 8 * (index - 5)
    → get_or (words_of entry) index 0 ≡ 0
behind_first entry index size is from below past =
    let p = own_pieces entry in
    behind (words_of entry) (parts_of entry.statement).first 5 index size p.first (is ∙ p.first_length) from below past

-- a word past the end of the second text (words 13 to 20) is 0
pub behind_second : (entry : Entry) (index size : ℕ) → size ≡ get_or (words_of entry) 3 0 → 13 ≤ index → index < 21
    → size ≤ 8 * (index - 13)
    → get_or (words_of entry) index 0 ≡ 0
behind_second entry index size is from below past =
    let p = own_pieces entry in
    behind (words_of entry) (parts_of entry.statement).second 13 index size p.second
    (is ∙ p.second_length) from below past
