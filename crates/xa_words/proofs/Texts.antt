-- A text and its eight words: each gives the other back.
use Rattle.std.proofs.Common.{◌≡◌, ℕ, zero, suc, ◌+◌, ◌*◌, ◌/◌, ◌%◌, ◌^◌, ◌<◌, ◌≤◌, ◌-◌, List, [], ◌∷◌, ◌++◌, length}
use Rattle.std.proofs.Common.{get_or, take, refl, ap, sym, ◌∙◌, arith, lit<}
use Rattle.std.proofs.lemmas.List.{ext_get_or, get_or_past, get_or_append_left, get_or-append_right, get_or-take}
use Rattle.std.proofs.{lemmas.Nat.{from_be_bytes-to_be_bytes_8, be_bytes_8}, Math.Seq.take-append-add}
use Rattle.std.specs.Int.{w64, from_be_bytes, to_be_bytes}
use mathlib.Core.Logic.{dite}
use Rattle.xa_words.specs.{Entry.IsText, Words.{eight_bytes, text_word, text_words, byte_of}}
use native.Mathlib.Decide.{dec_lt}

-- what holds of 0 to 7 holds of each number below 8
below_eight : (P : ℕ → Type 0) → P 0 → P 1 → P 2 → P 3 → P 4 → P 5 → P 6 → P 7 → (n : ℕ) → n < 8 → P n
below_eight P a b c d e f g h zero l = a
below_eight P a b c d e f g h (suc zero) l = b
below_eight P a b c d e f g h (suc (suc zero)) l = c
below_eight P a b c d e f g h (suc (suc (suc zero))) l = d
below_eight P a b c d e f g h (suc (suc (suc (suc zero)))) l = e
below_eight P a b c d e f g h (suc (suc (suc (suc (suc zero))))) l = f
below_eight P a b c d e f g h (suc (suc (suc (suc (suc (suc zero)))))) l = g
below_eight P a b c d e f g h (suc (suc (suc (suc (suc (suc (suc zero))))))) l = h
below_eight P a b c d e f g h (suc (suc (suc (suc (suc (suc (suc (suc n)))))))) l = absurd (omega arith)

-- each of a text's eight words is that of its eight bytes from there on
pub word_at : (text : List ℕ) (index : ℕ) → index < 8 → get_or (text_words text) index 0 ≡ text_word text (8 * index)
word_at text =
    below_eight (λ n. get_or (text_words text) n 0 ≡ text_word text (8 * n)) refl refl refl refl refl refl refl refl

-- the bytes of a word are the text's eight bytes from its place on; past the end they are 0
byte_at : (text : List ℕ) (place index : ℕ) → index < 8
    → get_or (eight_bytes text place) index 0 ≡ get_or text (place + index) 0
byte_at text place =
    below_eight (λ n. get_or (eight_bytes text place) n 0 ≡ get_or text (place + n) 0)
    (ap (λ n. get_or text n 0) (omega arith)) refl refl refl refl refl refl refl

-- each element is a byte, below 256
Small : List ℕ → Type 0
Small text = (i : ℕ) → get_or text i 0 < 256

-- the eight elements of a word are bytes, if the text's are
bytes_small : (text : List ℕ) → ((i : ℕ) → get_or text i 0 < 256) → (place index : ℕ)
    → get_or (eight_bytes text place) index 0 < 256
bytes_small text small place zero = small place
bytes_small text small place (suc zero) = small (place + 1)
bytes_small text small place (suc (suc zero)) = small (place + 2)
bytes_small text small place (suc (suc (suc zero))) = small (place + 3)
bytes_small text small place (suc (suc (suc (suc zero)))) = small (place + 4)
bytes_small text small place (suc (suc (suc (suc (suc zero))))) = small (place + 5)
bytes_small text small place (suc (suc (suc (suc (suc (suc zero)))))) = small (place + 6)
bytes_small text small place (suc (suc (suc (suc (suc (suc (suc zero))))))) = small (place + 7)
bytes_small text small place (suc (suc (suc (suc (suc (suc (suc (suc n)))))))) = lit< tt

-- a word gives its eight bytes back, the first as the highest
word_bytes : (text : List ℕ) → ((i : ℕ) → get_or text i 0 < 256) → (place : ℕ)
    → to_be_bytes w64 (text_word text place) ≡ eight_bytes text place
unfolding text_word
word_bytes text small place = be_bytes_8 (eight_bytes text place) (from_be_bytes w64 (eight_bytes text place)) refl
    (bytes_small text small place) refl

-- the words of a text hold its bytes
pub spread : (text : List ℕ) → IsText text → (place : ℕ) → place < 64
    → byte_of (text_words text) place ≡ get_or text place 0
unfolding byte_of
spread text is place within =
    ap (λ n. get_or (to_be_bytes w64 n) (place % 8) 0) (word_at text (place / 8) (omega arith))
    ∙ ap (λ bs. get_or bs (place % 8) 0) (word_bytes text is.bytes (8 * (place / 8)))
    ∙ byte_at text (8 * (place / 8)) (place % 8) (omega arith)
    ∙ ap (λ n. get_or text n 0) (omega arith)

-- texts of one length and the same words are one
pub one_text : (left right : List ℕ) → IsText left → IsText right → length left ≡ length right
    → text_words left ≡ text_words right → left ≡ right
one_text left right l r len same =
    ext_get_or 0 left right len
    (λ i below. sym (spread left l i (omega (arith, l.fits))) ∙ ap (λ ws. byte_of ws i) same
    ∙ spread right r i (omega (arith, l.fits)))

-- a word of a text is of 64 bits
pub text_word-fits : (text : List ℕ) → IsText text → (place : ℕ) → text_word text place < 2 ^ 64
unfolding text_word
text_word-fits text is place =
    let a = is.bytes place in
    let b = is.bytes (place + 1) in
    let c = is.bytes (place + 2) in
    let d = is.bytes (place + 3) in
    let e = is.bytes (place + 4) in
    let f = is.bytes (place + 5) in
    let g = is.bytes (place + 6) in
    let h = is.bytes (place + 7) in
    omega arith

-- behind the end of a text its words are 0
pub past_the_end : (text : List ℕ) (place : ℕ) → length text ≤ place → text_word text place ≡ 0
unfolding text_word
past_the_end text place past =
    let zeros : List ℕ = 0 ∷ 0 ∷ 0 ∷ 0 ∷ 0 ∷ 0 ∷ 0 ∷ 0 ∷ [] in
    let zero_at : (i : ℕ) → get_or text (place + i) 0 ≡ 0 = λ i. get_or_past text (place + i) 0 (omega (arith, past)) in
    let none_else : (i : ℕ) → i < 8 → get_or zeros i 0 ≡ 0 =
    below_eight (λ n. get_or zeros n 0 ≡ 0) refl refl refl refl refl refl refl refl in
    ap (from_be_bytes w64) (ext_get_or 0 (eight_bytes text place) zeros refl
    (λ i below. byte_at text place i below ∙ zero_at i ∙ sym (none_else i below)))

-- if a text is the bytes of the first words, then the text and the bytes of the next word are those of one word more
pub one_word_more : (words text : List ℕ) (index : ℕ) → length text ≡ 8 * index
    → ((place : ℕ) → place < length text → get_or text place 0 ≡ byte_of words place)
    → (place : ℕ) → place < 8 * (index + 1) → get_or (text ++ to_be_bytes w64 (get_or words index 0)) place 0
    ≡ byte_of words place
unfolding byte_of
one_word_more words text index size bytes place below =
    dite (dec_lt place (length text))
    (λ within. get_or_append_left text (to_be_bytes w64 (get_or words index 0)) 0 place within ∙ bytes place within)
    (λ behind.
    let q : index ≡ place / 8 = omega (arith, size, behind, below) in
    let r : place - 8 * index ≡ place % 8 = omega (arith, size, behind, below) in
    get_or-append_right text (to_be_bytes w64 (get_or words index 0)) (8 * index) place 0 size
    (omega (arith, size, behind))
    ∙ ap (λ n. get_or (to_be_bytes w64 (get_or words index 0)) n 0) r
    ∙ ap (λ n. get_or (to_be_bytes w64 (get_or words n 0)) (place % 8) 0) q)

-- the bytes of the first words and some of the next one's are the bytes that the words spell
pub some_bytes_more : (words text : List ℕ) (index count : ℕ) → length text ≡ 8 * index → count ≤ 8
    → ((place : ℕ) → place < length text → get_or text place 0 ≡ byte_of words place)
    → (place : ℕ) → place < 8 * index + count
    → get_or (text ++ take count (to_be_bytes w64 (get_or words index 0))) place 0 ≡ byte_of words place
some_bytes_more words text index count size few bytes place below =
    let next = to_be_bytes w64 (get_or words index 0) in
    ap (λ xs. get_or xs place 0) (sym (take-append-add text next count))
    ∙ get_or-take (length text + count) (text ++ next) place 0 (omega (arith, size, below))
    ∙ one_word_more words text index size bytes place (omega (arith, few, below))

-- bytes that are those of the words of a text of the same length are that text
pub only_text : (words text other : List ℕ) → IsText other → length text ≡ length other
    → ((place : ℕ) → place < length text → get_or text place 0 ≡ byte_of words place) → text_words other ≡ words
    → text ≡ other
only_text words text other is len bytes same =
    ext_get_or 0 text other len
    (λ i below. bytes i below ∙ ap (λ ws. byte_of ws i) (sym same) ∙ spread other is i (omega (arith, is.fits, len)))
