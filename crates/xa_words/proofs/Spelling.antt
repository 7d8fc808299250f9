-- An entry and its 21 words: each gives the other back.
use Rattle.std.proofs.Common.{◌≡◌, ℕ, ◌<◌, ◌^◌, List, [], ◌∷◌, ◌++◌, length, get_or, take, drop, refl, ap, sym, ◌∙◌}
use Rattle.std.proofs.{Common.arith, lemmas.List.{take-append-drop, length-drop, take_all, Elements.All-from_recursion}}
use Rattle.std.specs.List.{All}
use Rattle.xa_words.specs.{Entry.{Entry, IsEntry, IsText}, Words.{Parts, parts_of, text_words, lay_out, words_of}}
use Rattle.xa_words.proofs.{Texts.{one_text, text_word-fits}, KindTable.{within, one_statement}}

-- the words have the session, the kind, two lengths, the formatID and the two texts at their places
pub record Pieces (words : List ℕ) (of : ℕ) (parts : Parts) : Type 0 where
  pub all : length words ≡ 21
  pub session : get_or words 0 0 ≡ of
  pub kind : get_or words 1 0 ≡ parts.kind
  pub first_length : get_or words 2 0 ≡ length parts.first
  pub second_length : get_or words 3 0 ≡ length parts.second
  pub format_id : get_or words 4 0 ≡ parts.format_id
  pub first : take 8 (drop 5 words) ≡ text_words parts.first
  pub second : take 8 (drop 13 words) ≡ text_words parts.second

-- the words of a layout are the pieces that it was made of
pub pieces : (words : List ℕ) (session : ℕ) (parts : Parts) → words ≡ lay_out session parts → Pieces words session parts
pieces words session parts is = record {
  all = ap length is;
  session = ap (λ ws. get_or ws 0 0) is;
  kind = ap (λ ws. get_or ws 1 0) is;
  first_length = ap (λ ws. get_or ws 2 0) is;
  second_length = ap (λ ws. get_or ws 3 0) is;
  format_id = ap (λ ws. get_or ws 4 0) is;
  first = ap (λ ws. take 8 (drop 5 ws)) is;
  second = ap (λ ws. take 8 (drop 13 ws)) is;
}

-- parts are equal if each of the four is
parts_by : (p q : Parts) → p.kind ≡ q.kind → p.format_id ≡ q.format_id → p.first ≡ q.first → p.second ≡ q.second → p ≡ q
parts_by p q k f a b i = record { kind = k i; format_id = f i; first = a i; second = b i }

-- entries are equal if their sessions and statements are
pub entry_by : (left right : Entry) → left.session ≡ right.session → left.statement ≡ right.statement → left ≡ right
entry_by left right s st i = record { session = s i; statement = st i }

-- entries of the same words are one
pub one_entry : (left right : Entry) → IsEntry left → IsEntry right → words_of left ≡ words_of right → left ≡ right
unfolding words_of
one_entry left right l r same =
    let wl = within left.statement l.kind l.limits in
    let wr = within right.statement r.kind r.limits in
    let p = parts_of left.statement in
    let q = parts_of right.statement in
    let same_first : p.first ≡ q.first =
    one_text p.first q.first wl.first wr.first (ap (λ ws. get_or ws 2 0) same) (ap (λ ws. take 8 (drop 5 ws)) same) in
    let same_second : p.second ≡ q.second =
    one_text p.second q.second wl.second wr.second (ap (λ ws. get_or ws 3 0) same)
    (ap (λ ws. take 8 (drop 13 ws)) same) in
    let same_parts : p ≡ q =
    parts_by p q (ap (λ ws. get_or ws 1 0) same) (ap (λ ws. get_or ws 4 0) same) same_first same_second in
    entry_by left right (ap (λ ws. get_or ws 0 0) same)
    (one_statement left.statement right.statement l.kind r.kind same_parts)

-- an entry is 21 words
pub length-words_of : (entry : Entry) → length (words_of entry) ≡ 21
unfolding words_of
length-words_of entry = refl

-- each word of an entry is below 2^64
pub words_of-fit : (entry : Entry) → IsEntry entry → All (λ word. word < 2 ^ 64) (words_of entry)
unfolding words_of
words_of-fit entry is =
    let w = within entry.statement is.kind is.limits in
    All-from_recursion (λ word. word < 2 ^ 64) (words_of entry) (
      omega (arith, is.last_session),
      (
        omega (arith, w.high),
        (
          omega (arith, w.first.fits),
          (
            omega (arith, w.second.fits),
            (
              w.format_id,
              (
                text_word-fits _ w.first 0,
                (
                  text_word-fits _ w.first 8,
                  (
                    text_word-fits _ w.first 16,
                    (
                      text_word-fits _ w.first 24,
                      (
                        text_word-fits _ w.first 32,
                        (
                          text_word-fits _ w.first 40,
                          (
                            text_word-fits _ w.first 48,
                            (
                              text_word-fits _ w.first 56,
                              (
                                text_word-fits _ w.second 0,
                                (
                                  text_word-fits _ w.second 8,
                                  (
                                    text_word-fits _ w.second 16,
                                    (
                                      text_word-fits _ w.second 24,
                                      (
                                        text_word-fits _ w.second 32,
                                        (
                                          text_word-fits _ w.second 40,
                                          (
                                            text_word-fits _ w.second 48,
                                            (text_word-fits _ w.second 56, tt),
                                          ),
                                        ),
                                      ),
                                    ),
                                  ),
                                ),
                              ),
                            ),
                          ),
                        ),
                      ),
                    ),
                  ),
                ),
              ),
            ),
          ),
        ),
      ),
    )

-- the words of an entry are the pieces of its statement's parts
pub pieces_of : (words : List ℕ) (entry : Entry) → words ≡ words_of entry
    → Pieces words entry.session (parts_of entry.statement)
unfolding words_of
pieces_of words entry same = pieces words entry.session (parts_of entry.statement) same

-- the parts of an entry's statement are its two texts, with the kind and the formatID that stand in the entry's words
pub parts_read : (words : List ℕ) (entry : Entry) → words ≡ words_of entry → (first second : List ℕ)
    → first ≡ (parts_of entry.statement).first → second ≡ (parts_of entry.statement).second
    → parts_of entry.statement
    ≡ record { kind = get_or words 1 0; format_id = get_or words 4 0; first = first; second = second }
parts_read words entry same first second one two =
    let p = pieces_of words entry same in
    parts_by (parts_of entry.statement)
    (record { kind = get_or words 1 0; format_id = get_or words 4 0; first = first; second = second }) (sym p.kind)
    (sym p.format_id) (sym one) (sym two)
