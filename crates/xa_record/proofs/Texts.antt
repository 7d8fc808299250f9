-- The texts of answers, and the number of a line.
use Rattle.std.proofs.Common.{◌≡◌, ℕ, ◌+◌, ◌<◌, ◌≤◌, List, [], ◌∷◌, ◌++◌, map, length, take, get_or, codes, refl, ap}
use Rattle.std.{proofs.{Common.{sym, ◌∙◌, append_assoc, append-nil}, lemmas.List.take_more}, specs.BTreeSet.insert_key}
use Rattle.std.specs.{declared.cmp.Ordering.{Ordering, TheVariants.{Less, Equal, Greater}}, Ordering.match_ordering}
use Rattle.xa_xid.specs.Xid.{bytes_cmp}
use Rattle.xa_judge.specs.declared.answer.Answer.{Answer}
use Rattle.xa_record.specs.{declared.line_event.NumberedEvent.NumberedEvent as NumberedRead, Kept.numbered_kept}
use Rattle.xa_record.specs.VerdictText.{answer_text, with_answers, texts_of, answers_text, number_of_line}
use Rattle.xa_record.{specs.VerdictText.line_number_at, proofs.Places.{slice_get-kept, slice_get-kept_past}}

-- putting in two lists of answers is putting in the first and then the second
with_answers-append : (texts : List (List ℕ)) (answers more : List Answer)
    → with_answers texts (answers ++ more) ≡ with_answers (with_answers texts answers) more
unfolding with_answers
with_answers-append texts [] more = refl
with_answers-append texts (answer ∷ answers) more =
    with_answers-append (insert_key bytes_cmp texts (answer_text answer)) answers more

-- the loop over answers: the text of one more is put in
with_answers-more : (answers : List Answer) (index : ℕ) (answer : Answer) → index < length answers
    → answer ≡ get_or answers index answer
    → texts_of (take (index + 1) answers) ≡ insert_key bytes_cmp (texts_of (take index answers)) (answer_text answer)
unfolding with_answers
with_answers-more answers index answer within at =
    ap texts_of (take_more answers index answer within ∙ ap (λ x. take index answers ++ x ∷ []) (sym at))
    ∙ with_answers-append [] (take index answers) (answer ∷ [])

-- a key is put in among keys in the order of their bytes where its bytes are put in among theirs
inserted : {A : Type 0} (bytes : A → List ℕ) (keys : List A) (key : A)
    → map bytes (insert_key (λ x y. bytes_cmp (bytes x) (bytes y)) keys key)
    ≡ insert_key bytes_cmp (map bytes keys) (bytes key)
inserted bytes [] key = refl
inserted bytes (first ∷ keys) key = by (bytes_cmp (bytes key) (bytes first)) (inserted bytes keys key)
  where
    by : (o : Ordering) → map bytes (insert_key (λ x y. bytes_cmp (bytes x) (bytes y)) keys key)
        ≡ insert_key bytes_cmp (map bytes keys) (bytes key)
        → map bytes (match_ordering o (key ∷ first ∷ keys) (first ∷ keys)
        (first ∷ insert_key (λ x y. bytes_cmp (bytes x) (bytes y)) keys key))
        ≡ match_ordering o (bytes key ∷ bytes first ∷ map bytes keys) (bytes first ∷ map bytes keys)
        (bytes first ∷ insert_key bytes_cmp (map bytes keys) (bytes key))
    by Less later = refl
    by Equal later = refl
    by Greater later = ap (λ l. bytes first ∷ l) later

-- the loop over answers: the text of one more was put in, and the keys are the texts of one answer more
pub texts-more : {A : Type 0} (bytes : A → List ℕ) (old new : List A) (key : A) (answers : List Answer) (index : ℕ)
    (answer : Answer) → index < length answers
    → answer ≡ get_or answers index answer
    → map bytes old ≡ texts_of (take index answers) → bytes key ≡ answer_text answer
    → new ≡ insert_key (λ x y. bytes_cmp (bytes x) (bytes y)) old key
    → map bytes new ≡ texts_of (take (index + 1) answers)
texts-more bytes old new key answers index answer within at before is put =
    ap (map bytes) put ∙ inserted bytes old key ∙ ap (λ l. insert_key bytes_cmp l (bytes key)) before
    ∙ ap (insert_key bytes_cmp (texts_of (take index answers))) is
    ∙ sym (with_answers-more answers index answer within at)

-- the loop over answers begins: no text was put in, and there is no key
pub texts-none : {A : Type 0} (bytes : A → List ℕ) (keys : List A) (answers : List Answer) → keys ≡ []
    → map bytes keys ≡ texts_of (take 0 answers)
unfolding with_answers
texts-none bytes keys answers none = ap (map bytes) none

-- the loop over texts: one more was written, on a line `COULD BE`, and those behind it are left
pub written-text : (whole out first second third text : List ℕ) (texts : List (List ℕ))
    → whole ≡ out ++ answers_text (text ∷ texts)
    → first ≡ out ++ codes "COULD BE " → second ≡ first ++ text → third ≡ second ++ codes "\n"
    → whole ≡ third ++ answers_text texts
unfolding answers_text
written-text whole out first second third text texts is one two three =
    let parts : out ++ (((codes "COULD BE " ++ text) ++ codes "\n") ++ answers_text texts)
    ≡ (((out ++ codes "COULD BE ") ++ text) ++ codes "\n") ++ answers_text texts = simp append_assoc in
    let made : third ≡ ((out ++ codes "COULD BE ") ++ text) ++ codes "\n" =
    three ∙ ap (λ l. l ++ codes "\n") (two ∙ ap (λ l. l ++ text) one) in
    is ∙ parts ∙ ap (λ l. l ++ answers_text texts) (sym made)

-- the loop over texts ends: no text is left, and all are written
pub written-whole : (whole out : List ℕ) (texts : List (List ℕ)) → whole ≡ out ++ answers_text texts → texts ≡ []
    → out ≡ whole
unfolding answers_text
written-whole whole out texts is none = sym (is ∙ ap (λ t. out ++ answers_text t) none ∙ append-nil out)

-- the number of the line of an event is the one that the program's list has at its place
pub number_at-within : (numbered : List NumberedRead) (place : ℕ) (one : NumberedRead) → place < length numbered
    → one ≡ get_or numbered place one
    → one.number ≡ line_number_at (map numbered_kept numbered) place
number_at-within numbered place one within at = sym (ap number_of_line (slice_get-kept numbered place one within at))

-- past the last event there is no line, so its number is 0
pub number_at-past : (numbered : List NumberedRead) (place : ℕ) → length numbered ≤ place
    → 0 ≡ line_number_at (map numbered_kept numbered) place
number_at-past numbered place past = sym (ap number_of_line (slice_get-kept_past numbered place past))
