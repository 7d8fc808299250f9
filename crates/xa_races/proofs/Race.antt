-- The lines of a race, how its outcome is printed, and steps of loops over lists.
use Rattle.std.proofs.Common.{◌≡◌, ℕ, zero, suc, ◌+◌, ◌<◌, ◌≤◌, ◌==◌, max, true, Bool, Option, List, [], ◌∷◌, ◌++◌}
use Rattle.std.proofs.Common.{length, map, take, get_or, min, refl, ap, sym, ◌∙◌, arith, append_assoc, append-nil}
use Rattle.std.{proofs.lemmas.{List.take_more, Grind.common_steps}, specs.{List.cons_option, Option.option_to_list}}
use Rattle.xa_words.specs.Entry.{Entry}
use Rattle.xa_session.specs.declared.answer.Answer.{Answer}
use Rattle.xa_lines.specs.{Printed.converts, Script.{lines_of, line_of}}
use Rattle.xa_races.specs.Race.{fault_place, fault_text, faults_text, session_in, last_session, statement_by}
use Rattle.xa_races.specs.Race.{statements_of}
use Rattle.xa_races.specs.Outcome.{entry_text, entries_text, placed_text, session_text, answers_text}

-- what is written for the faulty lines of a text is what is written for the first line, and then for the rest
pub faults_text-line : (number : ℕ) (text line rest : List ℕ) → lines_of text ≡ line ∷ lines_of rest
    → faults_text number (lines_of text) ≡ fault_text number (fault_place (line_of line))
    ++ faults_text (number + 1) (lines_of rest)
unfolding faults_text
faults_text-line number text line rest cut = rw cut refl

-- of a text without lines no fault is written
pub faults_text-end : (number : ℕ) (text : List ℕ) → (length text == 0) ≡ true → faults_text number (lines_of text) ≡ []
unfolding faults_text lines_of
faults_text-end number text empty = grind (arith, common_steps)

-- the greatest session of a text is that of the first line or of the rest, whichever is greater
pub last_session-line : (text line rest : List ℕ) → lines_of text ≡ line ∷ lines_of rest
    → last_session (lines_of text) ≡ max (session_in (line_of line)) (last_session (lines_of rest))
unfolding last_session
last_session-line text line rest cut = rw cut refl

-- a text without lines names no session
pub last_session-end : (text : List ℕ) → (length text == 0) ≡ true → last_session (lines_of text) ≡ 0
unfolding last_session lines_of
last_session-end text empty = grind (arith, common_steps)

-- putting an element, if there is one, in front of a list is putting the list behind that element or nothing
cons_option-list : {A : Type 0} (first : Option A) (rest : List A)
    → cons_option first rest ≡ option_to_list first ++ rest
cons_option-list first rest = grind (arith)

-- a session's statements of a text are that of the first line, if it gives one, and then those of the rest
pub statements_of-line : (session : ℕ) (text line rest : List ℕ) → lines_of text ≡ line ∷ lines_of rest
    → statements_of session (lines_of text) ≡ option_to_list (statement_by session (line_of line))
    ++ statements_of session (lines_of rest)
unfolding statements_of
statements_of-line session text line rest cut = grind (arith, cons_option-list)

-- a text without lines gives no statement
pub statements_of-end : (session : ℕ) (text : List ℕ) → (length text == 0) ≡ true
    → statements_of session (lines_of text) ≡ []
unfolding statements_of lines_of
statements_of-end session text empty = grind (arith, common_steps)

-- the text of two lists of entries is that of the first, and then that of the second, whose places go on from the
-- first's
entries_text-append : (place : ℕ) (entries more : List Entry)
    → entries_text place (entries ++ more) ≡ entries_text place entries ++ entries_text (place + length entries) more
unfolding entries_text
entries_text-append place [] more = let none : place + 0 ≡ place = omega arith in rw none refl
entries_text-append place (entry ∷ entries) more =
    let far : place + 1 + length entries ≡ place + length (entry ∷ entries) = omega arith in
    ap (λ text. entry_text place entry ++ text)
    (entries_text-append (place + 1) entries more ∙ ap (λ n. entries_text (place + 1) entries
    ++ entries_text n more) far)
    ∙ sym (append_assoc (entry_text place entry) (entries_text (place + 1) entries)
    (entries_text (place + length (entry ∷ entries)) more))

-- the text of a list of one entry is that entry's text
entries_text-one : (place : ℕ) (entry : Entry) → entries_text place (entry ∷ []) ≡ entry_text place entry
unfolding entries_text
entries_text-one place entry = append-nil (entry_text place entry)

-- a front of a list has the length asked for, within the list
length_front : {A : Type 0} (xs : List A) (i : ℕ) → i < length xs → length (take i xs) ≡ i
length_front [] i below = absurd (omega arith)
length_front (x ∷ xs) zero below = refl
length_front (x ∷ xs) (suc i) below = ap suc (length_front xs i (omega (arith, below)))

-- the loop over entries: the text of the first `place + 1` is that of the first `place`, and then that of the next one
pub entries_text-more : (entries : List Entry) (place : ℕ) (entry : Entry) → place < length entries
    → entry ≡ get_or entries place entry
    → entries_text 0 (take (place + 1) entries) ≡ entries_text 0 (take place entries) ++ entry_text place entry
entries_text-more entries place entry below is =
    let far : 0 + length (take place entries) ≡ place = omega (arith, length_front entries place below) in
    ap (entries_text 0) (take_more entries place entry below ∙ ap (λ e. take place entries ++ e ∷ []) (sym is))
    ∙ entries_text-append 0 (take place entries) (entry ∷ [])
    ∙ ap (λ n. entries_text 0 (take place entries) ++ entries_text n (entry ∷ [])) far
    ∙ ap (λ text. entries_text 0 (take place entries) ++ text) (entries_text-one place entry)

-- without entries the text is empty
pub entries_text-none : (place : ℕ) → entries_text place [] ≡ []
unfolding entries_text
entries_text-none place = refl

-- the loop over a session's answers: one more adds its text. `statements` says of each statement whether it asks for
-- hexadecimal
pub session_text-more : (session : ℕ) (statements : List Bool) (answers : List Answer) (i : ℕ) (statement : Bool)
    (answer : Answer)
    → i < length statements → i < length answers
    → statement ≡ get_or statements i statement → answer ≡ get_or answers i answer
    → session_text session (take (i + 1) statements) (take (i + 1) answers)
    ≡ session_text session (take i statements) (take i answers) ++ placed_text session statement answer
unfolding session_text
session_text-more session [] answers i s a below below' is is' = absurd (omega arith)
session_text-more session (x ∷ statements) [] i s a below below' is is' = absurd (omega arith)
session_text-more session (x ∷ statements) (y ∷ answers) zero s a below below' is is' =
    rw (is, is') (append-nil (placed_text session x y))
session_text-more session (x ∷ statements) (y ∷ answers) (suc i) s a below below' is is' =
    let next : suc i + 1 ≡ suc (i + 1) = omega arith in
    rw next (ap (λ text. placed_text session x y ++ text)
    (session_text-more session statements answers i s a (omega (arith, below)) (omega (arith, below')) is is')
    ∙ sym (append_assoc (placed_text session x y) (session_text session (take i statements) (take i answers))
    (placed_text session s a)))

-- if `n` is at least the length of the shorter list, the first `n` of both give the whole text
pub session_text-whole : (session : ℕ) (statements : List Bool) (answers : List Answer) (n : ℕ)
    → min (length statements) (length answers) ≤ n
    → session_text session (take n statements) (take n answers) ≡ session_text session statements answers
unfolding session_text
session_text-whole session [] answers zero enough = refl
session_text-whole session [] answers (suc n) enough = refl
session_text-whole session (x ∷ statements) [] zero enough = refl
session_text-whole session (x ∷ statements) [] (suc n) enough = refl
session_text-whole session (x ∷ statements) (y ∷ answers) zero enough = absurd (omega (arith, enough))
session_text-whole session (x ∷ statements) (y ∷ answers) (suc n) enough =
    ap (λ text. placed_text session x y ++ text) (session_text-whole session statements answers n
    (omega (arith, enough)))

-- without answers the text of a session is empty
pub session_text-none : (session : ℕ) (statements : List Bool) (answers : List Answer)
    → session_text session (take 0 statements) (take 0 answers) ≡ []
unfolding session_text
session_text-none session statements answers = refl

-- the text of two lists of sessions' answers is that of the first, and then that of the second, whose numbers go on
-- from the first's
answers_text-append : (session : ℕ) (lines : List (List ℕ)) (answers more : List (List Answer))
    → answers_text session lines (answers ++ more) ≡ answers_text session lines answers
    ++ answers_text (session + length answers) lines more
unfolding answers_text
answers_text-append session lines [] more = let none : session + 0 ≡ session = omega arith in rw none refl
answers_text-append session lines (one ∷ answers) more =
    let far : session + 1 + length answers ≡ session + length (one ∷ answers) = omega arith in
    let text = session_text session (map converts (statements_of session lines)) one in
    ap (λ t. text ++ t) (answers_text-append (session + 1) lines answers more
    ∙ ap (λ n. answers_text (session + 1) lines answers ++ answers_text n lines more) far)
    ∙ sym (append_assoc text (answers_text (session + 1) lines answers)
    (answers_text (session + length (one ∷ answers)) lines more))

-- the text of a list of one session's answers is that session's text
answers_text-one : (session : ℕ) (lines : List (List ℕ)) (answers : List Answer)
    → answers_text session lines (answers ∷ []) ≡ session_text session
    (map converts (statements_of session lines)) answers
unfolding answers_text
answers_text-one session lines answers = grind (arith, append-nil)

-- without sessions the text of the answers is empty
pub answers_text-none : (session : ℕ) (lines : List (List ℕ)) → answers_text session lines [] ≡ []
unfolding answers_text
answers_text-none session lines = refl

-- mapping a front that is one longer adds the mapped element at the end
pub map_more : {A B : Type 0} (f : A → B) (xs : List A) (i : ℕ) (x : A) → i < length xs → x ≡ get_or xs i x
    → map f (take (i + 1) xs) ≡ map f (take i xs) ++ f x ∷ []
map_more f [] i x below is = absurd (omega arith)
map_more f (y ∷ xs) zero x below is = ap (λ a. f a ∷ []) (sym is)
map_more f (y ∷ xs) (suc i) x below is =
    let next : suc i + 1 ≡ suc (i + 1) = omega arith in
    rw next (ap (λ l. f y ∷ l) (map_more f xs i x (omega (arith, below)) is))

-- the step of a loop that maps: with f of one item more, the items done are mapped
pub mapped_more : {A B : Type 0} (f : A → B) (xs : List A) (i : ℕ) (x : A) (done now : List B) (y : B) → i < length xs
    → x ≡ get_or xs i x
    → done ≡ map f (take i xs) → y ≡ f x → now ≡ done ++ y ∷ [] → now ≡ map f (take (i + 1) xs)
mapped_more f xs i x done now y below is before gives pushed = grind (arith, map_more)

-- a mapped front has the front's length
length_map_take : {A B : Type 0} (f : A → B) (xs : List A) (i : ℕ) → i < length xs → length (map f (take i xs)) ≡ i
length_map_take f [] i below = absurd (omega arith)
length_map_take f (x ∷ xs) zero below = refl
length_map_take f (x ∷ xs) (suc i) below = ap suc (length_map_take f xs i (omega (arith, below)))

module _ {S : Type 0} (answers_of : S → List Answer) where
  -- the loop over sessions: one more adds the text of its answers
  pub answers_text-more : (lines : List (List ℕ)) (all : List S) (i : ℕ) (answers : S) (session : ℕ) → i < length all
      → answers ≡ get_or all i answers
      → session ≡ i + 1
      → answers_text 1 lines (map answers_of (take (i + 1) all))
      ≡ answers_text 1 lines (map answers_of (take i all))
      ++ session_text session (map converts (statements_of session lines)) (answers_of answers)
  answers_text-more lines all i answers session below is number =
      let far : 1 + length (map answers_of (take i all)) ≡ session =
      omega (arith, length_map_take answers_of all i below, number) in
      ap (answers_text 1 lines) (map_more answers_of all i answers below is)
      ∙ answers_text-append 1 lines (map answers_of (take i all)) (answers_of answers ∷ [])
      ∙ ap (λ n. answers_text 1 lines (map answers_of (take i all))
      ++ answers_text n lines (answers_of answers ∷ [])) far
      ∙ ap (λ text. answers_text 1 lines (map answers_of (take i all)) ++ text)
      (answers_text-one session lines (answers_of answers))

-- if one more piece is taken off what is left of a whole and put behind what was there, the whole is still what is
-- there and what is left
pub moved : {A : Type 0} (whole before now left piece rest : List A) → whole ≡ before ++ left → left ≡ piece ++ rest
    → now ≡ before ++ piece
    → whole ≡ now ++ rest
moved whole before now left piece rest w l n = grind (arith, append_assoc)

-- elements that were moved one by one to another list: when none is left, all are there
pub moved_whole : {A : Type 0} (whole now left : List A) → whole ≡ now ++ left → left ≡ [] → now ≡ whole
moved_whole whole now left w none = sym (w ∙ ap (λ t. now ++ t) none ∙ append-nil now)

-- if a text that has got what is done gets one more piece, it has got what is done with that piece
pub grown : {A : Type 0} (begin before now done piece longer : List A) → before ≡ begin ++ done → now ≡ before ++ piece
    → longer ≡ done ++ piece
    → now ≡ begin ++ longer
grown begin before now done piece longer b n l = grind (arith, append_assoc)
