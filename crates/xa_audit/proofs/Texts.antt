-- What is written for each element of a list: texts, elements of a JSON array, faults of lines; and four counts in a
-- row.
use Rattle.std.proofs.Common.{◌≡◌, ℕ, ◌+◌, ◌<◌, ◌≤◌, List, [], ◌∷◌, ◌++◌, length, drop, get_or, ap, sym, ◌∙◌, Bool}
use Rattle.std.proofs.{Common.{true, false, ◌==◌, arith, append_assoc, append-nil}, lemmas.Grind.common_steps}
use Rattle.std.proofs.lemmas.List.{drop_more, drop_all}
use Rattle.xa_lines.specs.Script.{lines_of}
use Rattle.xa_audit.specs.Histories.{said_on, fault_said, faults_in}
use Rattle.xa_audit.specs.Written.{each_text, comma_unless, comma_before, each_json}

-- the loop over elements: the text of one more is written, and those behind it are left
pub each_next : {A : Type 0} (text : A → List ℕ) (left rest : List A) (x : A) (whole old new : List ℕ) → left ≡ x ∷ rest
    → new ≡ old ++ text x
    → whole ≡ old ++ each_text text left → whole ≡ new ++ each_text text rest
unfolding each_text
each_next text left rest x whole old new cut put before = grind (arith, append_assoc)

-- the loop over elements by index: the text of one more is written, and those behind it are left
pub each_step : {A : Type 0} (text : A → List ℕ) (xs : List A) (i : ℕ) (x d : A) (whole old new : List ℕ)
    → i < length xs → x ≡ get_or xs i d
    → new ≡ old ++ text x → whole ≡ old ++ each_text text (drop i xs) → whole ≡ new ++ each_text text (drop (i + 1) xs)
each_step text xs i x d whole old new below at put before =
    each_next text (drop i xs) (drop (i + 1) xs) x whole old new
    (drop_more xs i d below ∙ ap (λ y. y ∷ drop (i + 1) xs) (sym at)) put before

-- the loop over elements ends: none is left, and all are written
pub each_done : {A : Type 0} (text : A → List ℕ) (left : List A) (whole old : List ℕ) → left ≡ []
    → whole ≡ old ++ each_text text left → old ≡ whole
unfolding each_text
each_done text left whole old is before = grind (arith, append-nil)

-- the loop over elements by index ends: past the last one all are written
pub each_end : {A : Type 0} (text : A → List ℕ) (xs : List A) (i : ℕ) (whole old : List ℕ) → length xs ≤ i
    → whole ≡ old ++ each_text text (drop i xs)
    → old ≡ whole
each_end text xs i whole old past before = each_done text (drop i xs) whole old (drop_all i xs past) before

-- the comma before what is left: none, if nothing was written yet
abbrev pub lead : {A : Type 0} → Bool → List A → List ℕ
lead true xs = []
lead false xs = comma_before xs

-- a comma stands before an element that isn't the first
lead_some : {A : Type 0} (first : Bool) (x : A) (xs : List A) → lead first (x ∷ xs) ≡ comma_unless first
lead_some first x xs = grind (arith)

-- no comma stands where no element is
lead_none : {A : Type 0} (first : Bool) (xs : List A) → xs ≡ [] → lead first xs ≡ []
lead_none first xs is = grind (arith)

-- the loop over elements of an array: after a comma, if one is needed, and the next element, those behind it are left
pub json_next : {A : Type 0} (json : A → List ℕ) (first : Bool) (left rest : List A) (x : A)
    (whole old one new : List ℕ) → left ≡ x ∷ rest
    → one ≡ old ++ comma_unless first → new ≡ one ++ json x
    → whole ≡ (old ++ lead first left) ++ each_json json left → whole ≡ (new ++ lead false rest) ++ each_json json rest
unfolding each_json
json_next json first left rest x whole old one new cut led put before = grind (arith, append_assoc, lead_some)

-- the loop over elements of an array, by index: after a comma, if one is needed, and the next element, those behind it
-- are left
pub json_step : {A : Type 0} (json : A → List ℕ) (first : Bool) (xs : List A) (i : ℕ) (x d : A)
    (whole old one new : List ℕ) → i < length xs
    → x ≡ get_or xs i d → one ≡ old ++ comma_unless first → new ≡ one ++ json x
    → whole ≡ (old ++ lead first (drop i xs)) ++ each_json json (drop i xs)
    → whole ≡ (new ++ lead false (drop (i + 1) xs)) ++ each_json json (drop (i + 1) xs)
json_step json first xs i x d whole old one new below at led put before =
    json_next json first (drop i xs) (drop (i + 1) xs) x whole old one new
    (drop_more xs i d below ∙ ap (λ y. y ∷ drop (i + 1) xs) (sym at)) led put before

-- the loop over elements of an array ends: none is left, and all are written
pub json_done : {A : Type 0} (json : A → List ℕ) (first : Bool) (left : List A) (whole old : List ℕ) → left ≡ []
    → whole ≡ (old ++ lead first left) ++ each_json json left → old ≡ whole
unfolding each_json
json_done json first left whole old is before = grind (arith, append-nil, lead_none)

-- the loop over elements of an array ends, by index: none is left, and all are written
pub json_end : {A : Type 0} (json : A → List ℕ) (first : Bool) (xs : List A) (i : ℕ) (whole old : List ℕ)
    → length xs ≤ i
    → whole ≡ (old ++ lead first (drop i xs)) ++ each_json json (drop i xs) → old ≡ whole
json_end json first xs i whole old past before = json_done json first (drop i xs) whole old (drop_all i xs past) before

-- an empty text has no lines
pub no_lines : (text : List ℕ) → (length text == 0) ≡ true → lines_of text ≡ []
unfolding lines_of
no_lines text empty = grind (arith, common_steps)

-- the loop over lines: the fault of one more is written, if it has one, and those of the lines behind it are left
pub faults_cut : (store number : ℕ) (text line rest old new whole : List ℕ) → lines_of text ≡ line ∷ lines_of rest
    → new ≡ old ++ fault_said store number (said_on line) → whole ≡ old ++ faults_in store number (lines_of text)
    → whole ≡ new ++ faults_in store (number + 1) (lines_of rest)
unfolding faults_in
faults_cut store number text line rest old new whole cut put before = grind (arith, append_assoc)

-- no line is left: no fault is written
pub faults_end : (store number : ℕ) (text old whole : List ℕ) → (length text == 0) ≡ true
    → whole ≡ old ++ faults_in store number (lines_of text) → old ≡ whole
unfolding faults_in
faults_end store number text old whole empty before = grind (arith, append-nil, no_lines)

-- the step by step writing of four words, each with its number, gives all of them
pub four_counts : (old one two three four a b c d : List ℕ) (words others more last : List ℕ)
    → one ≡ old ++ (words ++ a) → two ≡ one ++ (others ++ b)
    → three ≡ two ++ (more ++ c) → four ≡ three ++ (last ++ d)
    → four ≡ old ++ (((((((words ++ a) ++ others) ++ b) ++ more) ++ c) ++ last) ++ d)
four_counts old one two three four a b c d words others more last e f g h = grind (arith, append_assoc)
