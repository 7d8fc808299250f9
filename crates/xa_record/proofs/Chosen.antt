-- Lines that are chosen, one after another.
use Rattle.std.proofs.Common.{◌≡◌, ◌∙◌, ℕ, ◌+◌, ◌==◌, ◌<◌, ◌≤◌, Bool, true, false, List, [], ◌∷◌, ◌++◌, length, drop}
use Rattle.std.proofs.{Common.{get_or, refl, ap, sym, add-one, append_assoc, append-nil}, Math.Seq.drop-cons}
use Rattle.std.proofs.lemmas.List.{drop_all}
use Rattle.xa_lines.specs.Script.{lines_of}
use Rattle.xa_record.{specs.Shrinking.{line_if, chosen_text}, proofs.Reported.no_fault}

-- without a line nothing is chosen
chosen-nothing : (keeps : List Bool) → chosen_text keeps [] ≡ []
unfolding chosen_text
chosen-nothing [] = refl
chosen-nothing (kept ∷ keeps) = refl

-- without a choice no line is chosen
chosen-past : (lines : List (List ℕ)) → chosen_text [] lines ≡ []
unfolding chosen_text
chosen-past lines = refl

-- the choices from a place on are the one there, and those behind it
next-choice : (keeps : List Bool) (index : ℕ) → index < length keeps
    → drop index keeps ≡ get_or keeps index false ∷ drop (index + 1) keeps
next-choice keeps index within = rw add-one (drop-cons keeps index false within)

-- the loop over choices: the next line was cut off, and written if it is chosen; the whole is all that is written
-- then, and what the choices behind this one choose of the lines behind that one
pub chosen_more : (whole out added : List ℕ) (keeps : List Bool) (index : ℕ)
    (rest line more : List ℕ) → index < length keeps
    → lines_of rest ≡ line ∷ lines_of more → whole ≡ out ++ chosen_text (drop index keeps) (lines_of rest)
    → added ≡ out ++ line_if (get_or keeps index false) line
    → whole ≡ added ++ chosen_text (drop (index + 1) keeps) (lines_of more)
unfolding chosen_text
chosen_more whole out added keeps index rest line more within lines is so =
    let kept = get_or keeps index false in
    is
    ∙ ap (λ (l : List Bool). out ++ chosen_text l (lines_of rest)) (next-choice keeps index within)
    ∙ ap (λ (l : List (List ℕ)). out ++ chosen_text (kept ∷ drop (index + 1) keeps) l) lines
    ∙ sym (append_assoc out (line_if kept line) (chosen_text (drop (index + 1) keeps) (lines_of more)))
    ∙ ap (λ (l : List ℕ). l ++ chosen_text (drop (index + 1) keeps) (lines_of more)) (sym so)

-- the loop over choices ends: no line is left, and all that is chosen was written
pub chosen_end : (whole out rest : List ℕ) (keeps : List Bool) → rest ≡ []
    → whole ≡ out ++ chosen_text keeps (lines_of rest) → out ≡ whole
unfolding lines_of
chosen_end whole out rest keeps none is =
    sym (is ∙ ap (λ (l : List ℕ). out ++ chosen_text keeps (lines_of l)) none
    ∙ ap (λ (l : List ℕ). out ++ l) (chosen-nothing keeps) ∙ append-nil out)

-- the loop over choices ends: no choice is left, and all that is chosen was written
pub chosen_out : (whole out rest : List ℕ) (keeps : List Bool) (index : ℕ) → length keeps ≤ index
    → whole ≡ out ++ chosen_text (drop index keeps) (lines_of rest) → out ≡ whole
chosen_out whole out rest keeps index past is =
    sym (is ∙ ap (λ (l : List Bool). out ++ chosen_text l (lines_of rest)) (drop_all index keeps past)
    ∙ ap (λ (l : List ℕ). out ++ l) (chosen-past (lines_of rest)) ∙ append-nil out)

-- a text whose length tests as 0 is empty
pub no_bytes : (text : List ℕ) → (length text == 0) ≡ true → text ≡ []
no_bytes text empty = no_fault text empty
