-- Lines as objects of JSON: what has been written and what is left, and which form fits a line.
use Rattle.std.proofs.Common.{◌≡◌, ℕ, ◌+◌, ◌<◌, ◌==◌, Bool, true, false, List, [], ◌∷◌, ◌++◌, length, take, get_or}
use Rattle.std.proofs.Common.{drop, map, codes, Bor, ◌≤◌, ap, sym, ◌∙◌, arith, append_assoc, append-nil}
use Rattle.std.proofs.lemmas.{Grind.common_steps, List.{take_more, drop_more, drop_all}, Str.encodes-append}
use Rattle.std.{proofs.lemmas.Bool.Decides.nat_tests, specs.Prelude.{encode_utf8, encode_utf8_all, if◌then◌else◌}}
use Rattle.json.specs.{Token.{Token, begin_object, end_object}, Print.print}
use Rattle.xa_lines.specs.{Script.{lines_of, is_empty_line}, Objects.{mark_of, part_fits_as, left_as, parts_fit}}
use Rattle.xa_lines.specs.Objects.{part_tokens_as, parts_tokens, fits, first_fit, form_for, object_line, objects_of}

-- the loop over characters: after one more is encoded, all characters up to it are
pub characters_more : (text old new : List ℕ) (index : ℕ) → index < length text
    → old ≡ encode_utf8_all (take index text)
    → new ≡ old ++ encode_utf8 (get_or text index 0)
    → new ≡ encode_utf8_all (take (index + 1) text)
characters_more text old new index within before put =
    grind (arith, common_steps, nat_tests, append-nil, encodes-append, take_more)

-- a text of no bytes has no lines
pub lines-none : (text : List ℕ) → (length text == 0) ≡ true → lines_of text ≡ []
unfolding lines_of
lines-none text empty = grind (arith, common_steps)

-- a line is empty if it has no byte
pub empty_line : (text : List ℕ) → is_empty_line text ≡ (length text == 0)
empty_line text = grind (arith, common_steps)

-- the loop over a form's parts: the next part fits, so the others decide
pub fit_more : (part parts line : List ℕ) (more : List (List ℕ)) → lines_of parts ≡ part ∷ more
    → part_fits_as (mark_of part) part line ≡ true
    → parts_fit (lines_of parts) line ≡ parts_fit more (left_as (mark_of part) line)
unfolding parts_fit
fit_more part parts line more cut is = cc

-- the loop over a form's parts: the next part doesn't fit, so the line doesn't
pub fit_fails : (part parts line : List ℕ) (more : List (List ℕ)) → lines_of parts ≡ part ∷ more
    → part_fits_as (mark_of part) part line ≡ false
    → parts_fit (lines_of parts) line ≡ false
unfolding parts_fit
fit_fails part parts line more cut is = cc

-- the loop over a form's parts ends: the line fits if nothing of it is left
pub fit_ends : (parts line : List ℕ) → (length parts == 0) ≡ true → parts_fit (lines_of parts) line ≡ (length line == 0)
unfolding parts_fit
fit_ends parts line empty = ap (λ l. parts_fit l line) (lines-none parts empty) ∙ empty_line line

-- the loop over a form's parts: the member of one more is written, and those of the parts behind it are left
pub members_more : (whole old new : List Token) (part parts line : List ℕ) (more : List (List ℕ))
    → lines_of parts ≡ part ∷ more
    → whole ≡ old ++ parts_tokens (lines_of parts) line → new ≡ old ++ part_tokens_as (mark_of part) part line
    → whole ≡ new ++ parts_tokens more (left_as (mark_of part) line)
unfolding parts_tokens
members_more whole old new part parts line more cut is written = grind (arith, append_assoc)

-- the loop over a form's parts ends: all members are written
pub members_end : (whole new : List Token) (parts line : List ℕ) → (length parts == 0) ≡ true
    → whole ≡ new ++ parts_tokens (lines_of parts) line
    → new ≡ whole
unfolding parts_tokens
members_end whole new parts line empty is = grind (arith, append-nil, lines-none)

-- the loop over lines: the object of one more is written, and those of the lines behind it are left
pub objects_more : (whole old new line text : List ℕ) (lines : List (List ℕ)) → lines_of text ≡ line ∷ lines
    → whole ≡ old ++ objects_of (lines_of text)
    → new ≡ old ++ object_line line → whole ≡ new ++ objects_of lines
unfolding objects_of
objects_more whole old new line text lines cut is written = grind (arith, append_assoc)

-- the loop over lines ends: all objects are written
pub objects_end : (whole new text : List ℕ) → (length text == 0) ≡ true → whole ≡ new ++ objects_of (lines_of text)
    → new ≡ whole
unfolding objects_of
objects_end whole new text empty is = sym (is ∙ ap (λ l. new ++ objects_of l) (lines-none text empty) ∙ append-nil new)

-- once the beginning, the members and the end of a line's object are written, and a line feed, the object's line is
-- written
pub object_done : (text items more line : List ℕ) (one two three : List Token) → one ≡ begin_object ∷ []
    → two ≡ one ++ parts_tokens (lines_of (form_for line)) line → three ≡ two ++ end_object ∷ []
    → items ≡ text ++ print three
    → more ≡ items ++ codes "\n" → more ≡ text ++ object_line line
object_done text items more line one two three first second third written ended = grind (arith, append_assoc)

-- the first form that fits, among those from a place on, is the one there if it fits, or else the first that fits
-- behind it
first_of_rest : (forms : List (Bor (List ℕ))) (line : List ℕ) (index : ℕ) (d : Bor (List ℕ)) → index < length forms
    → first_fit (map (λ form. form.now) (drop index forms)) line
    ≡ (if fits (get_or forms index d).now line
    then (get_or forms index d).now
    else first_fit (map (λ form. form.now) (drop (index + 1) forms)) line)
unfolding first_fit
first_of_rest forms line index d within = grind (arith, drop_more)

-- a choice between texts by a test that holds gives the first
taken_if : (b : Bool) (one other : List ℕ) → b ≡ true → (if b then one else other) ≡ one
taken_if b one other is = cc

-- a choice between texts by a test that fails gives the second
left_if : (b : Bool) (one other : List ℕ) → b ≡ false → (if b then one else other) ≡ other
left_if b one other is = cc

-- if the form at a place fits a line, and the form for the line is the first that fits from there on, it is that one
pub form_here : (forms : List (Bor (List ℕ))) (line : List ℕ) (index : ℕ) (d : Bor (List ℕ)) → index < length forms
    → form_for line ≡ first_fit (map (λ form. form.now) (drop index forms)) line
    → fits (get_or forms index d).now line ≡ true
    → (get_or forms index d).now ≡ form_for line
form_here forms line index d within is fit =
    sym (is ∙ first_of_rest forms line index d within ∙ taken_if (fits (get_or forms index d).now line) (get_or forms
    index d).now _ fit)

-- if the form at a place doesn't fit a line, the form for the line is among the later ones
pub form_next : (forms : List (Bor (List ℕ))) (line : List ℕ) (index : ℕ) (d : Bor (List ℕ)) → index < length forms
    → form_for line ≡ first_fit (map (λ form. form.now) (drop index forms)) line
    → fits (get_or forms index d).now line ≡ false
    → form_for line ≡ first_fit (map (λ form. form.now) (drop (index + 1) forms)) line
form_next forms line index d within is fit =
    is ∙ first_of_rest forms line index d within ∙ left_if (fits (get_or forms index d).now line) (get_or forms index
    d).now _ fit

-- the loop over forms ends: no form fits the line, so the form for it is `=text`
pub form_none : (forms : List (Bor (List ℕ))) (line : List ℕ) (index : ℕ) → length forms ≤ index
    → form_for line ≡ first_fit (map (λ form. form.now) (drop index forms)) line → codes "=text" ≡ form_for line
unfolding first_fit
form_none forms line index past is = grind (arith, drop_all)
