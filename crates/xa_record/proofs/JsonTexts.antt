-- Texts as strings of JSON: characters; the end of an array and of an object with a verdict and a line.
use Rattle.std.proofs.Common.{◌≡◌, ℕ, ◌+◌, ◌<◌, ◌==◌, true, Result, OnOk, List, [], ◌∷◌, ◌++◌, length, take, get_or}
use Rattle.std.proofs.Common.{codes, decimal, ap, sym, ◌∙◌, arith, append_assoc, append-nil}
use Rattle.std.proofs.lemmas.{Grind.common_steps, List.take_more, Str.encodes-append}
use Rattle.std.specs.Prelude.{encode_utf8, encode_utf8_all}
use Rattle.json.specs.{Json.no_members, Token.{Token, end_array, end_object, key, string, number}}
use Rattle.json.specs.Tree.{items_tokens, members_tokens}
use Rattle.xa_lines.specs.Script.{lines_of}
use Rattle.xa_record.specs.Forms.{values_of, with_verdict, with_line}

-- the loop over characters: after one more is encoded, all characters up to it are
pub characters_more : (text old new : List ℕ) (index : ℕ) → index < length text
    → old ≡ encode_utf8_all (take index text)
    → new ≡ old ++ encode_utf8 (get_or text index 0)
    → new ≡ encode_utf8_all (take (index + 1) text)
characters_more text old new index within before put =
    let byte = get_or text index 0 in
    put ∙ ap (λ l. l ++ encode_utf8 byte) before ∙ ap (λ l. encode_utf8_all (take index text) ++ l)
    (sym (append-nil (encode_utf8 byte)))
    ∙ sym (encodes-append (take index text) (byte ∷ [])) ∙ sym (ap encode_utf8_all (take_more text index 0 within))

-- the loop over an array's texts ends: no text is left, and with the end of the array all of it is written
pub array-ended : (whole old new : List Token) (texts : List (List ℕ)) → whole ≡ old ++ items_tokens (values_of texts)
    → texts ≡ []
    → new ≡ old ++ end_array ∷ [] → new ≡ whole
array-ended whole old new texts is none ended = ended ∙ sym (is ∙ ap (λ t. old ++ items_tokens (values_of t)) none)

-- a text of no bytes has no lines
pub lines-none : (text : List ℕ) → (length text == 0) ≡ true → lines_of text ≡ []
unfolding lines_of
lines-none text empty = grind (arith, common_steps)

-- the end of an array was written, or writing failed: after Ok all of the array is there
pub array-ended-ok : {X E : Type 0} (result : Result X E) (whole old new : List Token) (texts : List (List ℕ))
    → whole ≡ old ++ items_tokens (values_of texts) → texts ≡ [] → OnOk result (new ≡ old ++ end_array ∷ [])
    → OnOk result (new ≡ whole)
array-ended-ok result whole old new texts is also ended = grind (arith, array-ended)

-- once a verdict, a line's number and the object's end are written, after Ok all members of the object with these two
-- are written
pub line-ended-ok : {X E : Type 0} (result : Result X E) (old one two new : List Token) (word : List ℕ) (line : ℕ)
    → one ≡ old ++ key (codes "verdict") ∷ string word ∷ []
    → two ≡ one ++ key (codes "line") ∷ number (decimal line) ∷ []
    → OnOk result (new ≡ two ++ end_object ∷ [])
    → OnOk result (new ≡ old ++ members_tokens (with_verdict word (with_line line no_members)))
line-ended-ok result old one two new word line first second ended = grind (arith, append_assoc, decimal)
