-- A text literal, read byte by byte.
use Rattle.std.proofs.Common.{◌≡◌, ℕ, ◌+◌, ◌<◌, ◌≤◌, List, [], ◌∷◌, ◌++◌, length, drop, get_or, Option, Some, None}
use Rattle.std.proofs.{Common.{refl, sym, ◌∙◌, ap, add-one, drop-cons, append_assoc}, lemmas.Bool.{eq-eqb, ne_eqb}}
use Rattle.std.proofs.lemmas.List.{drop_all, append-nil}
use Rattle.xa_xid.specs.{Literal.{kept, sized, text_literal_of}, Quoted.{read_in_quotes, escaped, onto}, Xid.Text}
use Rattle.xa_xid.specs.declared.quoted.Mode.{Mode, TheVariants.{Plain, Escape, Quote}}

-- putting no byte in front of what was read changes nothing
onto-nil : (found : Option (List ℕ × List ℕ)) → found ≡ onto [] found
onto-nil None = refl
onto-nil (Some (bytes, rest)) = refl

-- bytes put in front in two steps are the same as in one
onto-onto : (xs ys : List ℕ) (found : Option (List ℕ × List ℕ)) → onto xs (onto ys found) ≡ onto (xs ++ ys) found
onto-onto xs ys None = refl
onto-onto xs ys (Some (bytes, rest)) = ap (λ zs. Some (zs, rest)) (sym (append_assoc xs ys bytes))

-- a quote within the quotes closes the literal or is the first of two: the next byte shows which
pub plain_quote : (quote byte : ℕ) (text : List ℕ) → byte ≡ quote
    → read_in_quotes quote Plain (byte ∷ text) ≡ read_in_quotes quote Quote text
unfolding read_in_quotes
plain_quote quote byte text e = rw (eq-eqb byte quote e) refl

-- a backslash (92) escapes the next byte
pub plain_backslash : (quote byte : ℕ) (text : List ℕ) → (byte ≡ quote → ⊥) → byte ≡ 92
    → read_in_quotes quote Plain (byte ∷ text) ≡ read_in_quotes quote Escape text
unfolding read_in_quotes
plain_backslash quote byte text other e = rw (ne_eqb byte quote other, eq-eqb byte 92 e) refl

-- within the quotes, a byte that is neither the quote nor a backslash is itself
pub plain_byte : (quote byte : ℕ) (text : List ℕ) → (byte ≡ quote → ⊥) → (byte ≡ 92 → ⊥)
    → read_in_quotes quote Plain (byte ∷ text) ≡ onto (byte ∷ []) (read_in_quotes quote Plain text)
unfolding read_in_quotes
plain_byte quote byte text other none = rw (ne_eqb byte quote other, ne_eqb byte 92 none) refl

-- an escaped byte is what `escaped` says
pub escape_letter : (quote byte : ℕ) (text : List ℕ) → read_in_quotes quote Escape (byte ∷ text)
    ≡ onto (escaped byte) (read_in_quotes quote Plain text)
unfolding read_in_quotes
escape_letter quote byte text = refl

-- a quote right behind a quote makes, with it, one quote of the text
pub quote_again : (quote byte : ℕ) (text : List ℕ) → byte ≡ quote
    → read_in_quotes quote Quote (byte ∷ text) ≡ onto (quote ∷ []) (read_in_quotes quote Plain text)
unfolding read_in_quotes
quote_again quote byte text e = rw (eq-eqb byte quote e) refl

-- another byte right behind a quote isn't of the text any more: the quote has closed it
pub quote_closes : (quote byte : ℕ) (text : List ℕ) → (byte ≡ quote → ⊥)
    → read_in_quotes quote Quote (byte ∷ text) ≡ Some ([], byte ∷ text)
unfolding read_in_quotes
quote_closes quote byte text other = rw (ne_eqb byte quote other) refl

-- a text that ends within the quotes isn't closed
pub quoted-nil-plain : (quote : ℕ) → read_in_quotes quote Plain [] ≡ None
unfolding read_in_quotes
quoted-nil-plain quote = refl

-- a text that ends at a backslash within the quotes isn't closed
pub quoted-nil-escape : (quote : ℕ) → read_in_quotes quote Escape [] ≡ None
unfolding read_in_quotes
quoted-nil-escape quote = refl

-- a text that ends at a quote is closed
pub quoted-nil-quote : (quote : ℕ) → read_in_quotes quote Quote [] ≡ Some ([], [])
unfolding read_in_quotes
quoted-nil-quote quote = refl

-- reading has come to a place in this mode, holding the bytes so far if they are at most 64: the rest read from there,
-- with these bytes in front, is the whole text read
pub record ReadTo (quote : ℕ) (text : List ℕ) (mode : Mode) (held : Option Text) (place : ℕ) : Type 0 where
  pub so_far : List ℕ
  pub held_is : held ≡ kept so_far
  pub same : read_in_quotes quote Plain text ≡ onto so_far (read_in_quotes quote mode (drop place text))

-- before the first byte nothing was read
pub read_none : (quote : ℕ) (text : List ℕ) (held : Option Text) → held ≡ kept [] → ReadTo quote text Plain held 0
read_none quote text held e = record { so_far = []; held_is = e; same = onto-nil _ }

-- the loop over bytes: if the byte at a place stands for no byte, as a backslash, the same bytes are held at the next
-- place, and the mode may be another
pub read_mark : (quote : ℕ) (text : List ℕ) (mode next : Mode) (held : Option Text) (place : ℕ) → place < length text
    → ((rest : List ℕ) → read_in_quotes quote mode (get_or text place 0 ∷ rest) ≡ read_in_quotes quote next rest)
    → ReadTo quote text mode held place → ReadTo quote text next held (place + 1)
read_mark quote text mode next held place within step so_far = record {
  so_far = so_far.so_far;
  held_is = so_far.held_is;
  same = so_far.same ∙ rw (drop-cons text place 0 within, step, add-one) refl;
}

-- the loop over bytes: if the byte at a place gives the literal bytes, these are held too at the next place, and the
-- mode may be another
pub read_more : (quote : ℕ) (text : List ℕ) (mode next : Mode) (old new : Option Text) (place : ℕ) (bytes : List ℕ)
    → place < length text
    → ((rest : List ℕ) → read_in_quotes quote mode (get_or text place 0 ∷ rest)
    ≡ onto bytes (read_in_quotes quote next rest))
    → ((xs : List ℕ) → old ≡ kept xs → new ≡ kept (xs ++ bytes))
    → ReadTo quote text mode old place → ReadTo quote text next new (place + 1)
read_more quote text mode next old new place bytes within step grows so_far = record {
  so_far = so_far.so_far ++ bytes;
  held_is = grows so_far.so_far so_far.held_is;
  same = so_far.same ∙ rw (drop-cons text place 0 within, step, add-one) (onto-onto so_far.so_far bytes _);
}

-- if a quote has closed the text at the place that reading has come to, what is held there is the literal, if it
-- isn't too long
closed : (quote : ℕ) (text rest : List ℕ) (mode : Mode) (held : Option Text) (place : ℕ)
    → read_in_quotes quote mode (drop place text) ≡ Some ([], rest)
    → ReadTo quote text mode held place → text_literal_of (read_in_quotes quote Plain text) ≡ sized held rest
closed quote text rest mode held place e so_far =
    rw (so_far.same, e, append-nil so_far.so_far, ← so_far.held_is) refl

-- if a byte that is no quote follows a quote, that quote closed the text
pub read_closed : (quote : ℕ) (text : List ℕ) (held : Option Text) (place : ℕ) → place < length text
    → (get_or text place 0 ≡ quote → ⊥)
    → ReadTo quote text Quote held place → text_literal_of (read_in_quotes quote Plain text)
    ≡ sized held (drop place text)
read_closed quote text held place within other so_far =
    closed quote text (drop place text) Quote held place (rw (drop-cons text place 0 within)
    (quote_closes quote _ _ other)) so_far

-- if the text ends behind a quote, that quote closed it
pub read_ended : (quote : ℕ) (text : List ℕ) (held : Option Text) (place : ℕ) → length text ≤ place
    → ReadTo quote text Quote held place → text_literal_of (read_in_quotes quote Plain text) ≡ sized held []
read_ended quote text held place past so_far =
    closed quote text [] Quote held place (rw (drop_all place text past) (quoted-nil-quote quote)) so_far

-- if what is left has no closing quote, the whole text has none
unclosed : (quote : ℕ) (text : List ℕ) (mode : Mode) (held : Option Text) (place : ℕ)
    → read_in_quotes quote mode (drop place text) ≡ None
    → ReadTo quote text mode held place → read_in_quotes quote Plain text ≡ None
unclosed quote text mode held place e so_far = so_far.same ∙ rw e refl

-- if the text ends before a closing quote, its quotes aren't closed
pub read_plain_end : (quote : ℕ) (text : List ℕ) (held : Option Text) (place : ℕ) → length text ≤ place
    → ReadTo quote text Plain held place → read_in_quotes quote Plain text ≡ None
read_plain_end quote text held place past so_far =
    unclosed quote text Plain held place (rw (drop_all place text past) (quoted-nil-plain quote)) so_far

-- if the text ends at a backslash, its quotes aren't closed
pub read_escape_end : (quote : ℕ) (text : List ℕ) (held : Option Text) (place : ℕ) → length text ≤ place
    → ReadTo quote text Escape held place → read_in_quotes quote Plain text ≡ None
read_escape_end quote text held place past so_far =
    unclosed quote text Escape held place (rw (drop_all place text past) (quoted-nil-escape quote)) so_far
