-- What a token leaves of a text is an end of it, so a place says it too.
use Rattle.std.proofs.Common.{◌≡◌, ℕ, ◌-◌, ◌+◌, ◌≤◌, ◌↔◌, List, [], ◌∷◌, ◌++◌, length, take, drop, Result, Ok, Err}
use Rattle.std.proofs.{Common.{refl, sym, ◌∙◌, ap, arith, append_assoc, length-append}, Math.Seq.drop-append_seam}
use Rattle.std.proofs.lemmas.List.{take-append-drop, length-drop}
use Rattle.xa_xid.specs.{Bytes.{belongs, front, unblank}, Literal.{Reading, LiteralAt, text_literal, hex_in_quotes}}
use Rattle.xa_xid.specs.Literal.{hex_run, TextAt, Between, literal_ahead, placed}
use Rattle.xa_xid.specs.Faults.{FaultyLiteral, FaultyNumber, FaultyXid, faulty_gtrid, faulty_bqual, faulty_format_id}
use Rattle.xa_xid.specs.{Number.{NumberAt, decimal_digits, hexadecimal_digits, number_ahead}, Xid.Text, XidText.XidAt}
use Rattle.xa_xid.specs.XidText.{gtrid_alone, gtrid_bqual, gtrid_bqual_format, CommaAt, Parse, xid_ahead, gtrid_next}
use Rattle.xa_xid.specs.{XidText.places, declared.byte_class.ByteClass.TheVariants.Blank}
use Rattle.xa_xid.specs.declared.{literal_fault.LiteralFault.LiteralFault, xid.Xid.Xid}
use Rattle.xa_xid.proofs.Identifiers.{read_text_spelled, spelled_text_read, read_xid_spelled, spelled_xid_read}
use Rattle.xa_xid.proofs.{Identifiers.{read_faulty_xid, faulty_xid_read}, Spelled.{read_faulty, faulty_read}}
use Rattle.xa_xid.proofs.Numerals.{read_number_spelled, spelled_number_read, read_faulty_number, faulty_number_read}
use Rattle.xa_xid.proofs.Spelling.{front-behind}

-- rest is the end of a text: something before it makes it the whole
pub record EndOf (text rest : List ℕ) : Type 0 where
  pub before : List ℕ
  pub cut : text ≡ before ++ rest

-- an end of an end of a text is an end of the text
end_of_end : (text middle rest : List ℕ) → EndOf text middle → EndOf middle rest → EndOf text rest
end_of_end text middle rest outer inner = record {
  before = outer.before ++ inner.before;
  cut = outer.cut ∙ ap (λ t. outer.before ++ t) inner.cut ∙ sym (append_assoc outer.before inner.before rest);
}

-- what stands from a place on is an end
end_from : (text : List ℕ) (at : ℕ) → EndOf text (drop at text)
end_from text at = record { before = take at text; cut = sym (take-append-drop at text) }

-- a text without its leading blanks is an end of the text
end_unblank : (text : List ℕ) → EndOf text (unblank text)
end_unblank text = record { before = front (belongs Blank) text; cut = sym (front-behind (belongs Blank) text) }

-- what is left behind a comma is an end of the text
end_comma : (text rest : List ℕ) → CommaAt (unblank text) rest → EndOf text rest
end_comma text rest e = end_of_end text (unblank text) rest (end_unblank text) (record { before = 44 ∷ []; cut = e })

-- what is left behind a literal is an end of the text
end_literal : (text bytes rest : List ℕ) → LiteralAt text bytes rest → EndOf text rest
end_literal _ _ _ (text_literal quote {text} {bytes} {rest} is q) =
    record { before = quote ∷ q.written; cut = ap (λ t. quote ∷ t) q.cut }
end_literal _ _ _ (hex_in_quotes letter digits {bytes} {rest} is e all) = record {
  before = letter ∷ 39 ∷ (digits ++ (39 ∷ []));
  cut = ap (λ t. letter ∷ 39 ∷ t) (sym (append_assoc digits (39 ∷ []) rest));
}
end_literal _ _ _ (hex_run digit digits {bytes} {rest} e all s) =
    record { before = 48 ∷ 120 ∷ digit ∷ digits; cut = refl }

-- what is left behind a literal is an end of the text
pub end_text : (text : List ℕ) (found : Text) (rest : List ℕ) → TextAt text found rest → EndOf text rest
end_text text found rest form = end_literal text found.items rest form.literal

-- what is left behind blanks and a literal is an end of the text
end_part : (text : List ℕ) (found : Text) (rest : List ℕ) → TextAt (unblank text) found rest → EndOf text rest
end_part text found rest form =
    end_of_end text (unblank text) rest (end_unblank text) (end_text (unblank text) found rest form)

-- what is left behind a number is an end of the text
pub end_number : (text : List ℕ) (value : ℕ) (rest : List ℕ) → NumberAt text value rest → EndOf text rest
end_number _ _ _ (decimal_digits digit digits {value} {rest} all e small s) =
    record { before = digit ∷ digits; cut = refl }
end_number _ _ _ (hexadecimal_digits digit digits {value} {rest} all e small s) =
    record { before = 48 ∷ 120 ∷ digit ∷ digits; cut = refl }

-- what is left behind gtrid and bqual is an end of the text
end_second : (text second third rest : List ℕ) (gtrid bqual : Text) → TextAt (unblank text) gtrid second
    → CommaAt (unblank second) third
    → TextAt (unblank third) bqual rest → EndOf text rest
end_second text second third rest gtrid bqual first comma part =
    end_of_end text second rest (end_part text gtrid second first)
    (end_of_end second third rest (end_comma second third comma) (end_part third bqual rest part))

-- what is left behind an identifier is an end of the text
pub end_xid : (text : List ℕ) (xid : Xid) (rest : List ℕ) → XidAt text xid rest → EndOf text rest
end_xid _ _ _ (gtrid_alone gtrid {text} {rest} first none) = end_part text gtrid rest first
end_xid _ _ _ (gtrid_bqual gtrid bqual {text} {second} {third} {rest} first comma part none) =
    end_second text second third rest gtrid bqual first comma part
end_xid _ _ _ (gtrid_bqual_format gtrid bqual value {text} {second} {third} {fourth} {fifth}
    {rest} first comma part last number) =
    end_of_end text fourth rest (end_second text second third fourth gtrid bqual first comma part)
    (end_of_end fourth fifth rest (end_comma fourth fifth last)
    (end_of_end fifth (unblank fifth) rest (end_unblank fifth) (end_number (unblank fifth) value rest number)))

-- an end of a text is what stands from a place on
end_place : (text rest : List ℕ) → EndOf text rest → drop (length text - length rest) text ≡ rest
end_place text rest end =
    let sizes : length text ≡ length end.before + length rest = ap length end.cut ∙ length-append end.before rest in
    let place : length text - length rest ≡ length end.before = omega (arith, sizes) in
    rw place (ap (drop (length end.before)) end.cut ∙ drop-append_seam end.before rest)

-- what is spelled at a place stands between it and the place at which the rest begins
between : {Value : Type 0} (Spelled : List ℕ → Value → List ℕ → Type 0) (text : List ℕ) (at : ℕ) (value : Value)
    (rest : List ℕ)
    → Spelled (drop at text) value rest → EndOf (drop at text) rest
    → Between Spelled text at value (length text - length rest)
between Spelled text at value rest form end = record {
  within = omega arith;
  spelled = rw (end_place text rest (end_of_end text (drop at text) rest (end_from text at) end)) form;
}

-- a place in a text is the text's length less the length of what stands from that place on
next_place : (text : List ℕ) (next : ℕ) → next ≤ length text → length text - length (drop next text) ≡ next
next_place text next within = rw (length-drop next text) (omega arith)

-- if reading finds what is spelled at a place, it finds what is spelled between that place and another, with this place
placed_spelled : {Value : Type 0} (Spelled : List ℕ → Value → List ℕ → Type 0) (text : List ℕ) (at : ℕ)
    (found : Reading Value) (value : Value) (next : ℕ)
    → ((rest : List ℕ) → Spelled (drop at text) value rest → found ≡ Ok (value, rest))
    → Between Spelled text at value next → placed text found ≡ Ok (value, next)
placed_spelled Spelled text at found value next read form =
    ap (placed text) (read (drop next text) form.spelled) ∙ ap (λ n. Ok (value, n)) (next_place text next form.within)

-- an Err isn't an Ok
err_is_ok : {Value : Type 0} (reading : Reading Value) (fault : LiteralFault) (found : Value × List ℕ)
    → reading ≡ Err fault → reading ≡ Ok found → ⊥
err_is_ok reading fault found err ok = cc

-- a literal that is read stands between its place and the next
pub text_between : (text : List ℕ) (at : ℕ) (found : Text) (rest : List ℕ)
    → literal_ahead (drop at text) ≡ Ok (found, rest)
    → Between TextAt text at found (length text - length rest)
text_between text at found rest e =
    let form = read_text_spelled (drop at text) found rest e in
    between TextAt text at found rest form (end_text (drop at text) found rest form)

-- a literal that stands between two places is read so
pub between_text : (text : List ℕ) (at : ℕ) (found : Reading Text) → literal_ahead (drop at text) ≡ found
    → (bytes : Text) (next : ℕ)
    → Between TextAt text at bytes next → placed text found ≡ Ok (bytes, next)
between_text text at found e bytes next =
    placed_spelled TextAt text at found bytes next (λ rest form. sym e
    ∙ spelled_text_read (drop at text) bytes rest form)

-- if reading a literal fails at a place, none stands there
pub no_text_between : (text : List ℕ) (at : ℕ) (fault : LiteralFault) → literal_ahead (drop at text) ≡ Err fault
    → (bytes : Text) (next : ℕ)
    → Between TextAt text at bytes next → ⊥
no_text_between text at fault e bytes next form =
    err_is_ok (literal_ahead (drop at text)) fault (bytes, drop next text) e
    (spelled_text_read (drop at text) bytes (drop next text) form.spelled)

-- a number that is read stands between its place and the next
pub number_between : (text : List ℕ) (at value : ℕ) (rest : List ℕ) → number_ahead (drop at text) ≡ Ok (value, rest)
    → Between NumberAt text at value (length text - length rest)
number_between text at value rest e =
    let form = read_number_spelled (drop at text) value rest e in
    between NumberAt text at value rest form (end_number (drop at text) value rest form)

-- a number that stands between two places is read so
pub between_number : (text : List ℕ) (at : ℕ) (found : Reading ℕ) → number_ahead (drop at text) ≡ found
    → (value next : ℕ)
    → Between NumberAt text at value next → placed text found ≡ Ok (value, next)
between_number text at found e value next =
    placed_spelled NumberAt text at found value next (λ rest form. sym e
    ∙ spelled_number_read (drop at text) value rest form)

-- if reading a number fails at a place, none stands there
pub no_number_between : (text : List ℕ) (at : ℕ) (fault : LiteralFault) → number_ahead (drop at text) ≡ Err fault
    → (value next : ℕ)
    → Between NumberAt text at value next → ⊥
no_number_between text at fault e value next form =
    err_is_ok (number_ahead (drop at text)) fault (value, drop next text) e
    (spelled_number_read (drop at text) value (drop next text) form.spelled)

-- a reading has at most one fault
told_fault : {Value : Type 0} (reading : Result Value LiteralFault) (told fault : LiteralFault) → reading ≡ Err told
    → reading ≡ Err fault → told ≡ fault
told_fault reading told fault e f = cc

-- a fault of a reading with places is the fault of the reading itself
placed_fault : {Value : Type 0} (text : List ℕ) (found : Reading Value) (fault : LiteralFault)
    → placed text found ≡ Err fault → found ≡ Err fault
placed_fault text (Ok (value, rest)) fault e = cc e
placed_fault text (Err told) fault e = ap Err (told_fault (placed text (Err told)) told fault refl e)

-- the faults of a literal at a place are those of the table, both ways
pub literal_fault_from : (text : List ℕ) (at : ℕ) (found : Reading Text) → literal_ahead (drop at text) ≡ found
    → (fault : LiteralFault)
    → (placed text found ≡ Err fault) ↔ FaultyLiteral (drop at text) fault
literal_fault_from text at found e fault = (
  λ told. read_faulty (drop at text) fault (e ∙ placed_fault text found fault told),
  λ row. ap (placed text) (sym e ∙ faulty_read (drop at text) fault row),
)

-- the faults of a number at a place are those of the table, both ways
pub number_fault_from : (text : List ℕ) (at : ℕ) (found : Reading ℕ) → number_ahead (drop at text) ≡ found
    → (fault : LiteralFault)
    → (placed text found ≡ Err fault) ↔ FaultyNumber (drop at text) fault
number_fault_from text at found e fault = (
  λ told. read_faulty_number (drop at text) fault (e ∙ placed_fault text found fault told),
  λ row. ap (placed text) (sym e ∙ faulty_number_read (drop at text) fault row),
)

-- reading an identifier is reading it from its gtrid on, behind the blanks before it
xid_at-unblank : (text tail : List ℕ) → tail ≡ unblank text → xid_ahead text ≡ gtrid_next tail
unfolding xid_ahead
xid_at-unblank text tail e = ap gtrid_next (sym e)

-- an identifier that is read stands between its place and the next
pub xid_between : (text tail : List ℕ) (at : ℕ) (xid : Xid) (rest : List ℕ) → tail ≡ unblank (drop at text)
    → gtrid_next tail ≡ Ok (xid, rest)
    → Between XidAt text at xid (length text - length rest)
xid_between text tail at xid rest blank e =
    let form = read_xid_spelled (drop at text) xid rest (xid_at-unblank (drop at text) tail blank ∙ e) in
    between XidAt text at xid rest form (end_xid (drop at text) xid rest form)

-- an identifier that stands between two places is read so
pub between_xid : (text tail : List ℕ) (at : ℕ) (found : Parse) → tail ≡ unblank (drop at text)
    → gtrid_next tail ≡ found → (xid : Xid) (next : ℕ)
    → Between XidAt text at xid next → places text found ≡ Ok (xid, next)
between_xid text tail at found blank e xid next form =
    let read : found ≡ Ok (xid, drop next text) =
    sym (xid_at-unblank (drop at text) tail blank ∙ e) ∙ spelled_xid_read (drop at text) xid
    (drop next text) form.spelled in
    ap (places text) read ∙ ap (λ n. Ok (xid, n)) (next_place text next form.within)

-- what is left from the faulty token of an identifier on is an end of the text
end_faulty : (text : List ℕ) (fault : LiteralFault) (rest : List ℕ) → FaultyXid text fault rest → EndOf text rest
end_faulty _ _ _ (faulty_gtrid text fault row) = end_unblank text
end_faulty _ _ _ (faulty_bqual text second third gtrid fault first comma row) =
    end_of_end text second (unblank third) (end_part text gtrid second first)
    (end_of_end second third (unblank third) (end_comma second third comma) (end_unblank third))
end_faulty _ _ _ (faulty_format_id text second third fourth fifth gtrid bqual fault first comma part last row) =
    end_of_end text fourth (unblank fifth) (end_second text second third fourth gtrid bqual first comma part)
    (end_of_end fourth fifth (unblank fifth) (end_comma fourth fifth last) (end_unblank fifth))

-- a fault that is told is one of the table, at its place
pub xid_fault_between : (text tail : List ℕ) (at : ℕ) (fault : LiteralFault) (rest : List ℕ)
    → tail ≡ unblank (drop at text)
    → gtrid_next tail ≡ Err (fault, rest)
    → Between FaultyXid text at fault (length text - length rest)
xid_fault_between text tail at fault rest blank e =
    let row = read_faulty_xid (drop at text) fault rest (xid_at-unblank (drop at text) tail blank ∙ e) in
    between FaultyXid text at fault rest row (end_faulty (drop at text) fault rest row)

-- a fault of an identifier that the table has is told, at its place
pub between_xid_fault : (text tail : List ℕ) (at : ℕ) (found : Parse) → tail ≡ unblank (drop at text)
    → gtrid_next tail ≡ found
    → (fault : LiteralFault) (place : ℕ) → Between FaultyXid text at fault place
    → places text found ≡ Err (fault, place)
between_xid_fault text tail at found blank e fault place row =
    let told : found ≡ Err (fault, drop place text) =
    sym (xid_at-unblank (drop at text) tail blank ∙ e) ∙ faulty_xid_read (drop at text) fault
    (drop place text) row.spelled in
    ap (places text) told ∙ ap (λ n. Err (fault, n)) (next_place text place row.within)
