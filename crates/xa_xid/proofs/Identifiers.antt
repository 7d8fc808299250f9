-- What is read as an identifier is spelled as one, and the other way round.
use Rattle.std.proofs.Common.{◌≡◌, ℕ, true, false, ◌==◌, if◌then◌else◌, List, [], ◌∷◌, Option, Some, None, Ok, Err}
use Rattle.std.proofs.{Common.{refl, ◌∙◌, ap}, lemmas.Bool.eqb-true}
use Rattle.xa_xid.specs.{Bytes.unblank, Literal.{Reading, TextAt, literal_ahead, sized}}
use Rattle.xa_xid.specs.Faults.{FaultyLiteral, FaultyXid, faulty_gtrid, faulty_bqual, faulty_format_id}
use Rattle.xa_xid.specs.{Number.{NumberAt, number_ahead}, Xid.Text, XidText.{XidAt, gtrid_alone, gtrid_bqual}}
use Rattle.xa_xid.specs.XidText.{gtrid_bqual_format, CommaAt, NoCommaAt, Parse, xid_ahead, xid_of, comma_next}
use Rattle.xa_xid.specs.{XidText.{after_gtrid, after_bqual}, declared.literal_fault.LiteralFault.LiteralFault}
use Rattle.xa_xid.{specs.declared.xid.Xid.Xid, proofs.Spelled.{read_spelled, read_faulty, faulty_read}}
use Rattle.xa_xid.proofs.Numerals.{read_number_spelled, spelled_number_read, read_faulty_number, faulty_number_read}
use Rattle.xa_xid.proofs.{Spelling.spelled_read, Texts.kept-fits, Written.{format_found, bqual_found, gtrid_found}}

-- a literal that is read and has at most 64 bytes is spelled as a text
pub read_text_spelled : (text : List ℕ) (found : Text) (rest : List ℕ) → literal_ahead text ≡ Ok (found, rest)
    → TextAt text found rest
read_text_spelled text found rest e = let parts = read_spelled text found rest e in
    record { literal = parts.0; fits = parts.1 }

-- a text that is spelled at a place is read there
pub spelled_text_read : (text : List ℕ) (found : Text) (rest : List ℕ) → TextAt text found rest
    → literal_ahead text ≡ Ok (found, rest)
spelled_text_read text found rest form =
    spelled_read text found.items rest form.literal ∙ ap (λ k. sized k rest) (kept-fits found.items form.fits)

-- a reading has one result
text_once : (reading : Reading Text) (found other : Text × List ℕ) → reading ≡ Ok found → reading ≡ Ok other
    → found ≡ other
text_once reading found other e f = cc

-- at most one text is spelled at a place
pub one_text : (text : List ℕ) (found other : Text) (rest behind : List ℕ) → TextAt text found rest
    → TextAt text other behind
    → (found ≡ other) × (rest ≡ behind)
one_text text found other rest behind form again =
    let same =
    text_once (literal_ahead text) (found, rest) (other, behind) (spelled_text_read text found rest form)
    (spelled_text_read text other behind again) in
    (ap (λ pair. pair.0) same, ap (λ pair. pair.1) same)

-- a comma comes next and this stands behind it, or none comes next
abbrev CommaFound : List ℕ → Option (List ℕ) → Type 0
CommaFound text None = NoCommaAt text
CommaFound text (Some rest) = CommaAt text rest

-- looking for a comma finds one, or there is none
comma_found : (text : List ℕ) → CommaFound text (comma_next text)
comma_found [] = tt
comma_found (byte ∷ text) =
    elim (byte == 44) as (λ t. (byte == 44) ≡ t → CommaFound (byte ∷ text) (if t then Some text else None)) [
      | true ↦ λ e. ap (λ b. b ∷ text) (eqb-true byte 44 e)
      | false ↦ λ e. e
    ] refl

-- a comma that is there is found
comma_read : (text rest : List ℕ) → CommaAt text rest → comma_next text ≡ Some rest
comma_read text rest e = ap comma_next e

-- where no comma stands, none is found
no_comma_read : (text : List ℕ) → NoCommaAt text → comma_next text ≡ None
no_comma_read [] s = refl
no_comma_read (byte ∷ text) s = rw s refl

-- the text begins with the identifier that was read; or the fault and its place are those of the table
abbrev pub XidSpelled : List ℕ → Parse → Type 0
XidSpelled text (Ok found) = XidAt text found.0 found.1
XidSpelled text (Err fault) = FaultyXid text fault.0 fault.1

-- if gtrid and bqual, each with a comma behind it, are spelled, then a formatID that is read behind them is spelled,
-- and each fault there is told rightly
format_spelled : (text second third fourth fifth : List ℕ) (gtrid bqual : Text) → TextAt (unblank text) gtrid second
    → CommaAt (unblank second) third
    → TextAt (unblank third) bqual fourth → CommaAt (unblank fourth) fifth
    → (found : Reading ℕ) → number_ahead (unblank fifth) ≡ found
    → XidSpelled text (format_found gtrid bqual (unblank fifth) found)
format_spelled text second third fourth fifth gtrid bqual first comma part last (Ok (value, rest)) e =
    gtrid_bqual_format gtrid bqual value first comma part last (read_number_spelled (unblank fifth) value rest e)
format_spelled text second third fourth fifth gtrid bqual first comma part last (Err fault) e =
    faulty_format_id text second third fourth fifth gtrid bqual fault first comma part last
    (read_faulty_number (unblank fifth) fault e)

-- if gtrid, comma and bqual are spelled, then what is read behind them, a formatID or nothing, is spelled, and each
-- fault there is told rightly
after_bqual_spelled : (text second third fourth : List ℕ) (gtrid bqual : Text) → TextAt (unblank text) gtrid second
    → CommaAt (unblank second) third
    → TextAt (unblank third) bqual fourth → (next : Option (List ℕ)) → CommaFound (unblank fourth) next
    → XidSpelled text (after_bqual gtrid bqual fourth next)
after_bqual_spelled text second third fourth gtrid bqual first comma part None none =
    gtrid_bqual gtrid bqual first comma part none
after_bqual_spelled text second third fourth gtrid bqual first comma part (Some fifth) last =
    format_spelled text second third fourth fifth gtrid bqual first comma part last (number_ahead (unblank fifth)) refl

-- if gtrid and comma are spelled, then what is read behind them, from the bqual on, is spelled, and each fault there
-- is told rightly
bqual_spelled : (text second third : List ℕ) (gtrid : Text) → TextAt (unblank text) gtrid second
    → CommaAt (unblank second) third
    → (found : Reading Text) → literal_ahead (unblank third) ≡ found
    → XidSpelled text (bqual_found gtrid (unblank third) found)
bqual_spelled text second third gtrid first comma (Ok (bqual, fourth)) e =
    after_bqual_spelled text second third fourth gtrid bqual first comma
    (read_text_spelled (unblank third) bqual fourth e)
    (comma_next (unblank fourth)) (comma_found (unblank fourth))
bqual_spelled text second third gtrid first comma (Err fault) e =
    faulty_bqual text second third gtrid fault first comma (read_faulty (unblank third) fault e)

-- if a gtrid is spelled, then what is read behind it is spelled, and each fault there is told rightly
after_gtrid_spelled : (text second : List ℕ) (gtrid : Text) → TextAt (unblank text) gtrid second
    → (next : Option (List ℕ))
    → CommaFound (unblank second) next → XidSpelled text (after_gtrid gtrid second next)
after_gtrid_spelled text second gtrid first None none = gtrid_alone gtrid first none
after_gtrid_spelled text second gtrid first (Some third) comma =
    bqual_spelled text second third gtrid first comma (literal_ahead (unblank third)) refl

-- what is read of an identifier from its gtrid on is spelled, and each fault is told rightly
gtrid_spelled : (text : List ℕ) (found : Reading Text) → literal_ahead (unblank text) ≡ found
    → XidSpelled text (gtrid_found (unblank text) found)
gtrid_spelled text (Ok (gtrid, second)) e =
    after_gtrid_spelled text second gtrid (read_text_spelled (unblank text) gtrid second e)
    (comma_next (unblank second)) (comma_found (unblank second))
gtrid_spelled text (Err fault) e = faulty_gtrid text fault (read_faulty (unblank text) fault e)

-- what is read as an identifier is spelled as one, and each fault is told rightly
xid_spelled : (text : List ℕ) → XidSpelled text (xid_ahead text)
unfolding xid_ahead
xid_spelled text = gtrid_spelled text (literal_ahead (unblank text)) refl

-- an identifier that is read is spelled so by the grammar
pub read_xid_spelled : (text : List ℕ) (xid : Xid) (rest : List ℕ) → xid_ahead text ≡ Ok (xid, rest)
    → XidAt text xid rest
read_xid_spelled text xid rest e = rw e at (xid_spelled text)

-- a gtrid that is spelled is read, and reading goes on behind it
gtrid_read : (text second : List ℕ) (gtrid : Text) → TextAt (unblank text) gtrid second
    → xid_ahead text ≡ after_gtrid gtrid second (comma_next (unblank second))
unfolding xid_ahead
gtrid_read text second gtrid first =
    ap (gtrid_found (unblank text)) (spelled_text_read (unblank text) gtrid second first)

-- a comma and a bqual that are spelled behind a gtrid are read
bqual_read : (gtrid bqual : Text) (second third fourth : List ℕ) → CommaAt (unblank second) third
    → TextAt (unblank third) bqual fourth
    → after_gtrid gtrid second (comma_next (unblank second))
    ≡ after_bqual gtrid bqual fourth (comma_next (unblank fourth))
bqual_read gtrid bqual second third fourth comma part =
    ap (after_gtrid gtrid second) (comma_read (unblank second) third comma)
    ∙ ap (bqual_found gtrid (unblank third)) (spelled_text_read (unblank third) bqual fourth part)

-- a comma and a formatID that are spelled are read
format_read : (gtrid bqual : Text) (value : ℕ) (fourth fifth rest : List ℕ) → CommaAt (unblank fourth) fifth
    → NumberAt (unblank fifth) value rest
    → after_bqual gtrid bqual fourth (comma_next (unblank fourth)) ≡ Ok (xid_of gtrid bqual value, rest)
format_read gtrid bqual value fourth fifth rest last number =
    ap (after_bqual gtrid bqual fourth) (comma_read (unblank fourth) fifth last)
    ∙ ap (format_found gtrid bqual (unblank fifth)) (spelled_number_read (unblank fifth) value rest number)

-- an identifier that the grammar spells is read
pub spelled_xid_read : (text : List ℕ) (xid : Xid) (rest : List ℕ) → XidAt text xid rest
    → xid_ahead text ≡ Ok (xid, rest)
spelled_xid_read _ _ _ (gtrid_alone gtrid {text} {rest} first none) =
    gtrid_read text rest gtrid first ∙ ap (after_gtrid gtrid rest) (no_comma_read (unblank rest) none)
spelled_xid_read _ _ _ (gtrid_bqual gtrid bqual {text} {second} {third} {rest} first comma part none) =
    gtrid_read text second gtrid first ∙ bqual_read gtrid bqual second third rest comma part
    ∙ ap (after_bqual gtrid bqual rest) (no_comma_read (unblank rest) none)
spelled_xid_read _ _ _ (gtrid_bqual_format gtrid bqual value {text} {second} {third} {fourth} {fifth}
    {rest} first comma part last number) =
    gtrid_read text second gtrid first ∙ bqual_read gtrid bqual second third fourth comma part
    ∙ format_read gtrid bqual value fourth fifth rest last number

-- a reading has one result
xid_once : (parse : Parse) (found other : Xid × List ℕ) → parse ≡ Ok found → parse ≡ Ok other → found ≡ other
xid_once parse found other e f = cc

-- at most one identifier is spelled at a place
pub one_xid : (text : List ℕ) (xid other : Xid) (rest behind : List ℕ) → XidAt text xid rest → XidAt text other behind
    → (xid ≡ other) × (rest ≡ behind)
one_xid text xid other rest behind form again =
    let same = xid_once (xid_ahead text) (xid, rest) (other, behind) (spelled_xid_read text xid rest form)
    (spelled_xid_read text other behind again) in
    (ap (λ pair. pair.0) same, ap (λ pair. pair.1) same)

-- each fault of reading an identifier, with its place, is a row of the table of faults
pub read_faulty_xid : (text : List ℕ) (fault : LiteralFault) (rest : List ℕ) → xid_ahead text ≡ Err (fault, rest)
    → FaultyXid text fault rest
read_faulty_xid text fault rest e = rw e at (xid_spelled text)

-- a faulty gtrid is told as that fault
gtrid_told : (text : List ℕ) (fault : LiteralFault) → FaultyLiteral (unblank text) fault
    → xid_ahead text ≡ Err (fault, unblank text)
unfolding xid_ahead
gtrid_told text fault row = ap (gtrid_found (unblank text)) (faulty_read (unblank text) fault row)

-- each row of the table of faults is told as its fault, at its place
pub faulty_xid_read : (text : List ℕ) (fault : LiteralFault) (rest : List ℕ) → FaultyXid text fault rest
    → xid_ahead text ≡ Err (fault, rest)
faulty_xid_read _ _ _ (faulty_gtrid text fault row) = gtrid_told text fault row
faulty_xid_read _ _ _ (faulty_bqual text second third gtrid fault first comma row) =
    gtrid_read text second gtrid first ∙ ap (after_gtrid gtrid second) (comma_read (unblank second) third comma)
    ∙ ap (bqual_found gtrid (unblank third)) (faulty_read (unblank third) fault row)
faulty_xid_read _ _ _ (faulty_format_id text second third fourth fifth gtrid bqual fault first comma part last row) =
    gtrid_read text second gtrid first ∙ bqual_read gtrid bqual second third fourth comma part
    ∙ ap (after_bqual gtrid bqual fourth) (comma_read (unblank fourth) fifth last)
    ∙ ap (format_found gtrid bqual (unblank fifth)) (faulty_number_read (unblank fifth) fault row)
