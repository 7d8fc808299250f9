-- The spelling of an identifier: gtrid [, bqual [, formatID]], blanks before each token.
--     XidAt text xid rest    the text begins with the identifier, and `rest` comes after its last token
--     xid_ahead text         the identifier that a text begins with and the text after it, or its fault and the text
--                            from there
--     xid_from text at       the same at a place, with places for texts
--     part_text, xid_text    the canonical text of a gtrid, bqual, key or value, and of an identifier
--     gtrid_next, bqual_next, format_id_next     reading an identifier from this part on
--     no_text, xid_of        the empty text;  the identifier of three parts
use Rattle.std.specs.Prelude.{◌≡◌, ℕ, ◌-◌, ◌≤◌, ◌<◌, ◌^◌, ◌==◌, if◌then◌else◌, List, [], ◌∷◌, ◌++◌, length, drop, codes}
use Rattle.std.specs.Prelude.{decimal, Option, Some, None, Result, Ok, Err}
use Rattle.hex.specs.Hex.{encode_lower, IsBytes}
use Rattle.xa_xid.specs.{Limits.text_bytes, Bytes.{unblank, StartsNo}, Literal.{TextAt, literal_ahead}}
use Rattle.xa_xid.specs.{Number.{NumberAt, number_ahead}, Xid.Text, declared.xid.Xid.Xid}
use Rattle.xa_xid.specs.declared.literal_fault.LiteralFault.{LiteralFault}

-- the empty text
abbrev pub no_text : Text
no_text = record { items = [] }

-- the identifier of three parts
abbrev pub xid_of : Text → Text → ℕ → Xid
xid_of gtrid bqual format_id = record { format_id = format_id; gtrid = gtrid; bqual = bqual }

-- the text begins with a comma, and `rest` comes after it
abbrev pub CommaAt : List ℕ → List ℕ → Type 0
CommaAt text rest = text ≡ 44 ∷ rest

-- the text doesn't begin with a comma
abbrev pub NoCommaAt : List ℕ → Type 0
NoCommaAt text = StartsNo (λ byte. byte == 44) text

-- which identifier a text begins with, blanks before each token skipped (manual, 'XA Transaction SQL Statements'):
-- bqual or formatID is left out only if no comma comes after the part before it, blanks skipped
pub data XidAt : List ℕ → Xid → List ℕ → Type 0 where
  gtrid_alone : (gtrid : Text) {text rest : List ℕ} → TextAt (unblank text) gtrid rest → NoCommaAt (unblank rest)
      → XidAt text (xid_of gtrid no_text 1) rest
  gtrid_bqual : (gtrid bqual : Text) {text second third rest : List ℕ} → TextAt (unblank text) gtrid second
      → CommaAt (unblank second) third
      → TextAt (unblank third) bqual rest → NoCommaAt (unblank rest)
      → XidAt text (xid_of gtrid bqual 1) rest
  gtrid_bqual_format : (gtrid bqual : Text) (format_id : ℕ) {text second third fourth fifth rest : List ℕ}
      → TextAt (unblank text) gtrid second
      → CommaAt (unblank second) third → TextAt (unblank third) bqual fourth → CommaAt (unblank fourth) fifth
      → NumberAt (unblank fifth) format_id rest
      → XidAt text (xid_of gtrid bqual format_id) rest

-- what was read and the text after it, or the fault and the text from the faulty token on
abbrev pub Parse : Type 0
Parse = Result (Xid × List ℕ) (LiteralFault × List ℕ)

-- the text after a comma that the text begins with; none if it doesn't begin with one
abbrev pub comma_next : List ℕ → Option (List ℕ)
comma_next [] = None
comma_next (byte ∷ text) = if byte == 44 then Some text else None

-- reading goes on with the formatID, after the second comma
abbrev pub format_id_next : Text → Text → List ℕ → Parse
format_id_next gtrid bqual text = elim (number_ahead text) [
  | Ok found ↦ Ok (xid_of gtrid bqual found.0, found.1)
  | Err fault ↦ Err (fault, text)
]

-- reading goes on behind the bqual: a formatID if a comma comes next, else it is 1
abbrev pub after_bqual : Text → Text → List ℕ → Option (List ℕ) → Parse
after_bqual gtrid bqual rest None = Ok (xid_of gtrid bqual 1, rest)
after_bqual gtrid bqual rest (Some text) = format_id_next gtrid bqual (unblank text)

-- reading goes on with the bqual, after the first comma
abbrev pub bqual_next : Text → List ℕ → Parse
bqual_next gtrid text = elim (literal_ahead text) [
  | Ok found ↦ after_bqual gtrid found.0 found.1 (comma_next (unblank found.1))
  | Err fault ↦ Err (fault, text)
]

-- reading goes on behind the gtrid: a bqual if a comma comes next, else it is empty
abbrev pub after_gtrid : Text → List ℕ → Option (List ℕ) → Parse
after_gtrid gtrid rest None = Ok (xid_of gtrid no_text 1, rest)
after_gtrid gtrid rest (Some text) = bqual_next gtrid (unblank text)

-- reading an identifier: its gtrid, and what follows
abbrev pub gtrid_next : List ℕ → Parse
gtrid_next text = elim (literal_ahead text) [
  | Ok found ↦ after_gtrid found.0 found.1 (comma_next (unblank found.1))
  | Err fault ↦ Err (fault, text)
]

-- the identifier that a text begins with, blanks before it skipped, and the text after it; or its fault and the text
-- from there
unfoldable pub xid_ahead : List ℕ → Parse
xid_ahead text = gtrid_next (unblank text)

-- what was read, with places in the text instead of the rests of it
abbrev pub places : List ℕ → Parse → Result (Xid × ℕ) (LiteralFault × ℕ)
places text (Ok (xid, rest)) = Ok (xid, length text - length rest)
places text (Err (fault, rest)) = Err (fault, length text - length rest)

-- the identifier at a place, and the place after its last token; or the fault and the place of the faulty token
abbrev pub xid_from : List ℕ → ℕ → Result (Xid × ℕ) (LiteralFault × ℕ)
xid_from text at = places text (xid_ahead (drop at text))

-- the canonical text of a gtrid, bqual, key or value: `X''` if it is empty, else `0x` and two digits for each byte,
-- with small letters (own rule)
abbrev pub part_text : List ℕ → List ℕ
part_text [] = codes "X''"
part_text (byte ∷ bytes) = codes "0x" ++ encode_lower (byte ∷ bytes)

-- the canonical text of an identifier: its three parts with commas between them, no blanks (own rule)
abbrev pub xid_text : Xid → List ℕ
xid_text xid = part_text xid.gtrid.items ++ (44 ∷ (part_text xid.bqual.items ++ (44 ∷ decimal xid.format_id)))

-- gtrid and bqual are at most `text_bytes` bytes each, and the formatID is below 2^64; this holds of every `Xid` of a
-- program
pub record IsWritable (xid : Xid) : Type 0 where
  pub gtrid_bytes : IsBytes xid.gtrid.items
  pub gtrid_fits : length xid.gtrid.items ≤ text_bytes
  pub bqual_bytes : IsBytes xid.bqual.items
  pub bqual_fits : length xid.bqual.items ≤ text_bytes
  pub format_fits : xid.format_id < 2 ^ 64
