-- What the arguments of a call name, if they are in their ranges.
--     value_named, key_named      the value or the key of these bytes
--     on_branch, on_row      a statement about a branch, or about a row, if it is named
use Rattle.std.specs.Prelude.{ℕ, ℤ, pos, nat_le, ◌&&◌, if◌then◌else◌, List, length, take, drop, Option, Some, None}
use Rattle.xa_xid.specs.{Limits.text_bytes, Xid.Text, declared.{statement.Statement.Statement, xid.Xid.Xid}}
use Rattle.nigbaru_c.specs.declared.{asked.Asked.{Asked, TheVariants.{For, Unfit}}, xid_part.XidPart.XidPart}

-- these bytes as a value, if there are at most 64
abbrev pub value_named : List ℕ → Option Text
value_named bytes = if nat_le (length bytes) text_bytes then Some (record { items = bytes }) else None

-- these bytes as a key, if there are 1 to 64
abbrev pub key_named : List ℕ → Option (List ℕ)
key_named bytes = if nat_le 1 (length bytes) && nat_le (length bytes) text_bytes then Some bytes else None

-- the identifier of a formatID, of the lengths of gtrid and bqual, and of the bytes of both, the gtrid's first: if the
-- formatID isn't negative, and neither length is negative or above 64 (C193, the structure XID)
abbrev pub xid_of_parts : ℤ → ℤ → ℤ → List ℕ → Option Xid
xid_of_parts (pos format) (pos gtrid) (pos bqual) bytes =
    if nat_le gtrid text_bytes && nat_le bqual text_bytes
    then Some (record {
      format_id = format;
      gtrid = record { items = take gtrid bytes };
      bqual = record { items = take bqual (drop gtrid bytes) };
    })
    else None
xid_of_parts format gtrid bqual bytes = None

-- the identifier that X/Open's parts name, if they name one
abbrev pub xid_named : XidPart → Option Xid
xid_named part = xid_of_parts part.format_id part.gtrid_length part.bqual_length part.data

-- a statement is asked for that is made of what is named; if nothing is named, none
abbrev pub asked_of : {A : Type 0} → (A → Statement) → Option A → Asked
asked_of of (Some named) = For (of named)
asked_of of None = Unfit

-- a statement about the branch of this identifier
abbrev pub on_branch : (Xid → Statement) → XidPart → Asked
on_branch of part = asked_of of (xid_named part)

-- a statement about the row of this key
abbrev pub on_row : (List ℕ → Statement) → List ℕ → Asked
on_row of key = asked_of of (key_named key)

-- a PUT of what is named, if both are
abbrev pub put_of : Option (List ℕ) → Option Text → Asked
put_of (Some key) (Some value) = For (Statement.Put key value)
put_of key value = Unfit

-- a PUT of this key and this value
abbrev pub put : List ℕ → List ℕ → Asked
put key value = put_of (key_named key) (value_named value)
