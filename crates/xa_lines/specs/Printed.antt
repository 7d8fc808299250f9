-- How replies are printed.
use Rattle.std.specs.Prelude.{ℕ, Bool, true, false, Some, None, List, [], ◌∷◌, ◌++◌, length, codes, decimal}
use Rattle.hex.specs.Hex.{encode_lower}
use Rattle.xa_xid.specs.{XidText.part_text, declared.{xid.Xid.Xid, statement.Statement.Statement}}
use Rattle.xa_server.specs.declared.reply.Reply.{Reply, TheVariants.{Ok as Accepted, Value, Recovered, Refused}}
use Rattle.xa_server.specs.{declared.xa_error.XaError.XaError, Errors.{number_of, sqlstate_of, message_of}}

-- the bytes of a recovered identifier: as they are, or with CONVERT XID as `0x` and two hexadecimal digits for each,
-- in lower case (manual, XA RECOVER; `0x` alone for no byte is our own)
abbrev pub row_data : Bool → List ℕ → List ℕ
row_data false bytes = bytes
row_data true bytes = codes "0x" ++ encode_lower bytes

-- formatID, the lengths of gtrid and bqual, and both as one (manual, XA RECOVER)
abbrev pub row_text : Bool → Xid → List ℕ
row_text convert xid =
    decimal xid.format_id ++ codes " " ++ decimal (length xid.gtrid.items) ++ codes " "
    ++ decimal (length xid.bqual.items) ++ codes " "
    ++ row_data convert (xid.gtrid.items ++ xid.bqual.items)

-- each row on a line of its own, after what stands before it
abbrev pub rows_text : Bool → List Xid → List ℕ
rows_text convert [] = []
rows_text convert (xid ∷ xids) = codes "\n" ++ row_text convert xid ++ rows_text convert xids

-- the text of a refusal: its number, its SQLSTATE and its message (the form is the manual's)
abbrev pub error_text : XaError → List ℕ
error_text error =
    codes "ERROR " ++ decimal (number_of error) ++ codes " (" ++ sqlstate_of error ++ codes "): " ++ message_of error

-- the text of a reply, without a line feed at its end: one line, and for a list one more for each row (own rule)
abbrev pub reply_text : Bool → Reply → List ℕ
reply_text convert Accepted = codes "OK"
reply_text convert (Value None) = codes "NONE"
reply_text convert (Value (Some value)) = codes "VALUE " ++ part_text value.items
reply_text convert (Recovered xids) = codes "ROWS " ++ decimal (length xids) ++ rows_text convert xids
reply_text convert (Refused error) = error_text error

-- a statement that isn't read, with the place of the byte where its text goes wrong
abbrev pub syntax_text : ℕ → List ℕ
syntax_text place = codes "ERROR 1064 (42000): syntax fault at byte " ++ decimal place

-- whether identifiers are printed in digits: only for XA RECOVER CONVERT XID
abbrev pub converts : Statement → Bool
converts (Statement.Start xid) = false
converts (Statement.End xid) = false
converts (Statement.Prepare xid) = false
converts (Statement.Commit xid one_phase) = false
converts (Statement.Rollback xid) = false
converts (Statement.Recover convert) = convert
converts Statement.Unsupported = false
converts (Statement.Get key) = false
converts (Statement.Put key value) = false
converts (Statement.Del key) = false
converts Statement.Disconnect = false

-- who is answered, what, and the end of the line
abbrev pub answer_text : List ℕ → List ℕ → List ℕ
answer_text who text = who ++ codes " " ++ text ++ codes "\n"
