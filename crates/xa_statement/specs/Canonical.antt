-- The canonical text of a statement: capitals, one space between tokens but none beside a comma, no ; (own rule).
--     statement_text statement     that text; [] for an unsupported one, which has none
--     IsKey key                    what the type of a key allows
use Rattle.std.specs.Prelude.{ℕ, ◌<◌, ◌≤◌, true, false, List, [], ◌∷◌, ◌++◌, length, codes}
use Rattle.hex.specs.Hex.{IsBytes}
use Rattle.xa_xid.specs.{Limits.text_bytes, XidText.{part_text, xid_text}, declared.statement.Statement.Statement}

-- the canonical text of each kind of statement; an unsupported one has none
unfoldable pub statement_text : Statement → List ℕ
statement_text (Statement.Start xid) = codes "XA START " ++ xid_text xid
statement_text (Statement.End xid) = codes "XA END " ++ xid_text xid
statement_text (Statement.Prepare xid) = codes "XA PREPARE " ++ xid_text xid
statement_text (Statement.Commit xid false) = codes "XA COMMIT " ++ xid_text xid
statement_text (Statement.Commit xid true) = codes "XA COMMIT " ++ (xid_text xid ++ codes " ONE PHASE")
statement_text (Statement.Rollback xid) = codes "XA ROLLBACK " ++ xid_text xid
statement_text (Statement.Recover false) = codes "XA RECOVER"
statement_text (Statement.Recover true) = codes "XA RECOVER CONVERT XID"
statement_text Statement.Unsupported = []
statement_text (Statement.Get key) = codes "GET " ++ part_text key
statement_text (Statement.Put key value) = codes "PUT " ++ (part_text key ++ (44 ∷ part_text value.items))
statement_text (Statement.Del key) = codes "DEL " ++ part_text key
statement_text Statement.Disconnect = codes "DISCONNECT"

-- a key is 1 to `text_bytes` bytes; this holds of every key of a program
pub record IsKey (key : List ℕ) : Type 0 where
  pub some : 0 < length key
  pub all : IsBytes key
  pub fits : length key ≤ text_bytes
