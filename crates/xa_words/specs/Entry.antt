-- The statements of a session that make a log entry.
use Rattle.std.specs.Prelude.{ℕ, ◌<◌, ◌≤◌, ◌^◌, Bool, true, false, IsTrue, List, length, slice_index}
use Rattle.xa_xid.specs.{Limits.text_bytes, declared.{xid.Xid.Xid, statement.Statement.Statement}}

-- a session's number and the statement that it gave
pub record Entry : Type 0 where
  pub session : ℕ
  pub statement : Statement

-- bytes, at most `text_bytes` of them (C193 for gtrid and bqual, own rule for keys and values)
pub record IsText (text : List ℕ) : Type 0 where
  pub fits : length text ≤ text_bytes
  pub bytes : (i : ℕ) → slice_index text i < 256

-- the formatID is of 64 bits, gtrid and bqual are texts (manual; the range is our own)
pub record IsXid (xid : Xid) : Type 0 where
  pub format_id : xid.format_id < 2 ^ 64
  pub gtrid : IsText xid.gtrid.items
  pub bqual : IsText xid.bqual.items

-- a text that isn't empty (own rule)
pub record IsNonEmptyText (key : List ℕ) : Type 0 where
  pub not_empty : 0 < length key
  pub text : IsText key

-- every kind except XA RECOVER and an unsupported statement (own rule)
abbrev pub may_be_entry : Statement → Bool
may_be_entry (Statement.Recover convert) = false
may_be_entry Statement.Unsupported = false
may_be_entry statement = true

-- the identifier, the key and the value of a statement, if it has them, are within their limits
abbrev pub KeepsLimits : Statement → Type 0
KeepsLimits (Statement.Start xid) = IsXid xid
KeepsLimits (Statement.End xid) = IsXid xid
KeepsLimits (Statement.Prepare xid) = IsXid xid
KeepsLimits (Statement.Commit xid one_phase) = IsXid xid
KeepsLimits (Statement.Rollback xid) = IsXid xid
KeepsLimits (Statement.Recover convert) = Unit {0}
KeepsLimits Statement.Unsupported = Unit {0}
KeepsLimits (Statement.Get key) = IsNonEmptyText key
KeepsLimits (Statement.Put key value) = IsNonEmptyText key × IsText value.items
KeepsLimits (Statement.Del key) = IsNonEmptyText key
KeepsLimits Statement.Disconnect = Unit {0}

-- a session from 1 to 16, and a statement that can be logged (own rule)
pub record IsEntry (entry : Entry) : Type 0 where
  pub first_session : 1 ≤ entry.session
  pub last_session : entry.session ≤ 16
  pub kind : IsTrue (may_be_entry entry.statement)
  pub limits : KeepsLimits entry.statement
